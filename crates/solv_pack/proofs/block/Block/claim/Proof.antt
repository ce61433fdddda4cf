-- `claim` meets its contract, for every element type and allocator. Assumes `Logic`.
use mathlib.Core.Path.{◌≡◌, refl, sym}
use mathlib.Core.Bool.{Bool, true, false, cond}
use Prim.Native.Nat.{ℕ, ◌*◌, ◌≤◌, ◌<◌, ◌^◌, ◌+◌, ◌-◌}
use mathlib.Core.List.{List, [], ◌∷◌}
use lib.ListN.{length}
use native.Mathlib.Omega.{arith}
use seplogic.Ra.Ura.{Ura}
use base.Fraction.{full_share}
use mir.Syntax.{Ty, w64, ty_int, ty_ptr, ty_array, named, Fn, Body, Tys, tcons, tnil}
use mir.Val.{Val, vbool, vint, vptr, Vals, vcons, vnil}
use base.Logic.{SProp, ent, sep}
use base.Fml.{Lft, GName, Share, ftrue, fat, flft, fobs, fbor, Incl-trans}
use prog.Memory.{Memory}
use prog.Routine.{Routine}
use prog.Wp.{Env, Calls, Loops, WpFn, Tables, Wp, after_seq, at_return}
use types.Logic.{Logic}
use contract.Monad.{Fun, fact}
use sound.WpLaws.{FmC, fm_of, WpFn-mono}
use types.Kit.{‵, raw, ◌⊛◌, later, at_ret, ◌$◌, ◌∵◌, !, qed, by, move, keep, use0, use1, drop, split, split3, join, fsplit, fsplit3, fjoin, fjoin3, feq_i, suffices, await, done, any_q, Post as After}
use types.Part.{whole, sub, store_in}
use types.Run.{stop, fld, true_lit, false_lit, no_more, and_then, of_opd, assigns, first, exec, returns, enter, switches_on, addr}
use types.SemTy.{Body as Borrowed}
use denote.Exit.{yes}
use denote.RattleType.{owns}
use denote.Memory.{mem}
use denote.Plain.{uint_vals, uint_Tells}
use denote.RawPtr.{block_ptr}
use denote.Ref.{MutRef, mut_vals, mut_Tells}
use denote.Builtin.{usize}
use denote.Signature.{plain}
use denote.Steps.{nothing}
use denote.Triple.Call.{calls_at}
use denote.Triple.Clauses.{closing, Clauses, Ended}
use denote.Triple.Entry.{on_entry}
use denote.Triple.Spec.{Meets, triple_of}
use denote.Triple.Statement.{Triple}
use denote.Triple.Walked.{Stays, stay_dropped, stay_ref, walk_of, ends_at, walked, Goes-dropped, Goes-ref, walk_Meets}
use mir.MapTy.{inst_fn}
use mir.Raw.{raw as bare}
use types.Match.{vrt, in_variant}
use contract.BorrowLft.{◌⊑◌, meet_⊑_right}
use contract.Lifetimes.{AllOutlive}
use contract.Running.{tables, tables_of}
use denote.Triple.Table.{entered}
use Rattle.std.proofs.alloc.Calls.{α as alloc_ty, Answer-typed, takes_key, Takes, at_takes, Answered, Takes-goes, Takes-gives, answers, second, lends_field, takes_back}
use Rattle.solv_pack.proofs.BlockEl.{owning, El, R, Vr, Hd, args, sz, el_x, elτ, el_d, el_len, el_cap, el_items, el_ok, el_heap, el_make, vec_ty, vec_val}
use Rattle.solv_pack.proofs.BlockShows.{heap_at}
use Rattle.std.specs.Vec.Ownership.{FitsInBlock}
use Rattle.std.proofs.VecSteps.Shapes.{after, front, arm_body}
use Rattle.solv_pack.proofs.BlockOpens.{vec_opens⁰, vec_closes⁰, vec_closes}
use Rattle.solv_pack.specs.contracts.block.Block.claim.Key.{name as #self}
use Rattle.solv_pack.specs.contracts.block.Block.claim as F
use Rattle.solv_pack.proofs.block.Block.claim.Statement as stated
use Rattle.solv_pack.proofs.block.Block.claim.Code as code
use Rattle.std.proofs.RawLayout.{as_written}
use types.ByLocal.{alloc_all, pass_all, free_all, look_at, get, get_in, get_tag, through, sets, sets_last, lands_as, env}
use Rattle.std.proofs.VecSteps.Facts.{last_fact, and_fact}
use mathlib.Core.Path.{ap, ◌∙◌}
use base.Fml.{froom}
use prog.Memory.{align, capped}
use prog.Capped.{capped_is, capped_fits}
use prog.RawLaws.{size-raw, align-raw}
use denote.Memory.{part_at}
use denote.Array.{Array}
use types.Kit.{rewrite, use2}
use types.Run.{bin, size_lit, align_word}
use denote.Triple.Walked.{needs}
use Rattle.std.proofs.VecSteps.Rows.{room_split, empty}
use Rattle.std.proofs.ptr.Rows.{one_below}
use Rattle.solv_pack.proofs.BlockEl.{wider}

module _ (E : El) where
  abbrev fn' : Fn
  fn' = inst_fn (args E) code.function

  abbrev ended : Ended
  ended = F.ended E.row E.al.row E.al.g E.al.d E.al.drops

  abbrev clauses : {M : Type 1} {𝓤 : Ura M} (𝓛 : Logic 𝓤) → (Memory → SProp 𝓤) → (Routine → Fun 𝓤) → Clauses 𝓤 ended
  clauses 𝓛 = F.clauses E.row E.al.row E.al.g E.al.d E.al.drops 𝓛

  abbrev stayed : Stays ended.signature.params ended.kept
  stayed = (stay_ref (0 ∷ []) tt (plain (λ _. Vr E)), (stay_dropped (plain (λ _. usize)) yes, tt))

module _ (E : El) {M : Type 1} {𝓤 : Ura M} (𝓛 : Logic 𝓤) (at_mem : Memory → SProp 𝓤) (run : Routine → Fun 𝓤) (C : Calls 𝓤 𝓛.H) (Λ : Loops 𝓤 𝓛.H) (fm : FmC 𝓤 𝓛.H 𝓛.laws C) (tk : Triple 𝓤 (C (takes_key E.al)) (Takes E.al 𝓛 at_mem run))
    (κ κT ρ : Lft) (q qT qρ : Share) (bd : AllOutlive 3 (ended E).signature.outlives (κ, (κT, (ρ, tt)))) (within : ρ ⊑ E.al.row.lives) (rb ro : ℕ) (γ : GName) (h : el_d E) (i : ℕ) (fi : i < 2 ^ 64) where
  open 𝓛 use {H, A}

  abbrev Post : Val → SProp 𝓤
  Post = (walk_of 𝓛 (ended E) (stayed E) (clauses E 𝓛 at_mem run)).post (((κ, (κT, (ρ, tt))), (q, (qT, (qρ, tt))), bd, (record { ref_ptr = (rb, ro); ghost_name = γ; now = h }, (i, tt)), (vptr rb ro ∷ [], (vint w64 i ∷ [], tt))), tt)

  abbrev n : ℕ
  n = el_len E h

  abbrev c : ℕ
  c = el_cap E h

  abbrev xs : List (el_x E)
  xs = el_items E h

  abbrev a : Hd E
  a = el_heap E h

  abbrev s : ℕ
  s = sz E

  abbrev τ : Ty
  τ = elτ E

  abbrev u : Ty
  u = ty_int w64

  exits : (r : Bool) (h' : el_d E) → ((el_items E h' ≡ xs) × ((el_len E h' ≡ n) × (el_cap E h' ≡ cond r i c))) → ent 𝓤 (sep 𝓤 (A.obs γ ((Vr E).coded.code h')) (sep 𝓤 (A.bor κ (Borrowed (mem (Vr E)) rb ro γ)) (sep 𝓤 (A.lft κ q) (sep 𝓤 (A.lft κT qT) (A.lft ρ qρ))))) (Post (vbool r))
  exits r h' e =
      qed 𝓛 (‵ (fobs γ ((Vr E).coded.code h')) ∷ ‵ (fbor κ (Borrowed (mem (Vr E)) rb ro γ)) ∷ ‵ (flft κ q) ∷ ‵ (flft κT qT) ∷ ‵ (flft ρ qρ) ∷ []) ∵ suffices ! _ (ends_at 𝓛 (ended E) (stayed E) (clauses E 𝓛 at_mem run) (((κ, (κT, (ρ, tt))), (q, (qT, (qρ, tt))), bd, (record { ref_ptr = (rb, ro); ghost_name = γ; now = h }, (i, tt)), (vptr rb ro ∷ [], (vint w64 i ∷ [], tt))), tt) (vbool r) r (h', (tt, tt)) (tt, (tt, tt))) $ use0 𝓛 (raw (sep 𝓤 (fact 𝓤 (el_items E h' ≡ xs)) (sep 𝓤 (fact 𝓤 (el_len E h' ≡ n)) (fact 𝓤 (el_cap E h' ≡ cond r i c))))) (and_fact 𝓤 e.0 (and_fact 𝓤 e.1.0 (last_fact 𝓤 e.1.1))) $
      nothing ! $
      nothing ! $ fjoin ! $
      move ! (2 ∷ 3 ∷ []) $
      feq_i ! (List Val) (vptr rb ro ∷ []) (vptr rb ro ∷ []) refl $ fjoin3 ! $
      fjoin ! $
      nothing ! $
      move ! (5 ∷ 0 ∷ []) $
      join ! $
      move ! (4 ∷ 0 ∷ []) $
      join ! $
      move ! (3 ∷ 0 ∷ []) $
      join ! $
      feq_i ! (List Val) (vbool r ∷ []) (vbool r ∷ []) refl $
      move ! (2 ∷ 0 ∷ []) $ join ! $ move ! (1 ∷ 0 ∷ []) $ join ! $ done !

  walk : (c ≡ 0) × (0 < i) × (i < 2 ^ 32) × FitsInBlock (R E) i → ent 𝓤 (on_entry 𝓛 (ended E).signature (κ, (κT, (ρ, tt))) (q, (qT, (qρ, tt))) (record { ref_ptr = (rb, ro); ghost_name = γ; now = h }, (i, tt)) (vptr rb ro ∷ [], (vint w64 i ∷ [], tt))) (WpFn 𝓤 H C Λ (fn' E) (vptr rb ro ∷ vint w64 i ∷ []) Post)
  walk asked =
      let lens : n ≡ length xs = (el_ok E h).0 in
      let le : n ≤ c = (el_ok E h).1 in
      let nothing_there : c ≡ 0 = asked.0 in
      let none : n ≡ 0 = omega arith in
      let pos : 0 < i = asked.1 in
      let small : i < 2 ^ 32 = asked.2 in
      let lay : FitsInBlock (R E) i = asked.3 in
      let le' : n ≤ i = omega arith in
      let fs : i * s < 2 ^ 64 = wider (i * s) lay.0 in
      qed 𝓛 ((‵ (flft κ q) ⊛ ‵ (flft κT qT) ⊛ ‵ (flft ρ qρ) ⊛ ‵ ftrue) ∷ ‵ (owns (MutRef (named 0) κ (Vr E) ∷ usize ∷ []) (record { ref_ptr = (rb, ro); ghost_name = γ; now = h }, (i, tt)) (vptr rb ro ∷ [], (vint w64 i ∷ [], tt))) ∷ []) ∵ enter ! C Λ (fn' E) (vptr rb ro ∷ vint w64 i ∷ []) _ $
      alloc_all ! (λ l. pass_all ! refl ((tt, tt), ((tt, record { fits = fi }), tt)) $
      move ! (1 ∷ []) $ fsplit ! $ fsplit3 ! $ drop ! $ move ! (3 ∷ []) $ split3 ! $ move ! (2 ∷ []) $ split ! $ move ! (6 ∷ []) $ drop ! $ move ! (1 ∷ []) $ drop ! $ move ! (3 ∷ 4 ∷ 1 ∷ 0 ∷ 2 ∷ []) $
      -- [the two halves of the `&mut`; κ's, ρ's and κT's tokens]
      let En : Env 𝓤 H = env (fn' E).locals l in
      let Then : After 𝓤 H = any_q (after_seq 𝓤 H (Wp 𝓤 H C Λ En (after 4 (fn' E).body) (at_return 𝓤 H En Post)) (at_return 𝓤 H En Post)) in
      let both : Body = front (after 3 (fn' E).body) in
      vec_opens⁰ E ! tt h rb ro (λ b o hv at_b fl fc fit.
      move ! (1 ∷ []) $ use1 𝓛 (‵ (fat full_share (vec_ty E) rb ro (vec_val E hv b o n c))) (𝓛.laws.raw_at full_share (vec_ty E) rb ro (vec_val E hv b o n c)) $
      let fields : Tys = tcons ty_ptr (tcons u (tcons u (tcons (alloc_ty E.al) tnil))) in
      let words : Vals = vcons (vptr b o) (vcons (vint w64 n) (vcons (vint w64 c) (vcons hv vnil))) in
      let hp : ℕ × ℕ = (rb, ro + heap_at E) in
      sets ! (addr ! (through ! refl (fld ! refl (stop !)))) refl (tt, tt) $
      sets ! (bin ! (get ! refl) (size_lit ! (record { fits = one_below i s (2 ^ 64) pos fs })) (record { fits = fs })) refl (tt, record { fits = fs }) $
      move ! (2 ∷ []) $ fsplit ! $ move ! (2 ∷ 1 ∷ 6 ∷ []) $
      lends_field E.al (owning E).name fields 3 (heap_at E) rb ro words a ρ qρ ! tt refl within (λ m.
      let κ₁ : Lft = m.0 ∷ ρ in
      let y : (Takes E.al 𝓛 at_mem run).Ghost = at_takes E.al 𝓛 at_mem run κ₁ m.1 hp a (i * s) (capped (align τ)) (bare (ty_array τ i)) in
      -- [a `&` to the handle, and its token; the way back; the open borrow; the block; the two halves of the name; κT's token]
      use2 𝓛 (raw ((Takes E.al 𝓛 at_mem run).pre y)) (Takes-goes E.al 𝓛 at_mem run κ₁ m.1 hp a (Incl-trans (meet_⊑_right (m.0 ∷ []) ρ) within) (i * s) (capped (align τ)) (bare (ty_array τ i)) (ap capped (size-raw (ty_array τ i)) ∙ capped_is (i * s) fs) (ap capped (align-raw τ)) fs (capped_fits (align τ))) $
      calls_at ! fm (Takes E.al 𝓛 at_mem run) tk y (and_then ! (get ! refl) (and_then ! (get ! refl) (and_then ! (align_word !) (no_more !)))) (λ v.
      use1 𝓛 (later (raw (Answered E.al 𝓛 at_mem run a (bare (ty_array τ i)) v) ⊛ ‵ (flft κ₁ m.1))) (Takes-gives E.al 𝓛 at_mem run κ₁ m.1 hp a (i * s) (capped (align τ)) (bare (ty_array τ i)) v) $ await ! tt $ split ! $ move ! (1 ∷ 2 ∷ []) $
      takes_back E.al (owning E).name fields 3 (heap_at E) rb ro words a ρ qρ ! tt m (λ hv₁ fa₁. move ! (4 ∷ 1 ∷ []) $ fjoin ! $ move ! (4 ∷ 3 ∷ 1 ∷ 0 ∷ 5 ∷ 6 ∷ []) $ move ! (1 ∷ 0 ∷ []) $
      -- [what was answered; the block; the struct's words; the open borrow and the handle; the two halves of the name; ρ's and κT's tokens]
      answers E.al ! at_mem run a (bare (ty_array τ i)) v
      (λ b' o' e. let new = el_make E a (block_ptr b' o') n i xs (lens, le') small in
      move ! (2 ∷ []) $ drop ! $
      lands_as ! e refl (Answer-typed true b' o') $
      first ! $ switches_on ! (get_tag ! (vrt ! refl (fld ! refl (stop !))) (whole !)) $ exec ! C Λ En (arm_body 0 both) Then $
      sets ! (of_opd ! (get_in ! (vrt ! refl (fld ! refl (stop !))) (in_variant ! 0 0 refl refl (whole !)))) refl (tt, tt) $ sets ! (of_opd ! (get ! refl)) refl (tt, tt) $
      assigns ! (of_opd ! (get ! refl)) (through ! refl (fld ! refl (stop !))) (store_in ! 2 (sub ! 0 refl (whole !)) (tt, tt)) $
      assigns ! (of_opd ! (get ! refl)) (through ! refl (fld ! refl (stop !))) (store_in ! 2 (sub ! 2 refl (whole !)) (tt, record { fits = fi })) $
      sets_last ! (of_opd ! (true_lit !)) refl (tt, tt) $ exec ! C Λ En (after 4 (fn' E).body) (at_ret En Post) $ sets ! (of_opd ! (get ! refl)) refl (tt, tt) $
      -- [the new block; its token; the struct's words; ..]
      as_written ! (ty_array τ i) b' o' $ use1 𝓛 (‵ (froom (ty_array τ n) b' o') ⊛ ‵ (froom (ty_array τ (i - n)) b' (o' + n * s))) (room_split E 𝓛 n i b' o' le') $ split ! $ drop ! $
      use0 𝓛 (‵ (part_at (Array (R E) (length xs)) full_share xs b' o')) (empty E 𝓛 xs b' o' (omega arith)) $ rewrite ! 0 (λ (k : ℕ). ‵ (part_at (Array (R E) k) full_share xs b' o')) (sym lens) refl $
      move ! (3 ∷ []) $ use1 𝓛 (‵ (fat full_share (bare (vec_ty E)) rb ro (vec_val E hv₁ b' o' n i))) (𝓛.laws.at_raw full_share (vec_ty E) rb ro (vec_val E hv₁ b' o' n i)) $
      move ! (1 ∷ 2 ∷ 3 ∷ 0 ∷ []) $
      vec_closes E ! tt new.0 b' o' n i xs rb ro (new.1, new.2, new.3, new.4) fl fi lay.0 pos $
      returns ! (look_at ! 0 refl) $ free_all ! refl $ keep ! (0 ∷ 1 ∷ 2 ∷ 4 ∷ 3 ∷ []) $ by ! (exits true new.0 (refl, (refl, refl))))
      (λ e. lands_as ! e refl (Answer-typed false 0 0) $
      first ! $ switches_on ! (get_tag ! (vrt ! refl (fld ! refl (stop !))) (whole !)) $ exec ! C Λ En (arm_body 1 both) Then $
      sets_last ! (of_opd ! (false_lit !)) refl (tt, tt) $ exec ! C Λ En (after 4 (fn' E).body) (at_ret En Post) $ sets ! (of_opd ! (get ! refl)) refl (tt, tt) $
      move ! (1 ∷ []) $ use1 𝓛 (‵ (fat full_share (bare (vec_ty E)) rb ro (vec_val E hv₁ b o n c))) (𝓛.laws.at_raw full_share (vec_ty E) rb ro (vec_val E hv₁ b o n c)) $
      move ! (1 ∷ 0 ∷ []) $
      vec_closes⁰ E ! tt h b o n c xs rb ro (at_b, refl, refl, refl) fl fc fit $
      returns ! (look_at ! 0 refl) $ free_all ! refl $ keep ! (0 ∷ 1 ∷ 2 ∷ 4 ∷ 3 ∷ []) $ by ! (exits false h (refl, (refl, refl)))))))))

meets : (E : El) {M : Type 1} {𝓤 : Ura M} (𝓛 : Logic 𝓤) (at_mem : Memory → SProp 𝓤) (run : Routine → Fun 𝓤) (𝓣 : Tables 𝓤 𝓛.H) → Triple 𝓤 (𝓣.C (takes_key E.al)) (Takes E.al 𝓛 at_mem run)
    → Meets 𝓛 (ended E).signature (WpFn 𝓤 𝓛.H 𝓣.C 𝓣.Λ (fn' E)) (closing 𝓛 (ended E) (clauses E 𝓛 at_mem run))
meets E {𝓤 = 𝓤} 𝓛 at_mem run 𝓣 tk =
    walk_Meets 𝓛 (ended E) (stayed E) (Goes-ref 𝓛 3 0 tt (plain (λ _. Vr E)), (Goes-dropped 𝓛 3 (plain (λ _. usize)) yes (λ κs x f. refl), tt)) (clauses E 𝓛 at_mem run) (WpFn 𝓤 𝓛.H 𝓣.C 𝓣.Λ (fn' E)) (WpFn-mono 𝓤 𝓛.H 𝓛.laws 𝓣 (fn' E))
    (walked 𝓛 (ended E) (stayed E) (clauses E 𝓛 at_mem run) (WpFn 𝓤 𝓛.H 𝓣.C 𝓣.Λ (fn' E)) (λ κs. (mut_vals, (uint_vals w64, tt))) (λ κs. (mut_Tells (named 0) κs.0 (Vr E), (uint_Tells w64, tt)))
    (λ κs qs bounds a g are. let On : SProp 𝓤 = on_entry 𝓛 (ended E).signature κs qs a (mut_vals a.0, (uint_vals w64 a.1.0, tt)) in
    let Asked : Type 0 = (el_cap E a.0.now ≡ 0) × (0 < a.1.0) × (a.1.0 < 2 ^ 32) × FitsInBlock (R E) a.1.0 in
    second 𝓤 (κs.1.0 ⊑ E.row.lives) (κs.1.1.0 ⊑ E.al.row.lives) On (fact 𝓤 Asked) (λ within. needs 𝓤 Asked On
    (walk E 𝓛 at_mem run 𝓣.C 𝓣.Λ (fm_of 𝓤 𝓛.H 𝓛.laws 𝓣) tk κs.0 κs.1.0 κs.1.1.0 qs.0 qs.1.0 qs.1.1.0 bounds within a.0.ref_ptr.0 a.0.ref_ptr.1 a.0.ghost_name a.0.now a.1.0 are.1.0.1))))

pub claim_spec : {M : Type 1} → stated.statement M
unfolding tables_of
claim_spec 𝓤 𝓛 𝓜 𝓡 wired X Z L LZ g d dd met md =
    let E : El = record { row = X; laws = L; al = record { row = Z; laws = LZ; g = g; d = d; drops = dd } } in
    let 𝓣 : Tables 𝓤 𝓛.H = tables_of 𝓤 𝓛.H 𝓜 (tables 𝓤 𝓛.H 𝓜 𝓡 𝓡.env) in
    entered 𝓤 𝓛.H (triple_of 𝓛 (ended E).signature (F.spec X Z g d dd 𝓛 𝓜.mem 𝓡.returns)) 𝓣.C 𝓣.Λ (#self (args E)) (fn' E) (code.unfolded 𝓤 𝓛.H 𝓜 𝓡 wired (X, (Z, tt)) d dd)
    (meets E 𝓛 𝓜.mem 𝓡.returns 𝓣 (met.allocate dd))
