-- `free` meets its contract, for every element type and allocator. Assumes `Logic`.
use mathlib.Core.Path.{◌≡◌, refl, sym, subst, ap, ◌∙◌}
use mathlib.Core.Bool.{Bool}
use Prim.Native.Nat.{ℕ, zero, suc, ◌+◌, ◌-◌, ◌*◌, ◌≤◌, ◌<◌, ◌^◌}
use native.Mathlib.Omega.{arith}
use mathlib.Core.List.{List, [], ◌∷◌, ◌++◌}
use lib.Dec.{T}
use seplogic.Ra.Ura.{Ura}
use mir.Syntax.{Ty, w64, ty_int, ty_ptr, ty_unit, ty_array, Fn, Tys, tcons, tnil}
use mir.Val.{Val, vunit, has_ty, WT, Vals, vint, vptr, vcons, vnil}
use base.Logic.{SProp, ent, sep, emp, via, fst∗}
use base.Fml.{Lft, Share, ftrue, froom, flft, Incl-trans}
use prog.Memory.{Memory, align, capped}
use prog.Routine.{Routine}
use prog.Wp.{Env, Calls, Loops, WpFn, Tables, Wp, at_return}
use types.Logic.{Logic, sem}
use contract.Monad.{Fun}
use sound.WpLaws.{FmC, fm_of, WpFn-mono}
use types.Kit.{‵, raw, ◌⊛◌, later, given, at_ret, ◌$◌, ◌∵◌, !, qed, by, move, keep, use1, use2, split3, join, learn, rewrite, fsplit, fjoin, suffices, await, done, ⋆, drop, use3}
use types.Part.{whole, sub}
use types.Run.{stop, fld, from, lit, no_more, and_then, of_opd, bin, first, blocks, skips, branches, exec, returns, enter, size_lit, align_word, addr}
use denote.Exit.{no}
use denote.RattleType.{owns}
use denote.RawPtr.{block_ptr}
use denote.Signature.{plain}
use denote.Steps.{nothing}
use denote.Triple.Call.{calls_at_last}
use denote.Triple.Clauses.{closing, Clauses, Ended}
use denote.Triple.Entry.{on_entry}
use denote.Triple.Spec.{Meets, triple_of}
use denote.Triple.Statement.{Triple}
use denote.Triple.Walked.{Stays, stay_dropped, walk_of, ends_at, walk_Meets}
use mir.MapTy.{inst_fn}
use prog.Capped.{capped_is, capped_fits}
use contract.BorrowLft.{◌⊑◌, meet_⊑_right}
use contract.Running.{tables, tables_of}
use denote.Triple.Table.{entered}
use Rattle.std.proofs.alloc.Calls.{α as alloc_ty, token, Fits, gives_key, Gives, at_gives, Gives-goes, Gives-Gives, second, lends_field, takes_back, Goes-blank}
use types.ByLocal.{alloc_all, pass_all, free_all, forget_but, holding, look_at, take_at, give_at, get, get_in, sets, lands_last, env}
use Rattle.solv_pack.proofs.BlockEl.{owning, El, R, Vr, Hd, handle, args, sz, el_x, elτ, el_d, el_len, el_cap, el_items, el_ok, el_heap, vec_val, vec_typed, wider}
use Rattle.solv_pack.proofs.BlockShows.{heap_at}
use Rattle.std.specs.Vec.Ownership.{has_block, owns_if}
use Rattle.std.specs.Allocator.{block_with_items}
use Rattle.std.proofs.Flags.{T_true}
use Rattle.std.proofs.VecSteps.Shapes.{after}
use Rattle.solv_pack.proofs.BlockOpens.{Blk, vec_had}
use Rattle.std.proofs.VecSteps.Rows.{all_room}
use mir.Raw.{raw as bare}
use prog.RawLaws.{size-raw, align-raw}
use Rattle.std.proofs.RawLayout.{as_raw, as_written}
use Rattle.std.proofs.ptr.Rows.{one_below}
use Rattle.solv_pack.specs.contracts.block.Block.free.Key.{name as #self}
use Rattle.solv_pack.specs.contracts.block.Block.free as F
use Rattle.solv_pack.proofs.block.Block.free.Statement as stated
use Rattle.solv_pack.proofs.block.Block.free.Code as code

live_pos : (c : ℕ) → T (has_block c) → 0 < c
live_pos zero t = absurd t
live_pos (suc c) t = omega arith

module _ (E : El) where
  abbrev fn' : Fn
  fn' = inst_fn (args E) code.function

  abbrev ended : Ended
  ended = F.ended E.row E.al.row E.al.g E.al.d E.al.drops

  abbrev clauses : {M : Type 1} {𝓤 : Ura M} (𝓛 : Logic 𝓤) → (Memory → SProp 𝓤) → (Routine → Fun 𝓤) → Clauses 𝓤 ended
  clauses 𝓛 = F.clauses E.row E.al.row E.al.g E.al.d E.al.drops 𝓛

  abbrev stayed : Stays ended.signature.params ended.kept
  stayed = (stay_dropped (plain (λ _. Vr E)) no, tt)

module _ (E : El) {M : Type 1} {𝓤 : Ura M} (𝓛 : Logic 𝓤) (at_mem : Memory → SProp 𝓤) (run : Routine → Fun 𝓤) (C : Calls 𝓤 𝓛.H) (Λ : Loops 𝓤 𝓛.H) (fm : FmC 𝓤 𝓛.H 𝓛.laws C) (de : Triple 𝓤 (C (gives_key E.al)) (Gives E.al 𝓛 at_mem run)) (κT ρ : Lft) (qT qρ : Share) (within : ρ ⊑ E.al.row.lives) where
  open 𝓛 use {H, A}

  abbrev s : ℕ
  s = sz E

  abbrev τ : Ty
  τ = elτ E

  abbrev u : Ty
  u = ty_int w64

  -- from the block, to any post that is had of the handle and the tokens
  module _ (a : Hd E) (b o n c : ℕ) (xs : List (el_x E)) (Q : Val → SProp 𝓤) (ends : (v : Val) → ent 𝓤 (sep 𝓤 (sem 𝓛 (handle E a v)) (sep 𝓤 (A.lft ρ qρ) (A.lft κT qT))) (Q v)) (fl : n < 2 ^ 64) (fc : c < 2 ^ 64) where
    hands : (l : ℕ → ℕ) (hv : Val) → Fits E.al hv
        → ent 𝓤 (⋆ 𝓛 (‵ (handle E a hv) ∷ ‵ (flft ρ qρ) ∷ ‵ (flft κT qT) ∷ holding 𝓛 (env (fn' E).locals l) ((2, vec_val E hv b o n c) ∷ [])))
        (Wp 𝓤 H C Λ (env (fn' E).locals l) (after 4 (fn' E).body) (at_return 𝓤 H (env (fn' E).locals l) Q))
    hands l hv fa =
        qed 𝓛 (‵ (handle E a hv) ∷ ‵ (flft ρ qρ) ∷ ‵ (flft κT qT) ∷ holding 𝓛 (env (fn' E).locals l) ((2, vec_val E hv b o n c) ∷ [])) ∵ exec ! C Λ (env (fn' E).locals l) (after 4 (fn' E).body) (at_ret (env (fn' E).locals l) Q) $
        sets ! (of_opd ! (get_in ! (fld ! refl (stop !)) (sub ! 3 refl (whole !)))) refl fa $ sets ! (of_opd ! (get ! refl)) refl fa $
        returns ! (look_at ! 0 refl) $ free_all ! refl $ keep ! (0 ∷ 1 ∷ 2 ∷ []) $ by ! (ends hv)

    walk : (hv : Val) → Fits E.al hv → c * s < 2 ^ 63 → n ≤ c
        → ent 𝓤 (sep 𝓤 (sem 𝓛 (Blk E a b o n c xs)) (sep 𝓤 (sem 𝓛 (handle E a hv)) (sep 𝓤 (A.lft ρ qρ) (A.lft κT qT)))) (WpFn 𝓤 H C Λ (fn' E) (vec_val E hv b o n c ∷ []) Q)
    walk hv fa fit le =
        qed 𝓛 (‵ (Blk E a b o n c xs) ∷ ‵ (handle E a hv) ∷ ‵ (flft ρ qρ) ∷ ‵ (flft κT qT) ∷ []) ∵ enter ! C Λ (fn' E) (vec_val E hv b o n c ∷ []) _ $
        alloc_all ! (λ l. pass_all ! refl (vec_typed E hv b o n c fa fl fc, tt) $
        let En : Env 𝓤 H = env (fn' E).locals l in
        sets ! (of_opd ! (get ! refl)) refl (vec_typed E hv b o n c fa fl fc) $
        sets ! (of_opd ! (get_in ! (fld ! refl (stop !)) (sub ! 2 refl (whole !)))) refl (tt, record { fits = fc }) $
        sets ! (bin ! (get ! refl) (lit ! tt) tt) refl (tt, tt) $
        first ! $ branches ! (get ! refl)
        (λ t.
        let pos : 0 < c = live_pos c t in
        let fm' : c * s < 2 ^ 64 = wider (c * s) fit in
        let tiny : s < 2 ^ 64 = one_below c s (2 ^ 64) pos fm' in
        let words : Vals = vcons (vptr b o) (vcons (vint w64 n) (vcons (vint w64 c) (vcons hv vnil))) in
        let fields : Tys = tcons ty_ptr (tcons u (tcons u (tcons (alloc_ty E.al) tnil))) in
        rewrite ! 0 (λ (z : Bool). ‵ (owns_if z (block_with_items (token E.al a) (R E) (block_ptr b o) n c xs))) (T_true (has_block c) t) refl $ fsplit ! $ move ! (1 ∷ []) $ fsplit ! $ as_written ! (ty_array τ (c - n)) b (o + n * s) $ move ! (2 ∷ 0 ∷ 1 ∷ []) $
        use2 𝓛 (‵ (froom (ty_array τ c) b o)) (all_room E 𝓛 b o n c xs le) $ as_raw ! (ty_array τ c) b o $
        blocks ! $
        sets ! (addr ! (from ! (fld ! refl (stop !)))) refl (tt, tt) $
        sets ! (of_opd ! (get_in ! (fld ! refl (stop !)) (sub ! 0 refl (whole !)))) refl (tt, tt) $
        sets ! (of_opd ! (get ! refl)) refl (tt, tt) $
        sets ! (of_opd ! (get_in ! (fld ! refl (stop !)) (sub ! 2 refl (whole !)))) refl (tt, record { fits = fc }) $
        sets ! (bin ! (get ! refl) (size_lit ! (record { fits = tiny })) (record { fits = fm' })) refl (tt, record { fits = fm' }) $
        take_at ! 2 $ move ! (0 ∷ 3 ∷ 4 ∷ []) $
        lends_field E.al (owning E).name fields 3 (heap_at E) (l 2) 0 words a ρ qρ ! tt refl within (λ m.
        let κ : Lft = m.0 ∷ ρ in
        let hp : ℕ × ℕ = (l 2, 0 + heap_at E) in
        join ! $ move ! (2 ∷ 3 ∷ 0 ∷ []) $ use3 𝓛 (raw ((Gives E.al 𝓛 at_mem run).pre (at_gives E.al 𝓛 at_mem run κ m.1 hp a b o (c * s) (capped (align τ)) (bare (ty_array τ c)))))
        (Gives-goes E.al 𝓛 at_mem run κ m.1 hp a (Incl-trans (meet_⊑_right (m.0 ∷ []) ρ) within) b o (c * s) (capped (align τ)) (bare (ty_array τ c)) (ap capped (size-raw (ty_array τ c)) ∙ capped_is (c * s) fm') (ap capped (align-raw τ)) fm' (capped_fits (align τ))) $
        calls_at_last ! fm (Gives E.al 𝓛 at_mem run) de (at_gives E.al 𝓛 at_mem run κ m.1 hp a b o (c * s) (capped (align τ)) (bare (ty_array τ c))) (and_then ! (get ! refl) (and_then ! (get ! refl) (and_then ! (get ! refl) (and_then ! (align_word !) (no_more !))))) (λ v'.
        use1 𝓛 (later (given (v' ≡ vunit) (‵ (flft κ m.1)))) (Gives-Gives E.al 𝓛 at_mem run κ m.1 hp a b o (c * s) (capped (align τ)) (bare (ty_array τ c)) v') $ await ! tt $ learn ! (λ e'.
        takes_back E.al (owning E).name fields 3 (heap_at E) (l 2) 0 words a ρ qρ ! tt m (λ hv' fa'. give_at ! 2 $
        lands_last ! refl (subst (λ (z : Val). T (has_ty ty_unit z) × WT z) (sym e') (tt, tt)) $
        exec ! C Λ En (after 4 (fn' E).body) (at_ret En Q) $ forget_but ! En (2 ∷ []) refl $ by ! (hands l hv' fa'))))))
        (λ t. skips ! $ exec ! C Λ En (after 4 (fn' E).body) (at_ret En Q) $ drop ! $ forget_but ! En (2 ∷ []) refl $ by ! (hands l hv fa)))

  module _ (d : el_d E) (vs : List Val) where
    abbrev Post : Val → SProp 𝓤
    Post = (walk_of 𝓛 (ended E) (stayed E) (clauses E 𝓛 at_mem run)).post (((κT, (ρ, tt)), (qT, (qρ, tt)), tt, (d, tt), (vs, tt)), tt)

    exits : (v : Val) → ent 𝓤 (sep 𝓤 (sem 𝓛 (handle E (el_heap E d) v)) (sep 𝓤 (A.lft ρ qρ) (A.lft κT qT))) (Post v)
    exits v =
        qed 𝓛 (‵ (handle E (el_heap E d) v) ∷ ‵ (flft ρ qρ) ∷ ‵ (flft κT qT) ∷ []) ∵ suffices ! _ (ends_at 𝓛 (ended E) (stayed E) (clauses E 𝓛 at_mem run) (((κT, (ρ, tt)), (qT, (qρ, tt)), tt, (d, tt), (vs, tt)), tt) v (el_heap E d) ((tt, (tt, (tt, (tt, tt)))), tt) (tt, tt)) $
        nothing ! $ nothing ! $ nothing ! $ fjoin ! $ move ! (0 ∷ 2 ∷ []) $ join ! $ nothing ! $ move ! (3 ∷ 0 ∷ []) $ join ! $ move ! (3 ∷ 0 ∷ []) $ join ! $ join ! $ done !

    entry : ent 𝓤 (on_entry 𝓛 (ended E).signature (κT, (ρ, tt)) (qT, (qρ, tt)) (d, tt) (vs, tt)) (WpFn 𝓤 H C Λ (fn' E) (vs ++ []) Post)
    entry =
        qed 𝓛 ((‵ (flft κT qT) ⊛ ‵ (flft ρ qρ) ⊛ ‵ ftrue) ∷ ‵ (owns (Vr E ∷ []) (d, tt) (vs, tt)) ∷ []) ∵ split3 ! $ move ! (3 ∷ []) $ fsplit ! $ vec_had E ! d vs (λ b o hv e is fl fc fit fa.
        keep ! (0 ∷ 1 ∷ 4 ∷ 3 ∷ []) $ by ! (subst (λ (ws : List Val). ent 𝓤 (sep 𝓤 (sem 𝓛 (Blk E (el_heap E d) b o (el_len E d) (el_cap E d) (el_items E d))) (sep 𝓤 (sem 𝓛 (handle E (el_heap E d) hv)) (sep 𝓤 (A.lft ρ qρ) (A.lft κT qT)))) (WpFn 𝓤 H C Λ (fn' E) (ws ++ []) Post)) (sym is)
        (walk (el_heap E d) b o (el_len E d) (el_cap E d) (el_items E d) Post exits fl fc hv fa fit (el_ok E d).1)))

meets : (E : El) {M : Type 1} {𝓤 : Ura M} (𝓛 : Logic 𝓤) (at_mem : Memory → SProp 𝓤) (run : Routine → Fun 𝓤) (𝓣 : Tables 𝓤 𝓛.H) → Triple 𝓤 (𝓣.C (gives_key E.al)) (Gives E.al 𝓛 at_mem run)
    → Meets 𝓛 (ended E).signature (WpFn 𝓤 𝓛.H 𝓣.C 𝓣.Λ (fn' E)) (closing 𝓛 (ended E) (clauses E 𝓛 at_mem run))
meets E {𝓤 = 𝓤} 𝓛 at_mem run 𝓣 de =
    walk_Meets 𝓛 (ended E) (stayed E) (Goes-blank 𝓛 2 (plain (λ _. Vr E)) no (λ κs x f. tt), tt) (clauses E 𝓛 at_mem run) (WpFn 𝓤 𝓛.H 𝓣.C 𝓣.Λ (fn' E)) (WpFn-mono 𝓤 𝓛.H 𝓛.laws 𝓣 (fn' E))
    (λ z. let κs = z.0.0 in let qs = z.0.1 in
    let On : SProp 𝓤 = on_entry 𝓛 (ended E).signature κs qs z.0.3 z.0.4 in
    second 𝓤 (κs.0 ⊑ E.row.lives) (κs.1.0 ⊑ E.al.row.lives) On (emp 𝓤) (λ within. via 𝓤 On (fst∗ 𝓤 On (emp 𝓤))
    (entry E 𝓛 at_mem run 𝓣.C 𝓣.Λ (fm_of 𝓤 𝓛.H 𝓛.laws 𝓣) de κs.0 κs.1.0 qs.0 qs.1.0 within z.0.3.0 z.0.4.0)))

pub free_spec : {M : Type 1} → stated.statement M
unfolding tables_of
free_spec 𝓤 𝓛 𝓜 𝓡 wired X Z L LZ g d dd met md =
    let E : El = record { row = X; laws = L; al = record { row = Z; laws = LZ; g = g; d = d; drops = dd } } in
    let A = 𝓛.A in
    let 𝓣 : Tables 𝓤 𝓛.H = tables_of 𝓤 𝓛.H 𝓜 (tables 𝓤 𝓛.H 𝓜 𝓡 𝓡.env) in
    entered 𝓤 𝓛.H (triple_of 𝓛 (ended E).signature (F.spec X Z g d dd 𝓛 𝓜.mem 𝓡.returns)) 𝓣.C 𝓣.Λ (#self (args E)) (fn' E) (code.unfolded 𝓤 𝓛.H 𝓜 𝓡 wired (X, (Z, tt)) d dd)
    (meets E 𝓛 𝓜.mem 𝓡.returns 𝓣
    (met.deallocate dd))
