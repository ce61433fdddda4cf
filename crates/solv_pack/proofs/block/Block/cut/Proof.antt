-- `cut` meets its contract, for every element type. Assumes `Logic`.
use mathlib.Core.Path.{◌≡◌, refl, sym}
use Prim.Native.Nat.{ℕ, ◌≤◌, ◌<◌, ◌^◌}
use native.Mathlib.Omega.{arith}
use mathlib.Core.List.{List, [], ◌∷◌}
use lib.ListN.{length, take}
use seplogic.Ra.Ura.{Ura}
use mir.Syntax.{named, w64, Fn}
use mir.Val.{Val, vunit, vint, vptr}
use base.Logic.{SProp, ent, sep}
use base.Fml.{Lft, GName, Share, ftrue, flft, fobs, fbor}
use prog.Wp.{Calls, Loops, WpFn, Tables}
use types.Logic.{Logic}
use contract.Monad.{fact}
use sound.WpLaws.{WpFn-mono}
use types.Kit.{‵, ◌⊛◌, ◌$◌, ◌∵◌, !, qed, by, move, keep, use1, drop, split, join, fsplit, fsplit3, fjoin, fjoin3, feq_i, suffices, frame, done}
use types.Part.{whole, sub, store_in}
use types.Run.{stop, fld, unit_lit, of_opd, assigns, returns, enter}
use types.SemTy.{Body as Borrowed}
use denote.Exit.{yes}
use denote.RattleType.{owns}
use denote.Memory.{mem}
use denote.RawPtr.{block_ptr}
use denote.Ref.{MutRef, mut_vals, mut_Tells}
use denote.Plain.{uint_vals, uint_Tells}
use denote.Builtin.{usize, unit, RefMutOf}
use denote.Signature.{plain}
use denote.Steps.{nothing}
use denote.Triple.Clauses.{Clauses, Ended, closing}
use denote.Triple.Entry.{on_entry}
use denote.Triple.Spec.{Meets, triple_of}
use denote.Triple.Walked.{needs, Stays, stay_dropped, stay_ref, walk_of, walked, ends_at, Goes-dropped, Goes-ref, walk_Meets}
use Rattle.std.proofs.VecSteps.Facts.{last_fact, and_fact, Says-All}
use Rattle.solv_pack.proofs.BlockEl.{El, el_x, el_d, el_len, el_cap, el_items, el_ok, el_make, Vr, args, el_heap}
use Rattle.solv_pack.proofs.BlockOpens.{Blk, vec_opens⁰, vec_closes⁰}
use Rattle.std.proofs.VecSteps.Gaps.{shorter, taken}
use Rattle.std.specs.Vec.Ownership.{has_block}
use mir.MapTy.{inst_fn}
use contract.Running.{tables, tables_of}
use denote.Triple.Table.{entered, run_framed}
use Rattle.solv_pack.specs.contracts.block.Block.cut.Key.{name as #self}
use Rattle.solv_pack.proofs.block.Block.cut.Statement as stated
use Rattle.solv_pack.proofs.block.Block.cut.Code as code
use denote.Triple.Carry.{spared}
use Rattle.std.proofs.mem.Timeless.{timeless, timeless_laws}
use types.ByLocal.{alloc_all, pass_all, free_all, look_at, get, through, sets}

module _ (E : El) where
  abbrev fn' : Fn
  fn' = inst_fn (args E) code.function

  abbrev ended : Ended
  ended = record { signature = record { lifetimes = 1; outlives = []; params = RefMutOf (0 ∷ []) tt (plain (λ _. Vr E)) (λ _. tt) ∷ plain (λ _. usize) ∷ []; result = plain (λ _. unit) }; kept = (yes, (yes, tt)) }

  abbrev clauses : {M : Type 1} {𝓤 : Ura M} (𝓛 : Logic 𝓤) → Clauses 𝓤 ended
  clauses {𝓤 = 𝓤} 𝓛 κs a = record { ghost = Unit {0}; requires = λ g. fact 𝓤 (a.1.0 ≤ el_len E a.0.now); ensures = λ g r w. sep 𝓤 (fact 𝓤 (el_items E w.0.now ≡ take a.1.0 (el_items E a.0.now))) (sep 𝓤 (fact 𝓤 (el_len E w.0.now ≡ a.1.0)) (sep 𝓤 (fact 𝓤 (el_cap E w.0.now ≡ el_cap E a.0.now)) (fact 𝓤 (w.0.now.ptr ≡ a.0.now.ptr)))) }

  abbrev stayed : Stays ended.signature.params ended.kept
  stayed = (stay_ref (0 ∷ []) tt (plain (λ _. Vr E)), (stay_dropped (plain (λ _. usize)) yes, tt))

module _ (E : El) {M : Type 1} {𝓤 : Ura M} (𝓛 : Logic 𝓤) (κ : Lft) (q : Share) (rb ro : ℕ) (γ : GName) (h : el_d E) (k : ℕ) (fk : k < 2 ^ 64) where
  open 𝓛 use {H, A}

  abbrev bound : (walk_of 𝓛 (ended E) (stayed E) (clauses E 𝓛)).Ghost
  bound = (((κ, tt), (q, tt), tt, (record { ref_ptr = (rb, ro); ghost_name = γ; now = h }, (k, tt)), (vptr rb ro ∷ [], (vint w64 k ∷ [], tt))), tt)

  abbrev Post : Val → SProp 𝓤
  Post = (walk_of 𝓛 (ended E) (stayed E) (clauses E 𝓛)).post bound

  abbrev n : ℕ
  n = el_len E h

  abbrev c : ℕ
  c = el_cap E h

  abbrev xs : List (el_x E)
  xs = el_items E h

  exits : (h' : el_d E) → ((el_items E h' ≡ take k xs) × ((el_len E h' ≡ k) × ((el_cap E h' ≡ el_cap E h) × (h'.ptr ≡ h.ptr)))) → ent 𝓤 (sep 𝓤 (A.obs γ ((Vr E).coded.code h')) (sep 𝓤 (A.bor κ (Borrowed (mem (Vr E)) rb ro γ)) (A.lft κ q))) (Post vunit)
  exits h' e =
      qed 𝓛 (‵ (fobs γ ((Vr E).coded.code h')) ∷ ‵ (fbor κ (Borrowed (mem (Vr E)) rb ro γ)) ∷ ‵ (flft κ q) ∷ []) ∵
      suffices ! _ (ends_at 𝓛 (ended E) (stayed E) (clauses E 𝓛) bound vunit tt (h', (tt, tt)) (tt, (tt, tt))) $ Says-All ! (and_fact 𝓤 e.0 (and_fact 𝓤 e.1.0 (and_fact 𝓤 e.1.1.0 (last_fact 𝓤 e.1.1.1)))) $
      nothing ! $ move ! (3 ∷ 0 ∷ []) $ join ! $ frame ! $ feq_i ! (List Val) (vptr rb ro ∷ []) (vptr rb ro ∷ []) refl $ fjoin3 ! $ nothing ! $ nothing ! $ fjoin ! $ move ! (1 ∷ 0 ∷ []) $ fjoin ! $
      feq_i ! (List Val) (vunit ∷ []) (vunit ∷ []) refl $ move ! (1 ∷ 0 ∷ []) $ done !

  module _ (C : Calls 𝓤 H) (Λ : Loops 𝓤 H) where
    walk : k ≤ el_len E h → ent 𝓤 (on_entry 𝓛 (ended E).signature (κ, tt) (q, tt) (record { ref_ptr = (rb, ro); ghost_name = γ; now = h }, (k, tt)) (vptr rb ro ∷ [], (vint w64 k ∷ [], tt))) (WpFn 𝓤 H C Λ (fn' E) (vptr rb ro ∷ vint w64 k ∷ []) Post)
    walk asked =
        let lens : n ≡ length xs = (el_ok E h).0 in
        let le : n ≤ c = (el_ok E h).1 in
        let le' : k ≤ c = omega arith in
        let len' : length (take k xs) ≡ k = taken xs k (omega arith) in
        qed 𝓛 ((‵ (flft κ q) ⊛ ‵ ftrue) ∷ ‵ (owns (MutRef (named 0) κ (Vr E) ∷ usize ∷ []) (record { ref_ptr = (rb, ro); ghost_name = γ; now = h }, (k, tt)) (vptr rb ro ∷ [], (vint w64 k ∷ [], tt))) ∷ []) ∵ enter ! C Λ (fn' E) (vptr rb ro ∷ vint w64 k ∷ []) _ $
        alloc_all ! (λ l. pass_all ! refl ((tt, tt), ((tt, record { fits = fk }), tt)) $
        move ! (1 ∷ []) $ fsplit ! $ fsplit3 ! $ drop ! $ move ! (3 ∷ []) $ split ! $ move ! (2 ∷ 3 ∷ 0 ∷ []) $
        vec_opens⁰ E ! tt h rb ro (λ b o hv at_b fl fc fit.
        let new = el_make E (el_heap E h) (block_ptr b o) k c (take k xs) (sym len', le') h.small in
        -- [the block; the struct's words; the open borrow and the handle; ..]
        use1 𝓛 (‵ (Blk E (el_heap E h) b o k c (take k xs))) (shorter E 𝓛 b o (el_heap E h) (has_block c) n c k xs lens asked le) $
        assigns ! (of_opd ! (get ! refl)) (through ! refl (fld ! refl (stop !))) (store_in ! 1 (sub ! 1 refl (whole !)) (tt, record { fits = fk })) $
        sets ! (of_opd ! (unit_lit !)) refl (tt, tt) $
        vec_closes⁰ E ! tt new.0 b o k c (take k xs) rb ro (new.1, new.2, new.3, new.4) fk fc fit $
        returns ! (look_at ! 0 refl) $ free_all ! refl $
        keep ! (0 ∷ 1 ∷ 2 ∷ []) $
        by ! (exits new.0 (refl, (refl, (refl, sym at_b))))))

meets : (E : El) {M : Type 1} {𝓤 : Ura M} (𝓛 : Logic 𝓤) (𝓣 : Tables 𝓤 𝓛.H)
    → Meets 𝓛 (ended E).signature (WpFn 𝓤 𝓛.H 𝓣.C 𝓣.Λ (fn' E)) (closing 𝓛 (ended E) (clauses E 𝓛))
meets E {𝓤 = 𝓤} 𝓛 𝓣 =
    walk_Meets 𝓛 (ended E) (stayed E) (Goes-ref 𝓛 1 0 tt (plain (λ _. Vr E)), (Goes-dropped 𝓛 1 (plain (λ _. usize)) yes (λ κs x f. refl), tt)) (clauses E 𝓛) (WpFn 𝓤 𝓛.H 𝓣.C 𝓣.Λ (fn' E)) (WpFn-mono 𝓤 𝓛.H 𝓛.laws 𝓣 (fn' E))
    (walked 𝓛 (ended E) (stayed E) (clauses E 𝓛) (WpFn 𝓤 𝓛.H 𝓣.C 𝓣.Λ (fn' E)) (λ κs. (mut_vals, (uint_vals w64, tt))) (λ κs. (mut_Tells (named 0) κs.0 (Vr E), (uint_Tells w64, tt)))
    (λ κs qs bounds a g are. needs 𝓤 (a.1.0 ≤ el_len E a.0.now) _ (walk E 𝓛 κs.0 qs.0 a.0.ref_ptr.0 a.0.ref_ptr.1 a.0.ghost_name a.0.now a.1.0 are.1.0.1 𝓣.C 𝓣.Λ)))

pub cut_spec : {M : Type 1} → stated.statement M
unfolding tables_of
cut_spec 𝓤 𝓛 𝓜 𝓡 wired X Z L LZ g d dd met md y =
    let E : El = record { row = timeless X; laws = timeless_laws X L; al = record { row = Z; laws = LZ; g = g; d = d; drops = dd } } in
    let 𝓣 : Tables 𝓤 𝓛.H = tables_of 𝓤 𝓛.H 𝓜 (tables 𝓤 𝓛.H 𝓜 𝓡 𝓡.env) in
    spared 𝓛 (ended E).signature (𝓡.run (𝓡.env (#self (args E)))) (run_framed 𝓤 𝓛.H 𝓜 𝓡 (𝓡.env (#self (args E)))) 2 (X.lives, (Z.lives, tt)) (closing 𝓛 (ended E) (clauses E 𝓛))
    (entered 𝓤 𝓛.H (triple_of 𝓛 (ended E).signature (closing 𝓛 (ended E) (clauses E 𝓛))) 𝓣.C 𝓣.Λ (#self (args E)) (inst_fn (args E) code.function) (code.unfolded 𝓤 𝓛.H 𝓜 𝓡 wired (E.row, (Z, tt)) d dd)
    (meets E 𝓛 𝓣))
    ((y.0.0, y.0.1, tt, y.0.3, y.0.4), y.1)
