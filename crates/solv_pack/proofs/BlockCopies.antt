-- `copy_words` at a call, and a row of values as it takes one. Assumes `Logic`.
--     bits_out, bits_in    a share of an array in memory is its machine values, with what they own;  and back, at any place
use mathlib.Core.Path.{◌≡◌, refl, sym, ap, ◌∙◌}
use Prim.Native.Nat.{ℕ, suc, ◌<◌, ◌^◌}
use mathlib.Core.List.{List, [], ◌∷◌}
use lib.ListN.{length}
use seplogic.Ra.Ura.{Ura}
use base.Fraction.{full_share}
use mir.Syntax.{Callee, a_type, w64, ty_array}
use mir.Val.{Val, vunit, vint, vptr}
use base.Logic.{SProp, ent, sep, ex, guard, emp, emp∗, via, id⊢, snd∗, never_e}
use base.Fml.{Lft, Share, Fml, ftrue, fsep, fat, froom, flft}
use prog.Memory.{Memory}
use prog.Routine.{Routine}
use types.Logic.{Logic, sem}
use contract.BorrowLft.{◌⊑◌}
use contract.Monad.{Fun, fact, fact_i, fact_use, fact_mono}
use types.Kit.{‵, raw, ◌⊛◌, some, later, ◌$◌, ◌∵◌, !, qed, by, move, keep, drop, use0, use1, split, join, pick, rewrite, fsplit, fjoin, fpick, fpack, feq_l, feq_i, flt_i, frame, check, show, await, updating, now as at_once, done}
use denote.RattleType.{RattleType}
use denote.Laws.{Copy}
use denote.Memory.{part_at}
use denote.Array.{Array, each, shape, array_val}
use denote.Param.{layouts, layout, param}
use denote.Steps.{only, nothing}
use denote.RawPtr.{block_ptr}
use denote.Builtin.{unit}
use denote.Triple.Spec.{triple_of}
use denote.Triple.Statement.{Contract}
use borrow.Table.OneValue.{part_out, part_in}
use Rattle.std.specs.Ptr.{array_size, bits_at}
use Rattle.solv_pack.specs.contracts.block.copy_words as CP
use Rattle.solv_pack.specs.contracts.block.copy_words.Key as key

abbrev pub bits_key : RattleType → Callee
bits_key X = key.name (layouts (a_type ∷ []) (X, tt))

module _ (X : RattleType) {M : Type 1} {𝓤 : Ura M} (𝓛 : Logic 𝓤) where
  open 𝓛 use {H}

  abbrev R : RattleType
  R = param 0 X

  abbrev pub owned : List X.Denot → List Val → Fml
  owned = each X.Denot X.own_val

  as_long : (xs : List X.Denot) (us : List Val) → ent 𝓤 (sem 𝓛 (owned xs us)) (fact 𝓤 (length us ≡ length xs))
  as_long [] [] = fact_i 𝓤 (0 ≡ 0) _ refl
  as_long [] (u ∷ us) = never_e 𝓤 _
  as_long (x ∷ xs) [] = never_e 𝓤 _
  as_long (x ∷ xs) (u ∷ us) = via 𝓤 (fact 𝓤 (length us ≡ length xs)) (via 𝓤 (sem 𝓛 (owned xs us)) (snd∗ 𝓤 (sem 𝓛 (X.own_val x (u ∷ []))) (sem 𝓛 (owned xs us))) (as_long xs us))
      (fact_mono 𝓤 (length us ≡ length xs) (suc (length us) ≡ suc (length xs)) (ap suc))

  module _ (q : Share) (n : ℕ) (xs : List X.Denot) (b o : ℕ) where
    abbrev pub Out : List Val → SProp 𝓤
    Out us = guard 𝓤 ((length us ≡ n) × (length xs ≡ n)) (sep 𝓤 (sem 𝓛 (owned xs us)) (sem 𝓛 (bits_at R q (block_ptr b o) us)))

    pub bits_out : ent 𝓤 (sem 𝓛 (part_at (Array R n) q xs b o)) (ex 𝓤 Out)
    bits_out = qed 𝓛 (‵ (part_at (Array R n) q xs b o) ∷ []) ∵
        use1 𝓛 (some (λ (v : Val). ‵ (fat q (ty_array (layout X) n) b o v) ⊛ ‵ ((Array R n).own_val xs (v ∷ [])))) (part_out 𝓛 (Array R n) refl q xs b o) $ pick ! (λ v. split ! $ move ! (1 ∷ []) $
        fpick ! (λ us. fsplit ! $ fsplit ! $ feq_l ! (λ e. feq_l ! (λ l. rewrite ! 1 (λ (w : Val). ‵ (fat q (ty_array (layout X) n) b o w)) (ap only e) refl $
        by ! (fact_use 𝓤 (length us ≡ length xs) (via 𝓤 (sem 𝓛 (owned xs us)) (base.Logic.fst∗ 𝓤 (sem 𝓛 (owned xs us)) (H.at q (ty_array (layout X) n) b o (array_val us))) (as_long xs us)) (λ k.
        qed 𝓛 (‵ (owned xs us) ∷ ‵ (fat q (ty_array (layout X) n) b o (array_val us)) ∷ []) ∵ rewrite ! 1 (λ (j : ℕ). ‵ (fat q (ty_array (layout X) j) b o (array_val us))) (sym (k ∙ l)) refl $
        show ! Out us $ check ! (k ∙ l, l) $ done !))))))

    pub bits_in : (us : List Val) → length us ≡ n → length xs ≡ n → ent 𝓤 (sep 𝓤 (sem 𝓛 (owned xs us)) (sem 𝓛 (bits_at R q (block_ptr b o) us))) (sem 𝓛 (part_at (Array R n) q xs b o))
    bits_in us k l = qed 𝓛 (‵ (owned xs us) ∷ ‵ (bits_at R q (block_ptr b o) us) ∷ []) ∵ rewrite ! 1 (λ (j : ℕ). ‵ (fat q (ty_array (layout X) j) b o (array_val us))) k refl $
        feq_i ! ℕ (length xs) n l $ feq_i ! (List Val) (array_val us ∷ []) (array_val us ∷ []) refl $ fjoin ! $ fjoin ! $
        fpack ! (List Val) (λ ws. fsep (shape n xs (array_val us ∷ []) ws) (owned xs ws)) us $ move ! (1 ∷ 0 ∷ []) $ by ! (part_in 𝓛 (Array R n) refl q xs b o (array_val us))

module _ (X : RattleType) {M : Type 1} {𝓤 : Ura M} (𝓛 : Logic 𝓤) (at_mem : Memory → SProp 𝓤) (run : Routine → Fun 𝓤) where
  open 𝓛 use {H, A}

  abbrev pub Bits : Contract 𝓤
  Bits = triple_of 𝓛 (CP.signature X) (CP.spec X 𝓛 at_mem run)

  module _ (κ : Lft) (q p : Share) (b o b' o' n : ℕ) (us : List Val) where
    abbrev pub at_bits : Bits.Ghost
    at_bits = (((κ, tt), (q, tt), tt, (block_ptr b o, (block_ptr b' o', (n, tt))), (vptr b o ∷ [], (vptr b' o' ∷ [], (vint w64 n ∷ [], tt)))), (p, us))

    abbrev from : Fml
    from = bits_at (param 0 X) p (block_ptr b o) us

    abbrev to : Fml
    to = bits_at (param 0 X) full_share (block_ptr b' o') us

    abbrev Said : Type 0
    Said = (array_size (param 0 X) n < 2 ^ 64) × (length us ≡ n)

    pub Bits-goes : κ ⊑ X.lives → n < 2 ^ 64 → Said → ent 𝓤 (sep 𝓤 (sem 𝓛 from) (sep 𝓤 (H.room (ty_array (layout X) n) b' o') (A.lft κ q))) (Bits.pre at_bits)
    Bits-goes le fn said =
        qed 𝓛 (‵ from ∷ ‵ (froom (ty_array (layout X) n) b' o') ∷ ‵ (flft κ q) ∷ []) ∵ fjoin ! $
        use0 𝓛 (raw (fact 𝓤 Said)) (fact_i 𝓤 Said (emp 𝓤) said) $ join ! $ use0 𝓛 (raw (fact 𝓤 (κ ⊑ X.lives))) (fact_i 𝓤 (κ ⊑ X.lives) (emp 𝓤) le) $ join ! $
        nothing ! $ flt_i ! n (2 ^ 64) fn $ feq_i ! (List Val) (vint w64 n ∷ []) (vint w64 n ∷ []) refl $ fjoin ! $ fjoin ! $
        feq_i ! (List Val) (vptr b' o' ∷ []) (vptr b' o' ∷ []) refl $ fjoin ! $ feq_i ! (List Val) (vptr b o ∷ []) (vptr b o ∷ []) refl $ fjoin ! $
        nothing ! $ move ! (3 ∷ 0 ∷ []) $ join ! $ join ! $ done !

    pub Bits-gives : (v : Val) → ent 𝓤 (Bits.post at_bits v) (H.⇛ (guard 𝓤 (v ≡ vunit) (sep 𝓤 (sem 𝓛 from) (sep 𝓤 (sem 𝓛 to) (A.lft κ q)))))
    Bits-gives v =
        qed 𝓛 (raw (Bits.post at_bits v) ∷ []) ∵ updating ! $
        use1 𝓛 (later (some (λ (r : Unit {0}). ((‵ (flft κ q) ⊛ ‵ ftrue) ⊛ ‵ (unit.own_val r (v ∷ [])))
        ⊛ some (λ (ws : Unit {0} × (Unit {0} × (Unit {0} × Unit {0}))). ‵ (fsep ftrue (fsep ftrue (fsep ftrue ftrue))) ⊛ ‵ (fsep from to))))) (id⊢ 𝓤 _) $ await ! tt $ pick ! (λ r.
        split ! $ move ! (1 ∷ []) $ pick ! (λ ws. split ! $ drop ! $ fsplit ! $ move ! (2 ∷ []) $ split ! $ split ! $ move ! (2 ∷ []) $ feq_l ! (λ e. at_once ! $ check ! (ap only e) $ keep ! (2 ∷ 3 ∷ 0 ∷ []) $ done !)))

-- what is owned by values that may be copied is owned twice
module _ (X : RattleType) {M : Type 1} {𝓤 : Ura M} (𝓛 : Logic 𝓤) (c : Copy 𝓛 X) where
  pub twice : (xs : List X.Denot) (us : List Val) → ent 𝓤 (sem 𝓛 (owned X 𝓛 xs us)) (sep 𝓤 (sem 𝓛 (owned X 𝓛 xs us)) (sem 𝓛 (owned X 𝓛 xs us)))
  twice [] [] = emp∗ 𝓤 (emp 𝓤)
  twice [] (u ∷ us) = never_e 𝓤 _
  twice (x ∷ xs) [] = never_e 𝓤 _
  twice (x ∷ xs) (u ∷ us) = qed 𝓛 (‵ (X.own_val x (u ∷ [])) ∷ ‵ (owned X 𝓛 xs us) ∷ []) ∵
      use1 𝓛 (‵ (X.own_val x (u ∷ [])) ⊛ ‵ (X.own_val x (u ∷ []))) (c.twice x (u ∷ [])) $ split ! $ move ! (2 ∷ []) $
      use1 𝓛 (‵ (owned X 𝓛 xs us) ⊛ ‵ (owned X 𝓛 xs us)) (twice xs us) $ split ! $ move ! (2 ∷ 0 ∷ []) $ fjoin ! $ frame ! $ move ! (1 ∷ 0 ∷ []) $ done !
