-- What stands before the first separator is the first of what separators separate.
use Rattle.std.proofs.Common.{ℕ, suc, ◌≡◌, ◌+◌, ◌<◌, List, [], ◌∷◌, true, false, take, drop, length, refl, sym, ◌∙◌, arith, cond, add-one}
use Rattle.std.specs.Prelude.{not, ◌==◌}
use Rattle.std.proofs.lemmas.Grind.{common_steps}
use Rattle.std.specs.List.{prefix_len}
use Rattle.solv_io.specs.Words.{between, lengthened}
use Rattle.solv_list.proofs.Lists.{take_one_more}

drop_one_more : (n c : ℕ) (cs : List ℕ) → drop (suc (1 + n)) (c ∷ cs) ≡ drop (suc n) cs
drop_one_more n c cs = grind (arith, common_steps)

module _ (separator : ℕ) where
  -- where the first separator stands, or the length
  abbrev pub first_place : List ℕ → ℕ
  first_place text = prefix_len (λ byte. not (byte == separator)) text

  no_place : (text : List ℕ) → first_place text ≡ length text → between separator text ≡ text ∷ []
  no_place [] h = refl
  no_place (c ∷ cs) h =
      elim (c == separator) as (λ b. (c == separator) ≡ b → cond (not b) (1 + first_place cs) 0 ≡ length (c ∷ cs)
      → cond b ([] ∷ between separator cs) (lengthened c (between separator cs)) ≡ (c ∷ cs) ∷ []) [
        | true ↦ λ e k. absurd (omega (arith, k))
        | false ↦ λ e k. let shorter : first_place cs ≡ length cs = omega (arith, k) in rw (no_place cs shorter) refl
      ] refl h

  pub last_text : (text : List ℕ) (n : ℕ) → n ≡ first_place text → n ≡ length text → between separator text ≡ text ∷ []
  last_text text n e f = no_place text (sym e ∙ f)

  at_place : (text : List ℕ) → first_place text < length text → between separator text ≡ take (first_place text) text ∷ between separator (drop (suc (first_place text)) text)
  at_place [] h = absurd (omega arith)
  at_place (c ∷ cs) h =
      elim (c == separator) as (λ b. (c == separator) ≡ b → cond (not b) (1 + first_place cs) 0 < length (c ∷ cs)
      → cond b ([] ∷ between separator cs) (lengthened c (between separator cs))
      ≡ take (cond (not b) (1 + first_place cs) 0) (c ∷ cs) ∷ between separator (drop (suc (cond (not b) (1 + first_place cs) 0)) (c ∷ cs))) [
        | true ↦ λ e k. refl
        | false ↦ λ e k. let shorter : first_place cs < length cs = omega (arith, k) in rw (take_one_more (first_place cs) c cs, drop_one_more (first_place cs) c cs, at_place cs shorter) refl
      ] refl h

  -- the first text, and what comes after its separator
  pub first_text : (text : List ℕ) (n : ℕ) → n ≡ first_place text → n < length text → between separator text ≡ take n text ∷ between separator (drop (n + 1) text)
  first_text text n e l =
      let l' : first_place text < length text = rw (← e) l in
      rw (e, add-one) (at_place text l')
