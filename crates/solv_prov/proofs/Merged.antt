-- Merging lists of numbers that pass two tests.
use Rattle.std.proofs.Common.{◌≡◌, ◌<◌, ◌+◌, ℕ, zero, suc, Bool, true, false, cond, List, [], ◌∷◌, ◌++◌, ◌⊎◌, inl, inr, refl, sym, ap, ◌∙◌, arith, if◌then◌else◌}
use Rattle.std.specs.Prelude.{filter, nat_lt, ◌==◌}
use Rattle.std.specs.List.{range_with_len}
use Rattle.std.proofs.lemmas.Bool.Decides.{nat_tests}
use Rattle.solv_pool.specs.Prelude.{when}
use Rattle.solv_prov.specs.declared.merging.Joint.{Joint}
use Rattle.solv_prov.specs.declared.merging.Joint.TheVariants.{Either, Both, FirstAlone}
use Rattle.solv_prov.specs.Inner.Merging.{is_kept, merged_beside, merged, MergingJoinsTests}
use Rattle.solv_list.proofs.Lists.{below_true}
use Rattle.solv_list.proofs.Numbers.{equal_to_itself, not_below_itself}

-- each is above a number
abbrev AreAbove : ℕ → List ℕ → Type 0
AreAbove s [] = Unit {0}
AreAbove s (x ∷ xs) = (s < x) × AreAbove s xs

filter_above : (f : ℕ → Bool) (s start count : ℕ) → s < start → AreAbove s (filter f (range_with_len start count))
filter_above f s start zero h = tt
filter_above f s start (suc count) h = step (f start) (filter_above f s (start + 1) count (omega (arith, h)))
  where
    step : (b : Bool) → AreAbove s (filter f (range_with_len (start + 1) count)) → AreAbove s (cond b (start ∷ filter f (range_with_len (start + 1) count)) (filter f (range_with_len (start + 1) count)))
    step true k = (h, k)
    step false k = k

not_lower : (s x : ℕ) → s < x → nat_lt x s ≡ false
not_lower s x h = grind (arith, nat_tests, h)

not_same : (s x : ℕ) → s < x → (x == s) ≡ false
not_same s x h = grind (arith, nat_tests, h)

when_join : (b : Bool) (s : ℕ) (ys : List ℕ) → when b (s ∷ ys) ≡ when b (s ∷ []) ++ when b ys
when_join true s ys = refl
when_join false s ys = refl

module _ (joint : Joint) where
  -- a number that stands in both, in the first alone, in the second alone
  in_both : (s : ℕ) (xs ys : List ℕ) → merged joint (s ∷ xs) (s ∷ ys) ≡ when (is_kept joint true true) (s ∷ []) ++ merged joint xs ys
  in_both s xs ys = ap (λ b. if b then when (is_kept joint true false) (s ∷ []) ++ merged joint xs (s ∷ ys) else (if s == s then when (is_kept joint true true) (s ∷ []) ++ merged joint xs ys else when (is_kept joint false true) (s ∷ []) ++ merged_beside joint s (merged joint xs) ys)) (not_below_itself s)
      ∙ ap (λ b. if b then when (is_kept joint true true) (s ∷ []) ++ merged joint xs ys else when (is_kept joint false true) (s ∷ []) ++ merged_beside joint s (merged joint xs) ys) (equal_to_itself s)

  in_first : (s : ℕ) (xs ys : List ℕ) → AreAbove s ys → merged joint (s ∷ xs) ys ≡ when (is_kept joint true false) (s ∷ []) ++ merged joint xs ys
  in_first s xs [] h = refl
  in_first s xs (y ∷ ys) h = ap (λ b. if b then when (is_kept joint true false) (s ∷ []) ++ merged joint xs (y ∷ ys) else (if s == y then when (is_kept joint true true) (s ∷ []) ++ merged joint xs ys else when (is_kept joint false true) (y ∷ []) ++ merged_beside joint s (merged joint xs) ys)) (below_true s y h.0)

  in_second : (s : ℕ) (xs ys : List ℕ) → AreAbove s xs → merged joint xs (s ∷ ys) ≡ when (is_kept joint false true) (s ∷ []) ++ merged joint xs ys
  in_second s [] ys h = when_join (is_kept joint false true) s ys
  in_second s (x ∷ xs) ys h = ap (λ b. if b then when (is_kept joint true false) (x ∷ []) ++ merged joint xs (s ∷ ys) else (if x == s then when (is_kept joint true true) (x ∷ []) ++ merged joint xs ys else when (is_kept joint false true) (s ∷ []) ++ merged_beside joint x (merged joint xs) ys)) (not_lower s x h.0)
      ∙ ap (λ b. if b then when (is_kept joint true true) (x ∷ []) ++ merged joint xs ys else when (is_kept joint false true) (s ∷ []) ++ merged_beside joint x (merged joint xs) ys) (not_same s x h.0)

none_kept : (joint : Joint) → is_kept joint false false ≡ false
none_kept Either = refl
none_kept Both = refl
none_kept FirstAlone = refl

nothing_left : (b : Bool) → when {X = ℕ} b [] ≡ []
nothing_left true = refl
nothing_left false = refl

-- one more number in front
module _ (joint : Joint) (s : ℕ) (left right whole : List ℕ) (same : merged joint left right ≡ whole) (above_left : AreAbove s left) (above_right : AreAbove s right) where
  put : (b : Bool) → when b (s ∷ []) ++ merged joint left right ≡ cond b (s ∷ whole) whole
  put true = ap (λ l. s ∷ l) same
  put false = same

  pub one_more : (a b : Bool) → merged joint (cond a (s ∷ left) left) (cond b (s ∷ right) right) ≡ cond (is_kept joint a b) (s ∷ whole) whole
  one_more true true = in_both joint s left right ∙ put (is_kept joint true true)
  one_more true false = in_first joint s left right above_right ∙ put (is_kept joint true false)
  one_more false true = in_second joint s left right above_left ∙ put (is_kept joint false true)
  one_more false false = same ∙ sym (ap (λ b. cond b (s ∷ whole) whole) (none_kept joint))

pub merging : MergingJoinsTests
merging joint f g start zero = nothing_left (is_kept joint false true)
merging joint f g start (suc count) =
    one_more joint start (filter f (range_with_len (start + 1) count)) (filter g (range_with_len (start + 1) count)) (filter (λ p. is_kept joint (f p) (g p)) (range_with_len (start + 1) count))
    (merging joint f g (start + 1) count) (filter_above f start (start + 1) count (omega arith)) (filter_above g start (start + 1) count (omega arith)) (f start) (g start)

-- one list alone
pub first_alone : (joint : Joint) (xs : List ℕ) → merged joint xs [] ≡ when (is_kept joint true false) xs
first_alone joint [] = nothing_left (is_kept joint false true) ∙ sym (nothing_left (is_kept joint true false))
first_alone joint (x ∷ xs) = ap (λ l. when (is_kept joint true false) (x ∷ []) ++ l) (first_alone joint xs) ∙ sym (when_join (is_kept joint true false) x xs)

pub second_empty : (joint : Joint) (xs ys : List ℕ) → ((xs ≡ []) ⊎ (ys ≡ [])) → (xs ≡ [] → ⊥) → merged joint xs ys ≡ when (is_kept joint true false) xs
second_empty joint xs ys (inl e) h = absurd (h e)
second_empty joint xs ys (inr e) h = ap (merged joint xs) e ∙ first_alone joint xs

pub first_empty : (joint : Joint) (xs ys : List ℕ) → xs ≡ [] → merged joint xs ys ≡ when (is_kept joint false true) ys
first_empty joint xs ys e = ap (λ l. merged joint l ys) e
