-- Lists, one after another.
use Rattle.std.proofs.Common.{◌≡◌, ◌+◌, ◌<◌, ◌≤◌, ℕ, zero, suc, Bool, true, ◌||◌, List, [], ◌∷◌, ◌++◌, take, drop, refl, sym, ap, ◌∙◌, arith, length, add-one}
use Rattle.std.specs.Prelude.{◌==◌, slice_index}
use Rattle.std.specs.List.{list_all}
use Rattle.std.proofs.lemmas.Bool.{and_parts}
use Rattle.std.proofs.lemmas.List.Folds.{list_any-append}
use Rattle.solv_pool.specs.Prelude.{is_among}

pub among_more : (xs ys : List ℕ) (k : ℕ) → is_among (xs ++ ys) k ≡ (is_among xs k || is_among ys k)
among_more xs ys k = list_any-append (λ y. y == k) xs ys

pub front : (xs : List ℕ) (n : ℕ) → n < length xs → take (n + 1) xs ≡ take n xs ++ slice_index xs n ∷ []
front xs n h = ap (λ m. take m xs) (add-one n) ∙ go xs n h
  where
    go : (xs : List ℕ) (n : ℕ) → n < length xs → take (suc n) xs ≡ take n xs ++ slice_index xs n ∷ []
    go [] n h = absurd (omega (arith, h))
    go (x ∷ xs) zero h = refl
    go (x ∷ xs) (suc n) h = ap (λ l. x ∷ l) (go xs n (omega (arith, h)))

pub next_one : (xs : List ℕ) (n last : ℕ) → n < length xs → drop n xs ++ last ∷ [] ≡ slice_index xs n ∷ (drop (n + 1) xs ++ last ∷ [])
next_one xs n last h = ap (λ l. l ++ last ∷ []) (go xs n h ∙ ap (λ m. slice_index xs n ∷ drop m xs) (sym (add-one n)))
  where
    go : (xs : List ℕ) (n : ℕ) → n < length xs → drop n xs ≡ slice_index xs n ∷ drop (suc n) xs
    go [] n h = absurd (omega (arith, h))
    go (x ∷ xs) zero h = refl
    go (x ∷ xs) (suc n) h = go xs n (omega (arith, h))

pub all_gone : (xs : List ℕ) (n : ℕ) → length xs ≤ n → drop n xs ≡ []
all_gone [] zero h = refl
all_gone [] (suc n) h = refl
all_gone (x ∷ xs) zero h = absurd (omega (arith, h))
all_gone (x ∷ xs) (suc n) h = all_gone xs n (omega (arith, h))

pub all_index : (p : ℕ → Bool) (xs : List ℕ) (n : ℕ) → list_all p xs ≡ true → n < length xs → p (slice_index xs n) ≡ true
all_index p [] n h less = absurd (omega (arith, less))
all_index p (x ∷ xs) zero h less = (and_parts (p x) (list_all p xs) h).0
all_index p (x ∷ xs) (suc n) h less = all_index p xs n (and_parts (p x) (list_all p xs) h).1 (omega (arith, less))
