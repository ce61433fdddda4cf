-- The words of a text, from its front.
use Rattle.std.proofs.Common.{◌≡◌, ℕ, zero, suc, ◌+◌, ◌<◌, ◌≤◌, true, false, ◌||◌, List, [], ◌∷◌, length, drop, take, refl, sym, ap, ◌∙◌, arith, get_or, add-one}
use Rattle.std.specs.Prelude.{if◌then◌else◌}
use Rattle.solv_io.specs.Words.{is_blank}
use Rattle.solv_deps.specs.Words.{is_open, is_close, ends_word, unpaired_after, word_rest, words_after, words}
use Rattle.solv_deps.specs.Inner.Words.{after_first}
use Rattle.solv_deps.specs.Inner.Words.{word_length, blanks}

pub behind : (k : ℕ) (t : List ℕ) → words_after k t ≡ words (drop k t)
behind zero [] = refl
behind zero (c ∷ cs) = refl
behind (suc k) [] = refl
behind (suc k) (c ∷ cs) = behind k cs

after_blank : (c : ℕ) (cs : List ℕ) → is_blank c ≡ true → words (c ∷ cs) ≡ words cs
after_blank c cs h = rw h refl

pub skip_blanks : (t : List ℕ) → words t ≡ words (drop (blanks t) t)
skip_blanks [] = refl
skip_blanks (c ∷ cs) =
    elim (is_blank c) as (λ b. is_blank c ≡ b → words (c ∷ cs) ≡ words (drop (if b then suc (blanks cs) else 0) (c ∷ cs))) [
      | true ↦ λ e. after_blank c cs e ∙ skip_blanks cs
      | false ↦ λ e. refl
    ] refl

pub blanks-le : (t : List ℕ) → blanks t ≤ length t
blanks-le [] = omega arith
blanks-le (c ∷ cs) = let h = blanks-le cs in elim (is_blank c) as (λ b. (if b then suc (blanks cs) else 0) ≤ suc (length cs)) [ true ↦ omega arith | false ↦ omega arith ]

pub not_blank : (t : List ℕ) → blanks t < length t → is_blank (get_or (drop (blanks t) t) 0 0) ≡ false
not_blank [] h = absurd (omega arith)
not_blank (c ∷ cs) h =
    elim (is_blank c) as (λ b. is_blank c ≡ b → (if b then suc (blanks cs) else 0) < suc (length cs) → is_blank (get_or (drop (if b then suc (blanks cs) else 0) (c ∷ cs)) 0 0) ≡ false) [
      | true ↦ λ e l. not_blank cs (omega arith)
      | false ↦ λ e l. e
    ] refl h

pub rest-le : (u : ℕ) (cs : List ℕ) → word_rest u cs ≤ length cs
rest-le u [] = omega arith
rest-le u (c ∷ cs) =
    let h = rest-le (unpaired_after u c (is_close c)) cs in
    elim (ends_word u c) as (λ b. (if b then 0 else suc (word_rest (unpaired_after u c (is_close c)) cs)) ≤ suc (length cs)) [ true ↦ omega arith | false ↦ omega arith ]

pub first_word : (c : ℕ) (cs : List ℕ) → is_blank c ≡ false → words (c ∷ cs) ≡ (c ∷ take (after_first c cs) cs) ∷ words (drop (after_first c cs) cs)
first_word c cs h = rw h (ap (λ ws. (c ∷ take (if is_open c || is_close c then 0 else word_rest 0 cs) cs) ∷ ws) (behind (if is_open c || is_close c then 0 else word_rest 0 cs) cs))

split_first : (r : List ℕ) → 0 < length r → is_blank (get_or r 0 0) ≡ false → words r ≡ take (word_length r) r ∷ words (drop (word_length r) r)
split_first [] l h = absurd (omega arith)
split_first (c ∷ cs) l h =
    first_word c cs h ∙ rw h (elim (is_open c || is_close c) as (λ b. (c ∷ take (if b then 0 else word_rest 0 cs) cs) ∷ words (drop (if b then 0 else word_rest 0 cs) cs) ≡ take (if b then 1 else word_rest 0 cs + 1) (c ∷ cs) ∷ words (drop (if b then 1 else word_rest 0 cs + 1) (c ∷ cs))) [
      | true ↦ refl
      | false ↦ rw (add-one (word_rest 0 cs)) refl
    ])

-- the words of a text are the first one, after its blanks, and those after it
pub split_word : (t r : List ℕ) (n : ℕ) → blanks t < length t → r ≡ drop (blanks t) t → n ≡ word_length r → 0 < length r
    → words t ≡ take n r ∷ words (drop n r)
split_word t r n h e m l = skip_blanks t ∙ ap words (sym e) ∙ split_first r l (rw e (not_blank t h)) ∙ ap (λ k. take k r ∷ words (drop k r)) (sym m)

pub no_word : (t : List ℕ) → length t ≤ blanks t → words t ≡ []
no_word t h = skip_blanks t ∙ ap words (gone (blanks t) t h)
  where
    gone : (n : ℕ) (t : List ℕ) → length t ≤ n → drop n t ≡ []
    gone zero [] h = refl
    gone (suc n) [] h = refl
    gone zero (c ∷ cs) h = absurd (omega arith)
    gone (suc n) (c ∷ cs) h = gone n cs (omega arith)
