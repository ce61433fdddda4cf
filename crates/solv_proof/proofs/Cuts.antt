-- The words of a line are one at least.
use Rattle.std.proofs.Common.{ℕ, ◌≡◌, true, false, List, [], ◌∷◌, Option, Some, None, refl, cond}
use Rattle.std.specs.Prelude.{◌==◌}
use Rattle.solv_io.specs.Words.{lengthened}
use Rattle.solv_proof.specs.Words.{words_between, three_words}
use Rattle.solv_proof.specs.Inner.Words.{words_left}
use Rattle.solv_proof.specs.Texts.{is_some_list}

pub words_some : (text : List ℕ) → is_some_list (words_between text) ≡ true
words_some [] = refl
words_some (byte ∷ rest) = elim (byte == 32) as (λ b. is_some_list (cond b ([] ∷ words_between rest) (lengthened byte (words_between rest))) ≡ true) [
  | true ↦ refl
  | false ↦ longer (words_between rest) (words_some rest)
]
  where
    longer : (words : List (List ℕ)) → is_some_list words ≡ true → is_some_list (lengthened byte words) ≡ true
    longer [] h = absurd (cc)
    longer (w ∷ ws) h = refl

over_three : (a b c : List ℕ) (words : List (List ℕ)) → is_some_list words ≡ true → three_words (a ∷ b ∷ c ∷ words) ≡ None
over_three a b c [] h = absurd (cc)
over_three a b c (w ∷ ws) h = refl

-- a text that is there has a word
pub left_some : (left : Option (List ℕ)) (text : List ℕ) → left ≡ Some text → is_some_list (words_left left) ≡ true
left_some left text e = rw (e, words_some text) refl

-- four words, or more
pub four_words : (a b c line t u v : List ℕ) (r s q : Option (List ℕ)) → words_between line ≡ a ∷ words_left r → r ≡ Some t → words_between t ≡ b ∷ words_left s → s ≡ Some u
    → words_between u ≡ c ∷ words_left q → q ≡ Some v → None ≡ three_words (words_between line)
four_words a b c line t u v r s q e f g h i j = rw (e, f, g, h, i, j, over_three a b c (words_between v) (words_some v)) refl
