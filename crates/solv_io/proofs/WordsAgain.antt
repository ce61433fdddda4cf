-- Words that are joined are read again, and the words of a line are words.
use Rattle.std.proofs.Common.{◌≡◌, ℕ, true, false, List, [], ◌∷◌, ◌++◌, not, cond, refl, ap, ◌∙◌}
use Rattle.std.specs.Prelude.{flat_map, if◌then◌else◌}
use Rattle.std.specs.List.{list_all}
use Rattle.std.proofs.lemmas.Bool.{and_from}
use Rattle.solv_io.specs.Words.{is_blank, begins_word, lengthened, words_of}
use Rattle.solv_list.proofs.Booleans.{first_of_both, second_of_both, false_of_not}
use Rattle.solv_io.specs.JoinedWords.{is_inner, is_solid, is_word, is_line, joined}
use Rattle.solv_io.proofs.WordRuns.{words_at}

-- a byte of a word is no blank
pub solid_blank : (c : ℕ) → is_solid c ≡ true → is_blank c ≡ false
solid_blank c h = false_of_not (is_blank c) (first_of_both (not (is_blank c)) (is_inner c) h)

-- one more byte in front of a word
pub longer : (c d : ℕ) (w rest : List ℕ) (ws : List (List ℕ)) → is_blank c ≡ false → is_blank d ≡ false → words_of (d ∷ rest) ≡ w ∷ ws → words_of (c ∷ d ∷ rest) ≡ (c ∷ w) ∷ ws
longer c d w rest ws h k e =
    words_at c (d ∷ rest) h
    ∙ ap (λ b. cond (not b) (lengthened c (words_of (d ∷ rest))) ((c ∷ []) ∷ words_of (d ∷ rest))) k
    ∙ ap (lengthened c) e

pub alone : (c : ℕ) (rest : List ℕ) → is_blank c ≡ false → begins_word rest ≡ false → words_of (c ∷ rest) ≡ (c ∷ []) ∷ words_of rest
alone c rest h k = words_at c rest h ∙ ap (λ b. cond b (lengthened c (words_of rest)) ((c ∷ []) ∷ words_of rest)) k

-- solid bytes in front of a blank or the end are one word
pub word_front : (c : ℕ) (cs rest : List ℕ) → list_all is_solid (c ∷ cs) ≡ true → begins_word rest ≡ false → words_of ((c ∷ cs) ++ rest) ≡ (c ∷ cs) ∷ words_of rest
word_front c [] rest h k = alone c rest (solid_blank c (first_of_both (is_solid c) true h)) k
word_front c (d ∷ cs) rest h k =
    let here = solid_blank c (first_of_both (is_solid c) (list_all is_solid (d ∷ cs)) h) in
    let later = second_of_both (is_solid c) (list_all is_solid (d ∷ cs)) h in
    let next = solid_blank d (first_of_both (is_solid d) (list_all is_solid cs) later) in
    longer c d (d ∷ cs) (cs ++ rest) (words_of rest) here next (word_front d cs rest later k)

-- a word in front of a blank or the end
pub first_word : (w rest : List ℕ) → is_word w ≡ true → begins_word rest ≡ false → words_of (w ++ rest) ≡ w ∷ words_of rest
first_word [] rest h k = absurd (cc)
first_word (c ∷ cs) rest h k = word_front c cs rest h k

-- words with a space before each
pub spaced_words : (words : List (List ℕ)) → list_all is_word words ≡ true → words_of (flat_map (λ other. 32 ∷ other) words) ≡ words
spaced_words [] h = refl
spaced_words (w ∷ words) h =
    first_word w (flat_map (λ other. 32 ∷ other) words) (first_of_both (is_word w) (list_all is_word words) h) (begins words)
    ∙ ap (λ ws. w ∷ ws) (spaced_words words (second_of_both (is_word w) (list_all is_word words) h))
  where
    begins : (words : List (List ℕ)) → begins_word (flat_map (λ other. 32 ∷ other) words) ≡ false
    begins [] = refl
    begins (w ∷ words) = refl

pub words_again : (words : List (List ℕ)) → list_all is_word words ≡ true → words_of (joined words) ≡ words
words_again [] h = refl
words_again (w ∷ words) h =
    first_word w (flat_map (λ other. 32 ∷ other) words) (first_of_both (is_word w) (list_all is_word words) h) (begins words)
    ∙ ap (λ ws. w ∷ ws) (spaced_words words (second_of_both (is_word w) (list_all is_word words) h))
  where
    begins : (words : List (List ℕ)) → begins_word (flat_map (λ other. 32 ∷ other) words) ≡ false
    begins [] = refl
    begins (w ∷ words) = refl

pub solid_word : (w : List ℕ) → is_word w ≡ true → list_all is_solid w ≡ true
solid_word [] h = refl
solid_word (c ∷ cs) h = h

-- the words of a line are words
lengthened_words : (c : ℕ) (ws : List (List ℕ)) → is_solid c ≡ true → list_all is_word ws ≡ true → list_all is_word (lengthened c ws) ≡ true
lengthened_words c [] h k = refl
lengthened_words c (w ∷ ws) h k =
    let first = first_of_both (is_word w) (list_all is_word ws) k in
    and_from (is_word (c ∷ w)) (list_all is_word ws) (and_from (is_solid c) (list_all is_solid w) h (solid_word w first))
    (second_of_both (is_word w) (list_all is_word ws) k)

one_byte : (c : ℕ) → is_solid c ≡ true → is_word (c ∷ []) ≡ true
one_byte c h = and_from (is_solid c) true h refl

pub line_words : (line : List ℕ) → is_line line ≡ true → list_all is_word (words_of line) ≡ true
line_words [] h = refl
line_words (c ∷ cs) h =
    let later = line_words cs (second_of_both (is_inner c) (list_all is_inner cs) h) in
    elim (is_blank c) as (λ b. is_blank c ≡ b → list_all is_word (if b then words_of cs else (if begins_word cs then lengthened c (words_of cs) else (c ∷ []) ∷ words_of cs)) ≡ true) [
      | true ↦ λ e. later
      | false ↦ λ e.
          let solid : is_solid c ≡ true = and_from (not (is_blank c)) (is_inner c) (ap not e) (first_of_both (is_inner c) (list_all is_inner cs) h) in
          elim (begins_word cs) as (λ b. list_all is_word (if b then lengthened c (words_of cs) else (c ∷ []) ∷ words_of cs) ≡ true) [
            | true ↦ lengthened_words c (words_of cs) solid later
            | false ↦ and_from (is_word (c ∷ [])) (list_all is_word (words_of cs)) (one_byte c solid) later
          ]
    ] refl
