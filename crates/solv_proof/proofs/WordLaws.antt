-- Words and lines, put together and taken apart.
use Rattle.std.proofs.Common.{ℕ, ◌≡◌, ◌∙◌, true, false, Bool, ◌&&◌, List, [], ◌∷◌, ◌++◌, refl, sym, ap, arith, cond}
use Rattle.std.specs.Prelude.{not, ◌==◌}
use Rattle.std.specs.List.{list_all}
use Rattle.std.proofs.lemmas.Bool.Decides.{nat_tests}
use Rattle.std.proofs.lemmas.List.Folds.{list_all-append}
use Rattle.solv_io.specs.Lines.{lines_of, begun_with, ended_lines}
use Rattle.solv_io.specs.Words.{lengthened}
use Rattle.solv_proof.specs.Words.{words_between}
use Rattle.solv_proof.specs.Inner.Words.{spaced}
use Rattle.solv_io.specs.JoinedWords.{joined, is_inner, is_line}
use Rattle.solv_proof.specs.Texts.{is_some_list}
use Rattle.solv_proof.specs.Reading.{is_fed}
use Rattle.solv_proof.proofs.Bools.{both, joint}
use Rattle.solv_list.proofs.Numbers.{same_number}
use Rattle.solv_proof.proofs.Cuts.{words_some}

-- neither a space nor a line feed
abbrev pub is_inside : ℕ → Bool
is_inside b = not (b == 32) && not (b == 10)

-- a word of a line whose words are parted by one space
abbrev pub is_unspaced : List ℕ → Bool
is_unspaced w = list_all is_inside w

no_space : (b : ℕ) → is_inside b ≡ true → (b == 32) ≡ false
no_space b h = grind (arith, nat_tests)

no_feed : (b : ℕ) → is_inner b ≡ true → (b == 10) ≡ false
no_feed b h = grind (arith, nat_tests)

-- words joined are the words of their line
pub words_joined : (w : List ℕ) (ws : List (List ℕ)) → is_unspaced w ≡ true → list_all is_unspaced ws ≡ true → words_between (w ++ spaced ws) ≡ w ∷ ws
words_joined [] [] h hs = refl
words_joined [] (v ∷ vs) h hs = let cut = both (is_unspaced v) (list_all is_unspaced vs) hs in ap (λ l. [] ∷ l) (words_joined v vs cut.0 cut.1)
words_joined (c ∷ cs) ws h hs = let cut = both (is_inside c) (is_unspaced cs) h in rw (no_space c cut.0, words_joined cs ws cut.1 hs) refl

-- the words of a line, joined, are the line
longer_joined : (c : ℕ) (ws : List (List ℕ)) → is_some_list ws ≡ true → joined (lengthened c ws) ≡ c ∷ joined ws
longer_joined c [] h = absurd (cc)
longer_joined c (w ∷ ws) h = refl

spaced_joined : (ws : List (List ℕ)) → is_some_list ws ≡ true → joined ([] ∷ ws) ≡ 32 ∷ joined ws
spaced_joined [] h = absurd (cc)
spaced_joined (w ∷ ws) h = refl

pub joined_words : (line : List ℕ) → joined (words_between line) ≡ line
joined_words [] = refl
joined_words (c ∷ cs) = elim (c == 32) as (λ b. (c == 32) ≡ b → joined (cond b ([] ∷ words_between cs) (lengthened c (words_between cs))) ≡ c ∷ cs) [
  | true ↦ λ e. spaced_joined (words_between cs) (words_some cs) ∙ ap (λ l. 32 ∷ l) (joined_words cs) ∙ ap (λ b. b ∷ cs) (sym (same_number c 32 e))
  | false ↦ λ e. longer_joined c (words_between cs) (words_some cs) ∙ ap (λ l. c ∷ l) (joined_words cs)
] refl

-- a word has no line feed, and so has a line of words
word_line : (w : List ℕ) → is_unspaced w ≡ true → is_line w ≡ true
word_line [] h = refl
word_line (c ∷ cs) h =
    let cut = both (is_inside c) (is_unspaced cs) h in
    joint (is_inner c) (is_line cs) (both (not (c == 32)) (is_inner c) cut.0).1 (word_line cs cut.1)

spaced_line : (ws : List (List ℕ)) → list_all is_unspaced ws ≡ true → is_line (spaced ws) ≡ true
spaced_line [] h = refl
spaced_line (w ∷ ws) h =
    let cut = both (is_unspaced w) (list_all is_unspaced ws) h in
    rw (list_all-append is_inner w (spaced ws), word_line w cut.0, spaced_line ws cut.1) refl

pub joined_line : (ws : List (List ℕ)) → list_all is_unspaced ws ≡ true → is_line (joined ws) ≡ true
joined_line [] h = refl
joined_line (w ∷ ws) h =
    let cut = both (is_unspaced w) (list_all is_unspaced ws) h in
    rw (list_all-append is_inner w (spaced ws), word_line w cut.0, spaced_line ws cut.1) refl

-- lines with line feeds are the lines of their text
line_first : (line rest : List ℕ) → is_line line ≡ true → lines_of (line ++ 10 ∷ rest) ≡ line ∷ lines_of rest
line_first [] rest h = refl
line_first (c ∷ cs) rest h = let cut = both (is_inner c) (is_line cs) h in rw (no_feed c cut.0, line_first cs rest cut.1) refl

pub lines_ended : (lines : List (List ℕ)) → list_all is_line lines ≡ true → lines_of (ended_lines lines) ≡ lines
lines_ended [] h = refl
lines_ended (l ∷ ls) h = let cut = both (is_line l) (list_all is_line ls) h in line_first l (ended_lines ls) cut.0 ∙ ap (λ m. l ∷ m) (lines_ended ls cut.1)

-- and their text ends with one
fed_behind : (line rest : List ℕ) → is_fed (10 ∷ rest) ≡ true → is_fed (line ++ 10 ∷ rest) ≡ true
fed_behind [] rest h = h
fed_behind (c ∷ []) rest h = h
fed_behind (c ∷ d ∷ cs) rest h = fed_behind (d ∷ cs) rest h

fed_more : (text : List ℕ) → is_some_list text ≡ true → is_fed text ≡ true → is_fed (10 ∷ text) ≡ true
fed_more [] some h = absurd (cc)
fed_more (c ∷ cs) some h = h

ended_some : (line : List ℕ) (lines : List (List ℕ)) → is_some_list (ended_lines (line ∷ lines)) ≡ true
ended_some [] lines = refl
ended_some (c ∷ cs) lines = refl

pub ended_fed : (line : List ℕ) (lines : List (List ℕ)) → is_fed (ended_lines (line ∷ lines)) ≡ true
ended_fed line [] = fed_behind line [] refl
ended_fed line (l ∷ ls) = fed_behind line (ended_lines (l ∷ ls)) (fed_more (ended_lines (l ∷ ls)) (ended_some l ls) (ended_fed l ls))

-- the lines of a text that ends with a line feed, written out, are the text
begun_ended : (c : ℕ) (ls : List (List ℕ)) (text : List ℕ) (d : ℕ) → ended_lines ls ≡ d ∷ text → ended_lines (begun_with c ls) ≡ c ∷ d ∷ text
begun_ended c [] text d h = absurd (cc)
begun_ended c (l ∷ ls) text d h = ap (λ t. c ∷ t) h

pub ended_of_fed : (text : List ℕ) → is_fed text ≡ true → ended_lines (lines_of text) ≡ text
ended_of_fed [] h = absurd (cc)
ended_of_fed (c ∷ []) h = rw h (ap (λ b. b ∷ []) (sym (same_number c 10 h)))
ended_of_fed (c ∷ d ∷ cs) h = elim (c == 10) as (λ b. (c == 10) ≡ b → ended_lines (cond b ([] ∷ lines_of (d ∷ cs)) (begun_with c (lines_of (d ∷ cs)))) ≡ c ∷ d ∷ cs) [
  | true ↦ λ e. ap (λ t. 10 ∷ t) (ended_of_fed (d ∷ cs) h) ∙ ap (λ b. b ∷ d ∷ cs) (sym (same_number c 10 e))
  | false ↦ λ e. begun_ended c (lines_of (d ∷ cs)) cs d (ended_of_fed (d ∷ cs) h)
] refl
