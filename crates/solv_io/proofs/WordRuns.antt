-- A run of bytes that are no blanks is one word, and the words after it are those of a line of their own.
use Rattle.std.proofs.Common.{ℕ, ◌≡◌, ◌+◌, ◌<◌, List, [], ◌∷◌, Bool, true, false, take, drop, get_or, length, refl, ◌∙◌, arith, cond}
use Rattle.std.specs.Prelude.{not}
use Rattle.std.specs.List.{prefix_len}
use Rattle.solv_io.specs.Words.{is_blank, begins_word, lengthened, words_of}
use Rattle.solv_list.proofs.Lists.{drop_one_more, take_one_more}

inside : ℕ → Bool
inside byte = not (is_blank byte)

pub words_at : (c : ℕ) (cs : List ℕ) → is_blank c ≡ false → words_of (c ∷ cs) ≡ cond (begins_word cs) (lengthened c (words_of cs)) ((c ∷ []) ∷ words_of cs)
words_at c cs h = rw h refl

run_cut : (c : ℕ) (cs : List ℕ) → is_blank c ≡ false
    → words_of (c ∷ cs) ≡ (c ∷ take (prefix_len (λ b. not (is_blank b)) cs) cs) ∷ words_of (drop (prefix_len (λ b. not (is_blank b)) cs) cs)
run_cut c [] h = words_at c [] h
run_cut c (d ∷ ds) h =
    let n = prefix_len (λ b. not (is_blank b)) ds in
    words_at c (d ∷ ds) h ∙
    elim (is_blank d) as (λ b. is_blank d ≡ b → cond (not b) (lengthened c (words_of (d ∷ ds))) ((c ∷ []) ∷ words_of (d ∷ ds))
    ≡ (c ∷ take (cond (not b) (1 + prefix_len (λ e. not (is_blank e)) ds) 0) (d ∷ ds)) ∷ words_of (drop (cond (not b) (1 + prefix_len (λ e. not (is_blank e)) ds) 0) (d ∷ ds))) [
      | true ↦ λ e. refl
      | false ↦ λ e. rw (take_one_more n d ds, drop_one_more n d ds, run_cut d ds e) refl
    ] refl

-- the word at the start of a line, and the line after it
pub word_cut : (line : List ℕ) (n : ℕ) → 0 < length line → is_blank (get_or line 0 0) ≡ false → n ≡ prefix_len (λ b. not (is_blank b)) line
    → words_of line ≡ take n line ∷ words_of (drop n line)
word_cut [] n l h e = absurd (omega arith)
word_cut (c ∷ cs) n l h e =
    let m = prefix_len (λ b. not (is_blank b)) cs in
    let longer : n ≡ 1 + m = e ∙ (rw h refl) in
    rw (longer, take_one_more m c cs, drop_one_more m c cs) (run_cut c cs h)
