-- The words of a rule's clauses are at most those of its clauses as they are made; rules of few words, none too rich, pass no limit.
use Rattle.std.proofs.Common.{◌≡◌, ◌≤◌, ◌+◌, ℕ, Bool, true, false, not, cond, List, [], ◌∷◌, map, length, None, inl, inr, refl, ap, ◌∙◌, arith}
use Rattle.std.specs.Prelude.{ℤ, filter, nat_lt}
use Rattle.std.proofs.lemmas.Bool.Decides.{nat_tests}
use Rattle.std.proofs.lemmas.List.{length-map}
use Rattle.solv_pool.specs.Prelude.{Catalog, is_out, Clause, shape_clauses, same_literal, contains_literal, is_always_true, firsts, shortened, kept, number_of, in_numbers, rule_clauses, words, words_of_all, HardRule, shape_of}
use Rattle.solv_pool.proofs.Members.{Has}
use Rattle.solv_rules.specs.Books.{most_words, overrun, rich_fault, first_fault}
use Rattle.solv_rules.specs.Inner.Books.{or_else, rule_fault}
use Rattle.solv_leaving.proofs.Totals.{total, total_is, fewer_pass}

-- each literal once is no more literals
fewer_firsts : (before c : Clause) → length (firsts before c) ≤ length c
fewer_firsts before [] = omega arith
fewer_firsts before (l ∷ ls) = step (contains_literal before l) (fewer_firsts before ls) (fewer_firsts (l ∷ before) ls)
  where
    step : (b : Bool) → length (firsts before ls) ≤ length ls → length (firsts (l ∷ before) ls) ≤ length ls → length (cond b (firsts before ls) (l ∷ firsts (l ∷ before) ls)) ≤ length (l ∷ ls)
    step true h k = omega (arith, h)
    step false h k = omega (arith, k)

fewer_shortened : (c : Clause) → words (map number_of (shortened c)) ≤ length c + 4
fewer_shortened c =
    let same = length-map (shortened c) number_of in
    let once = fewer_firsts [] (filter (λ l. not (same_literal (is_out 0) l)) c) in
    let left = fewer_pass (λ l. not (same_literal (is_out 0) l)) c in
    omega (arith, same, once, left)

-- the words of clauses as they are made
abbrev pub raw_words : Clause → ℕ
raw_words c = length c + 4

fewer_kept : (cs : List Clause) → total words (in_numbers (kept cs)) ≤ total raw_words cs
fewer_kept [] = omega arith
fewer_kept (c ∷ cs) = step (is_always_true c) (fewer_kept cs) (fewer_shortened c)
  where
    step : (b : Bool) → total words (in_numbers (kept cs)) ≤ total raw_words cs → words (map number_of (shortened c)) ≤ length c + 4
        → total words (in_numbers (map shortened (cond (not b) (c ∷ filter (λ c. not (is_always_true c)) cs) (filter (λ c. not (is_always_true c)) cs)))) ≤ total raw_words (c ∷ cs)
    step true h k = omega (arith, h)
    step false h k = omega (arith, h, k)

-- the words of a rule
abbrev pub size : Catalog → HardRule → ℕ
size catalog r = total words (rule_clauses catalog r)

pub size_made : (catalog : Catalog) (r : HardRule) → size catalog r ≤ total raw_words (shape_clauses catalog (shape_of r))
size_made catalog r = fewer_kept (shape_clauses catalog (shape_of r))

none_over : (before : ℕ) (cs : List (List ℤ)) → before + total words cs ≤ most_words → overrun before cs ≡ None
none_over before [] h = refl
none_over before (c ∷ cs) h =
    let fits : nat_lt most_words (before + words c) ≡ false = grind (arith, nat_tests, h) in
    rw fits (none_over (before + words c) cs (omega (arith, h)))

pub passes_no_limit : (catalog : Catalog) (before : ℕ) (rs : List HardRule) → ((r : HardRule) → Has rs r → rich_fault catalog (shape_of r) ≡ None) → before + total (size catalog) rs ≤ most_words → first_fault catalog before rs ≡ None
passes_no_limit catalog before [] h k = refl
passes_no_limit catalog before (r ∷ rs) h k =
    let none : rule_fault catalog before r ≡ None = ap (λ o. or_else o (overrun before (rule_clauses catalog r))) (h r (inl refl)) ∙ none_over before (rule_clauses catalog r) (omega (arith, k)) in
    let own = total_is words (rule_clauses catalog r) in
    ap (λ o. or_else o (first_fault catalog (before + words_of_all (rule_clauses catalog r)) rs)) none
    ∙ passes_no_limit catalog (before + words_of_all (rule_clauses catalog r)) rs (λ q there. h q (inr there)) (omega (arith, own, k))
