use Rattle.std.proofs.Common.{◌≡◌, ◌-◌, length, drop, take, ◌∙◌, ap, arith, ℕ, List, length-drop}
use Rattle.std.proofs.lemmas.Grind.{common_steps}
use Rattle.solv_deps.proofs.Lexing.{no_word, split_word}
use Rattle.solv_deps.proofs.lexer.next_word.Goals as goal

pub returns-then-start-text-clause-none : goal.returns-then-start-text-clause-none
returns-then-start-text-clause-none c = no_word c.args.text.now (omega arith)

take_rest : (t : List ℕ) (k : ℕ) → take (length t - k) (drop k t) ≡ drop k t
take_rest t k = grind (arith, common_steps)

pub returns-clause-found : goal.returns-clause-found
returns-clause-found c =
    let t = c.args.text.now in
    let start = c.count_blanks-start.result in
    let r : List ℕ = take (length t - start) (drop start t) in
    let same : r ≡ drop start t = take_rest t start in
    let long : length r ≡ length t - start = ap length same ∙ length-drop start t in
    rw (c.split_at.ensures.front, c.split_at.ensures.back)
    (split_word t r c.count_word-end.result (omega arith) (same ∙ ap (λ k. drop k t) c.count_blanks-start.ensures) c.count_word-end.ensures.length (omega arith))
