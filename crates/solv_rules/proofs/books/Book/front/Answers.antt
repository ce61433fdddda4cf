use Rattle.std.proofs.Common.{◌≤◌, ◌∙◌, ℕ, length, ap, sym, subst}
use Rattle.solv_pool.specs.Prelude.{rule_with}
use Rattle.solv_rules.specs.Books.{Written, read_rules}
use Rattle.solv_rules.proofs.Fronts.{cut_front}
use Rattle.std.proofs.lemmas.List.{length-map}
use Rattle.solv_rules.proofs.books.Book.front.Goals as goal

pub returns-clause-clauses : goal.returns-clause-clauses
returns-clause-clauses c = λ catalog book fits.
    let was = c.self.inside.draft in
    let low : c.args.rules ≤ length (read_rules c.args.self.rules) = subst (λ (n : ℕ). c.args.rules ≤ n) (sym (length-map c.args.self.rules.list (rule_with c.args.self.rules.sets))) c.requires in
    cut_front catalog (read_rules c.args.self.rules) c.args.rules was.memory.rules was.owners.items was.spans.items c.keep_first.new.draft low
    (ap (λ (b : Written). b.clauses) c.self.view_is ∙ book.clauses) (ap (λ (b : Written). b.owners) c.self.view_is ∙ book.owners) (ap (λ (b : Written). b.spans) c.self.view_is ∙ book.spans) fits
    c.keep_first.ensures.rules c.keep_first.ensures.owners c.keep_first.ensures.spans c.keep_first.ensures.draft
