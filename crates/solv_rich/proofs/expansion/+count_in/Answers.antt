use Rattle.std.proofs.Common.{◌≡◌, ◌∙◌, sym, ap, length, true, ◌&&◌}
use Rattle.std.specs.Prelude.{◌==◌}
use Rattle.std.proofs.lemmas.Bool.{and_parts, eqb-true}
use Rattle.solv_rich.specs.Counts.{saturated}
use Rattle.solv_rich.specs.Inner.Expansions.{clauses_in, are_counted}
use Rattle.solv_rich.proofs.expansion.+count_in.Goals as goal
use Rattle.solv_rich.proofs.Lengths.{length-times}

pub returns-in-Crossed-clause-exact : goal.returns-in-Crossed-clause-exact
returns-in-Crossed-clause-exact t c =
    let first = c.in-Crossed.first.value in
    let second = c.in-Crossed.field-2.value in
    let counted : (c.in-Crossed.count == saturated (length (clauses_in second)) && (are_counted first && are_counted second)) ≡ true = rw c.in-Crossed.is at c.requires in
    let own : c.in-Crossed.count ≡ saturated (length (clauses_in second)) = eqb-true c.in-Crossed.count (saturated (length (clauses_in second))) (and_parts (c.in-Crossed.count == saturated (length (clauses_in second))) (are_counted first && are_counted second) counted).0 in
    let other : c.count_in-in-Crossed.result ≡ saturated (length (clauses_in first)) = c.count_in-in-Crossed.ensures.exact ∙ ap (λ e. saturated (length (clauses_in e))) c.deref-in-Crossed.ensures in
    rw c.in-Crossed.is (c.product.ensures.exact (length (clauses_in first)) (length (clauses_in second)) other own ∙ ap saturated (sym (length-times (clauses_in first) (clauses_in second))))
