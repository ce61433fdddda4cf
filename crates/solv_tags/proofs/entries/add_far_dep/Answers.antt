use Rattle.std.proofs.Common.{◌≡◌, sym, false, ◌∙◌}
use Rattle.std.specs.List.{list_any}
use Rattle.std.specs.Prelude.{◌==◌, length}
use Rattle.solv_list.proofs.Answers.{on_ok}
use Rattle.solv_tags.proofs.Noted.{tail_after}
use Rattle.solv_tags.proofs.entries.add_far_dep.Goals as goal

pub returns-clause-tail : goal.returns-clause-tail
returns-clause-tail c =
    let count : c.len.result ≡ length c.args.deps.now = c.len.ensures in
    let none : list_any (λ other. c.args.dep == other) c.args.deps.now ≡ false = rw c.held.ensures at (sym c.has_dep.ensures ∙ c.if-has_dep.false) in
    on_ok c.push.result (λ is. tail_after c.args.dep c.number_of.result c.len.result c.args.tail.now c.args.deps.now c.note.new.self c.push.new.self c.number_of.ensures count c.requires none c.in-Ok.ensures is) c.push.ensures.ok
