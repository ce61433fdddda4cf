use Rattle.std.proofs.Common.{◌≡◌, sym, false, ◌∙◌}
use Rattle.std.specs.List.{list_any}
use Rattle.std.specs.Prelude.{◌==◌, length}
use Rattle.solv_list.proofs.Answers.{on_ok}
use Rattle.solv_tags.proofs.Noted.{tail_after}
use Rattle.solv_tags.proofs.entries.add_far_name.Goals as goal

pub returns-clause-tail : goal.returns-clause-tail
returns-clause-tail c =
    let count : c.len.result ≡ length c.args.names.now = c.len.ensures in
    let none : list_any (λ other. c.args.name == other) c.args.names.now ≡ false = rw c.held.ensures at (sym c.has_name.ensures ∙ c.if-has_name.false) in
    on_ok c.push.result (λ is. tail_after c.args.name c.name_number.result c.len.result c.args.tail.now c.args.names.now c.note.new.self c.push.new.self c.name_number.ensures count c.requires none c.in-Ok.ensures is) c.push.ensures.ok
