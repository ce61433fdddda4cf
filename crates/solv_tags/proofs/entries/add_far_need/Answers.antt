use Rattle.std.proofs.Common.{◌≡◌, ◌∙◌, length, sym, ap}
use Rattle.solv_tags.proofs.Noted.{need_after, need_marked, marks_one}
use Rattle.solv_tags.proofs.entries.add_far_need.Goals as goal

pub returns-in-Some-clause-added : goal.returns-in-Some-clause-added
returns-in-Some-clause-added c = marks_one c.args.dep c.in-Some.place c.args.pre c.args.needs.now.items c.mark.new.needs.items (rw c.deref.ensures.value at c.in-Some.ensures.once) c.mark.ensures

pub returns-in-Some-clause-tail : goal.returns-in-Some-clause-tail
returns-in-Some-clause-tail c = rw c.mark.ensures (need_marked c.args.dep c.args.pre c.args.tail.now c.args.needs.now.items c.requires)

pub returns-clause-tail : goal.returns-clause-tail
returns-clause-tail c =
    let count : c.len.result ≡ length c.args.needs.now.items = c.len.ensures ∙ sym c.deref.ensures.len ∙ ap length c.deref.ensures.value in
    need_after c.args.dep c.args.pre c.len.result c.args.tail.now c.args.needs.now.items count c.requires c.number_of.result c.note.new.self c.push.new.self.items c.number_of.ensures
    (rw c.deref.ensures.value at c.in_default.ensures.none) c.in-Ok.ensures c.in_ok-push.ensures.items
