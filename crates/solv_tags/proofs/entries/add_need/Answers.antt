use Rattle.std.proofs.Common.{◌≡◌, ◌∙◌, length, sym, ap, refl, arith}
use Rattle.solv_tags.proofs.Noted.{one_place, need_few, need_marked, marks_one}
use Rattle.solv_tags.proofs.entries.add_need.Goals as goal

pub mark-requires-clause-once : goal.mark-requires-clause-once
mark-requires-clause-once c = one_place c.args.dep c.in-Some.place _ c.requires.apart (rw c.deref.ensures.value at c.in-Some.ensures.some)

pub returns-in-Some-clause-added : goal.returns-in-Some-clause-added
returns-in-Some-clause-added c =
    marks_one c.args.dep c.in-Some.place c.args.pre c.args.needs.now.items c.mark.new.needs.items (one_place c.args.dep c.in-Some.place _ c.requires.apart (rw c.deref.ensures.value at c.in-Some.ensures.some)) c.mark.ensures

pub returns-in-Some-clause-tail : goal.returns-in-Some-clause-tail
returns-in-Some-clause-tail c = rw c.mark.ensures (need_marked c.args.dep c.args.pre c.args.tail.now c.args.needs.now.items c.requires)

pub returns-clause-tail : goal.returns-clause-tail
returns-clause-tail c =
    let count : c.len.result ≡ length c.args.needs.now.items = c.len.ensures ∙ sym c.deref.ensures.len ∙ ap length c.deref.ensures.value in
    need_few c.args.dep c.args.pre (length c.args.needs.now.items) c.args.tail.now c.args.needs.now.items refl c.requires c.push.new.self.items (omega (arith, count, c.if-len-ge-FIRST.false))
    (rw c.deref.ensures.value at c.in_default.ensures.none) c.in_ok-push.ensures.items
