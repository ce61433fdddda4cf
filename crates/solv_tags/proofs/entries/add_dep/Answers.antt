use Rattle.solv_list.proofs.Answers.{on_ok}
use Rattle.solv_tags.proofs.Noted.{short_tail}
use Rattle.solv_tags.proofs.entries.add_dep.Goals as goal

pub returns-clause-tail : goal.returns-clause-tail
returns-clause-tail c = on_ok c.push.result (λ is. short_tail c.args.dep c.args.tail.now c.args.deps.now c.push.new.self (rw c.len.ensures at c.if-len-ge-FIRST.false) is) c.push.ensures.ok
