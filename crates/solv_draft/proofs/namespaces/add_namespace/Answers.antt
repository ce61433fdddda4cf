use Rattle.std.proofs.Common.{◌≡◌, length, true, false, rules}
use Rattle.std.specs.Prelude.{nat_le}
use Rattle.std.specs.List.{list_all}
use Rattle.solv_draft.proofs.Drawing.{kept_grown, namespace_drawn, namespace_nowhere, namespace_refused}
use Rattle.solv_draft.proofs.namespaces.add_namespace.Goals as goal

pub returns-then-not-are_there-clause-refused : goal.returns-then-not-are_there-clause-refused
returns-then-not-are_there-clause-refused c =
    let none : list_all (λ p. nat_le p (length c.args.task.now.universe.packages)) c.args.packs.now ≡ false = search rules in
    namespace_nowhere c.args.task.now c.requires c.args.name.now c.args.packs.now none

pub returns-in-Err-clause-refused : goal.returns-in-Err-clause-refused
returns-in-Err-clause-refused c =
    let there : list_all (λ p. nat_le p (length c.args.task.now.universe.packages)) c.args.packs.now ≡ true = search rules in
    rw c.fault_of_text.ensures (namespace_refused c.args.task.now c.requires c.args.name.now c.args.packs.now c.in-Err.fault there c.in-Err.ensures.refused)

pub returns-in-Err-clause-kept : goal.returns-in-Err-clause-kept
returns-in-Err-clause-kept c = kept_grown c.args.task.now c.requires c.enter_text.new.pool c.enter_text.ensures.grows

pub returns-in-Ok-put_in-clause-done : goal.returns-in-Ok-put_in-clause-done
returns-in-Ok-put_in-clause-done c =
    let there : list_all (λ p. nat_le p (length c.args.task.now.universe.packages)) c.args.packs.now ≡ true = search rules in
    rw c.in-Ok-put_in.ensures.ok
    (namespace_drawn c.args.task.now c.requires c.args.name.now c.args.packs.now c.in-Ok.id c.enter_text.new.pool c.holds_each_once.ensures there c.enter_text.ensures.grows c.in-Ok.ensures.entered c.in-Ok.ensures.text c.in-Ok.ensures.within)

pub returns-in-Err-put_in-clause-kept : goal.returns-in-Err-put_in-clause-kept
returns-in-Err-put_in-clause-kept c = rw c.in-Err-put_in.ensures.err (kept_grown c.args.task.now c.requires c.enter_text.new.pool c.enter_text.ensures.grows)
