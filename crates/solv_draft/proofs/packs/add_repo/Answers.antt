use Rattle.std.proofs.Common.{◌≡◌, sym, ap, ◌∙◌, w32, to_z, of_z}
use Rattle.std.proofs.lemmas.Int.{to_z-of_z}
use Rattle.std.specs.Prelude.{is_some}
use Rattle.solv_draft.proofs.Drawing.{kept_grown, repo_twice, repo_refused, repo_drawn}
use Rattle.solv_draft.proofs.packs.add_repo.Goals as goal

pub returns-then-is_some-clause-refused : goal.returns-then-is_some-clause-refused
returns-then-is_some-clause-refused c = repo_twice c.args.task.now c.requires c.args.name.now c.args.priority (sym (ap is_some c.repo_named.ensures) ∙ sym c.is_some.ensures ∙ c.if-is_some.true)

pub returns-in-Err-clause-refused : goal.returns-in-Err-clause-refused
returns-in-Err-clause-refused c =
    rw c.fault_of_text.ensures
    (repo_refused c.args.task.now c.requires c.args.name.now c.args.priority c.in-Err.fault (sym (ap is_some c.repo_named.ensures) ∙ sym c.is_some.ensures ∙ c.if-is_some.false) c.in-Err.ensures.refused)

pub returns-in-Err-clause-kept : goal.returns-in-Err-clause-kept
returns-in-Err-clause-kept c = kept_grown c.args.task.now c.requires c.enter_text.new.pool c.enter_text.ensures.grows

pub returns-in-Ok-add_repo-clause-done : goal.returns-in-Ok-add_repo-clause-done
returns-in-Ok-add_repo-clause-done c =
    let same : to_z w32 (of_z w32 c.args.priority) ≡ c.args.priority = to_z-of_z w32 c.args.priority c.ranges.priority in
    rw (c.in-Ok-add_repo.ensures.added, same)
    (repo_drawn c.args.task.now c.requires c.args.name.now c.args.priority c.in-Ok.id c.enter_text.new.pool (sym (ap is_some c.repo_named.ensures) ∙ sym c.is_some.ensures ∙ c.if-is_some.false)
    c.enter_text.ensures.grows c.in-Ok.ensures.entered c.in-Ok.ensures.text c.in-Ok.ensures.within)

pub returns-in-Err-add_repo-clause-kept : goal.returns-in-Err-add_repo-clause-kept
returns-in-Err-add_repo-clause-kept c = rw c.in-Err-add_repo.ensures.refused (kept_grown c.args.task.now c.requires c.enter_text.new.pool c.enter_text.ensures.grows)
