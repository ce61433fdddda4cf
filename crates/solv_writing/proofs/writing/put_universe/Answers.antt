use Rattle.std.proofs.Common.{◌++◌, map, ap, ◌∙◌}
use Rattle.solv_io.specs.Lines.{ended_lines}
use Rattle.solv_writing.specs.Inner.ByIds.{namespace_text}
use Rattle.solv_writing.proofs.WholeTexts.{universe_put}
use Rattle.solv_writing.proofs.writing.put_universe.Goals as goal

pub returns : goal.returns
returns c =
    let task = c.args.task.now in
    universe_put task c.args.into.now.items c.put_repositories.new.into.items c.put_system.new.into.items c.put_disabled_packages.new.into.items c.put_namespaces.new.into.items c.marks_each.ensures.disabled_each
    c.in_ok-put_repositories.ensures c.in_ok-put_system.ensures c.in_ok-put_disabled_packages.ensures
    (c.in_ok-put_namespaces.ensures ∙ ap (λ ns. c.put_disabled_packages.new.into.items ++ ended_lines (map (namespace_text task.pool task.universe) ns)) c.held.ensures)
