use Rattle.std.proofs.Common.{◌-◌}
use Rattle.solv_rules.proofs.Packages.{name_there, conflicts_there, obsoletes_there}
use Rattle.solv_rules.proofs.weighing.pairs_of.Goals as goal

pub of_name-requires : goal.of_name-requires
of_name-requires c = rw (c.name.ensures, c.requires.index.by_name_each) (name_there c.args.task.now (c.args.pack - 1) c.package-held.result c.requires.over c.package-held.ensures)

pub meeting-conflicting-requires : goal.meeting-conflicting-requires
meeting-conflicting-requires c = rw (c.conflicts.ensures, c.requires.index.providers_each) (conflicts_there c.args.task.now (c.args.pack - 1) c.package-held.result c.requires.over c.package-held.ensures)

pub covered-obsoleted-requires : goal.covered-obsoleted-requires
covered-obsoleted-requires c = rw (c.obsoletes.ensures, c.requires.index.named_each) (obsoletes_there c.args.task.now (c.args.pack - 1) c.package-held.result c.requires.over c.package-held.ensures)
