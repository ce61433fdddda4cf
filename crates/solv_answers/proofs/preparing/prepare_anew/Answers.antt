use Rattle.solv_pool.specs.Prelude.{catalog_of}
use Rattle.solv_answers.proofs.Shared.{due_of_packages}
use Rattle.solv_answers.proofs.preparing.prepare_anew.Goals as goal

pub weigh_packages-requires : goal.weigh_packages-requires
weigh_packages-requires c = record {
  over = c.requires.closed.universe;
  of_task = c.requires.index;
  marks_each = record { verify = c.requires.each.verify; multiversion = c.requires.each.multiversion };
  formed = c.requires.formed;
}

pub returns-in-Err-clause-fault : goal.returns-in-Err-clause-fault
returns-in-Err-clause-fault c = due_of_packages (catalog_of c.args.task.now) c.args.task.now.flags c.args.task.now.jobs c.args.marks c.in-Err.fault c.in-Err.ensures
