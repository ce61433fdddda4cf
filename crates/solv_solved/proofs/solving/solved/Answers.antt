use Rattle.std.proofs.Common.{refl}
use Rattle.solv_solved.proofs.solving.solved.Goals as goal

pub invariant_of-result : goal.invariant_of-result
invariant_of-result c = record {
  closed = c.requires.closed;
  forms = c.requires.forms;
  hard = c.requires.found.rules;
  fits = c.requires.found.fits;
  index = c.requires.found.of_task;
  proved = c.requires.found.proved;
}

pub returns : goal.returns
returns c = record { of_script = refl; fits = c.requires.found.fits; good = c.requires.found.good; direct = c.requires.found.direct }
