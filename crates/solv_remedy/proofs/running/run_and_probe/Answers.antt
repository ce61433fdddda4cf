use Rattle.std.proofs.Common.{arith, length}
use Rattle.solv_remedy.proofs.Ledgers.{runs_one}
use Rattle.solv_remedy.proofs.Tried.{owners_within}
use Rattle.solv_remedy.proofs.running.run_and_probe.Goals as goal

pub solve_probing-requires : goal.solve_probing-requires
solve_probing-requires c =
    let s = c.args.setting.now in
    let may = c.requires.may_run in
    let few = may.unspent in
    record {
      enabled = owners_within may.set_up.0 s.phases.now c.args.core.now.made s.book.now s.fixed.now may.set_up.1 (length c.args.enabled.now) c.requires.size;
      asked = (may.set_up.0, may.set_up.1.asked);
      budget = may.budget;
      few = omega (arith, few);
      held = may.held;
    }

pub returns-clause-has_run : goal.returns-clause-has_run
returns-clause-has_run c =
    let e = c.solve_probing.ensures in
    record {
      core = e.run.core;
      held = e.run.held;
      runs = runs_one _ _ _ e.run c.requires.fixed e.good;
    }
