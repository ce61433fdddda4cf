use Rattle.std.proofs.Common.{Option, subst}
use Rattle.solv_solved.specs.Inner.Finding.{IsFoundIn}
use Rattle.solv_solved.specs.declared.building.Found.{Found}
use Rattle.solv_solved.proofs.Built.{nothing_found}
use Rattle.solv_solved.proofs.outcomes.Held.solve.Goals as goal

pub returns-in-Ok-None-clause-solved : goal.returns-in-Ok-None-clause-solved
returns-in-Ok-None-clause-solved c =
    nothing_found c.args.budget c.args.self.now (subst (λ (found : Option Found). IsFoundIn c.args.budget c.args.self.now found) c.in-Ok-None.field-0-is c.in-Ok-None.ensures)
