use Rattle.std.proofs.Common.{ℕ, List, [], sym, ap, subst}
use Rattle.std.specs.Prelude.{ℤ}
use Rattle.solv_core.specs.Cores.{CoreOf}
use Rattle.solv_core.specs.Inner.Holding.{IsHeldBy}
use Rattle.solv_core.proofs.Holding.{nothing_held}
use Rattle.solv_core.proofs.core_run.Core.new.Goals as goal

pub returns-clause-held : goal.returns-clause-held
returns-clause-held c = λ ledger.
    let made : CoreOf = record { clauses = c.args.memory.now.rules; owners = c.args.owners.now; packages = c.args.packages } in
    let P : List ℕ → List (List ℤ) → Type 0 = λ k l. IsHeldBy (record { made = made; in_use = record { kept = k; first = 0; clauses = l } }) ledger in
    subst (λ k. P k c.new-2.result.rules) (sym c.new-3.ensures.items) (subst (λ l. P [] l) (sym (ap (λ m. m.rules) c.new-2.ensures)) (nothing_held made ledger))
