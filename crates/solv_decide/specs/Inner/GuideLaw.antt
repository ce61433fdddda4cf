-- Who asks by a lawful plan keeps the law of guides.
use Rattle.std.specs.Prelude.{◌≡◌, ℕ, ℤ, Bool, List}
use Rattle.std.proofs.Common.{subst}
use Rattle.solv_trail.specs.Inner.Asked.{KeepsLaw}
use Rattle.solv_trail.specs.Asked.{enabled_clauses}
use Rattle.solv_plan.specs.Inner.Plans.{plan_asks}
use Rattle.solv_decide.specs.Inner.Deciding.{Asker, IsLawful}

pub lawful : (asker : Asker) (count : ℕ) (clauses : List (List ℤ)) (owners : List ℕ) (enabled : List Bool) → IsLawful asker clauses owners → asker.packages ≡ count
    → KeepsLaw count (enabled_clauses enabled clauses owners) (λ known. plan_asks asker.plan known enabled)
lawful asker count clauses owners enabled law same =
    let Q : ℕ → Type 0 = λ n. KeepsLaw n (enabled_clauses enabled clauses owners) (λ known. plan_asks asker.plan known enabled) in
    subst Q same (law enabled)
