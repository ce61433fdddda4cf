-- What a run finds that probes at its end.
use Rattle.std.specs.Prelude.{◌<◌, ◌^◌, ◌++◌, ℕ, ℤ, Bool, List, Result, Ok, Err}
use Rattle.std.specs.declared.alloc.AllocError.{AllocError}
use Rattle.solv_derive.specs.declared.logs.Step.{Step}
use Rattle.solv_trail.specs.Inner.Held.{Held}
use Rattle.solv_trail.specs.Inner.Propagated.{IsReasoned}
use Rattle.solv_trail.specs.Propagated.{in_use}
use Rattle.solv_core.specs.Inner.Contradictions.{AreRefuted}
use Rattle.solv_core.specs.Inner.Holding.{AreInUse, entry_of}
use Rattle.solv_core.specs.declared.ledger.Entry.{Entry}
use Rattle.solv_core.specs.declared.verdicts.Probed.{Probed}
use Rattle.solv_core.specs.declared.verdicts.Probed.TheVariants as probed
use Rattle.solv_core.specs.declared.verdicts.Verdict.{Verdict}
use Rattle.solv_core.specs.declared.verdicts.Verdict.TheVariants as verdict

-- the verdict, whatever stands beside it
abbrev pub verdict_of : Probed → Verdict
verdict_of (probed.Sat t found) = verdict.Sat t
verdict_of (probed.Unsat log) = verdict.Unsat log
verdict_of probed.Spent = verdict.Spent

-- the verdict of an answer
abbrev pub verdict_in : Result Probed AllocError → Result Verdict AllocError
verdict_in (Ok l) = Ok (verdict_of l)
verdict_in (Err e) = Err e

-- what stands beside a set is refuted by the enabled rules
abbrev pub AreRefutedBeside : List (List ℤ) → List ℕ → ℕ → List Bool → List ℕ → Probed → Type 0
AreRefutedBeside clauses owners packages enabled asked (probed.Sat t found) = AreRefuted clauses owners packages enabled asked found
AreRefutedBeside clauses owners packages enabled asked (probed.Unsat log) = Unit {0}
AreRefutedBeside clauses owners packages enabled asked probed.Spent = Unit {0}

-- each literal was chosen, or follows by clauses of enabled rules and by learnt ones, which entries of a ledger derive from such clauses
pub record IsFounded (book : List (List ℤ)) (owners : List ℕ) (enabled : List Bool) (known : Held) (learnt : List (List ℤ)) (kept : List ℕ) (first : ℕ) (entries : List Entry) : Type 0 where
  pub small : first < 2 ^ 32
  pub reasoned : IsReasoned (book ++ learnt) (in_use owners enabled) known
  pub steps : List Step
  pub derived : AreInUse book (in_use owners enabled) known.count entries (entry_of kept first) learnt steps
