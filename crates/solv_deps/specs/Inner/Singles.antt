-- A name, or a name with a comparison and an EVR, as it is borrowed from a text.
use Rattle.std.specs.Prelude.{ℕ, List, []}
use Rattle.solv_base.specs.Dependency.{Capability, Dep, plain, versioned}
use Rattle.solv_deps.specs.Inner.Reading.{Hand, Point, in_chain, operand_due}
use Rattle.solv_deps.specs.declared.sign.Joint.TheVariants.{Either}
use Rattle.solv_deps.specs.declared.single.Single.{Single}
use Rattle.solv_deps.specs.declared.single.Single.TheVariants.{Name, Versioned}

abbrev pub capability_of : Single → Capability (List ℕ)
capability_of (Name name) = plain name.now
capability_of (Versioned name c evr) = versioned name.now c evr.now

-- an operand is due after this, in no parentheses, and so many operators stand before it
abbrev pub operand_at : ℕ → Hand → Point
operand_at n hand = record { outer = []; operators = n; due = operand_due hand }

-- after a first operand and `|`
abbrev pub behind_either : Dep (List ℕ) → Point
behind_either left = operand_at 1 (in_chain Either left)
