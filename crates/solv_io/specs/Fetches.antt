-- What a call that fetches a file does.
use Rattle.std.specs.Prelude.{ℕ, ◌≡◌, ◌≤◌, List, [], ◌∷◌, ◌++◌, length, Option, Result, Ok, Err}
use Rattle.std.specs.Option.{option_map}
use Rattle.solv_io.specs.declared.faults.FileFault.{FileFault}
use Rattle.solv_io.specs.declared.faults.FileFault.TheVariants.{Failed, Memory}
use Rattle.solv_io.specs.Counters.{Answered, Failing, NoMemory, Ending}

-- how a fault ends a fetch
abbrev pub fault_ending : FileFault → Ending
fault_ending Failed = Failing
fault_ending Memory = NoMemory

-- how a fetch ends
abbrev pub fetch_ending : {T : Type 0} → Result T FileFault → Ending
fetch_ending (Ok x) = Answered
fetch_ending (Err fault) = fault_ending fault

-- the names of all calls so far, after a call for one more: a call that ends without memory leaves no name
abbrev pub names_after : Ending → List (List ℕ) → List ℕ → List (List ℕ)
names_after Answered names name = names ++ name ∷ []
names_after Failing names name = names ++ name ∷ []
names_after NoMemory names name = names

-- the same, where the names are exposed
abbrev pub asked_after : Ending → Option (List (List ℕ)) → List ℕ → Option (List (List ℕ))
asked_after ending asked name = option_map (λ names. names_after ending names name) asked

-- some bytes were put at the end, at most so many
abbrev pub AppendsUpTo : ℕ → List ℕ → List ℕ → Type 0
AppendsUpTo most old new = (piece : List ℕ) × (length piece ≤ most) × (new ≡ old ++ piece)
