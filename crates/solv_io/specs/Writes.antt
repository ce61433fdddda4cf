-- What a call that writes to a sink does.
use Rattle.std.specs.Prelude.{ℕ, ◌≡◌, ◌≤◌, List, ◌++◌, length, take, Option, Result, Ok, Err}
use Rattle.std.specs.Option.{option_map}
use Rattle.solv_io.specs.declared.faults.SinkFault.{SinkFault}
use Rattle.solv_io.specs.declared.faults.SinkFault.TheVariants.{Failed, Memory}
use Rattle.solv_io.specs.Counters.{Answered, Failing, NoMemory, Ending}

-- the bytes written, where they are exposed, and a piece after them
abbrev pub then_bytes : Option (List ℕ) → List ℕ → Option (List ℕ)
then_bytes written piece = option_map (λ bytes. bytes ++ piece) written

-- some prefix of the piece was written
abbrev pub WritesPrefix : Option (List ℕ) → Option (List ℕ) → List ℕ → Type 0
WritesPrefix old new piece = (n : ℕ) × (n ≤ length piece) × (new ≡ then_bytes old (take n piece))

-- how a fault ends a write
abbrev pub fault_ending : SinkFault → Ending
fault_ending Failed = Failing
fault_ending Memory = NoMemory

-- how a write ends
abbrev pub write_ending : {T : Type 0} → Result T SinkFault → Ending
write_ending (Ok x) = Answered
write_ending (Err fault) = fault_ending fault
