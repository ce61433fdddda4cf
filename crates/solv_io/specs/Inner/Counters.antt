-- How calls of the outside end, and what counts them.
use Rattle.std.specs.Prelude.{ℕ, ◌≡◌, ◌+◌, ◌==◌, min, Bool, true, false, List, ⊤}
use Rattle.std.specs.List.{list_any}
use Rattle.solv_io.specs.Counters.{last, Ending, Answered, Failing, NoMemory}

-- a counter after one more
abbrev pub counted : ℕ → ℕ
counted n = min (n + 1) last

-- the next call is one of those, by their numbers from 1, that are to fail
abbrev pub next_fails : List ℕ → ℕ → Bool
next_fails fails calls = list_any (λ number. number == counted calls) fails

-- the count of calls: a call that ends without memory has no number
abbrev pub calls_after : Ending → ℕ → ℕ
calls_after Answered calls = counted calls
calls_after Failing calls = counted calls
calls_after NoMemory calls = calls

-- the count of faults, where each failure counts one
abbrev pub faults_after : Ending → ℕ → ℕ
faults_after Answered faults = faults
faults_after Failing faults = counted faults
faults_after NoMemory faults = faults

-- a call fails exactly where it is to, except that running out of memory may take the place of both ends
abbrev pub FailsExactly : Ending → Bool → Type 0
FailsExactly Answered fails = fails ≡ false
FailsExactly Failing fails = fails ≡ true
FailsExactly NoMemory fails = ⊤
