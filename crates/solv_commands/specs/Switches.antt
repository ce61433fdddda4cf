-- Switches: what a word turns on or off in a record of Booleans, by its name.
use Rattle.std.specs.Prelude.{ℕ, Bool, true, List, [], ◌∷◌, find, Option, Some, option_map, option_and_then}
use Rattle.std.specs.Str.{bytes_eq}

-- a name, whether it is on in a record, and the record with it on or off
pub record Switch (A : Type 0) : Type 0 where
  pub name : List ℕ
  pub is_on : A → Bool
  pub turned : Bool → A → A

-- a record with the switch of this name on or off, of all that there are; none where the name is unknown
abbrev pub with_switch : {A : Type 0} → List (Switch A) → Bool → List ℕ → A → Option A
with_switch switches on name a = option_map (λ switch. switch.turned on a) (find (λ switch. bytes_eq name switch.name) switches)

-- the same with several on, one after the other
abbrev pub with_switches : {A : Type 0} → List (Switch A) → List (List ℕ) → A → Option A
with_switches switches [] a = Some a
with_switches switches (name ∷ names) a = option_and_then (with_switches switches names) (with_switch switches true name a)
