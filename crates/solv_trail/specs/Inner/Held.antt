-- What a trail holds.
use Rattle.std.specs.Prelude.{◌≡◌, ℕ, ℤ, pos, negsuc, ◌+◌, ◌<◌, ◌≤◌, ◌==◌, nat_abs, true, List, length, slice_index, slice_index_or, if◌then◌else◌}
use Rattle.std.specs.List.{sum_by, list_all}
use Rattle.solv_trail.specs.declared.questions.Question.{Question}
use Rattle.solv_pool.specs.Prelude.{is_fact, names_package}
use Rattle.solv_trail.specs.Inner.Numbers.{has, room}

-- the number of packages, the literals in their order, the rule of each, the places of the choices, and what was asked at each
pub record Held : Type 0 where
  pub count : ℕ
  pub lits : List ℤ
  pub reasons : List ℕ
  pub marks : List ℕ
  pub questions : List Question

-- the byte of a package that is in or out
abbrev pub code : ℤ → ℕ
code (pos n) = 1
code (negsuc n) = 2

abbrev pub filled : ℕ → ℕ
filled v = if v == 0 then 0 else 1

-- the byte of each package, and the place of each on the trail, are those of the literals
pub record IsHeld (count : ℕ) (values places : List ℕ) (lits : List ℤ) (reasons marks : List ℕ) : Type 0 where
  pub small : count ≤ 1048575
  pub values_size : length values ≡ count + 1
  pub places_size : length places ≡ count + 1
  pub bytes : (k : ℕ) → slice_index values k ≤ 2
  pub system : slice_index values 0 ≡ 0
  pub says : (l : ℤ) → names_package count l ≡ true → (slice_index values (nat_abs l) == code l) ≡ is_fact lits l
  pub many : sum_by filled values ≡ length lits
  pub over : list_all (names_package count) lits ≡ true
  pub there : (j : ℕ) → j < length lits → slice_index places (nat_abs (slice_index_or lits j (pos 0))) ≡ j
  pub reasons_size : length reasons ≡ length lits
  pub marks_within : (k : ℕ) → k < length marks → slice_index marks k < length lits
  pub marks_rise : (i k : ℕ) → i < k → k < length marks → slice_index marks i < slice_index marks k
  pub marks_few : length marks ≤ length lits

-- a set that has the packages that are known in
pub record AreIn (count : ℕ) (words : List ℕ) (lits : List ℤ) : Type 0 where
  pub space : count < room words
  pub each : (k : ℕ) → has words k ≡ is_fact lits (pos k)
