-- The clauses of a dependency by their numbers, so that each is made by itself.
use Rattle.std.specs.Prelude.{ℕ, ◌≡◌, ◌≤◌, ◌<◌, Bool, true, false, ◌&&◌, ◌==◌, List, [], ◌∷◌, ◌++◌, length, map, slice_get, Some}
use Rattle.solv_pool.specs.Prelude.{Literal, Clause, is_in, is_out, times}
use Rattle.solv_rich.specs.Counts.{saturated}
use Rattle.solv_rich.specs.declared.expansion.Said.{Said}
use Rattle.solv_rich.specs.declared.expansion.Said.TheVariants.{In, Out}
use Rattle.solv_rich.specs.declared.expansion.Expansion.{Expansion}
use Rattle.solv_rich.specs.declared.expansion.Expansion.TheVariants.{SomeIn, EachOut, Joined', Crossed', Nothing}

-- what is said as a literal
abbrev pub literal_of : Said → Literal
literal_of (In p) = is_in p
literal_of (Out p) = is_out p

-- one of these packages is in (true), or each of them is out (false)
abbrev pub package_clauses : Bool → List ℕ → List Clause
package_clauses true qs = map is_in qs ∷ []
package_clauses false qs = map (λ q. is_out q ∷ []) qs

-- one of the packages is in; each of them is out; the clauses of one and then of another; each of one with each of another
abbrev pub clauses_in : Expansion → List Clause
clauses_in (SomeIn first others) = map is_in (first.now ++ others.now) ∷ []
clauses_in (EachOut first others) = map (λ q. is_out q ∷ []) (first.now ++ others.now)
clauses_in (Joined' p first count q second) = clauses_in first ++ clauses_in second
clauses_in (Crossed' p first count q second) = times (clauses_in first) (clauses_in second)
clauses_in Nothing = []

-- what is kept of counts is right
abbrev pub are_counted : Expansion → Bool
are_counted (SomeIn first others) = true
are_counted (EachOut first others) = true
are_counted (Joined' p first count q second) = count == saturated (length (clauses_in first)) && (are_counted first && are_counted second)
are_counted (Crossed' p first count q second) = count == saturated (length (clauses_in second)) && (are_counted first && are_counted second)
are_counted Nothing = true

-- it has these clauses
pub record IsExpansion (clauses : List Clause) (made : Expansion) : Type 0 where
  pub clauses_are : clauses_in made ≡ clauses
  pub counted : are_counted made ≡ true

-- a clause of the first and one of the second make the clause of a number of both
pub record CrossesAt (xs ys : List Clause) (number own other : ℕ) : Type 0 where
  pub few_first : length xs ≤ 65536
  pub few_second : length ys ≤ 65536
  pub first_there : own < length xs
  pub second_there : other < length ys
  pub joined : (c d : Clause) → slice_get xs own ≡ Some c → slice_get ys other ≡ Some d → slice_get (times xs ys) number ≡ Some (c ++ d)
