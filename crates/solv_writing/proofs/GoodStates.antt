-- What the lines of a script so far give can be written again; and what all of them give then can.
use Rattle.std.proofs.Common.{◌≡◌, ℕ, true, Bool, List, [], ◌∷◌, ◌++◌, length, nat_lt, All}
use Rattle.std.specs.List.{list_all}
use Rattle.std.proofs.lemmas.List.Elements.{All-push}
use Rattle.solv_base.specs.Pool.{Held}
use Rattle.solv_pool.specs.Prelude.{WrittenPackage}
use Rattle.solv_script.specs.Reads.{WrittenRound}
use Rattle.solv_script.specs.States.{State, with_rounds, script_given}
use Rattle.solv_script.specs.Inner.LineParts.{in_hand}
use Rattle.solv_writing.specs.Inner.ReadScripts.{IsReadJob, IsReadCheck, AreReadKinds, IsReadRound, view_of, IsReadUniverse, universe_of, IsReadScript}

-- each package is of a repository below this number
abbrev pub are_below : ℕ → List WrittenPackage → Bool
are_below n packages = list_all (λ a. nat_lt a.repo n) packages

-- the universe, the finished rounds and the one in hand can be written again, and each package is of a repository that is there
pub record IsGood (s : State) : Type 0 where
  pub universe : IsReadUniverse (universe_of s.task)
  pub checks : All IsReadCheck s.checks
  pub earlier : All (IsReadRound (view_of s.task)) s.earlier
  pub jobs : All (IsReadJob (view_of s.task)) s.task.jobs
  pub kinds : AreReadKinds s.kinds s.wanted
  pub own : are_below (length s.task.repos) s.task.packages ≡ true

-- bytes that were counted and what the pool holds don't matter
pub counted_good : (s : State) (bytes : ℕ) (held : Held) → IsGood s → IsGood (record s { bytes = bytes; held = held })
counted_good s bytes held g = record { universe = g.universe; checks = g.checks; earlier = g.earlier; jobs = g.jobs; kinds = g.kinds; own = g.own }

-- all rounds, the one in hand after the others
pub rounds_good : (s : State) → IsGood s → All (IsReadRound (view_of s.task)) (s.earlier ++ in_hand s ∷ [])
rounds_good s g = All-push (IsReadRound (view_of s.task)) s.earlier (in_hand s) g.earlier (record { jobs = g.jobs; kinds = g.kinds })

pub script_good : (s : State) → IsGood s → IsReadScript (script_given s)
script_good s g = of s.earlier (rounds_good s g)
  where
    of : (rounds : List WrittenRound) → All (IsReadRound (view_of s.task)) (rounds ++ in_hand s ∷ []) → IsReadScript (with_rounds s (rounds ++ in_hand s ∷ []))
    of [] h = record { universe = g.universe; checks = g.checks; rounds = h }
    of (first ∷ others) h = record { universe = g.universe; checks = g.checks; rounds = h }
