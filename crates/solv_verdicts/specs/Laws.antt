-- What a yes says, and who gets one.
use Rattle.std.specs.Prelude.{ℕ, ◌≡◌, ◌≤◌, ◌<◌, Bool, true, List, Some, IsSomeAnd, flat_map, length, map, slice_get}
use Rattle.std.specs.List.{list_all, enumerate_from}
use Rattle.solv_core.specs.Cores.{CoreOf}
use Rattle.solv_derive.specs.Range.{steps_over}
use Rattle.solv_pool.specs.Catalog.{Catalog}
use Rattle.solv_pool.specs.Clauses.{rule_clauses}
use Rattle.solv_pool.specs.RuleMeaning.{HardRule}
use Rattle.solv_proof.specs.Texts.{are_listed}
use Rattle.solv_proof.specs.declared.kinds.Proof.{Proof}
use Rattle.solv_questions.specs.Questions.{Request, rules_of}
use Rattle.solv_remedy.specs.Problems.{meets_listed}
use Rattle.solv_remedy.specs.Remedies.{IsGoodList}
use Rattle.solv_remedy.specs.declared.problems.Problem.{Problem}
use Rattle.solv_rules.specs.Books.{is_bookable}
use Rattle.solv_verdicts.specs.Verdicts.{of_round, verdict_on}
use Rattle.solv_verdicts.specs.declared.verdicts.Verdict.TheVariants.{Yes}

-- no set that holds the system meets the rules that a proof lists, where yes is said of it
abbrev pub YesRefutes : Type 0
YesRefutes = (count : ℕ) (catalog : Catalog) (rules : List HardRule) (p : Proof) → length catalog.universe.packages ≤ count → list_all (is_bookable catalog) rules ≡ true
    → steps_over count p.log.steps ≡ true → verdict_on catalog rules p ≡ Yes
    → (set : ℕ → Bool) → set 0 ≡ true → meets_listed catalog rules p.rules set ≡ true → ⊥

-- the proof of a problem: its rules and its log, under a round and a number
abbrev pub proof_of : ℕ → ℕ → Problem → Proof
proof_of round number problem = record { round = round; number = number; rules = problem.rules; log = problem.log }

-- the core has the clauses of a request's rules
abbrev pub HasClauses : Request → CoreOf → Type 0
HasClauses r core = core.clauses ≡ flat_map (rule_clauses r.catalog) (rules_of r)

-- the proofs of the problems of rounds: rounds are numbered from 1, and so are the problems of each
abbrev pub proofs_of_rounds : List (List Problem) → List Proof
proofs_of_rounds rounds = flat_map (λ x. map (λ y. proof_of x.0 y.0 y.1) (enumerate_from 1 x.1)) (enumerate_from 1 rounds)

-- problems that are a good list of them for some request and core
pub record AreGoodFor (r : Request) (problems : List Problem) : Type 0 where
  pub core : CoreOf
  pub clauses : HasClauses r core
  pub good : IsGoodList r core problems

-- each round has none, or a good list for its request
pub record AreOfRounds (requests : List Request) (rounds : List (List Problem)) : Type 0 where
  pub within : length rounds ≤ length requests
  pub each : (i : ℕ) (r : Request) (problems : List Problem) → slice_get requests i ≡ Some r → slice_get rounds i ≡ Some problems → 0 < length problems → AreGoodFor r problems

-- the proofs of good problems of rounds may be written, where there is one
abbrev pub ProblemsMayBeWritten : Type 0
ProblemsMayBeWritten = (requests : List Request) (rounds : List (List Problem)) → AreOfRounds requests rounds → 0 < length (proofs_of_rounds rounds)
    → are_listed (proofs_of_rounds rounds) ≡ true

-- yes is said of each of them, over the rules of its round
abbrev pub ProblemsAreProved : Type 0
ProblemsAreProved = (requests : List Request) (rounds : List (List Problem)) → AreOfRounds requests rounds
    → (i : ℕ) (p : Proof) → slice_get (proofs_of_rounds rounds) i ≡ Some p
    → IsSomeAnd (of_round requests p.round) (λ r. verdict_on r.catalog (rules_of r) p ≡ Yes)
