-- Texts of what an answer names.
use Rattle.std.specs.Prelude.{ℕ, List, Option, Some, None, if◌then◌else◌, length, nat_le, nat_lt, slice_get}
use Rattle.std.specs.Option.{option_map}
use Rattle.solv_base.specs.Pool.{text_tree}
use Rattle.solv_deps.specs.Canonical.{text}
use Rattle.solv_io.specs.Lines.{ended_lines}
use Rattle.solv_pool.specs.HardRules.{hard_rules}
use Rattle.solv_pool.specs.PackageText.{package_text, found}
use Rattle.solv_pool.specs.declared.tasks.Task.{Task}
use Rattle.solv_remedy.specs.declared.problems.Solution.{Solution}
use Rattle.solv_lines.specs.RuleTexts.{text_of_rule}
use Rattle.solv_lines.specs.SolutionTexts.{solution_texts}
use Rattle.solv_solved.specs.Proofs.{IsGoodProof, proof_text_in}
use Rattle.solv_solved.specs.Readings.{solution_of}
use Rattle.solv_solved.specs.declared.outcomes.Held.{Held}
use Rattle.solv_solved.specs.declared.outcomes.Held.TheVariants.{Answered, Refused, Open}

module _ (task : Task) where
  -- the text of a package, `name-evr.arch@repository`, or of the system; a number that no package has has none
  abbrev pub package_text_in : ℕ → Option (List ℕ)
  package_text_in pack = if nat_le pack (length task.universe.packages) then Some (package_text task.pool task.universe pack) else None

  -- the text of a dependency; a number that none has has none
  abbrev pub dep_text_in : ℕ → Option (List ℕ)
  dep_text_in dep = if nat_lt dep (length task.pool.nodes) then Some (text (text_tree task.pool dep)) else None

  -- what is said of the hard rule of this number; a number that no rule has has none
  abbrev pub rule_text_in : ℕ → Option (List ℕ)
  rule_text_in rule = option_map (text_of_rule task) (slice_get (hard_rules task) rule)

  -- what is said of a solution: a line for each thing that it does
  abbrev pub solution_text_in : Solution → List ℕ
  solution_text_in solution = ended_lines (solution_texts task (hard_rules task) solution.dropped solution.set)

-- how many packages there are besides the system
abbrev pub package_count_of : Held → ℕ
package_count_of (Answered solved) = length solved.script.task.universe.packages
package_count_of (Refused due) = 0
package_count_of (Open opened) = length opened.draft.task.universe.packages

-- how many repositories
abbrev pub repo_count_of : Held → ℕ
repo_count_of (Answered solved) = length solved.script.task.universe.repos
repo_count_of (Refused due) = 0
repo_count_of (Open opened) = length opened.draft.task.universe.repos

-- the number of the package with a text, the lowest of several
abbrev pub package_found : Held → List ℕ → Option ℕ
package_found (Answered solved) text = found solved.script.task.pool solved.script.task.universe text
package_found (Refused due) text = None
package_found (Open opened) text = found opened.draft.task.pool opened.draft.task.universe text

-- the same of what is held; of a refusal nothing has a text, and of a task without an answer packages and dependencies alone
abbrev pub package_text_of : Held → ℕ → Option (List ℕ)
package_text_of (Answered solved) pack = package_text_in solved.script.task pack
package_text_of (Refused due) pack = None
package_text_of (Open opened) pack = package_text_in opened.draft.task pack

abbrev pub dep_text_of : Held → ℕ → Option (List ℕ)
dep_text_of (Answered solved) dep = dep_text_in solved.script.task dep
dep_text_of (Refused due) dep = None
dep_text_of (Open opened) dep = dep_text_in opened.draft.task dep

abbrev pub rule_text_of : Held → ℕ → Option (List ℕ)
rule_text_of (Answered solved) rule = rule_text_in solved.script.task rule
rule_text_of (Refused due) rule = None
rule_text_of (Open opened) rule = None

abbrev pub solution_text_of : Held → ℕ → ℕ → Option (List ℕ)
solution_text_of (Answered solved) problem solution = option_map (solution_text_in solved.script.task) (solution_of (Answered solved) problem solution)
solution_text_of (Refused due) problem solution = None
solution_text_of (Open opened) problem solution = None

abbrev pub proof_text_of : Held → ℕ → Option (List ℕ)
proof_text_of (Answered solved) problem = proof_text_in solved.answer problem
proof_text_of (Refused due) problem = None
proof_text_of (Open opened) problem = None

-- a text is read as a proof, of which yes is said over the hard rules of the task that is answered
abbrev pub IsGoodProofOf : Held → List ℕ → Type 0
IsGoodProofOf (Answered solved) text = IsGoodProof solved.script.task text
IsGoodProofOf (Refused due) text = ⊥
IsGoodProofOf (Open opened) text = ⊥
