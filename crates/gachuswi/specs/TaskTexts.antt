-- What the calls do that give a text of a task.
use Rattle.std.specs.Prelude.{ℕ, ◌≡◌, ℤ, pos, List, length, Option, Some, None}
use Rattle.solv_solved.specs.Fillings.{filled}
use Rattle.solv_solved.specs.Texts as held
use Rattle.solv_solved.specs.declared.outcomes.Held.{Held}
use Rattle.gachuswi.specs.Calls.{misused, no_memory}

-- the text of a package, of a dependency, of a hard rule, of a solution of a problem, and of the proof of a problem; where nothing is held, there is none
abbrev pub package_text : Option Held → ℕ → Option (List ℕ)
package_text None pack = None
package_text (Some kept) pack = held.package_text_of kept pack

abbrev pub dep_text : Option Held → ℕ → Option (List ℕ)
dep_text None dep = None
dep_text (Some kept) dep = held.dep_text_of kept dep

abbrev pub rule_text : Option Held → ℕ → Option (List ℕ)
rule_text None rule = None
rule_text (Some kept) rule = held.rule_text_of kept rule

abbrev pub solution_text : Option Held → ℕ → ℕ → Option (List ℕ)
solution_text None problem solution = None
solution_text (Some kept) problem solution = held.solution_text_of kept problem solution

abbrev pub proof_text : Option Held → ℕ → Option (List ℕ)
proof_text None problem = None
proof_text (Some kept) problem = held.proof_text_of kept problem

-- a text is read as a proof, of which yes is said over the hard rules of the task: no set that holds the system meets those that it lists
abbrev pub IsGoodProofOf : Option Held → List ℕ → Type 0
IsGoodProofOf None text = ⊥
IsGoodProofOf (Some kept) text = held.IsGoodProofOf kept text

-- how many packages there are besides the system, and the number of the one with a text
abbrev pub package_count : Option Held → ℕ
package_count None = 0
package_count (Some kept) = held.package_count_of kept

abbrev pub package_found : Option Held → List ℕ → Option ℕ
package_found None text = None
package_found (Some kept) text = held.package_found kept text

-- A call that gives a text: its first bytes are copied, as many as there is room for, and its length is reported; or its numbers name nothing; or memory
-- ran out. The last two write nothing.
pub data IsTextCall (text : Option (List ℕ)) (old new : List ℕ) (before told : ℕ) (code : ℤ) : Type 0 where
  given : (bytes : List ℕ) → text ≡ Some bytes → new ≡ filled bytes old → told ≡ length bytes → code ≡ pos 0 → IsTextCall text old new before told code
  names_none : text ≡ None → new ≡ old → told ≡ before → code ≡ misused → IsTextCall text old new before told code
  ran_out : new ≡ old → told ≡ before → code ≡ no_memory → IsTextCall text old new before told code
