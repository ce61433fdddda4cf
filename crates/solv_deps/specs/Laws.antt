-- Laws of dependency text, and how its examples are said.
use Rattle.std.specs.Prelude.{ℕ, ◌≡◌, ◌<◌, ◌≤◌, Bool, true, List, length, Result, Ok, Err, if◌then◌else◌}
use Rattle.solv_io.specs.JoinedWords.{is_line}
use Rattle.solv_base.specs.Dependency.{Dep, operators}
use Rattle.solv_base.specs.Pool.{Held, IsPool, Grows, text_tree}
use Rattle.solv_deps.specs.Expressions.{Expr, expr_right, expr_operators, expr_depth, expr_words, expr_sense}
use Rattle.solv_deps.specs.Reading.{and_then, dependency, reading}
use Rattle.solv_deps.specs.Words.{words}
use Rattle.solv_deps.specs.declared.fault.DepFault.{DepFault}
use Rattle.solv_deps.specs.declared.fault.DepFault.TheVariants.{OperatorNotHere}
use Rattle.solv_deps.specs.Entering.{dependency_entered}
use Rattle.solv_deps.specs.Canonical.{text}
use Rattle.solv_deps.specs.declared.place.Place.{Place}

-- the words of what is written by the grammar, its operators in either spelling, within the limits, are read as what it means
abbrev pub WrittenIsRead : Type 0
WrittenIsRead = (x : Expr) → expr_right x ≡ true → expr_operators x ≤ 64 → expr_depth x ≤ 64 → reading (expr_words x) ≡ Ok (expr_sense x)

-- these words are written by the grammar, and mean this dependency
pub record Spells (words : List (List ℕ)) (d : Dep (List ℕ)) : Type 0 where
  pub expr : Expr
  pub right : expr_right expr ≡ true
  pub sense : expr_sense expr ≡ d
  pub is : expr_words expr ≡ words

-- what is read is written by the grammar
abbrev pub ReadIsWritten : Type 0
ReadIsWritten = (words : List (List ℕ)) (d : Dep (List ℕ)) → reading words ≡ Ok d → Spells words d

-- the canonical text of what a text is read as is read, at the same place, as the same
abbrev pub PrintedIsReadAgain : Type 0
PrintedIsReadAgain = (place : Place) (t : List ℕ) (d : Dep (List ℕ)) → dependency place t ≡ Ok d → dependency place (text d) ≡ Ok d

-- what a text gives where this table says what may stand
abbrev pub dependency_by : (Dep (List ℕ) → Bool) → List ℕ → Result (Dep (List ℕ)) DepFault
dependency_by fits text = and_then (reading (words text)) (λ d. if fits d then Ok d else Err OperatorNotHere)

-- the same for every table of what may stand
abbrev pub PrintedIsReadAgainByAnyTable : Type 0
PrintedIsReadAgainByAnyTable = (fits : Dep (List ℕ) → Bool) (t : List ℕ) (d : Dep (List ℕ)) → dependency_by fits t ≡ Ok d → dependency_by fits (text d) ≡ Ok d

-- the canonical text of what a line is read as is one line
abbrev pub PrintedIsOneLine : Type 0
PrintedIsOneLine = (place : Place) (t : List ℕ) (d : Dep (List ℕ)) → is_line t ≡ true → dependency place t ≡ Ok d → is_line (text d) ≡ true

-- what is read has at most 64 operators
abbrev pub ReadHasFewOperators : Type 0
ReadHasFewOperators = (place : Place) (t : List ℕ) (d : Dep (List ℕ)) → dependency place t ≡ Ok d → operators d ≤ 64

-- what stands for a text at a place is what its canonical text is read as there: the same relation of the pool
abbrev pub PrintedIsTheSame : Type 0
PrintedIsTheSame = (old new : Held) (place : Place) (t : List ℕ) (id again : ℕ) → IsPool new → Grows old new → id < length old.nodes → again < length new.nodes
    → dependency place t ≡ Ok (text_tree old id) → dependency place (text (text_tree old id)) ≡ Ok (text_tree new again) → again ≡ id

-- what a pool holds is entered there as itself: no room is needed, and nothing is added
abbrev pub HeldIsEntered : Type 0
HeldIsEntered = (held : Held) (id : ℕ) → IsPool held → id < length held.nodes
    → dependency_entered (text_tree held id) held ≡ Ok (record { id = id; held = held })
