-- What is read of an answer.
use Rattle.std.specs.Prelude.{ℕ, Bool, if◌then◌else◌, List, [], Option, Some, None, length, slice_get}
use Rattle.std.specs.Option.{option_map}
use Rattle.solv_io.specs.Inner.Statuses.{status_number}
use Rattle.solv_trans.specs.declared.kinds.Change.{Change}
use Rattle.solv_remedy.specs.declared.problems.Problem.{Problem}
use Rattle.solv_remedy.specs.declared.problems.Solution.{Solution}
use Rattle.solv_answers.specs.declared.answers.Answer.{Answer}
use Rattle.solv_answers.specs.declared.answers.Answer.TheVariants.{Transaction, Problems, Spent}
use Rattle.solv_solved.specs.Proofs.{problems_in}
use Rattle.solv_solved.specs.declared.outcomes.Held.{Held}
use Rattle.solv_solved.specs.declared.outcomes.Held.TheVariants.{Answered, Refused, Open}

-- the changes of an answer, their order, and the packages that are there after them, with the system; problems have none
abbrev pub changes_in : Answer → List Change
changes_in (Transaction trail set made ordered) = made
changes_in (Problems problems) = []
changes_in Spent = []

abbrev pub order_in : Answer → List ℕ
order_in (Transaction trail set made ordered) = ordered.parts
order_in (Problems problems) = []
order_in Spent = []

abbrev pub set_in : Answer → List ℕ
set_in (Transaction trail set made ordered) = set
set_in (Problems problems) = []
set_in Spent = []

-- the cycles in what its parts require of each other: of pre-requirements, or of all requirements; each ascending, by their lowest members
abbrev pub cycles_in : Bool → Answer → List (List ℕ)
cycles_in pre (Transaction trail set made ordered) = if pre then ordered.pre_cycles else ordered.cycles
cycles_in pre (Problems problems) = []
cycles_in pre Spent = []

-- the number of an answer: a transaction, problems, or that the budget is spent
abbrev pub answer_number : Answer → ℕ
answer_number (Transaction trail set made ordered) = 0
answer_number (Problems problems) = 9
answer_number Spent = 5

-- the same of what is held; a refusal has none of them, and the number of its status; nor has a task without an answer, whose number is 10
abbrev pub changes_of : Held → List Change
changes_of (Answered solved) = changes_in solved.answer
changes_of (Refused due) = []
changes_of (Open opened) = []

abbrev pub order_of : Held → List ℕ
order_of (Answered solved) = order_in solved.answer
order_of (Refused due) = []
order_of (Open opened) = []

abbrev pub set_of : Held → List ℕ
set_of (Answered solved) = set_in solved.answer
set_of (Refused due) = []
set_of (Open opened) = []

abbrev pub cycles_of : Bool → Held → List (List ℕ)
cycles_of pre (Answered solved) = cycles_in pre solved.answer
cycles_of pre (Refused due) = []
cycles_of pre (Open opened) = []

abbrev pub problems_of : Held → List Problem
problems_of (Answered solved) = problems_in solved.answer
problems_of (Refused due) = []
problems_of (Open opened) = []

abbrev pub number_of : Held → ℕ
number_of (Answered solved) = answer_number solved.answer
number_of (Refused due) = status_number due.status
number_of (Open opened) = 10

-- the line on what is wrong, of a refusal or of the last call that was to build; an answer has none
abbrev pub line_of : Held → List ℕ
line_of (Answered solved) = []
line_of (Refused due) = due.err
line_of (Open opened) = opened.said

-- the cycle of this number, from 0 on
abbrev pub cycle_of : Bool → Held → ℕ → Option (List ℕ)
cycle_of pre held cycle = slice_get (cycles_of pre held) cycle

-- the problem of this number, from 0 on, and its solution of this number
abbrev pub problem_of : Held → ℕ → Option Problem
problem_of held problem = slice_get (problems_of held) problem

abbrev pub solutions_of : Option Problem → List Solution
solutions_of None = []
solutions_of (Some problem) = problem.solutions

abbrev pub solution_of : Held → ℕ → ℕ → Option Solution
solution_of held problem solution = slice_get (solutions_of (problem_of held problem)) solution

-- The rules of a problem, ascending, and how many solutions it has; the rules that a solution drops, ascending, and its set, with the system. A number that names
-- nothing has none.
abbrev pub problem_rules : Held → ℕ → Option (List ℕ)
problem_rules held problem = option_map (λ (p : Problem). p.rules) (problem_of held problem)

abbrev pub solution_count : Held → ℕ → Option ℕ
solution_count held problem = option_map (λ (p : Problem). length p.solutions) (problem_of held problem)

abbrev pub solution_rules : Held → ℕ → ℕ → Option (List ℕ)
solution_rules held problem solution = option_map (λ (s : Solution). s.dropped) (solution_of held problem solution)

abbrev pub solution_set : Held → ℕ → ℕ → Option (List ℕ)
solution_set held problem solution = option_map (λ (s : Solution). s.set) (solution_of held problem solution)
