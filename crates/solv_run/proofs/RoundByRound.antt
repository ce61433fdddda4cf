-- One round after the other.
use Rattle.std.proofs.Common.{ℕ, zero, suc, ◌≡◌, ◌-◌, ◌+◌, ◌≤◌, ◌<◌, Option, Some, None, arith, Bool, true, false, ◌&&◌, ◌||◌, List, [], ◌∷◌, ◌++◌, length, map, drop, refl, ap, sym, ◌∙◌, subst, append_assoc}
use Rattle.std.specs.Prelude.{codes, flat_map, slice_get, unwrap_or, IfSome, OnOk, Result, Ok, Err, ⊤}
use Rattle.std.specs.List.{list_all, zip}
use Rattle.solv_answers.specs.Answers.{is_spent}
use Rattle.solv_answers.specs.declared.answers.Answer.{Answer}
use Rattle.solv_answers.specs.declared.answers.Answer.TheVariants.{Transaction, Problems, Spent}
use Rattle.solv_answers.specs.declared.answers.Answered.{Answered}
use Rattle.solv_core.specs.declared.ledger.Ledger.{Ledger}
use Rattle.solv_io.specs.Lines.{ended_lines}
use Rattle.solv_pool.specs.declared.tasks.Task.{Task}
use Rattle.solv_rounds.proofs.FirstLimits.{rest_none}
use Rattle.solv_rounds.proofs.Turned.{is_other, other, turned_is}
use Rattle.solv_script.specs.Rounds.{Turn, tasks, turn_of, turns, with_jobs_of}
use Rattle.solv_script.specs.Inner.Turns.{exchanged, first_turn}
use Rattle.solv_script.specs.declared.scripts.Round.{Round}
use Rattle.solv_script.specs.declared.scripts.Script.{Script}
use Rattle.solv_words.specs.declared.command_line.Command.{Command}
use Rattle.solv_run.specs.Inner.Rounds.{AreAll, GoesOn, HasBegun, HasNext, HasPrinted, HasTaken, IsOneMore, later_lines, prints_lines, next_lines}
use Rattle.solv_run.specs.Rounds.{AreAnswers, IsGoodAnswer, all_answered, one_spent, then_next, some_spent}
use Rattle.solv_run.specs.Inner.Texts.{is_as_wanted}
use Rattle.solv_run.specs.Texts.{are_as_wanted, round_lines, rounds_lines}
use Rattle.solv_run.specs.declared.reports.Reached.{Reached}
use Rattle.solv_run.specs.declared.rounds.Begun.{Begun}
use Rattle.solv_run.proofs.Together.{few, within}
use Rattle.solv_list.proofs.Booleans.{or_false}
use Rattle.std.proofs.lemmas.List.{append-nil}
use Rattle.solv_io.proofs.WrittenLines.{ended_lines-append}

spent_is : (a : Answer) → is_spent a ≡ true → a ≡ Spent
spent_is (Transaction trail set made ordered) h = absurd (cc)
spent_is (Problems problems) h = absurd (cc)
spent_is Spent h = refl

and_more : (a b c : Bool) → ((a && b) && c) ≡ (a && (b && c))
and_more true b c = refl
and_more false b c = refl

and_true : (b : Bool) → b ≡ (b && true)
and_true true = refl
and_true false = refl

some_more : (xs : List Answer) (a : Answer) → some_spent xs ≡ false → some_spent (xs ++ a ∷ []) ≡ is_spent a
some_more [] a h = or_false (is_spent a)
some_more (x ∷ xs) a h = by (is_spent x) h (λ k. some_more xs a k)
  where
    by : (b : Bool) → (b || some_spent xs) ≡ false → (some_spent xs ≡ false → some_spent (xs ++ a ∷ []) ≡ is_spent a) → (b || some_spent (xs ++ a ∷ [])) ≡ is_spent a
    by true e again = absurd (cc)
    by false e again = again e

-- an answer that is not spent left what it used
left_over : (task : Task) (budget : ℕ) (answered : Answered) → IsGoodAnswer task budget answered.answer answered.ledger → is_spent answered.answer ≡ false → length answered.ledger.entries ≤ budget
left_over task budget answered good unspent = within (length answered.ledger.entries) budget (few task budget answered.answer answered.ledger good) (sym good.is.learnt.spent ∙ unspent)

-- an answer that was taken in is one round more, where no lines are asked for
pub taken_alone : {E : Type 0} (command : Command) (turn : Turn) (answered : Answered) (r : Result ⊤ E) (old new : Begun) → prints_lines command.output ≡ false → IsGoodAnswer turn.task old.left answered.answer answered.ledger
    → OnOk r (HasTaken answered old new) → OnOk r (IsOneMore command [] turn old new)
taken_alone command turn answered (Ok x) old new asked good took = record {
  answer = answered.answer;
  ledger = answered.ledger;
  good = good;
  answers = took.answers;
  ledgers = took.ledgers;
  text = λ plain. absurd (let clash = sym plain ∙ asked in cc);
  as_wanted = λ plain. absurd (let clash = sym plain ∙ asked in cc);
  spent = took.spent;
  left = λ unspent. took.left (left_over turn.task old.left answered good unspent);
}
taken_alone command turn answered (Err e) old new asked good took = took

-- and so it is after what is printed of it
pub taken_behind : {E : Type 0} (command : Command) (turn : Turn) (answered : Answered) (r : Result ⊤ E) (old mid new : Begun) → prints_lines command.output ≡ true → IsGoodAnswer turn.task old.left answered.answer answered.ledger
    → HasPrinted command.shows turn answered.answer old mid → OnOk r (HasTaken answered mid new) → OnOk r (IsOneMore command [] turn old new)
taken_behind command turn answered (Ok x) old mid new plain good printed took = record {
  answer = answered.answer;
  ledger = answered.ledger;
  good = good;
  answers = took.answers ∙ ap (λ (q : Reached). q.answers ++ answered.answer ∷ []) printed.reached;
  ledgers = took.ledgers ∙ ap (λ (q : Reached). q.ledgers ++ answered.ledger ∷ []) printed.reached;
  text = λ plain. ap (λ t. t.items) took.text ∙ printed.text;
  as_wanted = λ plain. took.as_wanted ∙ printed.as_wanted;
  spent = took.spent;
  left = λ unspent.
      let low : length answered.ledger.entries ≤ mid.left = (let P : ℕ → Type 0 = λ n. length answered.ledger.entries ≤ n in subst P (sym printed.left) (left_over turn.task old.left answered good unspent)) in
      took.left low ∙ ap (λ n. n - length answered.ledger.entries) printed.left;
}
taken_behind command turn answered (Err e) old mid new plain good printed took = took

-- a round after the line before it
pub behind_next : {T E : Type 0} (command : Command) (turn : Turn) (r : Result T E) (old mid new : Begun) → HasNext command old mid → OnOk r (IsOneMore command [] turn mid new) → OnOk r (IsOneMore command (codes "nextjob" ∷ []) turn old new)
behind_next command turn (Ok x) old mid new next more = record {
  answer = more.answer;
  ledger = more.ledger;
  good = subst (λ (n : ℕ). IsGoodAnswer turn.task n more.answer more.ledger) next.left more.good;
  answers = more.answers ∙ ap (λ (q : Reached). q.answers ++ more.answer ∷ []) next.reached;
  ledgers = more.ledgers ∙ ap (λ (q : Reached). q.ledgers ++ more.ledger ∷ []) next.reached;
  text = λ plain.
      more.text plain ∙ ap (λ t. t ++ ended_lines (round_lines command.shows turn more.answer)) (next.text plain)
      ∙ append_assoc old.text.items (codes "nextjob\n") (ended_lines (round_lines command.shows turn more.answer));
  as_wanted = λ plain. more.as_wanted plain ∙ ap (λ b. b && is_as_wanted turn more.answer) next.as_wanted;
  spent = more.spent;
  left = λ unspent. more.left unspent ∙ ap (λ n. n - length more.ledger.entries) next.left;
}
behind_next command turn (Err e) old mid new next more = more

-- where the budget is not spent it was begun
pub goes_behind : {T E : Type 0} (command : Command) (turn : Turn) (r : Result T E) (old mid new : Begun) → old.spent ≡ false → HasNext command old mid → OnOk r (IsOneMore command [] turn mid new) → OnOk r (GoesOn command turn old new)
goes_behind {T = T} {E = E} command turn (Ok x) old mid new calm next more = record {
  spent = λ e. absurd (let clash = sym e ∙ calm in cc);
  one_more = λ e. behind_next {T = T} {E = E} command turn (Ok x) old mid new next more;
}
goes_behind command turn (Err e) old mid new calm next more = more

-- and else all is as it was
pub goes_still : (command : Command) (turn : Turn) (old : Begun) → old.spent ≡ true → GoesOn command turn old old
goes_still command turn old spent = record { spent = λ e. refl; one_more = λ e. absurd (let clash = sym e ∙ spent in cc) }

-- a round more, with the list that it is the first of
module _ (command : Command) (ts : List Task) (us : List Turn) (turn : Turn) (later_tasks : List Task) (later_turns : List Turn) (old new : Begun) where
  pub next_begun : HasBegun command ts us (turn.task ∷ later_tasks) (turn ∷ later_turns) old → old.spent ≡ false → IsOneMore command (codes "nextjob" ∷ []) turn old new → HasBegun command ts us later_tasks later_turns new
  next_begun has calm more = record {
    unspent = λ unspent answers ledgers are.
        let none : is_spent more.answer ≡ false = sym more.spent ∙ unspent in
        let left : AreAnswers (old.left - length more.ledger.entries) later_tasks answers ledgers = subst (λ (n : ℕ). AreAnswers n later_tasks answers ledgers) (more.left none) are in
        joined answers ledgers (has.unspent calm (more.answer ∷ answers) (more.ledger ∷ ledgers) (then_next old.left turn.task later_tasks more.answer more.ledger answers ledgers more.good none left));
    ended_there = λ spent.
        let is : more.answer ≡ Spent = spent_is more.answer (sym more.spent ∙ spent) in
        let good : IsGoodAnswer turn.task old.left Spent more.ledger = subst (λ (a : Answer). IsGoodAnswer turn.task old.left a more.ledger) is more.good in
        let whole = has.unspent calm (Spent ∷ []) (more.ledger ∷ []) (one_spent old.left turn.task later_tasks more.ledger good) in
        subst (λ (l : List Ledger). AreAnswers command.budget ts new.reached.answers l) (sym more.ledgers)
        (subst (λ (l : List Answer). AreAnswers command.budget ts l (old.reached.ledgers ++ more.ledger ∷ [])) (ap (λ a. old.reached.answers ++ a ∷ []) (sym is) ∙ sym more.answers) whole);
    text = λ plain answers.
        ap (λ t. t ++ ended_lines (later_lines command later_turns answers)) (more.text plain)
        ∙ append_assoc old.text.items (ended_lines (codes "nextjob" ∷ round_lines command.shows turn more.answer)) (ended_lines (later_lines command later_turns answers))
        ∙ ap (λ t. old.text.items ++ t) (sym (ended_lines-append (codes "nextjob" ∷ round_lines command.shows turn more.answer) (later_lines command later_turns answers)))
        ∙ has.text plain (more.answer ∷ answers)
        ∙ ap (λ l. ended_lines (rounds_lines command.shows us l)) (sym (answers_are answers));
    as_wanted = λ plain answers.
        ap (λ b. b && are_as_wanted later_turns answers) (more.as_wanted plain)
        ∙ and_more old.as_wanted (is_as_wanted turn more.answer) (are_as_wanted later_turns answers)
        ∙ has.as_wanted plain (more.answer ∷ answers)
        ∙ ap (are_as_wanted us) (sym (answers_are answers));
    spent = more.spent ∙ sym (some_more old.reached.answers more.answer (sym has.spent ∙ calm)) ∙ ap some_spent (sym more.answers);
  }
    where
      answers_are : (answers : List Answer) → new.reached.answers ++ answers ≡ old.reached.answers ++ more.answer ∷ answers
      answers_are answers = ap (λ l. l ++ answers) more.answers ∙ append_assoc old.reached.answers (more.answer ∷ []) answers

      ledgers_are : (ledgers : List Ledger) → new.reached.ledgers ++ ledgers ≡ old.reached.ledgers ++ more.ledger ∷ ledgers
      ledgers_are ledgers = ap (λ l. l ++ ledgers) more.ledgers ∙ append_assoc old.reached.ledgers (more.ledger ∷ []) ledgers

      joined : (answers : List Answer) (ledgers : List Ledger) → AreAnswers command.budget ts (old.reached.answers ++ more.answer ∷ answers) (old.reached.ledgers ++ more.ledger ∷ ledgers)
          → AreAnswers command.budget ts (new.reached.answers ++ answers) (new.reached.ledgers ++ ledgers)
      joined answers ledgers are =
          subst (λ (l : List Ledger). AreAnswers command.budget ts (new.reached.answers ++ answers) l) (sym (ledgers_are ledgers))
          (subst (λ (l : List Answer). AreAnswers command.budget ts l (old.reached.ledgers ++ more.ledger ∷ ledgers)) (sym (answers_are answers)) are)

-- the first round, where nothing was begun
pub first_begun : (command : Command) (turn : Turn) (later_tasks : List Task) (later_turns : List Turn) (old new : Begun) → old.reached.answers ≡ [] → old.reached.ledgers ≡ [] → old.text.items ≡ [] → old.as_wanted ≡ true → old.left ≡ command.budget
    → IsOneMore command [] turn old new → HasBegun command (turn.task ∷ later_tasks) (turn ∷ later_turns) later_tasks later_turns new
first_begun command turn later_tasks later_turns old new no_answer no_ledger no_text all same more =
    let answers : new.reached.answers ≡ more.answer ∷ [] = more.answers ∙ ap (λ l. l ++ more.answer ∷ []) no_answer in
    let ledgers : new.reached.ledgers ≡ more.ledger ∷ [] = more.ledgers ∙ ap (λ l. l ++ more.ledger ∷ []) no_ledger in
    let good : IsGoodAnswer turn.task command.budget more.answer more.ledger = subst (λ (n : ℕ). IsGoodAnswer turn.task n more.answer more.ledger) same more.good in
    record {
      unspent = λ unspent told kept are.
          let none : is_spent more.answer ≡ false = sym more.spent ∙ unspent in
          let left : new.left ≡ command.budget - length more.ledger.entries = more.left none ∙ ap (λ n. n - length more.ledger.entries) same in
          let rest : AreAnswers (command.budget - length more.ledger.entries) later_tasks told kept = subst (λ (n : ℕ). AreAnswers n later_tasks told kept) left are in
          subst (λ (l : List Ledger). AreAnswers command.budget (turn.task ∷ later_tasks) (new.reached.answers ++ told) l) (ap (λ l. l ++ kept) (sym ledgers))
          (subst (λ (l : List Answer). AreAnswers command.budget (turn.task ∷ later_tasks) l (more.ledger ∷ kept)) (ap (λ l. l ++ told) (sym answers))
          (then_next command.budget turn.task later_tasks more.answer more.ledger told kept good none rest));
      ended_there = λ spent.
          let is : more.answer ≡ Spent = spent_is more.answer (sym more.spent ∙ spent) in
          let one : IsGoodAnswer turn.task command.budget Spent more.ledger = subst (λ (a : Answer). IsGoodAnswer turn.task command.budget a more.ledger) is good in
          subst (λ (l : List Ledger). AreAnswers command.budget (turn.task ∷ later_tasks) new.reached.answers l) (sym ledgers)
          (subst (λ (l : List Answer). AreAnswers command.budget (turn.task ∷ later_tasks) l (more.ledger ∷ [])) (ap (λ a. a ∷ []) (sym is) ∙ sym answers) (one_spent command.budget turn.task later_tasks more.ledger one));
      text = λ plain told.
          ap (λ t. t ++ ended_lines (later_lines command later_turns told)) (more.text plain ∙ ap (λ t. t ++ ended_lines (round_lines command.shows turn more.answer)) no_text)
          ∙ sym (ended_lines-append (round_lines command.shows turn more.answer) (later_lines command later_turns told))
          ∙ ap (λ l. ended_lines (rounds_lines command.shows (turn ∷ later_turns) (l ++ told))) (sym answers);
      as_wanted = λ plain told.
          ap (λ b. b && are_as_wanted later_turns told) (more.as_wanted plain ∙ ap (λ b. b && is_as_wanted turn more.answer) all)
          ∙ ap (λ l. are_as_wanted (turn ∷ later_turns) (l ++ told)) (sym answers);
      spent = more.spent ∙ sym (or_false (is_spent more.answer)) ∙ ap some_spent (sym answers);
    }

-- of no answers nothing is said
none_beside : {A B : Type 0} (xs : List A) → zip {K = A} {X = B} xs [] ≡ []
none_beside [] = refl
none_beside (x ∷ xs) = refl

-- where none is left, all are begun
pub all_begun : (command : Command) (ts : List Task) (us : List Turn) (begun : Begun) → HasBegun command ts us [] [] begun → AreAll command ts us begun
all_begun command ts us begun has = record {
  are = by begun.spent refl;
  text = λ plain. sym (append-nil begun.text.items) ∙ has.text plain [] ∙ ap (λ l. ended_lines (rounds_lines command.shows us l)) (append-nil begun.reached.answers);
  as_wanted = λ plain. and_true begun.as_wanted ∙ has.as_wanted plain [] ∙ ap (are_as_wanted us) (append-nil begun.reached.answers);
  spent = has.spent;
}
  where
    by : (b : Bool) → begun.spent ≡ b → AreAnswers command.budget ts begun.reached.answers begun.reached.ledgers
    by true e = has.ended_there e
    by false e =
        subst (λ (l : List Ledger). AreAnswers command.budget ts begun.reached.answers l) (append-nil begun.reached.ledgers)
        (subst (λ (l : List Answer). AreAnswers command.budget ts l (begun.reached.ledgers ++ [])) (append-nil begun.reached.answers) (has.unspent e [] [] (all_answered begun.left)))

-- and so they are where the budget is spent
pub spent_begun : (command : Command) (ts : List Task) (us : List Turn) (later_tasks : List Task) (later_turns : List Turn) (begun : Begun) → HasBegun command ts us later_tasks later_turns begun → begun.spent ≡ true
    → AreAll command ts us begun
spent_begun command ts us later_tasks later_turns begun has spent = record {
  are = has.ended_there spent;
  text = λ plain.
      sym (append-nil begun.text.items) ∙ ap (λ (l : List (Turn × Answer)). begun.text.items ++ ended_lines (flat_map (λ x. next_lines command.shows x.0 x.1) l)) (sym (none_beside later_turns))
      ∙ has.text plain [] ∙ ap (λ l. ended_lines (rounds_lines command.shows us l)) (append-nil begun.reached.answers);
  as_wanted = λ plain.
      and_true begun.as_wanted ∙ ap (λ (l : List (Turn × Answer)). begun.as_wanted && list_all (λ x. is_as_wanted x.0 x.1) l) (sym (none_beside later_turns))
      ∙ has.as_wanted plain [] ∙ ap (are_as_wanted us) (append-nil begun.reached.answers);
  spent = has.spent;
}

-- an element at its place, and the rest after it
rest_at : {A B : Type 0} (f : A → B) (xs : List A) (k : ℕ) (x : A) → slice_get xs k ≡ Some x → drop k (map f xs) ≡ f x ∷ drop (suc k) (map f xs)
rest_at f [] k x e = absurd (cc)
rest_at f (y ∷ ys) zero x e = ap (λ z. f z ∷ map f ys) (ap (λ o. unwrap_or o y) e)
rest_at f (y ∷ ys) (suc k) x e = rest_at f ys k x e

-- a round of a script that was turned to the front
module _ (command : Command) (script : Script) (place : ℕ) (within : place < length script.later) where
  abbrev IsNext : Begun → Begun → Type 0
  IsNext old new = IfSome (slice_get script.later place) (λ r. GoesOn command (turn_of script r) old new)

  turn_is : first_turn (exchanged place script) ≡ turn_of script (other script place within)
  turn_is = ap first_turn (turned_is script place within)

  next_of : (old new : Begun) → GoesOn command (first_turn (exchanged place script)) old new → IsNext old new
  next_of old new more = by (slice_get script.later place) (is_other script place within)
    where
      by : (o : Option Round) → o ≡ Some (other script place within) → IfSome o (λ r. GoesOn command (turn_of script r) old new)
      by None e = absurd (cc)
      by (Some r) e =
          let same : other script place within ≡ r = ap (λ o. unwrap_or o (other script place within)) (sym e) in
          subst (λ (t : Turn). GoesOn command t old new) (turn_is ∙ ap (turn_of script) same) more

  -- a round of a script that was turned
  pub one_later : {T E : Type 0} (r : Result T E) (front : Script) → front ≡ exchanged place script → (old new : Begun) → OnOk r (GoesOn command (first_turn front) old new) → OnOk r (IsNext old new)
  one_later (Ok x) front is old new goes = next_of old new (subst (λ (s : Script). GoesOn command (first_turn s) old new) is goes)
  one_later (Err e) front is old new goes = goes

  of_next : (old new : Begun) → IsNext old new → GoesOn command (turn_of script (other script place within)) old new
  of_next old new is = by (slice_get script.later place) (is_other script place within) is
    where
      by : (o : Option Round) → o ≡ Some (other script place within) → IfSome o (λ r. GoesOn command (turn_of script r) old new)
          → GoesOn command (turn_of script (other script place within)) old new
      by None e more = absurd (cc)
      by (Some r) e more =
          let same : r ≡ other script place within = ap (λ o. unwrap_or o (other script place within)) e in
          subst (λ (t : Turn). GoesOn command t old new) (ap (turn_of script) same) more

  abbrev LeftOf : ℕ → Begun → Type 0
  LeftOf n begun = HasBegun command (tasks script) (turns script) (drop n (map (with_jobs_of script.task) script.later)) (drop n (map (turn_of script) script.later)) begun

  -- one round more of those that are left
  turn_more : (old new : Begun) → LeftOf place old → old.spent ≡ false → IsNext old new → LeftOf (place + 1) new
  turn_more old new has calm is =
      let o : Round = other script place within in
      let later_ts : List Task = map (with_jobs_of script.task) script.later in
      let later_us : List Turn = map (turn_of script) script.later in
      let H : List Task → List Turn → Type 0 = λ ts us. HasBegun command (tasks script) (turns script) ts us old in
      let first : H (with_jobs_of script.task o ∷ drop (suc place) later_ts) (turn_of script o ∷ drop (suc place) later_us)
      = subst (λ (us : List Turn). H (with_jobs_of script.task o ∷ drop (suc place) later_ts) us) (rest_at (turn_of script) script.later place o (is_other script place within))
      (subst (λ (ts : List Task). H ts (drop place later_us)) (rest_at (with_jobs_of script.task) script.later place o (is_other script place within)) has) in
      let up : suc place ≡ place + 1 = omega arith in
      subst (λ (n : ℕ). LeftOf n new) up
      (next_begun command (tasks script) (turns script) (turn_of script o) (drop (suc place) later_ts) (drop (suc place) later_us) old new first calm ((of_next old new is).one_more calm))

  -- and what is begun after it, or all that there will be
  pub turn_goes : (old new : Begun) → (old.spent ≡ false → LeftOf place old) → (old.spent ≡ true → AreAll command (tasks script) (turns script) old) → IsNext old new
      → (new.spent ≡ false → LeftOf (place + 1) new) × (new.spent ≡ true → AreAll command (tasks script) (turns script) new)
  turn_goes old new calm ended is = by old.spent refl
    where
      by : (b : Bool) → old.spent ≡ b → (new.spent ≡ false → LeftOf (place + 1) new) × (new.spent ≡ true → AreAll command (tasks script) (turns script) new)
      by true e =
          let same : new ≡ old = (of_next old new is).spent e in
          ((λ n. absurd (let clash = sym n ∙ ap (λ (b : Begun). b.spent) same ∙ e in cc)), λ n. subst (λ (b : Begun). AreAll command (tasks script) (turns script) b) (sym same) (ended e))
      by false e =
          let has : LeftOf (place + 1) new = turn_more old new (calm e) e is in
          ((λ n. has), λ n. spent_begun command (tasks script) (turns script) (drop (place + 1) (map (with_jobs_of script.task) script.later)) (drop (place + 1) (map (turn_of script) script.later)) new has n)

-- after the last round
pub turns_end : (command : Command) (script : Script) (place : ℕ) (begun : Begun) → length script.later ≤ place
    → HasBegun command (tasks script) (turns script) (drop place (map (with_jobs_of script.task) script.later)) (drop place (map (turn_of script) script.later)) begun → AreAll command (tasks script) (turns script) begun
turns_end command script place begun h has =
    all_begun command (tasks script) (turns script) begun
    (subst (λ (us : List Turn). HasBegun command (tasks script) (turns script) [] us begun) (rest_none (turn_of script) script.later place h)
    (subst (λ (ts : List Task). HasBegun command (tasks script) (turns script) ts (drop place (map (turn_of script) script.later)) begun) (rest_none (with_jobs_of script.task) script.later place h) has))

-- so all are begun there, whether the budget is spent or not
pub all_end : (command : Command) (script : Script) (place : ℕ) (begun : Begun) → length script.later ≤ place
    → (begun.spent ≡ false → HasBegun command (tasks script) (turns script) (drop place (map (with_jobs_of script.task) script.later)) (drop place (map (turn_of script) script.later)) begun)
    → (begun.spent ≡ true → AreAll command (tasks script) (turns script) begun) → AreAll command (tasks script) (turns script) begun
all_end command script place begun h calm ended = by begun.spent refl
  where
    by : (b : Bool) → begun.spent ≡ b → AreAll command (tasks script) (turns script) begun
    by true e = ended e
    by false e = turns_end command script place begun h (calm e)
