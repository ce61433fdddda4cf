-- The walk of `clap` over the words gives their arguments.
use Rattle.std.proofs.Common.{◌≡◌, ◌∙◌, ◌&&◌, ◌||◌, ℕ, Bool, true, false, refl, sym, ap, subst, List, [], ◌∷◌, ◌++◌, map, codes, Option, Some, None, true≢false, inl, inr, append-nil, append_assoc}
use Rattle.std.specs.Prelude.{fold, if◌then◌else◌}
use Rattle.std.specs.List.{list_any}
use Rattle.std.specs.Str.{IsUtf8}
use Rattle.std.proofs.lemmas.Bool.{or_right}
use Rattle.clap.specs.Faults.{positional_fault, settle_fault, turn_fault, use_fault, walk_fault}
use Rattle.clap.specs.Kinds.{Kinds, or_else}
use Rattle.clap.specs.Walk.{Row, Text, Waiting, Walk, idle, option, positional_held, settled_rows, used, walked}
use Rattle.clap.specs.Simple.{Shape}
use Rattle.clap.specs.Simple as simple
use Rattle.clap.proofs.OnLiterals.{clap_on_literals}
use Rattle.solv_words.specs.CommandLine.{is_value}
use Rattle.solv_words.specs.Inner.ByKinds.{Argument, Kind, argument, arguments_from, budget, file, is_same, lines, proofs, seed, written}
use Rattle.solv_words.specs.Inner.Accepted.{with_argument}
use Rattle.solv_words.specs.Inner.Clap.{form, id_of, rows_by, rules}
use Rattle.solv_words.proofs.ClapArguments.{fits, is_calm, raw_of, rule_by, use_is, used_is}
use Rattle.solv_words.proofs.ClapWords.{IsPlain, IsStrange, Pend, classify, got, held_by, is_end, is_flag, is_given, is_name, is_option, is_plain, is_proof, is_strange, is_write, name_of, nothing, pending_by, waits}
use Rattle.solv_list.proofs.Booleans.{first_of_both, false_of_not, true_or_false}

abbrev pub shape : Shape
shape = (simple.built form).top

-- ---- the arguments that are accepted after others

abbrev pub checked : List Argument → List Argument → Bool
checked seen [] = true
checked seen (a ∷ rest) = fits seen a && checked (seen ++ a ∷ []) rest

abbrev pub accepted : List Argument → Option (List Argument) → Option (List Argument)
accepted seen None = None
accepted seen (Some rest) = if checked seen rest then Some (seen ++ rest) else None

-- what is held is the first of them
abbrev behind : Pend → Option (List Argument) → Option (List Argument)
behind nothing o = o
behind (waits k) o = o
behind (got k value) o = with_argument (argument k value) o

abbrev given : List Argument → Pend → List Argument
given args nothing = args
given args (waits k) = args
given args (got k value) = args ++ argument k value ∷ []

one_more : (seen : List Argument) (a : Argument) (o : Option (List Argument)) → fits seen a ≡ true → accepted seen (with_argument a o) ≡ accepted (seen ++ a ∷ []) o
one_more seen a None h = refl
one_more seen a (Some rest) h = rw h (ap (λ l. if checked (seen ++ a ∷ []) rest then Some l else None) (sym (append_assoc seen (a ∷ []) rest)))

one_less : (seen : List Argument) (a : Argument) (o : Option (List Argument)) → fits seen a ≡ false → accepted seen (with_argument a o) ≡ None
one_less seen a None h = refl
one_less seen a (Some rest) h = rw h refl

-- ---- settling what is held

calm : (ks : Kinds) → is_calm ks ≡ true → ks ≡ []
calm [] h = refl
calm (k ∷ ks) h = absurd (true≢false (sym h))

first_fails : (a b : Kinds) → is_calm a ≡ false → is_calm (or_else a b) ≡ false
first_fails [] b h = absurd (true≢false h)
first_fails (k ∷ ks) b h = refl

-- what was given so far is settled, and nothing is wrong with it
record Settles (args : List Argument) (p : Pend) : Type 0 where
  no_fault : settle_fault rules false (held_by args p) ≡ []
  rows : settled_rows rules (pending_by p) (rows_by args) ≡ rows_by (given args p)
  same : (o : Option (List Argument)) → accepted args (behind p o) ≡ accepted (given args p) o

record Fails (args : List Argument) (p : Pend) : Type 0 where
  fault : is_calm (settle_fault rules false (held_by args p)) ≡ false
  none : (o : Option (List Argument)) → accepted args (behind p o) ≡ None

data Settling (args : List Argument) (p : Pend) : Type 0 where
  well : Settles args p → Settling args p
  badly : Fails args p → Settling args p

got_fault : (args : List Argument) (k : Kind) (value : List ℕ) → settle_fault rules false (held_by args (got k value)) ≡ use_fault false (rule_by k) (raw_of k value) (rows_by args)
got_fault args lines value = refl
got_fault args budget value = refl
got_fault args proofs value = refl
got_fault args written value = refl
got_fault args seed value = refl
got_fault args file value = refl

got_rows : (args : List Argument) (k : Kind) (value : List ℕ) → settled_rows rules (pending_by (got k value)) (rows_by args) ≡ used (rule_by k) (raw_of k value) (rows_by args)
got_rows args lines value = refl
got_rows args budget value = refl
got_rows args proofs value = refl
got_rows args written value = refl
got_rows args seed value = refl
got_rows args file value = refl

unused : (args : List Argument) (a : Argument) → fits args a ≡ true → list_any (λ b. is_same a.kind b.kind) args ≡ false
unused args a h = false_of_not (list_any (λ b. is_same a.kind b.kind) args) (first_of_both _ _ h)

abbrev is_ready : Pend → Bool
is_ready nothing = true
is_ready (waits k) = false
is_ready (got k value) = true

settling : (args : List Argument) (p : Pend) → is_ready p ≡ true → Settling args p
settling args nothing h = well (record { no_fault = refl; rows = refl; same = λ o. refl })
settling args (waits k) h = absurd (true≢false (sym h))
settling args (got k value) h = elim (true_or_false (fits args (argument k value))) [
  | inl e ↦ well (record {
    no_fault = got_fault args k value ∙ calm _ (use_is args k value ∙ e);
    rows = got_rows args k value ∙ used_is args k value (unused args (argument k value) e);
    same = λ o. one_more args (argument k value) o e;
  })
  | inr e ↦ badly (record {
    fault = ap is_calm (got_fault args k value) ∙ use_is args k value ∙ e;
    none = λ o. one_less args (argument k value) o e;
  })
]

waits_fault : (args : List Argument) (k : Kind) → is_option k ≡ true → is_calm (settle_fault rules false (held_by args (waits k))) ≡ false
waits_fault args lines h = absurd (true≢false (sym h))
waits_fault args budget h = refl
waits_fault args proofs h = absurd (true≢false (sym h))
waits_fault args written h = absurd (true≢false (sym h))
waits_fault args seed h = refl
waits_fault args file h = absurd (true≢false (sym h))

-- ---- the walk

abbrev position_by : Bool → ℕ
position_by has_file = if has_file then 2 else 1

abbrev pub walk_by : List Argument → Pend → Bool → Bool → Waiting → Walk
walk_by args p has_file is_trailing waiting = record { held = held_by args p; waiting = waiting; position = position_by has_file; is_trailing = is_trailing; stopped = None }

abbrev walk_on : Walk → List Text → Walk
walk_on w words = fold (walked rules []) w words

abbrev pub end_fault : Walk → List Text → Kinds
end_fault w words = or_else (walk_fault shape [] w words) (settle_fault rules false (walk_on w words).held)

abbrev pub end_rows : Walk → List Text → List Row
end_rows w words = settled_rows rules (walk_on w words).held.pending (walk_on w words).held.rows

-- nothing is wrong where there are arguments, and their rows are held
abbrev pub Agrees : Kinds → List Row → Option (List Argument) → Type 0
Agrees kinds rows None = is_calm kinds ≡ false
Agrees kinds rows (Some args) = (kinds ≡ []) × (rows ≡ rows_by args)

abbrev pub Right : Walk → List Text → Option (List Argument) → Type 0
Right w words o = Agrees (end_fault w words) (end_rows w words) o

go_on : (w next : Walk) (word : Text) (rest : List Text) (o : Option (List Argument)) → turn_fault shape [] w word ≡ [] → walked rules [] w word ≡ next → Right next rest o → Right w (word ∷ rest) o
unfolding walk_fault
go_on w next word rest o calm_turn to right =
    let P : Kinds → Type 0 = λ ks. Agrees (or_else (or_else ks (walk_fault shape [] (walked rules [] w word) rest)) (settle_fault rules false (walk_on (walked rules [] w word) rest).held)) (end_rows (walked rules [] w word) rest) o in
    subst P (sym calm_turn) (let Q : Walk → Type 0 = λ v. Right v rest o in subst Q (sym to) right)

give_up : (w : Walk) (word : Text) (rest : List Text) (o : Option (List Argument)) → is_calm (turn_fault shape [] w word) ≡ false → o ≡ None → Right w (word ∷ rest) o
unfolding walk_fault
give_up w word rest o fault none =
    let P : Option (List Argument) → Type 0 = λ x. Right w (word ∷ rest) x in
    subst P (sym none) (first_fails _ _ (first_fails _ _ fault))

-- a FILE stands at the first position alone
abbrev HasFile : Bool → List Argument → Pend → Type 0
HasFile has_file args p = has_file ≡ true → list_any (λ a. is_same file a.kind) (given args p) ≡ true

at_end : (args : List Argument) (p : Pend) (has_file is_trailing : Bool) (waiting : Waiting) → is_ready p ≡ true → Right (walk_by args p has_file is_trailing waiting) [] (accepted args (behind p (Some [])))
unfolding walk_fault
at_end args p has_file is_trailing waiting ready =
    let P : Option (List Argument) → Type 0 = λ o. Agrees (settle_fault rules false (held_by args p)) (settled_rows rules (pending_by p) (rows_by args)) o in
    elim (settling args p ready) [
      | well s ↦ subst P (sym (s.same (Some []))) (s.no_fault, s.rows ∙ ap rows_by (sym (append-nil (given args p))))
      | badly f ↦ subst P (sym (f.none (Some []))) f.fault
    ]

pub then_none : (a : Kinds) → or_else a [] ≡ a
then_none [] = refl
then_none (k ∷ ks) = refl

-- ---- a word that is a FILE

-- what the second FILE comes to
second_file : (args : List Argument) (p : Pend) (word : Text) (o : Option (List Argument)) → is_ready p ≡ true → HasFile true args p → accepted args (behind p (with_argument (argument file word) o)) ≡ None
second_file args p word o ready has =
    elim (settling args p ready) [
      | well s ↦ s.same (with_argument (argument file word) o) ∙ one_less (given args p) (argument file word) o (rw (has refl) refl)
      | badly f ↦ f.none (with_argument (argument file word) o)
    ]

-- the first FILE: what is held is settled, and the FILE is held
file_turn : (args : List Argument) (p : Pend) (is_trailing : Bool) (waiting : Waiting) (word : Text) → is_ready p ≡ true
    → positional_fault rules false (rule_by file) (held_by args p) ≡ settle_fault rules false (held_by args p)
file_turn args nothing is_trailing waiting word ready = refl
file_turn args (waits k) is_trailing waiting word ready = absurd (true≢false (sym ready))
file_turn args (got lines value) is_trailing waiting word ready = refl
file_turn args (got budget value) is_trailing waiting word ready = refl
file_turn args (got proofs value) is_trailing waiting word ready = refl
file_turn args (got written value) is_trailing waiting word ready = refl
file_turn args (got seed value) is_trailing waiting word ready = refl
file_turn args (got file value) is_trailing waiting word ready = refl

file_held : (args : List Argument) (p : Pend) (word : Text) → is_ready p ≡ true
    → positional_held rules (rule_by file) word (held_by args p) ≡ record { rows = settled_rows rules (pending_by p) (rows_by args); pending = Some (id_of file, word ∷ []); skip = 0 }
file_held args nothing word ready = refl
file_held args (waits k) word ready = absurd (true≢false (sym ready))
file_held args (got lines value) word ready = refl
file_held args (got budget value) word ready = refl
file_held args (got proofs value) word ready = refl
file_held args (got written value) word ready = refl
file_held args (got seed value) word ready = refl
file_held args (got file value) word ready = refl

has_it : (args : List Argument) (word : List ℕ) → list_any (λ a. is_same file a.kind) (args ++ argument file word ∷ []) ≡ true
has_it [] word = refl
has_it (a ∷ args) word = or_right (is_same file a.kind) (list_any (λ b. is_same file b.kind) (args ++ argument file word ∷ [])) (has_it args word)

trailing_fault : (args : List Argument) (p : Pend) (waiting : Waiting) (word : Text)
    → turn_fault shape [] (walk_by args p false true waiting) word ≡ positional_fault rules false (rule_by file) (held_by args p)
trailing_fault args p waiting word = refl

trailing_walked : (args : List Argument) (p : Pend) (waiting : Waiting) (word : Text)
    → walked rules [] (walk_by args p false true waiting) word ≡ record { held = positional_held rules (rule_by file) word (held_by args p); waiting = idle; position = 2; is_trailing = true; stopped = None }
unfolding walked
trailing_walked args p waiting word = refl

trailing_second : (args : List Argument) (p : Pend) (waiting : Waiting) (word : Text) → is_calm (turn_fault shape [] (walk_by args p true true waiting) word) ≡ false
trailing_second args p waiting word = refl

-- ---- words after `--`

pub trail : (words : List Text) (args : List Argument) (p : Pend) (has_file : Bool) (waiting : Waiting) → is_ready p ≡ true → HasFile has_file args p
    → Right (walk_by args p has_file true waiting) words (accepted args (behind p (Some (map (argument file) words))))
trail [] args p has_file waiting ready has = at_end args p has_file true waiting ready
trail (word ∷ rest) args p true waiting ready has =
    give_up (walk_by args p true true waiting) word rest _ (trailing_second args p waiting word) (second_file args p word (Some (map (argument file) rest)) ready has)
trail (word ∷ rest) args p false waiting ready has = elim (settling args p ready) [
  | well s ↦
      let to : walked rules [] (walk_by args p false true waiting) word ≡ walk_by (given args p) (got file word) true true idle =
      trailing_walked args p waiting word
      ∙ ap (λ h. record { held = h; waiting = idle; position = 2; is_trailing = true; stopped = None }) (file_held args p word ready)
      ∙ ap (λ rows. record { held = record { rows = rows; pending = Some (id_of file, word ∷ []); skip = 0 }; waiting = idle; position = 2; is_trailing = true; stopped = None }) s.rows in
      let P : Option (List Argument) → Type 0 = λ o. Right (walk_by args p false true waiting) (word ∷ rest) o in
      subst P (sym (s.same (Some (map (argument file) (word ∷ rest)))))
      (go_on _ _ word rest _ (trailing_fault args p waiting word ∙ file_turn args p true waiting word ready ∙ s.no_fault) to
      (trail rest (given args p) (got file word) true idle refl (λ _. has_it (given args p) word)))
  | badly f ↦ give_up _ word rest _ (ap is_calm (trailing_fault args p waiting word ∙ file_turn args p true waiting word ready) ∙ f.fault) (f.none (Some (map (argument file) (word ∷ rest))))
]

pub trail_waits : (words : List Text) (args : List Argument) (k : Kind) (has_file : Bool) (waiting : Waiting) → is_option k ≡ true → Right (walk_by args (waits k) has_file true waiting) words None
unfolding walk_fault
trail_waits [] args k has_file waiting h = waits_fault args k h
trail_waits (word ∷ rest) args k true waiting h = give_up (walk_by args (waits k) true true waiting) word rest None refl refl
trail_waits (word ∷ rest) args lines false waiting h = absurd (true≢false (sym h))
trail_waits (word ∷ rest) args budget false waiting h = give_up (walk_by args (waits budget) false true waiting) word rest None refl refl
trail_waits (word ∷ rest) args proofs false waiting h = absurd (true≢false (sym h))
trail_waits (word ∷ rest) args written false waiting h = absurd (true≢false (sym h))
trail_waits (word ∷ rest) args seed false waiting h = give_up (walk_by args (waits seed) false true waiting) word rest None refl refl
trail_waits (word ∷ rest) args file false waiting h = absurd (true≢false (sym h))

-- ---- words before `--`

abbrev pub AllText : List Text → Type 0
AllText [] = Unit {0}
AllText (word ∷ words) = IsUtf8 word × AllText words

-- so it goes for these words, from wherever the walk stands before them
pub record Claims (words : List Text) : Type 0 where
  ready : (args : List Argument) (p : Pend) (has_file : Bool) → is_ready p ≡ true → HasFile has_file args p
      → Right (walk_by args p has_file false idle) words (accepted args (behind p (arguments_from None words)))
  waiting : (args : List Argument) (k : Kind) (has_file : Bool) → is_option k ≡ true → HasFile has_file args (waits k)
      → Right (walk_by args (waits k) has_file false (option (id_of k))) words (accepted args (arguments_from (Some k) words))

-- a flag, or an option with its value in the word: what is held is settled, and it is used
used_walk : List Argument → Pend → Bool → Kind → List ℕ → Walk
used_walk args p has_file k value = record {
  held = record { rows = used (rule_by k) (raw_of k value) (settled_rows rules (pending_by p) (rows_by args)); pending = None; skip = 0 };
  waiting = idle;
  position = position_by has_file;
  is_trailing = false;
  stopped = None;
}

abbrev used_turn : List Argument → Pend → Kind → List ℕ → Kinds
used_turn args p k value = or_else (settle_fault rules false (held_by args p)) (use_fault false (rule_by k) (raw_of k value) (settled_rows rules (pending_by p) (rows_by args)))

file_there : (args : List Argument) (a : Argument) → list_any (λ b. is_same file b.kind) args ≡ true → list_any (λ b. is_same file b.kind) (args ++ a ∷ []) ≡ true
file_there [] a h = absurd (true≢false (sym h))
file_there (b ∷ args) a h = by (is_same file b.kind) h (file_there args a)
  where
    by : (t : Bool) → (t || list_any (λ b. is_same file b.kind) args) ≡ true
        → (list_any (λ b. is_same file b.kind) args ≡ true → list_any (λ b. is_same file b.kind) (args ++ a ∷ []) ≡ true)
        → (t || list_any (λ b. is_same file b.kind) (args ++ a ∷ [])) ≡ true
    by true k i = refl
    by false k i = i k

module _ (word : Text) (rest : List Text) (later : Claims rest) where
  after_use : (args : List Argument) (p : Pend) (has_file : Bool) (k : Kind) (value : List ℕ) → is_ready p ≡ true → HasFile has_file args p
      → turn_fault shape [] (walk_by args p has_file false idle) word ≡ used_turn args p k value
      → walked rules [] (walk_by args p has_file false idle) word ≡ used_walk args p has_file k value
      → arguments_from None (word ∷ rest) ≡ with_argument (argument k value) (arguments_from None rest)
      → Right (walk_by args p has_file false idle) (word ∷ rest) (accepted args (behind p (arguments_from None (word ∷ rest))))
  unfolding used_walk
  after_use args p has_file k value ready has turn to are =
      let Goal : Option (List Argument) → Type 0 = λ o. Right (walk_by args p has_file false idle) (word ∷ rest) (accepted args (behind p o)) in
      let more : Option (List Argument) = with_argument (argument k value) (arguments_from None rest) in
      subst Goal (sym are) (elim (settling args p ready) [
        | badly f ↦ give_up _ word rest _ (ap is_calm turn ∙ first_fails _ _ f.fault) (f.none more)
        | well s ↦
            let before : List Argument = given args p in
            let turn_is : used_turn args p k value ≡ use_fault false (rule_by k) (raw_of k value) (rows_by before) = rw (s.no_fault, s.rows) refl in
            elim (true_or_false (fits before (argument k value))) [
              | inr e ↦ give_up _ word rest _ (ap is_calm (turn ∙ turn_is) ∙ use_is before k value ∙ e) (s.same more ∙ one_less before (argument k value) (arguments_from None rest) e)
              | inl e ↦
                  let now : used (rule_by k) (raw_of k value) (settled_rows rules (pending_by p) (rows_by args)) ≡ rows_by (before ++ argument k value ∷ []) =
                  ap (used (rule_by k) (raw_of k value)) s.rows ∙ used_is before k value (unused before (argument k value) e) in
                  let next : walked rules [] (walk_by args p has_file false idle) word ≡ walk_by (before ++ argument k value ∷ []) nothing has_file false idle =
                  to ∙ ap (λ rows. record { held = record { rows = rows; pending = None; skip = 0 }; waiting = idle; position = position_by has_file; is_trailing = false; stopped = None }) now in
                  let P : Option (List Argument) → Type 0 = λ o. Right (walk_by args p has_file false idle) (word ∷ rest) o in
                  subst P (sym (s.same more ∙ one_more before (argument k value) (arguments_from None rest) e))
                  (go_on _ _ word rest _ (turn ∙ turn_is ∙ calm _ (use_is before k value ∙ e)) next
                  (later.ready (before ++ argument k value ∷ []) nothing has_file refl (λ t. file_there before (argument k value) (has t))))
            ]
      ])

-- `-r`
flag_ready : (rest : List Text) (later : Claims rest) (args : List Argument) (p : Pend) (has_file : Bool) → is_ready p ≡ true → HasFile has_file args p
    → Right (walk_by args p has_file false idle) (codes "-r" ∷ rest) (accepted args (behind p (arguments_from None (codes "-r" ∷ rest))))
unfolding used_walk clap_on_literals
flag_ready rest later args p has_file ready has =
    after_use (codes "-r") rest later args p has_file lines [] ready has
    (then_none _ ∙ then_none _) refl refl

-- `--proof`
proof_ready : (rest : List Text) (later : Claims rest) (args : List Argument) (p : Pend) (has_file : Bool) → is_ready p ≡ true → HasFile has_file args p
    → Right (walk_by args p has_file false idle) (codes "--proof" ∷ rest) (accepted args (behind p (arguments_from None (codes "--proof" ∷ rest))))
unfolding used_walk clap_on_literals
proof_ready rest later args p has_file ready has =
    after_use (codes "--proof") rest later args p has_file proofs [] ready has
    (then_none _) refl refl

-- `--write`
write_ready : (rest : List Text) (later : Claims rest) (args : List Argument) (p : Pend) (has_file : Bool) → is_ready p ≡ true → HasFile has_file args p
    → Right (walk_by args p has_file false idle) (codes "--write" ∷ rest) (accepted args (behind p (arguments_from None (codes "--write" ∷ rest))))
unfolding used_walk clap_on_literals
write_ready rest later args p has_file ready has =
    after_use (codes "--write") rest later args p has_file written [] ready has
    (then_none _) refl refl

-- `--budget=N` and `--grow=SEED`
given_ready : (rest : List Text) (later : Claims rest) (args : List Argument) (p : Pend) (has_file : Bool) (k : Kind) (value : List ℕ) → is_option k ≡ true → is_ready p ≡ true → HasFile has_file args p
    → Right (walk_by args p has_file false idle) ((45 ∷ 45 ∷ (name_of k ++ 61 ∷ value)) ∷ rest) (accepted args (behind p (arguments_from None ((45 ∷ 45 ∷ (name_of k ++ 61 ∷ value)) ∷ rest))))
unfolding used_walk clap_on_literals
given_ready rest later args p has_file lines value o ready has = absurd (true≢false (sym o))
given_ready rest later args p has_file budget value o ready has = after_use (45 ∷ 45 ∷ (name_of budget ++ 61 ∷ value)) rest later args p has_file budget value ready has (then_none _) refl refl
given_ready rest later args p has_file proofs value o ready has = absurd (true≢false (sym o))
given_ready rest later args p has_file written value o ready has = absurd (true≢false (sym o))
given_ready rest later args p has_file seed value o ready has = after_use (45 ∷ 45 ∷ (name_of seed ++ 61 ∷ value)) rest later args p has_file seed value ready has (then_none _) refl refl
given_ready rest later args p has_file file value o ready has = absurd (true≢false (sym o))

-- `--budget` and `--grow`, whose value is the next word
abbrev option_held : List Argument → Pend → Kind → Bool → Walk
option_held args p k has_file = record {
  held = record { rows = settled_rows rules (pending_by p) (rows_by args); pending = Some (id_of k, []); skip = 0 };
  waiting = option (id_of k);
  position = position_by has_file;
  is_trailing = false;
  stopped = None;
}

option_word : Kind → Text
option_word k = 45 ∷ 45 ∷ name_of k

after_name : (rest : List Text) (later : Claims rest) (args : List Argument) (p : Pend) (has_file : Bool) (k : Kind) → is_option k ≡ true → is_ready p ≡ true → HasFile has_file args p
    → turn_fault shape [] (walk_by args p has_file false idle) (option_word k) ≡ settle_fault rules false (held_by args p)
    → walked rules [] (walk_by args p has_file false idle) (option_word k) ≡ option_held args p k has_file
    → Right (walk_by args p has_file false idle) (option_word k ∷ rest) (accepted args (behind p (arguments_from (Some k) rest)))
after_name rest later args p has_file k o ready has turn to = elim (settling args p ready) [
  | badly f ↦ give_up _ (option_word k) rest _ (ap is_calm turn ∙ f.fault) (f.none (arguments_from (Some k) rest))
  | well s ↦
      let next : walked rules [] (walk_by args p has_file false idle) (option_word k) ≡ walk_by (given args p) (waits k) has_file false (option (id_of k)) =
      to ∙ ap (λ rows. record { held = record { rows = rows; pending = Some (id_of k, []); skip = 0 }; waiting = option (id_of k); position = position_by has_file; is_trailing = false; stopped = None }) s.rows in
      let P : Option (List Argument) → Type 0 = λ x. Right (walk_by args p has_file false idle) (option_word k ∷ rest) x in
      subst P (sym (s.same (arguments_from (Some k) rest))) (go_on _ _ (option_word k) rest _ (turn ∙ s.no_fault) next (later.waiting (given args p) k has_file o has))
]

name_ready : (rest : List Text) (later : Claims rest) (args : List Argument) (p : Pend) (has_file : Bool) (k : Kind) → is_option k ≡ true → is_ready p ≡ true → HasFile has_file args p
    → Right (walk_by args p has_file false idle) ((45 ∷ 45 ∷ name_of k) ∷ rest) (accepted args (behind p (arguments_from None ((45 ∷ 45 ∷ name_of k) ∷ rest))))
unfolding option_word clap_on_literals
name_ready rest later args p has_file lines o ready has = absurd (true≢false (sym o))
name_ready rest later args p has_file budget o ready has = after_name rest later args p has_file budget o ready has (then_none _) refl
name_ready rest later args p has_file proofs o ready has = absurd (true≢false (sym o))
name_ready rest later args p has_file written o ready has = absurd (true≢false (sym o))
name_ready rest later args p has_file seed o ready has = after_name rest later args p has_file seed o ready has (then_none _) refl
name_ready rest later args p has_file file o ready has = absurd (true≢false (sym o))

-- a FILE
plain_fault : (args : List Argument) (p : Pend) (word : Text) → IsPlain word
    → turn_fault shape [] (walk_by args p false false idle) word ≡ positional_fault rules false (rule_by file) (held_by args p)
plain_fault args p word w = rw (w.no_end, w.no_long, w.no_short) refl

plain_walked : (args : List Argument) (p : Pend) (word : Text) → IsPlain word
    → walked rules [] (walk_by args p false false idle) word ≡ record { held = positional_held rules (rule_by file) word (held_by args p); waiting = idle; position = 2; is_trailing = false; stopped = None }
unfolding walked
plain_walked args p word w = rw (w.no_end, w.no_long, w.no_short) refl

plain_second : (args : List Argument) (p : Pend) (word : Text) → IsPlain word → is_calm (turn_fault shape [] (walk_by args p true false idle) word) ≡ false
plain_second args p word w = rw (w.no_end, w.no_long, w.no_short) refl

file_ready : (word : Text) (rest : List Text) (later : Claims rest) (args : List Argument) (p : Pend) (has_file : Bool) → IsPlain word → is_ready p ≡ true → HasFile has_file args p
    → Right (walk_by args p has_file false idle) (word ∷ rest) (accepted args (behind p (arguments_from None (word ∷ rest))))
file_ready word rest later args p has_file w ready has =
    let Goal : Option (List Argument) → Type 0 = λ o. Right (walk_by args p has_file false idle) (word ∷ rest) (accepted args (behind p o)) in
    let are : arguments_from None (word ∷ rest) ≡ with_argument (argument file word) (arguments_from None rest) = rw (arguments_from, w.is) refl in
    subst Goal (sym are) (by has_file has)
  where
    more : Option (List Argument)
    more = with_argument (argument file word) (arguments_from None rest)

    by : (has_file : Bool) → HasFile has_file args p → Right (walk_by args p has_file false idle) (word ∷ rest) (accepted args (behind p more))
    by true has = give_up _ word rest _ (plain_second args p word w) (second_file args p word (arguments_from None rest) ready has)
    by false has = elim (settling args p ready) [
      | badly f ↦ give_up _ word rest _ (ap is_calm (plain_fault args p word w ∙ file_turn args p false idle word ready) ∙ f.fault) (f.none more)
      | well s ↦
          let next : walked rules [] (walk_by args p false false idle) word ≡ walk_by (given args p) (got file word) true false idle =
          plain_walked args p word w
          ∙ ap (λ h. record { held = h; waiting = idle; position = 2; is_trailing = false; stopped = None }) (file_held args p word ready)
          ∙ ap (λ rows. record { held = record { rows = rows; pending = Some (id_of file, word ∷ []); skip = 0 }; waiting = idle; position = 2; is_trailing = false; stopped = None }) s.rows in
          let P : Option (List Argument) → Type 0 = λ o. Right (walk_by args p false false idle) (word ∷ rest) o in
          subst P (sym (s.same more))
          (go_on _ _ word rest _ (plain_fault args p word w ∙ file_turn args p false idle word ready ∙ s.no_fault) next
          (later.ready (given args p) (got file word) true refl (λ _. has_it (given args p) word)))
    ]

-- `--`
end_ready : (rest : List Text) (args : List Argument) (p : Pend) (has_file : Bool) → is_ready p ≡ true → HasFile has_file args p
    → Right (walk_by args p has_file false idle) (codes "--" ∷ rest) (accepted args (behind p (arguments_from None (codes "--" ∷ rest))))
unfolding walked
end_ready rest args p has_file ready has = go_on _ _ (codes "--") rest _ refl refl (trail rest args p has_file idle ready has)

none_held : (args : List Argument) (p : Pend) → is_ready p ≡ true → accepted args (behind p None) ≡ None
none_held args nothing ready = refl
none_held args (waits k) ready = refl
none_held args (got k value) ready = refl

-- a word that is unknown
strange_ready : (word : Text) (rest : List Text) (args : List Argument) (p : Pend) (has_file : Bool) → IsStrange word → is_ready p ≡ true
    → Right (walk_by args p has_file false idle) (word ∷ rest) (accepted args (behind p (arguments_from None (word ∷ rest))))
strange_ready word rest args p has_file w ready =
    let Goal : Option (List Argument) → Type 0 = λ o. Right (walk_by args p has_file false idle) (word ∷ rest) (accepted args (behind p o)) in
    let are : arguments_from None (word ∷ rest) ≡ None = rw (arguments_from, w.is) refl in
    let bad : is_calm (turn_fault shape [] (walk_by args p has_file false idle) word) ≡ false = rw w.no_end (first_fails _ _ (w.fault args p)) in
    subst Goal (sym are) (give_up _ word rest _ bad (none_held args p ready))

-- any word, where nothing waits for its value
word_ready : (word : Text) (rest : List Text) (later : Claims rest) → IsUtf8 word → (args : List Argument) (p : Pend) (has_file : Bool) → is_ready p ≡ true → HasFile has_file args p
    → Right (walk_by args p has_file false idle) (word ∷ rest) (accepted args (behind p (arguments_from None (word ∷ rest))))
word_ready word rest later text args p has_file ready has =
    let P : Text → Type 0 = λ u. Right (walk_by args p has_file false idle) (u ∷ rest) (accepted args (behind p (arguments_from None (u ∷ rest)))) in
    elim (classify word text) [
      | is_end e ↦ subst P (sym e) (end_ready rest args p has_file ready has)
      | is_flag e ↦ subst P (sym e) (flag_ready rest later args p has_file ready has)
      | is_proof e ↦ subst P (sym e) (proof_ready rest later args p has_file ready has)
      | is_write e ↦ subst P (sym e) (write_ready rest later args p has_file ready has)
      | is_name k o e ↦ subst P (sym e) (name_ready rest later args p has_file k o ready has)
      | is_given k value o e ↦ subst P (sym e) (given_ready rest later args p has_file k value o ready has)
      | is_plain w ↦ file_ready word rest later args p has_file w ready has
      | is_strange w ↦ strange_ready word rest args p has_file w ready
    ]

-- a word after an option that waits for its value
value_fault : (args : List Argument) (k : Kind) (has_file : Bool) (word : Text) → IsPlain word → turn_fault shape [] (walk_by args (waits k) has_file false (option (id_of k))) word ≡ []
value_fault args k has_file word w = rw (w.no_end, w.no_long, w.no_short) refl

value_walked : (args : List Argument) (k : Kind) (has_file : Bool) (word : Text) → is_option k ≡ true → IsPlain word
    → walked rules [] (walk_by args (waits k) has_file false (option (id_of k))) word ≡ walk_by args (got k word) has_file false idle
unfolding walked
value_walked args lines has_file word o w = absurd (true≢false (sym o))
value_walked args budget has_file word o w = rw (w.no_end, w.no_long, w.no_short) refl
value_walked args proofs has_file word o w = absurd (true≢false (sym o))
value_walked args written has_file word o w = absurd (true≢false (sym o))
value_walked args seed has_file word o w = rw (w.no_end, w.no_long, w.no_short) refl
value_walked args file has_file word o w = absurd (true≢false (sym o))

value_waits : (word : Text) (rest : List Text) (later : Claims rest) (args : List Argument) (k : Kind) (has_file : Bool) → is_option k ≡ true → HasFile has_file args (waits k) → IsPlain word
    → Right (walk_by args (waits k) has_file false (option (id_of k))) (word ∷ rest) (accepted args (arguments_from (Some k) (word ∷ rest)))
value_waits word rest later args k has_file o has w =
    let Goal : Option (List Argument) → Type 0 = λ x. Right (walk_by args (waits k) has_file false (option (id_of k))) (word ∷ rest) (accepted args x) in
    let are : arguments_from (Some k) (word ∷ rest) ≡ with_argument (argument k word) (arguments_from None rest) = rw (arguments_from, w.value) refl in
    subst Goal (sym are)
    (go_on _ _ word rest _ (value_fault args k has_file word w) (value_walked args k has_file word o w)
    (later.ready args (got k word) has_file refl (λ t. file_there args (argument k word) (has t))))

-- any other word there is no value, and the option has none
no_value : (word : Text) (rest : List Text) (args : List Argument) (k : Kind) → is_value word ≡ false → accepted args (arguments_from (Some k) (word ∷ rest)) ≡ None
no_value word rest args k e = rw (arguments_from, e) refl

end_waits : (args : List Argument) (k : Kind) (has_file : Bool) → walked rules [] (walk_by args (waits k) has_file false (option (id_of k))) (codes "--") ≡ walk_by args (waits k) has_file true (option (id_of k))
unfolding walked
end_waits args k has_file = refl

flag_waits : (args : List Argument) (k : Kind) (has_file : Bool) → is_option k ≡ true → is_calm (turn_fault shape [] (walk_by args (waits k) has_file false (option (id_of k))) (codes "-r")) ≡ false
unfolding clap_on_literals
flag_waits args lines has_file o = absurd (true≢false (sym o))
flag_waits args budget has_file o = refl
flag_waits args proofs has_file o = absurd (true≢false (sym o))
flag_waits args written has_file o = absurd (true≢false (sym o))
flag_waits args seed has_file o = refl
flag_waits args file has_file o = absurd (true≢false (sym o))

proof_waits : (args : List Argument) (k : Kind) (has_file : Bool) → is_option k ≡ true → is_calm (turn_fault shape [] (walk_by args (waits k) has_file false (option (id_of k))) (codes "--proof")) ≡ false
unfolding clap_on_literals
proof_waits args lines has_file o = absurd (true≢false (sym o))
proof_waits args budget has_file o = refl
proof_waits args proofs has_file o = absurd (true≢false (sym o))
proof_waits args written has_file o = absurd (true≢false (sym o))
proof_waits args seed has_file o = refl
proof_waits args file has_file o = absurd (true≢false (sym o))

write_waits : (args : List Argument) (k : Kind) (has_file : Bool) → is_option k ≡ true → is_calm (turn_fault shape [] (walk_by args (waits k) has_file false (option (id_of k))) (codes "--write")) ≡ false
unfolding clap_on_literals
write_waits args lines has_file o = absurd (true≢false (sym o))
write_waits args budget has_file o = refl
write_waits args proofs has_file o = absurd (true≢false (sym o))
write_waits args written has_file o = absurd (true≢false (sym o))
write_waits args seed has_file o = refl
write_waits args file has_file o = absurd (true≢false (sym o))

name_waits : (args : List Argument) (k other : Kind) (has_file : Bool) → is_option k ≡ true → is_option other ≡ true
    → is_calm (turn_fault shape [] (walk_by args (waits k) has_file false (option (id_of k))) (45 ∷ 45 ∷ name_of other)) ≡ false
name_waits args lines other has_file o h = absurd (true≢false (sym o))
name_waits args proofs other has_file o h = absurd (true≢false (sym o))
name_waits args written other has_file o h = absurd (true≢false (sym o))
name_waits args file other has_file o h = absurd (true≢false (sym o))
name_waits args budget lines has_file o h = absurd (true≢false (sym h))
name_waits args budget budget has_file o h = refl
name_waits args budget proofs has_file o h = absurd (true≢false (sym h))
name_waits args budget written has_file o h = absurd (true≢false (sym h))
name_waits args budget seed has_file o h = refl
name_waits args budget file has_file o h = absurd (true≢false (sym h))
name_waits args seed lines has_file o h = absurd (true≢false (sym h))
name_waits args seed budget has_file o h = refl
name_waits args seed proofs has_file o h = absurd (true≢false (sym h))
name_waits args seed written has_file o h = absurd (true≢false (sym h))
name_waits args seed seed has_file o h = refl
name_waits args seed file has_file o h = absurd (true≢false (sym h))

given_waits : (args : List Argument) (k other : Kind) (value : List ℕ) (has_file : Bool) → is_option k ≡ true → is_option other ≡ true
    → is_calm (turn_fault shape [] (walk_by args (waits k) has_file false (option (id_of k))) (45 ∷ 45 ∷ (name_of other ++ 61 ∷ value))) ≡ false
given_waits args lines other value has_file o h = absurd (true≢false (sym o))
given_waits args proofs other value has_file o h = absurd (true≢false (sym o))
given_waits args written other value has_file o h = absurd (true≢false (sym o))
given_waits args file other value has_file o h = absurd (true≢false (sym o))
given_waits args budget lines value has_file o h = absurd (true≢false (sym h))
given_waits args budget budget value has_file o h = refl
given_waits args budget proofs value has_file o h = absurd (true≢false (sym h))
given_waits args budget written value has_file o h = absurd (true≢false (sym h))
given_waits args budget seed value has_file o h = refl
given_waits args budget file value has_file o h = absurd (true≢false (sym h))
given_waits args seed lines value has_file o h = absurd (true≢false (sym h))
given_waits args seed budget value has_file o h = refl
given_waits args seed proofs value has_file o h = absurd (true≢false (sym h))
given_waits args seed written value has_file o h = absurd (true≢false (sym h))
given_waits args seed seed value has_file o h = refl
given_waits args seed file value has_file o h = absurd (true≢false (sym h))

begins_with_dash : (k : Kind) (l : List ℕ) → is_value (45 ∷ 45 ∷ l) ≡ false
begins_with_dash k l = refl

word_waits : (word : Text) (rest : List Text) (later : Claims rest) → IsUtf8 word → (args : List Argument) (k : Kind) (has_file : Bool) → is_option k ≡ true → HasFile has_file args (waits k)
    → Right (walk_by args (waits k) has_file false (option (id_of k))) (word ∷ rest) (accepted args (arguments_from (Some k) (word ∷ rest)))
word_waits word rest later text args k has_file o has =
    let P : Text → Type 0 = λ u. Right (walk_by args (waits k) has_file false (option (id_of k))) (u ∷ rest) (accepted args (arguments_from (Some k) (u ∷ rest))) in
    elim (classify word text) [
      | is_end e ↦ subst P (sym e) (go_on _ _ (codes "--") rest None refl (end_waits args k has_file) (trail_waits rest args k has_file (option (id_of k)) o))
      | is_flag e ↦ subst P (sym e) (give_up _ (codes "-r") rest _ (flag_waits args k has_file o) refl)
      | is_proof e ↦ subst P (sym e) (give_up _ (codes "--proof") rest _ (proof_waits args k has_file o) refl)
      | is_write e ↦ subst P (sym e) (give_up _ (codes "--write") rest _ (write_waits args k has_file o) refl)
      | is_name other h e ↦ subst P (sym e) (give_up _ _ rest _ (name_waits args k other has_file o h) refl)
      | is_given other value h e ↦ subst P (sym e) (give_up _ _ rest _ (given_waits args k other value has_file o h) refl)
      | is_plain w ↦ value_waits word rest later args k has_file o has w
      | is_strange w ↦
          let bad : is_calm (turn_fault shape [] (walk_by args (waits k) has_file false (option (id_of k))) word) ≡ false = rw w.no_end (first_fails _ _ (w.fault args (waits k))) in
          give_up _ word rest _ bad (no_value word rest args k w.value)
    ]

claims : (words : List Text) → AllText words → Claims words
unfolding walk_fault
claims [] text = record {
  ready = λ args p has_file ready has. at_end args p has_file false idle ready;
  waiting = λ args k has_file o has. waits_fault args k o;
}
claims (word ∷ rest) text = record {
  ready = word_ready word rest (claims rest text.1) text.0;
  waiting = word_waits word rest (claims rest text.1) text.0;
}

-- a walk over all words gives the arguments that they are, where they are accepted, and else a fault
pub walk_is : (words : List Text) → AllText words → Right (walk_by [] nothing false false idle) words (accepted [] (arguments_from None words))
walk_is words text = (claims words text).ready [] nothing false refl (λ t. absurd (true≢false (sym t)))
