-- What is read has words for names and EVRs, and no more operators than were counted.
use Rattle.std.proofs.Common.{◌≡◌, ℕ, zero, suc, ◌+◌, ◌<◌, ◌≤◌, Bool, true, false, ◌&&◌, ◌||◌, List, [], ◌∷◌, length, take, Option, Some, None, Result, Ok, Err, refl, ap, ◌∙◌, arith, not, nat_le}
use Rattle.std.specs.Prelude.{codes, if◌then◌else◌}
use Rattle.std.specs.List.{list_all}
use Rattle.std.proofs.lemmas.Bool.Decides.{nat_tests}
use Rattle.std.specs.Str.{bytes_eq}
use Rattle.solv_base.specs.declared.comparison.Cmp.{Cmp}
use Rattle.solv_base.specs.Dependency.{Dep, Connective, plain, one, namespace, joined, under, under_else, operators}
use Rattle.solv_base.specs.Dependency.{Condition as Under}
use Rattle.solv_deps.specs.declared.fault.DepFault.{DepFault}
use Rattle.solv_deps.specs.declared.sign.Joint.{Joint}
use Rattle.solv_deps.specs.declared.sign.Operator.{Operator}
use Rattle.solv_deps.specs.declared.sign.Operator.TheVariants.{Link, Minus, Condition, Else}
use Rattle.solv_io.specs.Words.{is_blank}
use Rattle.solv_deps.specs.Words.{is_open, is_close, ends_word, unpaired_after, word_rest, words_after, words}
use Rattle.solv_deps.specs.Inner.Words.{after_first}
use Rattle.solv_deps.specs.Inner.Signs.{operator, opens, closes}
use Rattle.solv_deps.specs.Grammar.{comparison, is_plain, is_namespace, named}
use Rattle.solv_deps.specs.Expressions.{connective_of, condition_of}
use Rattle.solv_deps.specs.Inner.Reading.{Hand, nothing, in_chain, in_difference, in_condition, in_else, in_inner_else, Due, operand_due, evr_due, operator_due, Point, whole, inner_else, same_joint, going_on_if, goes_on, closed, close, go_on, at_operand, at_evr, at_operator, comparison_due, step_due, step, end_due, reading_from, beginning}
use Rattle.solv_deps.specs.Reading.{and_then, reading}
use Rattle.solv_deps.proofs.Printed.{is_word, well, right_cmp}
use Rattle.solv_deps.proofs.SameReading.{same_reading}
use Rattle.solv_list.proofs.Booleans.{first_of_both, second_of_both}
use Rattle.solv_list.proofs.Numbers.{equal_to_itself, same_number as is_number}
use Rattle.std.proofs.lemmas.Bool.{and_from}

abbrev hand_well : Hand → Bool
hand_well nothing = true
hand_well (in_chain j a) = well a
hand_well (in_difference a) = well a
hand_well (in_condition k a) = well a
hand_well (in_else k a b) = well a && well b
hand_well (in_inner_else k a b) = well a && well b

abbrev hand_ops : Hand → ℕ
hand_ops nothing = 0
hand_ops (in_chain j a) = operators a + 1
hand_ops (in_difference a) = operators a + 1
hand_ops (in_condition k a) = operators a + 1
hand_ops (in_else k a b) = operators a + operators b + 2
hand_ops (in_inner_else k a b) = operators b + 1

abbrev outer_ops : List Hand → ℕ
outer_ops [] = 0
outer_ops (h ∷ o) = hand_ops h + outer_ops o

-- `B <ELSE>` stands in the parentheses after its `A <IF>`
abbrev Linked : Hand → List Hand → Type 0
Linked (in_inner_else k a b) (in_condition i c ∷ o) = operators a ≡ operators c
Linked (in_inner_else k a b) o = ⊥
Linked h o = Unit {0}

abbrev AllLinked : List Hand → Type 0
AllLinked [] = Unit {0}
AllLinked (h ∷ o) = Linked h o × AllLinked o

-- the rules in hand, the innermost first, are such, and these operators are counted
record GoodHands (n more : ℕ) (hs : List Hand) : Type 0 where
  wells : list_all hand_well hs ≡ true
  links : AllLinked hs
  counted : outer_ops hs + more ≤ n
  limit : n ≤ 64

abbrev name_well : Option (List ℕ) → Bool
name_well None = true
name_well (Some w) = is_word w && (is_plain w && not (is_namespace w))

abbrev GoodDue : List Hand → ℕ → Due → Type 0
GoodDue o n (operand_due h) = GoodHands n 0 (h ∷ o)
GoodDue o n (evr_due h name c) = GoodHands n 0 (h ∷ o) × (name_well (Some name) ≡ true) × (right_cmp c ≡ true)
GoodDue o n (operator_due h name d) = GoodHands n (operators d) (h ∷ o) × (well d ≡ true) × (name_well name ≡ true)

abbrev Good : Point → Type 0
Good p = GoodDue p.outer p.operators p.due

abbrev IsGood : Result Point DepFault → Type 0
IsGood (Ok p) = Good p
IsGood (Err e) = Unit {0}

if_good : (b : Bool) (x y : Result Point DepFault) → (b ≡ true → IsGood x) → (b ≡ false → IsGood y) → IsGood (if b then x else y)
if_good true x y f g = f refl
if_good false x y f g = g refl

-- a word of a text is a parenthesis or one word
abbrev ok_word : List ℕ → Bool
ok_word w = (opens w || closes w) || is_word w

plain_word : (w : List ℕ) → ok_word w ≡ true → is_plain w ≡ true → is_word w ≡ true
plain_word w ok p = find (opens w) (closes w) _ (is_word w) ok p
  where
    find : (o c r i : Bool) → ((o || c) || i) ≡ true → (not o && (not c && r)) ≡ true → i ≡ true
    find true c r i h k = cc
    find false true r i h k = cc
    find false false r i h k = h

named_well : (w : List ℕ) → is_word w ≡ true → is_plain w ≡ true → (well (named w) ≡ true) × (operators (named w) ≡ 0)
named_well w h p =
    elim (is_namespace w) as (λ b. is_namespace w ≡ b → (well (if b then namespace w else one (plain w)) ≡ true) × (operators (if b then namespace w else one (plain w)) ≡ 0)) [
      | true ↦ λ e. (and_from (is_word w) _ h (and_from (is_plain w) _ p e), refl)
      | false ↦ λ e. (and_from (is_word w) _ h (and_from (is_plain w) _ p (ap not e)), refl)
    ] refl

bare_well : (w : List ℕ) → is_word w ≡ true → is_plain w ≡ true → name_well (if is_namespace w then None else Some w) ≡ true
bare_well w h p =
    elim (is_namespace w) as (λ b. is_namespace w ≡ b → name_well (if b then None else Some w) ≡ true) [
      | true ↦ λ e. refl
      | false ↦ λ e. and_from (is_word w) _ h (and_from (is_plain w) _ p (ap not e))
    ] refl

operand_good : (o : List Hand) (n : ℕ) (h : Hand) (w : List ℕ) → GoodHands n 0 (h ∷ o) → ok_word w ≡ true → IsGood (at_operand o n h w)
operand_good o n h w g ok =
    if_good (opens w) _ _
    (λ e. if_good (nat_le 64 (length o)) _ _ (λ f. tt) (λ f. let k = g.counted in record { wells = g.wells; links = (tt, g.links); counted = omega arith; limit = g.limit }))
    (λ e. if_good (is_plain w) _ _
    (λ p. let k = named_well w (plain_word w ok p) p in (record { wells = g.wells; links = g.links; counted = rw k.1 g.counted; limit = g.limit }, k.0, bare_well w (plain_word w ok p) p))
    (λ p. tt))

evr_good : (o : List Hand) (n : ℕ) (h : Hand) (name : List ℕ) (c : Cmp) (w : List ℕ) → GoodDue o n (evr_due h name c) → ok_word w ≡ true → IsGood (at_evr o n h name c w)
evr_good o n h name c w g ok =
    if_good (is_plain w) _ _
    (λ p.
    let i = plain_word w ok p in
    let r = second_of_both (is_word name) (is_plain name && not (is_namespace name)) g.1 in
    (g.0, and_from (is_word name) _ (first_of_both (is_word name) _ g.1) (and_from (is_plain name) _ (first_of_both (is_plain name) _ r) (and_from (not (is_namespace name)) _ (second_of_both (is_plain name) _ r) (and_from (right_cmp c) _ g.2 (and_from (is_word w) _ i p)))), refl))
    (λ p. tt)

-- a comparison's own text is one
cmp_right : (w : List ℕ) (c : Cmp) → comparison w ≡ Some c → right_cmp c ≡ true
cmp_right w c e = find (bytes_eq (codes "<") w) (bytes_eq (codes "<=") w) (bytes_eq (codes "=") w) (bytes_eq (codes ">=") w) (bytes_eq (codes ">") w) (bytes_eq (codes "<>") w) c e
  where
    by : (x c : Cmp) → Some x ≡ Some c → right_cmp x ≡ true → right_cmp c ≡ true
    by x c e h = let s : x ≡ c = cc in rw (← s) h

    find : (p q r s t u : Bool) (c : Cmp)
        → (if p then Some (record { less = true; equal = false; greater = false }) else (if q then Some (record { less = true; equal = true; greater = false }) else (if r then Some (record { less = false; equal = true; greater = false }) else (if s then Some (record { less = false; equal = true; greater = true }) else (if t then Some (record { less = false; equal = false; greater = true }) else (if u then Some (record { less = true; equal = false; greater = true }) else None)))))) ≡ Some c
        → right_cmp c ≡ true
    find true q r s t u c e = by _ c e refl
    find false true r s t u c e = by _ c e refl
    find false false true s t u c e = by _ c e refl
    find false false false true t u c e = by _ c e refl
    find false false false false true u c e = by _ c e refl
    find false false false false false true c e = by _ c e refl
    find false false false false false false c e = cc

-- the rule in hand that goes on
abbrev IsGoodHand : ℕ → List Hand → Option Hand → Type 0
IsGoodHand most o None = Unit {0}
IsGoodHand most o (Some k) = (hand_well k ≡ true) × (hand_ops k ≤ most) × Linked k o

joined_well : (j : Connective) (a b : Dep (List ℕ)) → well a ≡ true → well b ≡ true → (well (joined j a b) ≡ true) × (operators (joined j a b) ≡ operators a + operators b + 1)
joined_well j a b h k = (and_from (well a) (well b) h k, omega arith)

under_well : (k : Under) (a b : Dep (List ℕ)) → well a ≡ true → well b ≡ true → (well (under k a b) ≡ true) × (operators (under k a b) ≡ operators a + operators b + 1)
under_well k a b g h = (and_from (well a) (well b) g h, omega arith)

under_else_well : (k : Under) (a b c : Dep (List ℕ)) → (well a && well b) ≡ true → well c ≡ true
    → (well (under_else k a b c) ≡ true) × (operators (under_else k a b c) ≡ operators a + operators b + operators c + 2)
under_else_well k a b c g h = (and_from (well a) _ (first_of_both (well a) (well b) g) (and_from (well b) (well c) (second_of_both (well a) (well b) g) h), omega arith)

inner_good : (o : List Hand) (d : Dep (List ℕ)) → list_all hand_well o ≡ true → well d ≡ true → IsGoodHand (0 + operators d + 1) o (inner_else o d)
inner_good [] d w h = tt
inner_good (nothing ∷ o) d w h = tt
inner_good (in_chain j a ∷ o) d w h = tt
inner_good (in_difference a ∷ o) d w h = tt
inner_good (in_condition k a ∷ o) d w h = (and_from (well a) (well d) (first_of_both (well a) (list_all hand_well o) w) h, omega arith, refl)
inner_good (in_else k a b ∷ o) d w h = tt
inner_good (in_inner_else k a b ∷ o) d w h = tt

chain_good : (b : Bool) (i j : Joint) (a d : Dep (List ℕ)) (o : List Hand) → well a ≡ true → well d ≡ true → IsGoodHand (operators a + 1 + operators d + 1) o (going_on_if b (in_chain j (joined (connective_of i) a d)))
chain_good true i j a d o h k = let g = joined_well (connective_of i) a d h k in let e = g.1 in (g.0, omega arith, tt)
chain_good false i j a d o h k = tt

goes_good : (o : List Hand) (h : Hand) (d : Dep (List ℕ)) (op : Operator) → list_all hand_well (h ∷ o) ≡ true → well d ≡ true → IsGoodHand (hand_ops h + operators d + 1) o (goes_on o h d op)
goes_good o nothing d (Link j) w k = (k, omega arith, tt)
goes_good o nothing d Minus w k = (k, omega arith, tt)
goes_good o nothing d (Condition c) w k = (k, omega arith, tt)
goes_good o nothing d Else w k = inner_good o d w k
goes_good o (in_chain i a) d (Link j) w k = chain_good (same_joint i j) i j a d o (first_of_both (well a) (list_all hand_well o) w) k
goes_good o (in_condition c a) d Else w k = (and_from (well a) (well d) (first_of_both (well a) (list_all hand_well o) w) k, omega arith, tt)
goes_good o (in_chain i a) d Minus w k = tt
goes_good o (in_chain i a) d (Condition c) w k = tt
goes_good o (in_chain i a) d Else w k = tt
goes_good o (in_condition c a) d (Link j) w k = tt
goes_good o (in_condition c a) d Minus w k = tt
goes_good o (in_condition c a) d (Condition c') w k = tt
goes_good o (in_difference a) d op w k = tt
goes_good o (in_else c a b) d op w k = tt
goes_good o (in_inner_else c a b) d op w k = tt

go_on_good : (o : List Hand) (n : ℕ) (h : Hand) (d : Dep (List ℕ)) (op : Operator) (r : Option Hand) → GoodHands n (operators d) (h ∷ o) → IsGoodHand (hand_ops h + operators d + 1) o r → IsGood (go_on o n op r)
go_on_good o n h d op None g k = tt
go_on_good o n h d op (Some x) g k =
    if_good (nat_le 64 n) _ _ (λ e. tt)
    (λ e.
    let below : n < 64 = grind (arith, nat_tests) in
    let c = g.counted in
    let m = k.1 in
    record { wells = and_from (hand_well x) _ k.0 (second_of_both (hand_well h) (list_all hand_well o) g.wells); links = (k.2, g.links.1); counted = omega arith; limit = omega arith })

-- what a rule that is not such an `<ELSE>` makes
abbrev whole_is : Hand → Dep (List ℕ) → Type 0
whole_is h d = (well (whole h d) ≡ true) × (operators (whole h d) ≤ hand_ops h + operators d)

closed_good : (os : List Hand) (n : ℕ) (h o : Hand) (d : Dep (List ℕ)) → GoodHands n (operators d) (h ∷ o ∷ os) → well d ≡ true → GoodDue os n (closed h o d)
closed_good os n (in_inner_else kind a b) (in_condition i c) d g k =
    let e = g.links.0 in
    let m = g.counted in
    let r = second_of_both (well a && well b) (list_all hand_well (in_condition i c ∷ os)) g.wells in
    (record { wells = and_from (well a && well b) _ (first_of_both (well a && well b) _ g.wells) (second_of_both (well c) (list_all hand_well os) r); links = (tt, g.links.1.1); counted = omega arith; limit = g.limit }, k, refl)
closed_good os n (in_inner_else kind a b) nothing d g k = absurd (g.links.0)
closed_good os n (in_inner_else kind a b) (in_chain j c) d g k = absurd (g.links.0)
closed_good os n (in_inner_else kind a b) (in_difference c) d g k = absurd (g.links.0)
closed_good os n (in_inner_else kind a b) (in_else i c e) d g k = absurd (g.links.0)
closed_good os n (in_inner_else kind a b) (in_inner_else i c e) d g k = absurd (g.links.0)
closed_good os n nothing o d g k = let m = g.counted in (record { wells = g.wells; links = g.links.1; counted = omega arith; limit = g.limit }, k, refl)
closed_good os n (in_chain j a) o d g k =
    let m = g.counted in
    let w = joined_well (connective_of j) a d (first_of_both (well a) _ g.wells) k in
    let e = w.1 in
    (record { wells = second_of_both (well a) _ g.wells; links = g.links.1; counted = omega arith; limit = g.limit }, w.0, refl)
closed_good os n (in_difference a) o d g k =
    let m = g.counted in
    (record { wells = second_of_both (well a) _ g.wells; links = g.links.1; counted = omega arith; limit = g.limit }, and_from (well a) (well d) (first_of_both (well a) _ g.wells) k, refl)
closed_good os n (in_condition c a) o d g k =
    let m = g.counted in
    let w = under_well (condition_of c) a d (first_of_both (well a) _ g.wells) k in
    let e = w.1 in
    (record { wells = second_of_both (well a) _ g.wells; links = g.links.1; counted = omega arith; limit = g.limit }, w.0, refl)
closed_good os n (in_else c a b) o d g k =
    let m = g.counted in
    let w = under_else_well (condition_of c) a b d (first_of_both (well a && well b) _ g.wells) k in
    let e = w.1 in
    (record { wells = second_of_both (well a && well b) _ g.wells; links = g.links.1; counted = omega arith; limit = g.limit }, w.0, refl)

close_good : (o : List Hand) (n : ℕ) (h : Hand) (d : Dep (List ℕ)) → GoodHands n (operators d) (h ∷ o) → well d ≡ true → IsGood (close o n h d)
close_good [] n h d g k = tt
close_good (o ∷ os) n h d g k = closed_good os n h o d g k

next_good : (o : List Hand) (n : ℕ) (h : Hand) (name : Option (List ℕ)) (d : Dep (List ℕ)) (w : List ℕ) (op : Option Operator) → GoodDue o n (operator_due h name d) → IsGood (at_operator o n h d w None op)
next_good o n h name d w (Some op) g = go_on_good o n h d op (goes_on o h d op) g.0 (goes_good o h d op g.0.wells g.1)
next_good o n h name d w None g = if_good (closes w) _ _ (λ e. close_good o n h d g.0 g.1) (λ e. tt)

compared_good : (o : List Hand) (n : ℕ) (h : Hand) (name : Option (List ℕ)) (d : Dep (List ℕ)) (w : List ℕ) (op : Option Operator) (c : Option Cmp) → GoodDue o n (operator_due h name d)
    → ((x : Cmp) → c ≡ Some x → right_cmp x ≡ true) → IsGood (at_operator o n h d w (comparison_due c name) op)
compared_good o n h name d w op None g r = next_good o n h name d w op g
compared_good o n h None d w op (Some c) g r = next_good o n h None d w op g
compared_good o n h (Some name) d w op (Some c) g r =
    let m = g.0.counted in
    (record { wells = g.0.wells; links = g.0.links; counted = omega arith; limit = g.0.limit }, g.2, r c refl)

due_good : (o : List Hand) (n : ℕ) (d : Due) (w : List ℕ) → GoodDue o n d → ok_word w ≡ true → IsGood (step_due o n d w)
due_good o n (operand_due h) w g ok = operand_good o n h w g ok
due_good o n (evr_due h name c) w g ok = evr_good o n h name c w g ok
due_good o n (operator_due h name d) w g ok = compared_good o n h name d w (operator w) (comparison w) g (λ x e. cmp_right w x e)

abbrev pub IsWellRead : Result (Dep (List ℕ)) DepFault → Type 0
IsWellRead (Ok d) = (well d ≡ true) × (operators d ≤ 64)
IsWellRead (Err e) = Unit {0}

then_read : (r : Result Point DepFault) (f : Point → Result (Dep (List ℕ)) DepFault) → IsGood r → ((q : Point) → Good q → IsWellRead (f q)) → IsWellRead (and_then r f)
then_read (Ok q) f g k = k q g
then_read (Err e) f g k = tt

end_good : (o : List Hand) (n : ℕ) (d : Due) → GoodDue o n d → IsWellRead (end_due o d)
end_good o n (operand_due h) g = tt
end_good o n (evr_due h name c) g = tt
end_good (o ∷ os) n (operator_due h name d) g = tt
end_good [] n (operator_due nothing name d) g = let m = g.0.counted in let l = g.0.limit in (g.1, omega arith)
end_good [] n (operator_due (in_chain j a) name d) g = let m = g.0.counted in let l = g.0.limit in let w = joined_well (connective_of j) a d (first_of_both (well a) _ g.0.wells) g.1 in let e = w.1 in (w.0, omega arith)
end_good [] n (operator_due (in_difference a) name d) g = let m = g.0.counted in let l = g.0.limit in (and_from (well a) (well d) (first_of_both (well a) _ g.0.wells) g.1, omega arith)
end_good [] n (operator_due (in_condition c a) name d) g = let m = g.0.counted in let l = g.0.limit in let w = under_well (condition_of c) a d (first_of_both (well a) _ g.0.wells) g.1 in let e = w.1 in (w.0, omega arith)
end_good [] n (operator_due (in_else c a b) name d) g =
    let m = g.0.counted in let l = g.0.limit in
    let w = under_else_well (condition_of c) a b d (first_of_both (well a && well b) _ g.0.wells) g.1 in
    let e = w.1 in
    (w.0, omega arith)
end_good [] n (operator_due (in_inner_else c a b) name d) g = absurd (g.0.links.0)

read_good : (ws : List (List ℕ)) (p : Point) → Good p → list_all ok_word ws ≡ true → IsWellRead (reading_from p ws)
read_good [] p g h = end_good p.outer p.operators p.due g
read_good (w ∷ ws) p g h =
    then_read (step p w) (λ q. reading_from q ws) (due_good p.outer p.operators p.due w g (first_of_both (ok_word w) (list_all ok_word ws) h))
    (λ q k. read_good ws q k (second_of_both (ok_word w) (list_all ok_word ws) h))

-- the words of a text are parentheses and words
rest_again : (u : ℕ) (cs : List ℕ) → word_rest u (take (word_rest u cs) cs) ≡ length (take (word_rest u cs) cs)
rest_again u [] = refl
rest_again u (c ∷ cs) =
    elim (ends_word u c) as (λ b. ends_word u c ≡ b → word_rest u (take (if b then 0 else suc (word_rest (unpaired_after u c (is_close c)) cs)) (c ∷ cs)) ≡ length (take (if b then 0 else suc (word_rest (unpaired_after u c (is_close c)) cs)) (c ∷ cs))) [
      | true ↦ λ e. refl
      | false ↦ λ e. rw e (ap suc (rest_again (unpaired_after u c (is_close c)) cs))
    ] refl

one_word : (c : ℕ) (cs : List ℕ) → (is_blank c || (is_open c || is_close c)) ≡ false → ok_word (c ∷ take (word_rest 0 cs) cs) ≡ true
one_word c cs h =
    let e : is_word (c ∷ take (word_rest 0 cs) cs) ≡ true = and_from (not (is_blank c || (is_open c || is_close c))) _ (ap not h) (rw (rest_again 0 cs) (equal_to_itself (length (take (word_rest 0 cs) cs)))) in
    rw e (last (opens (c ∷ take (word_rest 0 cs) cs)) (closes (c ∷ take (word_rest 0 cs) cs)))
  where
    last : (a b : Bool) → ((a || b) || true) ≡ true
    last true b = refl
    last false true = refl
    last false false = refl

paren_ok : (c : ℕ) (cs : List ℕ) → (is_open c || is_close c) ≡ true → ok_word (c ∷ []) ≡ true
paren_ok c cs h =
    elim (is_open c) as (λ b. is_open c ≡ b → (b || is_close c) ≡ true → ok_word (c ∷ []) ≡ true) [
      | true ↦ λ e k. rw (is_number c 40 e) refl
      | false ↦ λ e k. rw (is_number c 41 k) refl
    ] refl h

first_ok : (c : ℕ) (cs : List ℕ) → is_blank c ≡ false → ok_word (c ∷ take (after_first c cs) cs) ≡ true
first_ok c cs h =
    elim (is_open c || is_close c) as (λ b. (is_open c || is_close c) ≡ b → ok_word (c ∷ take (if is_blank c || b then 0 else word_rest 0 cs) cs) ≡ true) [
      | true ↦ λ e. let z : (is_blank c || true) ≡ true = rw h refl in ap (λ b. ok_word (c ∷ take (if b then 0 else word_rest 0 cs) cs)) z ∙ paren_ok c cs e
      | false ↦ λ e. let z : (is_blank c || false) ≡ false = rw h refl in ap (λ b. ok_word (c ∷ take (if b then 0 else word_rest 0 cs) cs)) z ∙ one_word c cs (rw h e)
    ] refl

words_ok : (t : List ℕ) (n : ℕ) → list_all ok_word (words_after n t) ≡ true
words_ok [] n = refl
words_ok (c ∷ cs) (suc n) = words_ok cs n
words_ok (c ∷ cs) zero =
    elim (is_blank c) as (λ b. is_blank c ≡ b → list_all ok_word (if b then words_after (after_first c cs) cs else (c ∷ take (after_first c cs) cs) ∷ words_after (after_first c cs) cs) ≡ true) [
      | true ↦ λ e. words_ok cs (after_first c cs)
      | false ↦ λ e. and_from (ok_word (c ∷ take (after_first c cs) cs)) _ (first_ok c cs e) (words_ok cs (after_first c cs))
    ] refl

-- what a text is read as has words for names and EVRs, and at most 64 operators
pub text_well_read : (t : List ℕ) → IsWellRead (reading (words t))
text_well_read t = rw (same_reading (words t)) (read_good (words t) beginning (record { wells = refl; links = (tt, tt); counted = omega arith; limit = omega arith }) (words_ok t 0))
