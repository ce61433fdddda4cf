-- A reader's state as a point of the reading: a draft that goes on keeps it, and each step leads to the next.
use Rattle.std.proofs.Common.{◌≡◌, ℕ, ◌+◌, ◌<◌, ◌≤◌, Bool, true, false, ◌&&◌, List, [], ◌∷◌, length, Option, Some, None, Result, Ok, refl, sym, ap, ◌∙◌, arith, nat_lt}
use Rattle.std.specs.Prelude.{nat_le, if◌then◌else◌, option_map}
use Rattle.std.specs.Borrow.{Bor}
use Rattle.std.proofs.lemmas.Bool.{ltb-true, and_from}
use Rattle.std.proofs.lemmas.List.{length-map}
use Rattle.solv_base.specs.Dependency.{Dep, namespace, one, plain, versioned}
use Rattle.solv_base.specs.declared.comparison.Cmp.{Cmp}
use Rattle.solv_deps.specs.declared.fault.DepFault.{DepFault}
use Rattle.solv_deps.specs.declared.draft.Written.{Written}
use Rattle.solv_deps.specs.declared.outer.Rule.{Rule}
use Rattle.solv_deps.specs.declared.outer.Rule.TheVariants.{Nothing, Chain, Difference, Condition, Else, InnerElse}
use Rattle.solv_deps.specs.declared.reading.Due.{Due}
use Rattle.solv_deps.specs.declared.reading.Due.TheVariants.{Operand, Evr, Named, Operator}
use Rattle.solv_deps.specs.Words.{words}
use Rattle.solv_deps.specs.declared.sign.Conditional.{Conditional}
use Rattle.solv_deps.specs.Inner.Signs.{opens, closes, operator}
use Rattle.solv_deps.specs.Grammar.{comparison, is_plain, is_namespace}
use Rattle.solv_deps.specs.Inner.Drafts.{said, Extends, Enters}
use Rattle.solv_deps.specs.Inner.Reading.{Hand, Point, at_operand, at_evr, at_other, at_operator, operator_due, in_chain, in_difference, in_condition, whole, closed, go_on, comparison_due, reading_from, end_due}
use Rattle.solv_deps.specs.Reading.{reading}
use Rattle.solv_deps.specs.Inner.Points.{rule_hand, hands, due_seen, seen, rule_in, rules_in, pending, option_pending, rules_pending, due_pending, due_entered, Belongs, Stands, GoesOn, Leads, Ends}
use Rattle.solv_deps.proofs.Complete.{choose_second, not_full}
use Rattle.solv_deps.proofs.SameReading.{same_reading}
use Rattle.solv_list.proofs.Booleans.{first_of_both, second_of_both}
use Rattle.solv_list.proofs.Lists.{below_true}
use Rattle.solv_list.proofs.Numbers.{below_wider}

rule_more : (m n : ℕ) (r : Rule) → m ≤ n → rule_in m r ≡ true → rule_in n r ≡ true
rule_more m n Nothing le h = refl
rule_more m n (Chain j a) le h = below_wider a m n le h
rule_more m n (Difference a) le h = below_wider a m n le h
rule_more m n (Condition k a) le h = below_wider a m n le h
rule_more m n (Else k a b) le h = and_from (nat_lt a n) (nat_lt b n) (below_wider a m n le (first_of_both (nat_lt a m) (nat_lt b m) h)) (below_wider b m n le (second_of_both (nat_lt a m) (nat_lt b m) h))
rule_more m n (InnerElse k a b) le h = and_from (nat_lt a n) (nat_lt b n) (below_wider a m n le (first_of_both (nat_lt a m) (nat_lt b m) h)) (below_wider b m n le (second_of_both (nat_lt a m) (nat_lt b m) h))

rules_more : (m n : ℕ) (o : List Rule) → m ≤ n → rules_in m o ≡ true → rules_in n o ≡ true
rules_more m n [] le h = refl
rules_more m n (r ∷ o) le h = and_from (rule_in n r) (rules_in n o) (rule_more m n r le (first_of_both (rule_in m r) (rules_in m o) h)) (rules_more m n o le (second_of_both (rule_in m r) (rules_in m o) h))

-- what stands before a draft's end
module _ (old new : List Written) (g : Extends old new) where
  kept : (a : ℕ) → nat_lt a (length old) ≡ true → said new a ≡ said old a
  kept a h = g.same a (ltb-true a (length old) h)

  pub rule_kept : (r : Rule) → rule_in (length old) r ≡ true → rule_hand (said new) r ≡ rule_hand (said old) r
  rule_kept Nothing h = refl
  rule_kept (Chain j a) h = ap (in_chain j) (kept a h)
  rule_kept (Difference a) h = ap in_difference (kept a h)
  rule_kept (Condition k a) h = ap (in_condition k) (kept a h)
  rule_kept (Else k a b) h = let x = kept a (first_of_both (nat_lt a (length old)) (nat_lt b (length old)) h) in let y = kept b (second_of_both (nat_lt a (length old)) (nat_lt b (length old)) h) in cc
  rule_kept (InnerElse k a b) h = let x = kept a (first_of_both (nat_lt a (length old)) (nat_lt b (length old)) h) in let y = kept b (second_of_both (nat_lt a (length old)) (nat_lt b (length old)) h) in cc

  pub rules_kept : (o : List Rule) → rules_in (length old) o ≡ true → hands (said new) o ≡ hands (said old) o
  rules_kept [] h = refl
  rules_kept (r ∷ o) h =
      let x = rule_kept r (first_of_both (rule_in (length old) r) (rules_in (length old) o) h) in
      let y = rules_kept o (second_of_both (rule_in (length old) r) (rules_in (length old) o) h) in
      cc

same_seen : (draft : List Written) (o : List Rule) (count : ℕ) (due : Due) (hs : List Hand) (d : Rattle.solv_deps.specs.Inner.Reading.Due)
    → hands (said draft) o ≡ hs → due_seen (said draft) due ≡ d → seen draft o count due ≡ record { outer = hs; operators = count; due = d }
unfolding seen
same_seen draft o count due hs d e f = cc

-- an operand stands there, newly in the draft
pub stands_operator : (old new : List Written) (o : List Rule) (count : ℕ) (r : Rule) (id : ℕ) (d : Dep (List ℕ)) (answer : Result Point DepFault)
    → (rules_in (length old) o && rule_in (length old) r) ≡ true → Enters old new id d
    → length new ≡ length old + 1 → length old + rules_pending o + pending r ≤ count + count → count ≤ 64
    → answer ≡ Ok (record { outer = hands (said old) o; operators = count; due = operator_due (rule_hand (said old) r) None d })
    → Stands new o count (Operator r id) answer
stands_operator old new o count r id d answer h e l room few is =
    let g = e.extends in
    let ho = first_of_both (rules_in (length old) o) (rule_in (length old) r) h in
    let hr = second_of_both (rules_in (length old) o) (rule_in (length old) r) h in
    let x = rule_kept old new g r hr in
    let y = e.is in
    let due : due_seen (said new) (Operator r id) ≡ operator_due (rule_hand (said old) r) None d = cc in
    record {
      point = is ∙ ap Ok (sym (same_seen new o count (Operator r id) _ _ (rules_kept old new g o ho) due));
      belongs = record {
        outer = rules_more _ _ o g.longer ho;
        due = and_from (rule_in (length new) r) (nat_lt id (length new)) (rule_more _ _ r g.longer hr) (below_true id (length new) e.below);
        room = omega arith;
        few = few;
      };
    }

opened : {X : Type 0} (o f : Bool) (x y z : X) → o ≡ true → f ≡ false → (if o then (if f then x else y) else z) ≡ y
opened o f x y z h k = rw (h, k) refl

-- a parenthesis opens
pub stands_open : (draft : List Written) (o p : List Rule) (count : ℕ) (r : Rule) (w : List ℕ)
    → p ≡ r ∷ o → (rules_in (length draft) o && rule_in (length draft) r) ≡ true → length draft + rules_pending o + pending r ≤ count + count → count ≤ 64
    → opens w ≡ true → length o < 64
    → Stands draft p count (Operand Nothing) (at_operand (hands (said draft) o) count (rule_hand (said draft) r) w)
unfolding seen
stands_open draft o p count r w e h room few op l =
    let ho = first_of_both (rules_in (length draft) o) (rule_in (length draft) r) h in
    let hr = second_of_both (rules_in (length draft) o) (rule_in (length draft) r) h in
    let f : nat_le 64 (length (hands (said draft) o)) ≡ false = rw (length-map o (rule_hand (said draft))) (not_full (length o) l) in
    rw e (record {
      point = opened (opens w) (nat_le 64 (length (hands (said draft) o))) _ _ _ op f;
      belongs = record { outer = and_from (rule_in (length draft) r) (rules_in (length draft) o) hr ho; due = refl; room = omega arith; few = few };
    })

-- a bare name stands there
pub stands_named : (draft : List Written) (o : List Rule) (count : ℕ) (r : Rule) (w : Bor (List ℕ))
    → (rules_in (length draft) o && rule_in (length draft) r) ≡ true → length draft + rules_pending o + pending r ≤ count + count → count ≤ 64
    → is_plain w.now ≡ true → is_namespace w.now ≡ false
    → Stands draft o count (Named r w) (at_operand (hands (said draft) o) count (rule_hand (said draft) r) w.now)
unfolding seen
stands_named draft o count r w h room few p s =
    record {
      point = choose_second (opens w.now) _ _ _ _ p
          ∙ rw s refl;
      belongs = record {
        outer = first_of_both (rules_in (length draft) o) (rule_in (length draft) r) h;
        due = second_of_both (rules_in (length draft) o) (rule_in (length draft) r) h;
        room = omega arith;
        few = few;
      };
    }

pub operand_namespace : (hs : List Hand) (count : ℕ) (h : Hand) (w : List ℕ) → is_plain w ≡ true → is_namespace w ≡ true
    → at_operand hs count h w ≡ Ok (record { outer = hs; operators = count; due = operator_due h None (namespace w) })
operand_namespace hs count h w p s =
    choose_second (opens w) _ _ _ _ p ∙ rw s refl

pub evr_entered : (hs : List Hand) (count : ℕ) (h : Hand) (name : List ℕ) (c : Cmp) (w : List ℕ) → is_plain w ≡ true
    → at_evr hs count h name c w ≡ Ok (record { outer = hs; operators = count; due = operator_due h None (one (versioned name c w)) })
evr_entered hs count h name c w p = rw p refl

pub without_middle : (a b c : Bool) → (a && (b && c)) ≡ true → (a && c) ≡ true
without_middle true true c h = h
without_middle true false c h = cc
without_middle false b c h = h

closed_other : (at : ℕ → Dep (List ℕ)) (r : Rule) (before : Hand) (d : Dep (List ℕ)) → ((k : Conditional) (x y : ℕ) → r ≡ InnerElse k x y → ⊥)
    → closed (rule_hand at r) before d ≡ operator_due before None (whole (rule_hand at r) d)
closed_other at Nothing before d alone = refl
closed_other at (Chain j a) before d alone = refl
closed_other at (Difference a) before d alone = refl
closed_other at (Condition k a) before d alone = refl
closed_other at (Else k a b) before d alone = refl
closed_other at (InnerElse k a b) before d alone = absurd (alone k a b refl)

-- a parenthesis closes round a whole
pub leads_closed : (old new : List Written) (r before : Rule) (w : ℕ) (d : Dep (List ℕ)) → ((k : Conditional) (x y : ℕ) → r ≡ InnerElse k x y → ⊥) → rule_in (length old) before ≡ true
    → Enters old new w (whole (rule_hand (said old) r) d)
    → Leads new (Operator before w) (closed (rule_hand (said old) r) (rule_hand (said old) before) d)
leads_closed old new r before w d alone hb e =
    let g = e.extends in
    let x = rule_kept old new g before hb in
    let y = e.is in
    record {
      is = closed_other (said old) r (rule_hand (said old) before) d alone ∙ same (rule_hand (said old) before) (rule_hand (said new) before) _ _ (sym x) (sym y);
      inside = and_from (rule_in (length new) before) (nat_lt w (length new)) (rule_more _ _ before g.longer hb) (below_true w (length new) e.below);
    }
  where
    same : (h k : Hand) (a b : Dep (List ℕ)) → h ≡ k → a ≡ b → operator_due h None a ≡ operator_due k None b
    same h k a b e f = cc

-- a parenthesis closes
pub stands_closed : (old new : List Written) (o p : List Rule) (count : ℕ) (rule : Rule) (d : Dep (List ℕ)) (w : List ℕ) (before : Rule) (due : Due)
    → o ≡ before ∷ p → rules_in (length old) o ≡ true → length old + rules_pending o + pending rule ≤ count + count + 1 → count ≤ 64 → closes w ≡ true → Extends old new
    → length new + due_pending due ≤ length old + pending rule + pending before → due_entered due ≡ 1
    → Leads new due (closed (rule_hand (said old) rule) (rule_hand (said old) before) d)
    → Stands new p count due (at_other (hands (said old) o) count (rule_hand (said old) rule) d w)
stands_closed old new o p count rule d w before due e ho room few c g longer entered l =
    let hp : rules_in (length old) p ≡ true = second_of_both (rule_in (length old) before) (rules_in (length old) p) (rw e at ho) in
    let opening : rules_pending o ≡ pending before + rules_pending p = rw e refl in
    record {
      point = rw (c, e) (ap Ok (sym (same_seen new p count due _ _ (rules_kept old new g p hp) (sym l.is))));
      belongs = record { outer = rules_more _ _ p g.longer hp; due = l.inside; room = omega arith; few = few };
    }

-- an operator goes on
pub stands_sign : (old new : List Written) (o : List Rule) (count : ℕ) (r : Rule) (op : Rattle.solv_deps.specs.declared.sign.Operator.Operator) (next : Rule) (rule : Option Rule) (goes : Option Hand)
    → rules_in (length old) o ≡ true → length old + rules_pending o + pending r ≤ count + count + 1 → count < 64 → Extends old new → rule ≡ Some next
    → length new + option_pending rule ≤ length old + pending r + 1 → GoesOn new rule goes
    → Stands new o (count + 1) (Operand next) (go_on (hands (said old) o) count op goes)
stands_sign old new o count r op next rule goes ho room l g e longer go =
    let is : goes ≡ Some (rule_hand (said new) next) = go.is ∙ ap (option_map (rule_hand (said new))) e in
    let one_more : option_pending rule ≡ pending next = rw e refl in
    record {
      point = rw (is, not_full count l) (ap Ok (sym (same_seen new o (count + 1) (Operand next) _ _ (rules_kept old new g o ho) refl)));
      belongs = record { outer = rules_more _ _ o g.longer ho; due = rw e at go.inside; room = omega arith; few = omega arith };
    }

pub still_in : (old mid : List Written) (o : List Rule) (r : Rule) (id : ℕ) (d : Dep (List ℕ))
    → (rules_in (length old) o && rule_in (length old) r) ≡ true → Enters old mid id d
    → (rules_in (length mid) o && (rule_in (length mid) r && nat_lt id (length mid))) ≡ true
still_in old mid o r id d h e =
    let n = length old in
    and_from (rules_in (length mid) o) _ (rules_more _ _ o e.extends.longer (first_of_both (rules_in n o) (rule_in n r) h))
    (and_from (rule_in (length mid) r) (nat_lt id (length mid)) (rule_more _ _ r e.extends.longer (second_of_both (rules_in n o) (rule_in n r) h)) (below_true id (length mid) e.below))

-- a word after a bare name, which is appended to the draft first
pub named_same : (old mid : List Written) (o : List Rule) (count : ℕ) (r : Rule) (name w : List ℕ) (id : ℕ)
    → (rules_in (length old) o && rule_in (length old) r) ≡ true → Enters old mid id (one (plain name)) → comparison w ≡ None
    → at_operator (hands (said mid) o) count (rule_hand (said mid) r) (said mid id) w None (operator w)
    ≡ at_operator (hands (said old) o) count (rule_hand (said old) r) (one (plain name)) w (comparison_due (comparison w) (Some name)) (operator w)
named_same old mid o count r name w id h e c =
    let n = length old in
    rw (rules_kept old mid e.extends o (first_of_both (rules_in n o) (rule_in n r) h), rule_kept old mid e.extends r (second_of_both (rules_in n o) (rule_in n r) h), e.is, c) refl

pub stands_evr : (draft : List Written) (o : List Rule) (count : ℕ) (r : Rule) (name : Bor (List ℕ)) (w : List ℕ) (c : Cmp)
    → (rules_in (length draft) o && rule_in (length draft) r) ≡ true → length draft + rules_pending o + pending r ≤ count + count → count ≤ 64 → comparison w ≡ Some c
    → Stands draft o count (Evr r name c) (at_operator (hands (said draft) o) count (rule_hand (said draft) r) (one (plain name.now)) w (comparison_due (comparison w) (Some name.now)) (operator w))
unfolding seen
stands_evr draft o count r name w c h room few e =
    record {
      point = rw e refl;
      belongs = record {
        outer = first_of_both (rules_in (length draft) o) (rule_in (length draft) r) h;
        due = second_of_both (rules_in (length draft) o) (rule_in (length draft) r) h;
        room = omega arith;
        few = few;
      };
    }

-- the dependency at the end, where the last operand is a bare name that was put into the draft
pub ends_named : (old mid new : List Written) (r : Rule) (name : List ℕ) (id whole_id : ℕ) → rule_in (length old) r ≡ true → Enters old mid id (one (plain name))
    → Enters mid new whole_id (whole (rule_hand (said mid) r) (said mid id)) → Ends new whole_id (Ok (whole (rule_hand (said old) r) (one (plain name))))
ends_named old mid new r name id whole_id h e f =
    record {
      is = ap Ok (sym (f.is ∙ rw (rule_kept old mid e.extends r h, e.is) refl));
      below = f.below;
    }

-- the words that are left give from here what all words give
pub record Goes (draft : List Written) (outer : List Rule) (count : ℕ) (due : Due) (text rest : List ℕ) : Type 0 where
  pub belongs : Belongs draft outer count due
  pub left : reading_from (seen draft outer count due) (words rest) ≡ reading (words text)

pub goes_first : (draft : List Written) (outer : List Rule) (text : List ℕ) → draft ≡ [] → outer ≡ [] → Goes draft outer 0 (Operand Nothing) text text
unfolding seen
goes_first draft outer text d e = rw (d, e) (record {
  belongs = record { outer = refl; due = refl; room = omega arith; few = omega arith };
  left = sym (same_reading (words text));
})

-- where no words are left, the end gives what all words give
pub goes_last : (draft : List Written) (outer : List Rule) (count : ℕ) (due : Due) (text rest : List ℕ) → Goes draft outer count due text rest → words rest ≡ []
    → end_due (hands (said draft) outer) (due_seen (said draft) due) ≡ reading (words text)
unfolding seen
goes_last draft outer count due text rest g e = sym (ap (reading_from (seen draft outer count due)) e) ∙ g.left
