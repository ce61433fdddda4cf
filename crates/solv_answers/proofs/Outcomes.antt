-- A transaction from what the calls below say.
use Rattle.std.proofs.Common.{◌≡◌, ◌+◌, ℕ, zero, suc, Bool, true, false, not, ◌||◌, List, [], ◌∷◌, refl, sym, ap, ◌∙◌, subst, cond}
use mathlib.Core.Path.{fun_ext}
use Rattle.std.specs.Ordering.{int_eq}
use Rattle.std.specs.Prelude.{ℤ, ◌==◌, pos, negsuc, filter, flat_map, length, replicate, slice_get}
use Rattle.std.specs.List.{list_all, range_with_len}
use Rattle.std.specs.Option.{is_some}
use Rattle.std.proofs.lemmas.Bool.{false≢true}
use Rattle.solv_pool.specs.Prelude.{catalog_of, rule_clauses, hard_rules, marks_of, marked, is_fact, names_package, HardRule, meets_rule, is_among}
use Rattle.solv_derive.proofs.Facts.{all_member, all_from}
use Rattle.solv_pool.specs.Laws.{ClausesNamePackages, ClausesSayTheRule}
use Rattle.solv_pool.specs.declared.tasks.Task.{Task}
use Rattle.solv_rules.specs.Books.{is_bookable}
use Rattle.solv_trail.specs.Asked.{is_enabled, set_of}
use Rattle.solv_core.specs.GoodTrails.{IsGoodTrail, facts_of, literal_of}
use Rattle.solv_core.specs.declared.verdicts.Event.{Event}
use Rattle.solv_core.specs.declared.verdicts.Trail.{Trail}
use Rattle.solv_decide.specs.Deciding.{IsSolution}
use Rattle.solv_decide.specs.Sets.{IsSetOf}
use Rattle.solv_trans.specs.Changes.{changes}
use Rattle.solv_trans.specs.Effects.{IsMemberList, after}
use Rattle.solv_trans.specs.declared.kinds.Change.{Change}
use Rattle.solv_trans.specs.Moving.{goes, is_part}
use Rattle.solv_trans.specs.Edges.{edge, pre_edge}
use Rattle.solv_trans.specs.Orders.{IsOrdered}
use Rattle.solv_trans.specs.declared.ordering.Ordered.{Ordered}
use Rattle.solv_leaving.specs.Inner.Leaving.{LeavesOut}
use Rattle.solv_over.specs.Inner.Thinned.{Thinned}
use Rattle.solv_over.specs.Inner.Trails.{IsWider, of_inside}
use Rattle.solv_over.specs.Inner.Widened.{says_out}
use Rattle.solv_over.proofs.Placing.{place, place_rule}
use Rattle.solv_over.proofs.Thinning.{made_among}
use Rattle.solv_over.proofs.Whole.{solution_of_all}
use Rattle.solv_questions.specs.Questions.{asks}
use Rattle.solv_answers.specs.Answers.{all_enabled, meets_hard_rules, request, tells_in, IsPartOf, IsTransaction}
use Rattle.solv_answers.specs.Inner.Made.{all_made, made_request, made_rules}
use Rattle.solv_answers.proofs.Enabled.{all_rules}
use Rattle.solv_answers.proofs.Meeting.{made_agree}
use Rattle.solv_answers.proofs.Chosen.{same_test, member_list}

-- with every rule enabled those are that are there
all_on : (rules : List HardRule) (k : ℕ) → is_enabled (replicate (length rules) true) k ≡ is_some (slice_get rules k)
all_on [] k = refl
all_on (r ∷ rules) zero = refl
all_on (r ∷ rules) (suc k) = all_on rules k

-- what is told to be in says of nothing that it is out
tells_inside : (left : ℕ → Bool) (e : Event) → tells_in e ≡ true → says_out left (literal_of e) ≡ false
tells_inside left e h = by (literal_of e) h
  where
    by : (l : ℤ) → elim l as (λ _. Bool) [ pos p ↦ true | negsuc k ↦ false ] ≡ true → says_out left l ≡ false
    by (pos p) h = refl
    by (negsuc k) h = absurd (cc)

told_of_inside : (left : ℕ → Bool) (events : List Event) → filter tells_in (of_inside left events) ≡ filter tells_in events
told_of_inside left [] = refl
told_of_inside left (e ∷ events) = by (tells_in e) refl (says_out left (literal_of e)) refl (told_of_inside left events)
  where
    by : (a : Bool) → tells_in e ≡ a → (b : Bool) → says_out left (literal_of e) ≡ b → filter tells_in (of_inside left events) ≡ filter tells_in events
        → filter tells_in (cond (not b) (e ∷ of_inside left events) (of_inside left events)) ≡ cond a (e ∷ filter tells_in events) (filter tells_in events)
    by true h true k r = absurd (false≢true (sym (tells_inside left e h) ∙ k))
    by true h false k r = ap (λ t. cond t (e ∷ filter tells_in (of_inside left events)) (filter tells_in (of_inside left events))) h ∙ ap (λ es. e ∷ es) r
    by false h true k r = r
    by false h false k r = ap (λ t. cond t (e ∷ filter tells_in (of_inside left events)) (filter tells_in (of_inside left events))) h ∙ r

-- a trail is a part of the wider one
part_of : (left : ℕ → Bool) (events more : List Event) → IsWider left events more → IsPartOf events more
part_of left events more wider = record {
  same = sym (told_of_inside left events) ∙ sym (ap (filter tells_in) wider.same) ∙ told_of_inside left more;
  known = wider.keeps;
}

-- a trail and its part know the same packages to be in
in_told : (events : List Event) (p : ℕ) → is_fact (facts_of (filter tells_in events)) (pos p) ≡ is_fact (facts_of events) (pos p)
in_told [] p = refl
in_told (e ∷ events) p = by (literal_of e) refl (in_told events p)
  where
    T : ℤ → Bool
    T l = elim l [ pos k ↦ true | negsuc k ↦ false ]

    F : Bool → Bool
    F b = is_fact (facts_of (cond b (e ∷ filter tells_in events) (filter tells_in events))) (pos p)

    by : (l : ℤ) → literal_of e ≡ l → is_fact (facts_of (filter tells_in events)) (pos p) ≡ is_fact (facts_of events) (pos p) → F (tells_in e) ≡ is_fact (facts_of (e ∷ events)) (pos p)
    by (pos k) s rest = ap F (ap T s) ∙ ap (λ b. int_eq (pos p) (literal_of e) || b) rest
    by (negsuc k) s rest = ap F (ap T s) ∙ rest ∙ sym (ap (λ l. int_eq (pos p) l || is_fact (facts_of events) (pos p)) s)

set_of_part : (events whole : List Event) → IsPartOf events whole → set_of (is_fact (facts_of whole)) ≡ set_of (is_fact (facts_of events))
set_of_part events whole part = fun_ext (λ p. ap (λ b. (p == 0) || b) (sym (in_told whole p) ∙ ap (λ v. is_fact (facts_of v) (pos p)) (sym part.same) ∙ in_told events p))

module _ (task : Task) (left : List Bool) (out : LeavesOut (catalog_of task) task.flags task.jobs (marks_of task) left) (names : ClausesNamePackages) (say : ClausesSayTheRule)
    (bookable : list_all (is_bookable (catalog_of task)) (hard_rules task) ≡ true)
    (trail : Trail) (found : IsSolution (made_request task left) (all_made task left) trail) (set : List ℕ) (of_trail : IsSetOf trail.events set) where
  abbrev thin : Thinned left (made_rules task left) (hard_rules task)
  thin = made_among (catalog_of task) task.flags task.jobs (marks_of task) left

  found_whole : (whole : Trail) × (IsSolution (request task) (all_enabled task) whole × IsWider (marked left) trail.events whole.events)
  found_whole = solution_of_all (catalog_of task) task.flags task.jobs (marks_of task) left out names bookable (all_made task left) (all_enabled task)
      (λ k. all_on (hard_rules task) (place thin k) ∙ ap is_some (place_rule thin k) ∙ sym (all_on (made_rules task left) k)) trail found

  abbrev whole : Trail
  whole = found_whole.0

  solves : IsSolution (request task) (all_enabled task) whole
  solves = found_whole.1.0

  abbrev all_of : List HardRule → Type 0
  all_of rules = IsGoodTrail (length task.universe.packages) (flat_map (rule_clauses (catalog_of task)) rules) (λ known. asks (request task) known (all_enabled task)) whole.events

  good_trail : all_of (hard_rules task)
  good_trail = subst all_of (all_rules (hard_rules task)) solves.good

  part : IsPartOf trail.events whole.events
  part = part_of (marked left) trail.events whole.events found_whole.1.1

  -- the set is that of the whole trail
  same_set : set_of (is_fact (facts_of whole.events)) ≡ set_of (is_fact (facts_of trail.events))
  same_set = set_of_part trail.events whole.events part

  of_whole : IsSetOf whole.events set
  of_whole count over =
      of_trail count (all_from (names_package count) (facts_of trail.events) (λ l h. all_member (names_package count) (facts_of whole.events) over l (found_whole.1.1.keeps l h)))
      ∙ ap (λ s. filter s (0 ∷ range_with_len 1 count)) (sym same_set)

  listed_is : set ≡ filter (set_of (is_fact (facts_of whole.events))) (0 ∷ range_with_len 1 (length task.universe.packages))
  listed_is = of_whole (length task.universe.packages) solves.good.over

  pub set_members : IsMemberList (length task.universe.packages) set
  set_members = let P : List ℕ → Type 0 = λ l. IsMemberList (length task.universe.packages) l in subst P (sym listed_is) (member_list (length task.universe.packages) (facts_of whole.events) solves.good.over)

  test_is : is_among set ≡ set_of (is_fact (facts_of whole.events))
  test_is = ap is_among listed_is ∙ same_test (length task.universe.packages) (facts_of whole.events) solves.good.over

  set_meets : meets_hard_rules task (is_among set) ≡ true
  set_meets =
      ap (λ s. list_all (λ r. meets_rule (catalog_of task) r s) (hard_rules task)) test_is
      ∙ ap (λ rules. list_all (λ r. meets_rule (catalog_of task) r (set_of (is_fact (facts_of whole.events)))) rules) (sym (all_rules (hard_rules task)))
      ∙ solves.meets

  pub made_transaction : (made : List Change) (ordered : Ordered) → made ≡ changes (catalog_of task) (is_among set) → (IsMemberList (length task.universe.packages) set → after (catalog_of task) made ≡ set)
      → IsOrdered (length task.universe.packages + 1) (is_part (catalog_of task) (is_among set)) (goes (catalog_of task) (is_among set)) (edge (catalog_of task) (is_among set)) (pre_edge (catalog_of task) (is_among set)) ordered
      → IsTransaction task trail set made ordered
  made_transaction made ordered changed leaves in_order = record {
    whole = whole;
    good = good_trail;
    told = part;
    agree = made_agree task [] say bookable;
    of_trail = of_whole;
    members = set_members;
    meets = set_meets;
    changed = changed;
    leaves = leaves set_members;
    in_order = in_order;
  }

  pub returned : (lent lent2 kept : List ℕ) (made put : List Change) (ordered : Ordered) → lent ≡ set → lent2 ≡ set → kept ≡ set → put ≡ made
      → made ≡ changes (catalog_of task) (is_among lent) → (IsMemberList (length task.universe.packages) lent → after (catalog_of task) made ≡ lent)
      → IsOrdered (length task.universe.packages + 1) (is_part (catalog_of task) (is_among lent2)) (goes (catalog_of task) (is_among lent2)) (edge (catalog_of task) (is_among lent2)) (pre_edge (catalog_of task) (is_among lent2)) ordered
      → IsTransaction task trail kept put ordered
  returned lent lent2 kept made put ordered l l2 k p changed leaves in_order =
      let C : List ℕ → Type 0 = λ s. made ≡ changes (catalog_of task) (is_among s) in
      let A : List ℕ → Type 0 = λ s. IsMemberList (length task.universe.packages) s → after (catalog_of task) made ≡ s in
      let O : List ℕ → Type 0 = λ s. IsOrdered (length task.universe.packages + 1) (is_part (catalog_of task) (is_among s)) (goes (catalog_of task) (is_among s)) (edge (catalog_of task) (is_among s)) (pre_edge (catalog_of task) (is_among s)) ordered in
      let K : List ℕ → Type 0 = λ s. IsTransaction task trail s put ordered in
      let M : List Change → Type 0 = λ m. IsTransaction task trail set m ordered in
      subst K (sym k) (subst M (sym p) (made_transaction made ordered (subst C l changed) (subst A l leaves) (subst O l2 in_order)))
