use Rattle.std.proofs.Common.{◌≡◌, ◌≤◌, ◌-◌, ◌∙◌, ◌++◌, ◌∷◌, ℕ, List, false, length, take, map, get_or, refl, sym, ap, subst}
use Rattle.std.specs.Prelude.{ℤ, neg_ℤ, reverse}
use Rattle.solv_pool.specs.Prelude.{is_fact}
use Rattle.solv_derive.specs.Forced.{is_falsified}
use Rattle.solv_learn.specs.Inner.Learning.{IsLearnt}
use Rattle.solv_learn.specs.Inner.Marks.{has}
use Rattle.solv_learn.specs.Inner.Refuting.{Refutes}
use Rattle.solv_learn.proofs.Learnt.{learnt_is, found_late, rest_in, loose, jumps, some_rule, first_used, first_to_last}
use Rattle.solv_learn.proofs.search.Search.learn.Goals as goal
use Rattle.solv_learn.proofs.search.Search.learn.Goals.{After-mark_at-last, After-lit_at-unique}

last_is : (c : After-mark_at-last) → c.mark_at-last.result ≡ get_or c.args.known.now.marks (length c.args.known.now.marks - 1) 0
last_is c = c.mark_at-last.ensures ∙ ap (λ v. get_or c.args.known.now.marks (v - 1) 0) c.choices.ensures.many

order : (c : After-mark_at-last) → c.mark_at-first.result ≤ c.mark_at-last.result
order c = first_to_last c.args.known.now.marks c.mark_at-first.result c.mark_at-last.result (length c.args.known.now.marks) c.requires.choice refl c.mark_at-first.ensures (last_is c) c.requires.rising

pub to_unique-requires-clause-there : goal.to_unique-requires-clause-there
to_unique-requires-clause-there c =
    let d = (goal.at.to_unique-requires-clause-there c).After-mark_at-last in
    let rules = c.args.book.now.rules ++ c.args.learnt.now.rules in
    let r = some_rule rules c.args.rule c.requires.rule in
    found_late c.args.known.now.lits r.0 c.mark_at-first.result c.mark_at-last.result (has c.start.new.self.marked) c.start.new.self.clause.items c.start.new.self.lowest c.in_ok-start.ensures.collected
    (c.requires.clash r.0 r.1) (ap (λ v. is_falsified (take v c.args.known.now.lits) r.0) (last_is d) ∙ c.requires.late r.0 r.1) (c.in_ok-start.ensures.marks r.0 r.1)

pub below-requires-clause-places : goal.below-requires-clause-places
below-requires-clause-places c = c.in_ok-to_unique.ensures.places c.in_ok-start.ensures.places

pub choices_back-back-requires : goal.choices_back-back-requires
choices_back-back-requires c =
    let d = (goal.at.choices_back-back-requires c).After-mark_at-last in
    let e : c.deref.result.now ≡ c.to_unique.new.self.clause.items = c.deref.ensures.value ∙ c.in_ok-below.ensures.nothing_kept in
    record {
      refuted = λ l k.
          rest_in c.args.known.now.lits (record { apart = c.keep_apart.ensures.apart }) c.mark_at-first.result c.mark_at-last.result c.to_unique.new.self.lowest (order d) (has c.to_unique.new.self.marked) c.to_unique.new.self.clause.items
          c.in_ok-to_unique.ensures.collected c.in_ok-to_unique.ensures.there c.lit_at-unique.result c.lit_at-unique.ensures.lit c.lit_at-unique.ensures.before l (ap (λ v. is_fact v l) (sym e) ∙ k);
    }

pub returns-clause-learnt : goal.returns-clause-learnt
returns-clause-learnt c = λ used reasoned on.
    let d = (goal.at.returns-clause-learnt c).After-mark_at-last in
    let rules = c.args.book.now.rules ++ c.args.learnt.now.rules in
    let count = length c.args.book.now.rules in
    let T : List ℤ = c.args.known.now.lits in
    let L : List ℤ = c.to_unique.new.self.clause.items in
    let u : ℤ = c.lit_at-unique.result in
    let low : ℕ = c.to_unique.new.self.lowest in
    let kept : c.below.new.self.clause.items ≡ L = c.in_ok-below.ensures.nothing_kept in
    let e : c.deref.result.now ≡ L = c.deref.ensures.value ∙ kept in
    let whole : neg_ℤ u ∷ L ≡ c.negated.result ∷ c.below.new.self.clause.items = ap (λ v. v ∷ L) (sym c.negated.ensures.number) ∙ ap (λ v. c.negated.result ∷ v) (sym kept) in
    let P : List ℤ → Type 0 = λ v. IsLearnt rules used count c.args.base c.args.known.now v c.reverse.new.self.items c.choices_back-back.result in
    subst P whole
    (learnt_is rules used count c.args.base c.args.known.now c.mark_at-first.result c.mark_at-last.result low (has c.to_unique.new.self.marked) (has c.below.new.self.marked) L u c.below.new.self.hints.items c.reverse.new.self.items c.choices_back-back.result
    (record { apart = c.keep_apart.ensures.apart }) c.keep_apart.ensures.over c.requires.choice (order d) (last_is d) c.requires.rising
    c.in_ok-to_unique.ensures.collected c.in_ok-to_unique.ensures.there c.lit_at-unique.ensures.lit c.lit_at-unique.ensures.before
    (λ look finds.
    let up : Refutes look (is_fact (map neg_ℤ (neg_ℤ u ∷ L))) T c.mark_at-first.result (has c.to_unique.new.self.marked) (reverse c.to_unique.new.self.hints.items) =
    jumps T (record { apart = c.keep_apart.ensures.apart }) c.mark_at-first.result c.mark_at-last.result low (order d) (has c.to_unique.new.self.marked) L c.in_ok-to_unique.ensures.collected c.in_ok-to_unique.ensures.there u c.lit_at-unique.ensures.lit c.lit_at-unique.ensures.before
    look (reverse c.to_unique.new.self.hints.items) (c.in_ok-to_unique.ensures.refutes look finds (c.in_ok-start.ensures.refutes look (λ x. false) finds)) in
    c.in_ok-below.ensures.refutes look (is_fact (map neg_ℤ (neg_ℤ u ∷ L))) finds
    (loose T (record { apart = c.keep_apart.ensures.apart }) c.mark_at-first.result c.mark_at-last.result low (order d) (has c.to_unique.new.self.marked) L c.in_ok-to_unique.ensures.collected c.in_ok-to_unique.ensures.there u c.lit_at-unique.ensures.lit c.lit_at-unique.ensures.before) up)
    (c.in_ok-below.ensures.in_use used reasoned (c.in_ok-to_unique.ensures.in_use used reasoned (first_used used count c.args.base (length rules) c.args.rule c.start.new.self.hints.items c.requires.rule on c.in_ok-start.ensures.hints)))
    c.reverse.ensures.items c.choices_back-back.ensures.few
    (λ h l k. c.choices_back-back.ensures.refuted h l (ap (λ v. is_fact v l) e ∙ k))
    (λ k h. let m = c.choices_back-back.ensures.least k h in (m.0, (ap (λ v. is_fact v m.0) (sym e) ∙ m.1.0, m.1.1))))
