use Rattle.std.proofs.Common.{◌≡◌, ◌∙◌, ◌∷◌, ◌++◌, [], ℕ, List, Option, true, sym, ap, subst, rules}
use Rattle.std.specs.Prelude.{filter, option_to_list}
use Rattle.std.proofs.lemmas.Bool.{and_parts}
use Rattle.solv_pool.specs.Prelude.{is_among}
use Rattle.solv_pool.proofs.Among.{among_filter}
use Rattle.solv_derive.specs.Leaves.{leaves}
use Rattle.solv_trail.specs.Asked.{is_enabled}
use Rattle.solv_remedy.specs.Remedies.{is_once}
use Rattle.solv_remedy.specs.Inner.Correcting.{and_some, IsRefutedOn}
use Rattle.solv_remedy.specs.Inner.Trying.{is_off_in}
use Rattle.solv_remedy.proofs.Growing.{core_once, core_some, some_open}
use Rattle.solv_remedy.proofs.correcting.drop_one_of.Goals as goal
use Rattle.solv_remedy.proofs.correcting.drop_one_of.Goals.{In-Some}

-- all open rules of the core: those before the last, and the last
whole : (c : In-Some) → c.in_ok-some.some.items ≡ c.pop.new.self.items ++ c.in-Some.rule ∷ []
whole c = c.pop.ensures.items ∙ ap (λ o. c.pop.new.self.items ++ option_to_list o) c.in-Some.is

pub drop_before-requires-clause-opened : goal.drop_before-requires-clause-opened
drop_before-requires-clause-opened c = λ k h.
    let at = goal.at.drop_before-requires-clause-opened c in
    let w = whole at.In-Some in
    let e : c.deref-in-Some.result.now ≡ c.pop.new.self.items = c.deref-in-Some.ensures.value in
    let there : is_among c.in_ok-some.some.items k ≡ true = ap (λ l. is_among l k) (w ∙ ap (λ l. l ++ c.in-Some.rule ∷ []) (sym e)) ∙ h in
    (and_parts (is_among c.deref.result.now k) (is_enabled c.args.parted.now.open.items k) (sym (among_filter (is_enabled c.args.parted.now.open.items) c.deref.result.now k) ∙ ap (λ l. is_among l k) (sym c.in_ok-some.ensures) ∙ there)).1

pub drop_before-requires-clause-once : goal.drop_before-requires-clause-once
drop_before-requires-clause-once c =
    let at = goal.at.drop_before-requires-clause-once c in
    let s = c.args.setting.now in
    let w = whole at.In-Some in
    let e : c.deref-in-Some.result.now ≡ c.pop.new.self.items = c.deref-in-Some.ensures.value in
    let named = c.deref.ensures.value ∙ c.in_ok-rules.ensures in
    ap is_once (ap (λ l. l ++ c.in-Some.rule ∷ []) e ∙ sym w) ∙ core_once (is_off_in s.fixed.now) (is_enabled c.args.parted.now.open.items) s.book.now.owners (leaves c.args.log.steps) c.deref.result.now c.in_ok-some.some.items named c.in_ok-some.ensures

pub drop_before-requires-clause-refuted : goal.drop_before-requires-clause-refuted
drop_before-requires-clause-refuted c = λ r up.
    let at = goal.at.drop_before-requires-clause-refuted c in
    let s = c.args.setting.now in
    let p = c.requires.parted in
    let w = whole at.In-Some in
    let e : c.deref-in-Some.result.now ≡ c.pop.new.self.items = c.deref-in-Some.ensures.value in
    let named = c.deref.ensures.value ∙ c.in_ok-rules.ensures in
    let R : List ℕ → Type 0 = λ l. IsRefutedOn r c.args.core.now.made (and_some c.args.parted.now l) c.args.log in
    subst R (w ∙ ap (λ l. l ++ c.in-Some.rule ∷ []) (sym e))
    (core_some r s.phases.now c.args.core.now.made s.book.now s.fixed.now up c.good_logs_refute_their_rules.ensures p.request p.firm p.rules c.args.parted.now p.parted c.args.log c.deref.result.now c.in_ok-some.some.items named c.in_ok-some.ensures (c.requires.refuted r up))

pub unreachable-requires : goal.unreachable-requires
unreachable-requires c =
    let s = c.args.setting.now in
    let p = c.requires.parted in
    let named = c.deref.ensures.value ∙ c.in_ok-rules.ensures in
    let empty : c.in_ok-some.some.items ≡ [] = search rules in
    let R : List ℕ → Type 0 = λ l. IsRefutedOn p.request c.args.core.now.made (and_some c.args.parted.now l) c.args.log in
    some_open p.request c.args.core.now.made c.args.log c.args.parted.now p.parted.solvable (subst R empty
    (core_some p.request s.phases.now c.args.core.now.made s.book.now s.fixed.now p.up c.good_logs_refute_their_rules.ensures p.request p.firm p.rules c.args.parted.now p.parted c.args.log c.deref.result.now c.in_ok-some.some.items named c.in_ok-some.ensures (c.requires.refuted p.request p.up)))
