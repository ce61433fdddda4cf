use Rattle.std.proofs.Common.{◌≡◌, ◌<◌, ◌≤◌, ◌-◌, ◌+◌, ◌∷◌, ◌++◌, ◌∙◌, [], ℕ, Bool, List, Option, true, false, drop, refl, sym, ap, subst, arith, length, eq-eqb}
use Rattle.std.specs.Option.{IfSome}
use Rattle.std.specs.Prelude.{◌==◌, is_none, slice_index}
use Rattle.std.proofs.lemmas.Bool.{and_parts, or_left}
use Rattle.solv_pool.specs.Prelude.{is_among}
use Rattle.solv_trail.specs.Asked.{is_enabled}
use Rattle.solv_core.specs.Cores.{CoreOf}
use Rattle.solv_core.specs.Inner.Cores.{LearningCore}
use Rattle.solv_core.specs.declared.refuting.RefutedRule.{RefutedRule}
use Rattle.solv_remedy.specs.Remedies.{is_once}
use Rattle.solv_remedy.specs.Inner.Correcting.{and_some, open_count, IsHeldMore, IsPartedOf, IsRefutedOn, KeepsParted}
use Rattle.solv_remedy.specs.declared.correcting.Parted.{Parted}
use Rattle.solv_remedy.proofs.Fronts.{all_gone, next_one}
use Rattle.solv_remedy.proofs.Growing.{dropped_more, kept_then, last_refuted, next_open, next_refuted, open_at, open_few, open_fewer, parted_same, parted_then, still_open}
use Rattle.solv_remedy.proofs.Ran.{may_still, ran_not, ran_then, ran_within}
use Rattle.solv_remedy.proofs.Switched.{entry_within}
use Rattle.solv_remedy.proofs.correcting.drop_before.Goals as goal
use Rattle.solv_remedy.proofs.correcting.drop_before.Goals.{After-decide}

pub loop-rule-init : goal.loop-rule-init
loop-rule-init c = record {
  may_run = c.requires.may_run;
  has_run = ran_not c.requires.may_run;
  few = omega arith;
  kept = λ r firm rules_ up p. p;
  opened = c.requires.opened;
  once = c.requires.once;
  refuted = c.requires.refuted;
}

pub decide-requires-clause-parted : goal.decide-requires-clause-parted
decide-requires-clause-parted c =
    let inv = c.loop-rule.invariant in
    parted_same c.args.setting.now c.args.core.now.made c.loop-rule.core.made c.loop-rule.parted inv.has_run.core (parted_then c.args.setting.now c.args.core.now.made c.args.parted.now c.loop-rule.parted c.requires.parted inv.kept)

pub decide-requires-clause-opened : goal.decide-requires-clause-opened
decide-requires-clause-opened c = open_at c.args.some.now c.loop-rule.rule-index c.args.last.rule c.loop-rule.parted c.loop-rule.invariant.opened c.loop-rule-test.true

-- one run more is within the bound, since the rule was open
one_more : (c : After-decide) → (open_count c.args.parted.now - open_count c.loop-rule.parted) + 1 ≤ open_count c.args.parted.now
one_more c =
    let inv = c.loop-rule.invariant in
    let few = inv.few in
    let on = open_at c.args.some.now c.loop-rule.rule-index c.args.last.rule c.loop-rule.parted inv.opened c.loop-rule-test.true in
    let some = still_open c.args.setting.now c.args.core.now.made c.loop-rule.parted (parted_then c.args.setting.now c.args.core.now.made c.args.parted.now c.loop-rule.parted c.requires.parted inv.kept) (slice_index c.args.some.now c.loop-rule.rule-index) on in
    omega (arith, few, some)

pub returns-in_err-gone-clause-has_run : goal.returns-in_err-gone-clause-has_run
returns-in_err-gone-clause-has_run c = ran_then (one_more ((goal.at.returns-in_err-gone-clause-has_run c).After-decide)) c.loop-rule.invariant.has_run c.decide.ensures.has_run

pub returns-then-gone-clause-has_run : goal.returns-then-gone-clause-has_run
returns-then-gone-clause-has_run c = ran_then (one_more ((goal.at.returns-then-gone-clause-has_run c).After-decide)) c.loop-rule.invariant.has_run c.decide.ensures.has_run

pub returns-in-None-clause-has_run : goal.returns-in-None-clause-has_run
returns-in-None-clause-has_run c = ran_then (one_more ((goal.at.returns-in-None-clause-has_run c).After-decide)) c.loop-rule.invariant.has_run c.decide.ensures.has_run

pub returns-then-gone-clause-parted : goal.returns-then-gone-clause-parted
returns-then-gone-clause-parted c = λ yes.
    let s = c.args.setting.now in
    let inv = c.loop-rule.invariant in
    let O : Option Bool → Type 0 = λ o. IfSome o (λ gone. KeepsParted s c.loop-rule.core.made c.loop-rule.parted c.decide.new.parted) in
    kept_then s c.args.core.now.made c.loop-rule.core.made c.args.parted.now c.loop-rule.parted c.decide.new.parted inv.has_run.core inv.kept (subst O c.in-Some.is c.in_ok-gone.ensures.parted)

pub returns-then-gone-clause-runs : goal.returns-then-gone-clause-runs
returns-then-gone-clause-runs c = λ yes.
    let inv = c.loop-rule.invariant in
    let few = inv.few in
    let O : Option Bool → Type 0 = λ o. IfSome o (λ gone. open_count c.decide.new.parted < open_count c.loop-rule.parted) in
    let less = subst O c.in-Some.is c.in_ok-gone.ensures.fewer in
    ran_then (omega (arith, few, less)) inv.has_run c.decide.ensures.has_run

pub loop-rule-preserved : goal.loop-rule-preserved
loop-rule-preserved c =
    let s = c.args.setting.now in
    let core = c.args.core.now.made in
    let inv = c.loop-rule.invariant in
    let some = c.args.some.now in
    let i = c.loop-rule.rule-index in
    let last = c.args.last.rule in
    let rule = slice_index some i in
    let rest = drop (i + 1) some ++ last ∷ [] in
    let old = c.loop-rule.parted in
    let new = c.decide.new.parted in
    let few = inv.few in
    let next = next_one some i last c.loop-rule-test.true in
    let F : Option Bool → Type 0 = λ o. IfSome o (λ gone. open_count new < open_count old) in
    let K : Option Bool → Type 0 = λ o. IfSome o (λ gone. KeepsParted s c.loop-rule.core.made old new) in
    let M : Option Bool → Type 0 = λ o. IfSome o (λ gone. gone ≡ false → IsHeldMore (rule ∷ []) old new) in
    let less = subst F c.in-Some.is c.in_ok-gone.ensures.fewer in
    let more = subst M c.in-Some.is c.in_ok-gone.ensures.held c.if-gone.false in
    let on = open_at some i last old inv.opened c.loop-rule-test.true in
    let here = parted_then s core c.args.parted.now old c.requires.parted inv.kept in
    let inside = entry_within old.open.items rule on in
    let open_size = here.parted.open_size in
    let held_size = here.parted.held_size in
    let O : List ℕ → Type 0 = λ l. is_once l ≡ true in
    let once = subst O next inv.once in
    let were : (k : ℕ) → is_among (rule ∷ rest) k ≡ true → is_enabled old.open.items k ≡ true = λ k h. inv.opened k (ap (λ l. is_among l k) next ∙ h) in
    record {
      may_run = may_still inv.may_run c.decide.ensures.has_run (sym (ap is_none c.in-Some.is) ∙ c.in_ok-gone.ensures.spent);
      has_run = ran_then (omega (arith, few, less)) inv.has_run c.decide.ensures.has_run;
      few = omega (arith, few, less);
      kept = kept_then s core c.loop-rule.core.made c.args.parted.now old new inv.has_run.core inv.kept (subst K c.in-Some.is c.in_ok-gone.ensures.parted);
      opened = next_open rule rest old new once were more.opened;
      once = (and_parts _ (is_once rest) once).1;
      refuted = λ r up.
          let R : List ℕ → Type 0 = λ l. IsRefutedOn r core (and_some old l) c.args.last.log in
          next_refuted r core c.args.last.log rule rest old new (omega (arith, inside, open_size, held_size)) more (subst R next (inv.refuted r up));
    }

mine : (k : ℕ) → is_among (k ∷ []) k ≡ true
mine k = or_left (k == k) false (eq-eqb k k refl)

-- the last one is left
gone : (some : List ℕ) (i last : ℕ) → length some ≤ i → drop i some ++ last ∷ [] ≡ last ∷ []
gone some i last past = ap (λ l. l ++ last ∷ []) (all_gone some i past)

pub returns-clause-parted : goal.returns-clause-parted
returns-clause-parted c = λ yes r firm rules_ up p.
    let core = c.args.core.now.made in
    let inv = c.loop-rule.invariant in
    let last : RefutedRule = c.args.last in
    let old = c.loop-rule.parted in
    let all = gone c.args.some.now c.loop-rule.rule-index last.rule c.loop-rule-test.false in
    let R : List ℕ → Type 0 = λ l. IsRefutedOn r core (and_some old l) last.log in
    let on = inv.opened last.rule (ap (λ l. is_among l last.rule) all ∙ mine last.rule) in
    dropped_more r core c.args.setting.now.fixed.now firm rules_ last old c.leave.new.self (inv.kept r firm rules_ up p) on c.in_ok-leave.ensures (last_refuted r core last.log last.rule old (subst R all (inv.refuted r up)))

pub returns-clause-fewer : goal.returns-clause-fewer
returns-clause-fewer c = λ yes.
    let s = c.args.setting.now in
    let inv = c.loop-rule.invariant in
    let last : RefutedRule = c.args.last in
    let old = c.loop-rule.parted in
    let d = c.in_ok-leave.ensures in
    let few = inv.few in
    let all = gone c.args.some.now c.loop-rule.rule-index last.rule c.loop-rule-test.false in
    let on = inv.opened last.rule (ap (λ l. is_among l last.rule) all ∙ mine last.rule) in
    let here = parted_then s c.args.core.now.made c.args.parted.now old c.requires.parted inv.kept in
    let less = open_fewer old c.leave.new.self d.same (last.rule ∷ []) d.opened last.rule (ap (λ l. is_among l last.rule) here.parted.same ∙ here.parted.open_of last.rule on) on (mine last.rule) in
    omega (arith, few, less)

pub returns-clause-runs : goal.returns-clause-runs
returns-clause-runs c = λ yes.
    let inv = c.loop-rule.invariant in
    let last : RefutedRule = c.args.last in
    let old = c.loop-rule.parted in
    let d = c.in_ok-leave.ensures in
    let few = inv.few in
    let less = open_few old c.leave.new.self d.same (last.rule ∷ []) d.opened in
    ran_within (omega (arith, few, less)) inv.has_run
