use Rattle.std.proofs.Common.{◌≡◌, ◌≢◌, ◌<◌, ◌+◌, ℕ, true, false, List, [], ◌∷◌, ◌++◌, map, inl, inr, sym, ap, ◌∙◌, subst, arith, length, get_or, length-append}
use Rattle.std.specs.Prelude.{ℤ, slice_set}
use Rattle.std.specs.List.{list_all}
use Rattle.std.proofs.lemmas.Bool.{cases_lt}
use Rattle.std.proofs.lemmas.List.{get_or-set_same, get_or-set_other, get_or_append_left, get_or_push, length-set}
use Rattle.solv_derive.specs.Inner.Trimming.{is_on, renumbered, hints_at}
use Rattle.solv_core.specs.Ledgers.{rests_on_enabled}
use Rattle.solv_core.specs.Inner.Holding.{entry_of, hint_stays}
use Rattle.solv_core.specs.declared.ledger.Entry.{Entry}
use Rattle.solv_core.proofs.EntryLeaves.{rests_at}
use Rattle.solv_core.proofs.Holding.{entry_at, named_earlier, some_step}
use Rattle.solv_core.proofs.keeping.flags_of.Goals as goal
use Rattle.solv_core.proofs.keeping.flags_of.Goals.{After-all_stay-here}

here_is : (c : After-all_stay-here) (clauses : List (List ℤ)) → length c.args.used.now.owners.now ≡ length clauses
    → c.all_stay-here.result ≡ rests_on_enabled clauses c.args.used.now.owners.now c.args.used.now.enabled.now c.args.entries.now (entry_of c.args.numbers.now.kept.items c.args.numbers.now.first c.loop-rule.rule)
here_is c clauses each =
    let number : ℕ → ℕ = entry_of c.args.numbers.now.kept.items c.args.numbers.now.first in
    let owners = c.args.used.now.owners.now in
    let enabled = c.args.used.now.enabled.now in
    let entries = c.args.entries.now in
    let rule = c.loop-rule.rule in
    let e = c.index-entries-entry.result in
    let steps = c.requires.held.0 in
    let are = c.requires.held.1.0 in
    let many : length steps ≡ c.args.count = c.requires.held.1.1 in
    let less : rule < c.args.count = c.loop-rule-test.true in
    let s = some_step steps rule (omega (arith, less, many)) in
    let a = are.held rule s.0 s.1 in
    let n : c.entry_of-entry.result ≡ number rule = c.entry_of-entry.ensures in
    let is : get_or entries c.entry_of-entry.result e ≡ a.0 = ap (λ i. get_or entries i e) n ∙ entry_at entries (number rule) a.0 e a.1.0 in
    let hints : a.0.hints ≡ map (renumbered number) s.0.hints = a.1.1.1 in
    let P : ℕ → Type 0 = λ m. (m < number rule) × (is_on c.loop-rule.on.items m ≡ rests_on_enabled clauses owners enabled entries m) in
    let below : (m : ℕ) → hints_at m a.0.hints ≡ true → P m = λ m k.
    let q = named_earlier entries number steps are rule s.0 s.1 m (ap (hints_at m) (sym hints) ∙ k) in
    subst P q.1.1.0 (q.1.1.1, c.loop-rule.invariant.noted clauses each q.0 q.1.0) in
    c.all_stay-here.ensures
    ∙ ap (λ v. list_all (hint_stays owners enabled v) c.held.result.now) c.deref.ensures.value
    ∙ ap (list_all (hint_stays owners enabled c.loop-rule.on.items)) (c.held.ensures ∙ ap (λ (v : Entry). v.hints) is)
    ∙ rests_at clauses owners enabled entries each c.loop-rule.on.items (number rule) a.0 a.1.0 (λ m k. (below m k).0) (λ m k. (below m k).1)

pub loop-rule-preserved : goal.loop-rule-preserved
loop-rule-preserved c =
    let d = (goal.at.loop-rule-preserved c).After-all_stay-here in
    let number : ℕ → ℕ = entry_of c.args.numbers.now.kept.items c.args.numbers.now.first in
    let n : c.entry_of-entry.result ≡ number c.loop-rule.rule = c.entry_of-entry.ensures in
    let w : number c.loop-rule.rule < length c.args.entries.now = c.requires.within c.loop-rule.rule c.loop-rule-test.true in
    let steps = c.requires.held.0 in
    let are = c.requires.held.1.0 in
    let many : length steps ≡ c.args.count = c.requires.held.1.1 in
    let less : c.loop-rule.rule < c.args.count = c.loop-rule-test.true in
    record {
      size = ap length c.in_ok-push.ensures.items ∙ length-append c.loop-rule.flags.items (c.all_stay-here.result ∷ []) ∙ ap (λ k. k + 1) c.loop-rule.invariant.size;
      room = length-set c.loop-rule.on.items c.entry_of-entry.result c.all_stay-here.result ∙ c.loop-rule.invariant.room;
      each = λ clauses each r under. ap (λ v. is_on v r) c.in_ok-push.ensures.items ∙ elim (cases_lt r c.loop-rule.rule) [
        | inl before ↦ get_or_append_left c.loop-rule.flags.items (c.all_stay-here.result ∷ []) false r (omega (arith, before, c.loop-rule.invariant.size)) ∙ c.loop-rule.invariant.each clauses each r before
        | inr last ↦
            let same : r ≡ c.loop-rule.rule = omega (arith, under, last) in
            let P : ℕ → Type 0 = λ v. is_on (c.loop-rule.flags.items ++ c.all_stay-here.result ∷ []) v ≡ rests_on_enabled clauses c.args.used.now.owners.now c.args.used.now.enabled.now c.args.entries.now (number v) in
            subst P (sym same) (get_or_push c.loop-rule.flags.items c.all_stay-here.result false c.loop-rule.rule c.loop-rule.invariant.size ∙ here_is d clauses each)
      ];
      noted = λ clauses each r under. elim (cases_lt r c.loop-rule.rule) [
        | inl before ↦
            let up : number r < number c.loop-rule.rule = are.rising r c.loop-rule.rule before (omega (arith, less, many)) in
            let apart : number r ≢ c.entry_of-entry.result = λ e. omega (arith, up, n, e) in
            get_or-set_other c.loop-rule.on.items c.entry_of-entry.result (number r) c.all_stay-here.result false apart ∙ c.loop-rule.invariant.noted clauses each r before
        | inr last ↦
            let same : r ≡ c.loop-rule.rule = omega (arith, under, last) in
            let P : ℕ → Type 0 = λ v. is_on (slice_set c.loop-rule.on.items c.entry_of-entry.result c.all_stay-here.result) (number v) ≡ rests_on_enabled clauses c.args.used.now.owners.now c.args.used.now.enabled.now c.args.entries.now (number v) in
            let Q : ℕ → Type 0 = λ v. is_on (slice_set c.loop-rule.on.items c.entry_of-entry.result c.all_stay-here.result) v ≡ c.all_stay-here.result in
            subst P (sym same) (subst Q n (get_or-set_same c.loop-rule.on.items c.entry_of-entry.result c.all_stay-here.result false (omega (arith, w, n, c.loop-rule.invariant.room))) ∙ here_is d clauses each)
      ];
    }
