use Rattle.std.proofs.Common.{◌≡◌, true, List, [], ◌∷◌, Some, sym, ap, ◌∙◌, arith, length, ◌<◌, ◌+◌, subst}
use Rattle.std.specs.Prelude.{ℤ, pos}
use Rattle.std.proofs.lemmas.List.{get_or_read}
use Rattle.std.proofs.lemmas.Bool.{eqb-false}
use Rattle.solv_pool.specs.Prelude.{is_fact, names_package, is_over}
use Rattle.solv_derive.specs.Forced.{forced}
use Rattle.solv_derive.proofs.Facts.{all_member, known_here}
use Rattle.solv_derive.proofs.Tables.{names_neg}
use Rattle.solv_trail.specs.Inner.Held.{Held}
use Rattle.solv_trail.specs.Propagated.{in_use}
use Rattle.solv_trail.specs.Inner.Propagated.{IsUsed, IsGrown}
use Rattle.solv_trail.proofs.Growth.{grown_self, grown_push}
use Rattle.solv_watch.proofs.Walks.{used_among}
use Rattle.solv_watch.proofs.Keeping.{lone_is, lone_forces}
use Rattle.solv_watch.proofs.propagation.visit_narrow.Goals as goal
use Rattle.solv_watch.proofs.propagation.visit_narrow.Goals.{After-index-clause-0}
use Rattle.solv_derive.proofs.Hints.{clause_over}

one : (c : After-index-clause-0) → c.lits-clause.result.now ≡ c.index-clause-0.result ∷ []
one c =
    let some : 0 < length c.lits-clause.result.now = omega (arith, eqb-false (length c.lits-clause.result.now) 0 (sym c.is_empty.ensures ∙ c.if-is_empty.false)) in
    lone_is c.lits-clause.result.now c.index-clause-0.result (c.requires.narrow c.lits-clause.result.now c.lits-clause.ensures.held) some
    (get_or_read c.lits-clause.result.now 0 c.index-clause-0.result some c.index-clause-0.is (pos 0))

named : (c : After-index-clause-0) → names_package c.args.known.now.count c.index-clause-0.result ≡ true
named c =
    let over : is_over c.args.known.now.count c.lits-clause.result.now ≡ true = clause_over c.args.known.now.count c.args.rules.now.rules c.args.rule c.lits-clause.result.now c.requires.over c.lits-clause.ensures.held in
    let P : List ℤ → Type 0 = λ xs. is_fact xs c.index-clause-0.result ≡ true in
    all_member (names_package c.args.known.now.count) c.lits-clause.result.now over c.index-clause-0.result (subst P (sym (one c)) (known_here c.index-clause-0.result []))

pub is_fact-requires : goal.is_fact-requires
is_fact-requires c = named (goal.at.is_fact-requires c).After-index-clause-0

pub is_fact-requires-2 : goal.is_fact-requires-2
is_fact-requires-2 c = rw (c.negated.ensures.number) (names_neg c.args.known.now.count c.index-clause-0.result (named (goal.at.is_fact-requires-2 c).After-index-clause-0))

pub push-requires-clause-over : goal.push-requires-clause-over
push-requires-clause-over c = named (goal.at.push-requires-clause-over c).After-index-clause-0

pub returns-clause-grown : goal.returns-clause-grown
returns-clause-grown c = λ all used part.
    let x : ℤ = c.index-clause-0.result in
    let d = (goal.at.returns-clause-grown c).After-index-clause-0 in
    let v : IsUsed c.args.rules.now.rules (in_use c.args.owners.now c.args.enabled.now) c.args.rule c.lits-clause.result.now = record { found = c.lits-clause.ensures.held; on = sym c.is_in_use.ensures ∙ c.if-not-is_in_use.false } in
    let u : IsUsed all used (c.args.base + c.args.rule) c.lits-clause.result.now = used_among all used c.args.base c.args.rules.now.rules (in_use c.args.owners.now c.args.enabled.now) part c.args.rule c.lits-clause.result.now v in
    let f : forced c.args.known.now.lits c.lits-clause.result.now ≡ Some x =
    ap (forced c.args.known.now.lits) (one d) ∙ lone_forces c.args.known.now.lits x (sym c.is_fact.ensures ∙ c.if-is_fact.false) (ap (is_fact c.args.known.now.lits) (sym c.negated.ensures.number) ∙ sym c.is_fact-2.ensures ∙ c.if-is_fact-2.false) in
    let Q : Held → Type 0 = λ h. IsGrown all used c.args.known.now h in
    subst Q (sym c.push.ensures.added) (grown_push all used c.args.known.now c.args.known.now (c.args.base + c.args.rule) c.lits-clause.result.now x u f (grown_self all used c.args.known.now))
