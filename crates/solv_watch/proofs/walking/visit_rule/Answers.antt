use Rattle.std.proofs.Common.{◌≡◌, true, false, sym, ap, ◌∙◌}
use Rattle.solv_pool.specs.Prelude.{is_fact, is_refuted, names_package, is_over}
use Rattle.std.proofs.lemmas.Bool.{false≢true}
use Rattle.solv_derive.proofs.Facts.{all_member}
use Rattle.solv_derive.proofs.Tables.{names_neg}
use Rattle.solv_watch.specs.Inner.Watching.{stays, falsified, forces, moves}
use Rattle.solv_watch.proofs.Pairs.{spare_found, none_spare, lone_false, lone_forced}
use Rattle.solv_watch.proofs.walking.visit_rule.Goals as goal
use Rattle.solv_watch.proofs.walking.visit_rule.Goals.{After-keep_apart}
use Rattle.solv_derive.proofs.Hints.{clause_over}

over : (c : After-keep_apart) → is_over c.args.known.now.count c.lits-clause.result.now ≡ true
over c = clause_over c.args.known.now.count c.args.rules.now.rules c.args.rule c.lits-clause.result.now c.requires.over c.lits-clause.ensures.held

named : (c : After-keep_apart) → names_package c.args.known.now.count c.args.beside ≡ true
named c = all_member (names_package c.args.known.now.count) c.lits-clause.result.now (over c) c.args.beside (c.requires.beside c.lits-clause.result.now c.lits-clause.ensures.held).two.second

pub is_fact-requires : goal.is_fact-requires
is_fact-requires c = named (goal.at.is_fact-requires c).After-keep_apart

pub spare_beside-requires-clause-over : goal.spare_beside-requires-clause-over
spare_beside-requires-clause-over c = over (goal.at.spare_beside-requires-clause-over c).After-keep_apart

pub spare_beside-requires-clause-other : goal.spare_beside-requires-clause-other
spare_beside-requires-clause-other c = c.requires.beside c.lits-clause.result.now c.lits-clause.ensures.held

pub is_fact-requires-in-None : goal.is_fact-requires-in-None
is_fact-requires-in-None c = rw (c.negated.ensures.number) (names_neg c.args.known.now.count c.args.beside (named (goal.at.is_fact-requires-in-None c).After-keep_apart))

pub returns-then-is_fact : goal.returns-then-is_fact
returns-then-is_fact c = stays (λ on. sym c.is_fact.ensures ∙ c.if-is_fact.true)

pub returns-then-not-is_in_use : goal.returns-then-not-is_in_use
returns-then-not-is_in_use c = stays (λ on. absurd (false≢true (sym c.if-not-is_in_use.true ∙ c.is_in_use.ensures ∙ on)))

pub returns-in-Some : goal.returns-in-Some
returns-in-Some c =
    let r = spare_found (is_refuted c.args.known.now.lits) c.args.beside c.lits-clause.result.now c.in-Some.lit (sym c.in-Some.ensures) (c.requires.beside c.lits-clause.result.now c.lits-clause.ensures.held).two.second in
    moves c.in-Some.lit c.lits-clause.result.now (record { found = c.lits-clause.ensures.held; on = sym c.is_in_use.ensures ∙ c.if-not-is_in_use.false })
    (record { second = (c.requires.beside c.lits-clause.result.now c.lits-clause.ensures.held).two.second; first = r.0 }) r.1

pub returns-then-is_fact-2 : goal.returns-then-is_fact-2
returns-then-is_fact-2 c =
    let has = (c.requires.beside c.lits-clause.result.now c.lits-clause.ensures.held).two.second in
    let false_too : is_refuted c.args.known.now.lits c.args.beside ≡ true = ap (is_fact c.args.known.now.lits) (sym c.negated.ensures.number) ∙ sym c.is_fact-in-None.ensures ∙ c.if-is_fact-2.true in
    falsified c.lits-clause.result.now (record { found = c.lits-clause.ensures.held; on = sym c.is_in_use.ensures ∙ c.if-not-is_in_use.false })
    (lone_false c.args.known.now.lits (record { apart = c.keep_apart.ensures.apart }) c.args.beside c.lits-clause.result.now has (none_spare (is_refuted c.args.known.now.lits) c.args.beside c.lits-clause.result.now (sym c.in-None.ensures)) false_too)

pub returns-else-is_fact-2 : goal.returns-else-is_fact-2
returns-else-is_fact-2 c =
    let has = (c.requires.beside c.lits-clause.result.now c.lits-clause.ensures.held).two.second in
    let not_false : is_refuted c.args.known.now.lits c.args.beside ≡ false = ap (is_fact c.args.known.now.lits) (sym c.negated.ensures.number) ∙ sym c.is_fact-in-None.ensures ∙ c.if-is_fact-2.false in
    forces c.lits-clause.result.now (record { found = c.lits-clause.ensures.held; on = sym c.is_in_use.ensures ∙ c.if-not-is_in_use.false })
    (lone_forced c.args.known.now.lits (record { apart = c.keep_apart.ensures.apart }) c.args.beside c.lits-clause.result.now has (none_spare (is_refuted c.args.known.now.lits) c.args.beside c.lits-clause.result.now (sym c.in-None.ensures))
    (sym c.is_fact.ensures ∙ c.if-is_fact.false) not_false)
