use Rattle.std.proofs.Common.{◌≡◌, ◌<◌, ◌≤◌, ◌+◌, ◌*◌, true, arith, length}
use Rattle.std.specs.Prelude.{ℤ, pos}
use Rattle.std.proofs.lemmas.List.{get_or_read}
use Rattle.solv_pool.specs.Prelude.{is_fact, names_package, is_over}
use Rattle.solv_pack.specs.Inner.Literals.{place_of}
use Rattle.solv_derive.proofs.Facts.{all_member}
use Rattle.solv_watch.specs.Inner.Spares.{AreTwoOf}
use Rattle.solv_watch.proofs.Pairs.{of_others}
use Rattle.solv_watch.proofs.Chained.{first_two, narrow_none}
use Rattle.solv_watch.proofs.chaining.hang_rule.Goals as goal
use Rattle.solv_watch.proofs.chaining.hang_rule.Goals.{After-index-clause-1}
use Rattle.solv_derive.proofs.Hints.{clause_over}
use Rattle.solv_derive.proofs.Tables.{place_within}

wide : (c : After-index-clause-1) → 2 ≤ length c.lits-clause.result.now
wide c = omega arith

two : (c : After-index-clause-1) → AreTwoOf c.index-clause-0.result c.index-clause-1.result c.lits-clause.result.now
two c =
    let w : 2 ≤ length c.lits-clause.result.now = wide c in
    first_two c.lits-clause.result.now c.index-clause-0.result c.index-clause-1.result w
    (get_or_read c.lits-clause.result.now 0 c.index-clause-0.result (omega arith) c.index-clause-0.is (pos 0))
    (get_or_read c.lits-clause.result.now 1 c.index-clause-1.result (omega arith) c.index-clause-1.is (pos 0))

near : (c : After-index-clause-1) (l : ℤ) → is_fact c.lits-clause.result.now l ≡ true → place_of l < length c.args.chains.now.heads.items
near c l h =
    let over : is_over c.args.packages c.lits-clause.result.now ≡ true = clause_over c.args.packages c.args.rules.now.rules c.args.rule c.lits-clause.result.now c.requires.over c.lits-clause.ensures.held in
    let p : place_of l < 2 * c.args.packages + 2 = place_within c.args.packages l (all_member (names_package c.args.packages) c.lits-clause.result.now over l h) in
    omega (arith, c.requires.chained.room)

pub add-requires-clause-first : goal.add-requires-clause-first
add-requires-clause-first c =
    let d = (goal.at.add-requires-clause-first c).After-index-clause-1 in
    near d c.index-clause-0.result (of_others c.index-clause-1.result c.index-clause-0.result c.lits-clause.result.now (two d).first)

pub add-requires-clause-second : goal.add-requires-clause-second
add-requires-clause-second c =
    let d = (goal.at.add-requires-clause-second c).After-index-clause-1 in
    near d c.index-clause-1.result (two d).second

pub returns-clause-chained : goal.returns-clause-chained
returns-clause-chained c =
    let d = (goal.at.returns-clause-chained c).After-index-clause-1 in
    c.add.ensures.chained c.args.packages c.args.rules.now.rules c.lits-clause.result.now c.requires.chained c.lits-clause.ensures.held (wide d) (two d)
