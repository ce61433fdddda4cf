use Rattle.std.proofs.Common.{◌≡◌, ◌∷◌, Some, None, map, take, get_or, sym, ap, ◌∙◌, arith, add-one, true}
use Rattle.solv_derive.specs.Forced.{forced}
use Rattle.solv_derive.specs.Inner.Marks.{is_marked}
use Rattle.solv_pool.specs.Prelude.{is_over}
use Rattle.solv_derive.specs.Logs.{hint_clause}
use Rattle.solv_derive.proofs.Tables.{seen_forced, seen_false}
use Rattle.solv_derive.proofs.Hints.{run_next, run_last, run_lost, run_stuck, run_over, found_over, forced_over}
use Rattle.solv_derive.proofs.checker.leads_to_conflict.Goals as goal
use Rattle.solv_derive.proofs.checker.leads_to_conflict.Goals.{In-Some}

pub returns-in-None-clause-upto : goal.returns-in-None-clause-upto
returns-in-None-clause-upto c = λ facts h. (c.loop-k.invariant.run facts h).1.upto

pub returns-then-k-hints-clause-upto : goal.returns-then-k-hints-clause-upto
returns-then-k-hints-clause-upto c = λ facts h. (c.loop-k.invariant.run facts h).1.upto

pub returns-in-None-the_open-clause-upto : goal.returns-in-None-the_open-clause-upto
returns-in-None-the_open-clause-upto c = λ facts h. (c.loop-k.invariant.run facts h).1.upto

pub returns-clause-upto : goal.returns-clause-upto
returns-clause-upto c = λ facts h. (c.loop-k.invariant.run facts h).1.upto

pub returns-clause-same : goal.returns-clause-same
returns-clause-same c = λ facts h.
    let look = hint_clause c.args.memory.now.rules (map (λ s. s.clause) (take c.args.place c.args.steps.now)) in
    let r = c.loop-k.invariant.run facts h in
    sym (run_over look r.0 c.args.hints.now c.loop-k.k (omega arith)) ∙ r.2

pub returns-in-None-clause-same : goal.returns-in-None-clause-same
returns-in-None-clause-same c = λ facts h.
    let look = hint_clause c.args.memory.now.rules (map (λ s. s.clause) (take c.args.place c.args.steps.now)) in
    let r = c.loop-k.invariant.run facts h in
    let e : look (get_or c.args.hints.now c.loop-k.k c.index-hints-k.result) ≡ None = ap look (sym c.index-hints-k.is) ∙ sym c.in-None.ensures in
    sym (run_lost look r.0 c.args.hints.now c.loop-k.k c.index-hints-k.result (omega arith) e) ∙ r.2

here : (c : In-Some) → hint_clause c.args.memory.now.rules (map (λ s. s.clause) (take c.args.place c.args.steps.now)) (get_or c.args.hints.now c.loop-k.k c.index-hints-k.result) ≡ Some c.in-Some.found.now
here c = ap (hint_clause c.args.memory.now.rules (map (λ s. s.clause) (take c.args.place c.args.steps.now))) (sym c.index-hints-k.is) ∙ sym c.in-Some.ensures

over : (c : In-Some) → is_over c.args.count c.in-Some.found.now ≡ true
over c = found_over c.args.count c.args.memory.now.rules c.args.steps.now c.args.place (get_or c.args.hints.now c.loop-k.k c.index-hints-k.result) c.in-Some.found.now c.requires.memory c.requires.steps (here c)

pub returns-then-k-hints-clause-same : goal.returns-then-k-hints-clause-same
returns-then-k-hints-clause-same c = λ facts h.
    let look = hint_clause c.args.memory.now.rules (map (λ s. s.clause) (take c.args.place c.args.steps.now)) in
    let d = (goal.at.returns-then-k-hints-clause-same c).In-Some in
    let r = c.loop-k.invariant.run facts h in
    c.all_false.ensures ∙ seen_false c.args.count c.loop-k.marks c.args.now r.0 c.in-Some.found.now (over d) r.1
    ∙ sym (run_last look r.0 c.in-Some.found.now c.args.hints.now c.loop-k.k c.index-hints-k.result (omega arith) (here d)) ∙ r.2

pub learn-requires-clause-over : goal.learn-requires-clause-over
learn-requires-clause-over c =
    let d = (goal.at.learn-requires-clause-over c).In-Some in
    forced_over c.args.count (is_marked c.loop-k.marks c.args.now) c.in-Some.found.now c.in-Some-the_open.lit (over d) (sym c.in-Some-the_open.ensures)

pub returns-in-None-the_open-clause-same : goal.returns-in-None-the_open-clause-same
returns-in-None-the_open-clause-same c = λ facts h.
    let look = hint_clause c.args.memory.now.rules (map (λ s. s.clause) (take c.args.place c.args.steps.now)) in
    let d = (goal.at.returns-in-None-the_open-clause-same c).In-Some in
    let r = c.loop-k.invariant.run facts h in
    let f : forced r.0 c.in-Some.found.now ≡ None = sym (seen_forced c.args.count c.loop-k.marks c.args.now r.0 c.in-Some.found.now (over d) r.1) ∙ sym c.in-None-the_open.ensures in
    sym (run_stuck look r.0 c.in-Some.found.now c.args.hints.now c.loop-k.k c.index-hints-k.result (omega arith) (here d) f) ∙ r.2

pub loop-k-preserved : goal.loop-k-preserved
loop-k-preserved c = record {
  size = grind (arith, c.loop-k.invariant.size);
  run = λ facts h.
      let look = hint_clause c.args.memory.now.rules (map (λ s. s.clause) (take c.args.place c.args.steps.now)) in
      let d = (goal.at.loop-k-preserved c).In-Some in
      let r = c.loop-k.invariant.run facts h in
      let f : forced r.0 c.in-Some.found.now ≡ Some c.in-Some-the_open.lit = sym (seen_forced c.args.count c.loop-k.marks c.args.now r.0 c.in-Some.found.now (over d) r.1) ∙ sym c.in-Some-the_open.ensures in
      let e = run_next look r.0 c.in-Some.found.now c.in-Some-the_open.lit c.args.hints.now c.loop-k.k c.index-hints-k.result (omega arith) (here d) f in
      (c.in-Some-the_open.lit ∷ r.0, c.learn.ensures r.0 r.1, rw add-one (sym e ∙ r.2));
}
