use Rattle.std.proofs.Common.{◌≡◌, ◌∙◌, ◌+◌, ◌<◌, ◌++◌, ◌∷◌, [], ap, length, drop, sym}
use Rattle.solv_pool.specs.Prelude.{kept, in_numbers}
use Rattle.std.specs.Prelude.{flat_map}
use Rattle.solv_rich.specs.Inner.Counts.{ends_behind, HasAppended}
use Rattle.solv_rich.specs.Inner.Expansions.{clauses_in}
use Rattle.solv_rich.proofs.Numbered.{there_is, below_count}
use Rattle.solv_rich.proofs.Appended.{drop_at, kept_more, lits_left, ends_left, kept_chain}
use Rattle.solv_rich.proofs.appending.append_all.Goals as goal

pub loop-number-preserved : goal.loop-number-preserved
loop-number-preserved c =
    let cs = clauses_in c.args.expansion.now in
    let number = c.loop-number.number in
    let low : number < length cs = below_count number c.count_in-number-end.result (length cs) c.count_in-number-end.ensures.exact c.loop-number-test.true in
    let there = there_is cs number low in
    let first = in_numbers (kept (there.0 ∷ [])) in
    let rest = in_numbers (kept (drop (number + 1) cs)) in
    let whole : in_numbers (kept (drop number cs)) ≡ first ++ rest = ap (λ t. in_numbers (kept t)) (drop_at cs number there.0 there.1) ∙ kept_more there.0 (drop (number + 1) cs) in
    let put : HasAppended first c.loop-number.lits.items c.append_numbered.new.lits.items c.loop-number.ends.items c.append_numbered.new.ends.items = c.in_ok-append_numbered.ensures.appended there.0 there.1 in
    record {
      lits = lits_left first rest c.loop-number.lits.items c.append_numbered.new.lits.items c.loop-number.ends.items c.append_numbered.new.ends.items put ∙ ap (λ t. c.loop-number.lits.items ++ flat_map (λ x. x) t) (sym whole) ∙ c.loop-number.invariant.lits;
      ends = ends_left first rest c.loop-number.lits.items c.append_numbered.new.lits.items c.loop-number.ends.items c.append_numbered.new.ends.items put ∙ ap (λ t. c.loop-number.ends.items ++ ends_behind (length c.loop-number.lits.items) t) (sym whole) ∙ c.loop-number.invariant.ends;
      kept_lits = kept_chain c.args.lits.now.items c.loop-number.lits.items c.append_numbered.new.lits.items c.loop-number.invariant.kept_lits c.append_numbered.ensures.kept_literals;
      kept_ends = kept_chain c.args.ends.now.items c.loop-number.ends.items c.append_numbered.new.ends.items c.loop-number.invariant.kept_ends c.append_numbered.ensures.kept_ends;
    }
