use Rattle.std.proofs.Common.{◌<◌, ◌+◌, ◌∙◌, length, drop, sum_by, sym, ap, arith}
use Rattle.std.proofs.lemmas.List.Sums.{sum_by-cons}
use Rattle.solv_list.proofs.Lists.{this_turn}
use Rattle.solv_leaving.specs.Inner.Fitting.{need_words}
use Rattle.solv_leaving.proofs.Bounds.{within_some}
use Rattle.solv_leaving.proofs.fitting.with_needs.Goals as goal

pub loop-need-preserved : goal.loop-need-preserved
loop-need-preserved c =
    let needs = c.args.needs.now in
    let i = c.loop-need.need-index in
    let need = c.need-item.result in
    let inside : i < length needs = omega arith in
    record {
      few = c.in-Some.ensures.few;
      whole = λ catalog is.
          let own = within_some (c.loop-need.sum + need_words catalog need) c.in-Some.more (sym (c.in-Some.ensures.exact catalog is)) in
          let split = ap (sum_by (need_words catalog)) (this_turn needs i need inside c.need-item.is) ∙ sum_by-cons (need_words catalog) need (drop (i + 1) needs) in
          let before = c.loop-need.invariant.whole catalog is in
          let same = own.0 in
          omega (arith, same, split, before);
    }
