use Rattle.std.proofs.Common.{ℕ, ◌+◌, Bool, List, Option, arith, sym, ap, ◌∙◌}
use Rattle.std.specs.Prelude.{ℤ, flat_map, filter}
use Rattle.solv_pool.specs.Prelude.{is_fact}
use Rattle.solv_questions.specs.Questions.{first_ask}
use Rattle.solv_plan.specs.declared.plans.Relations.{Relations}
use Rattle.solv_plan.specs.declared.plans.Want.{Want}
use Rattle.solv_plan.specs.Inner.Plans.{question_of, want_queries}
use Rattle.std.specs.Option.{option_or}
use Rattle.solv_trail.specs.declared.questions.Ask.{Ask}
use Rattle.solv_trail.specs.declared.questions.Question.{Question}
use Rattle.solv_plan.proofs.Joining.{found_first, none_is}
use Rattle.solv_plan.proofs.Recalled.{from_pack, one_package, quiet_package, to_next, to_end, from_low}
use Rattle.solv_plan.proofs.remembering.recall_wants_above.Goals as goal

pub returns-then-is_some-clause-asked : goal.returns-then-is_some-clause-asked
returns-then-is_some-clause-asked c =
    let known : ℤ → Bool = is_fact c.args.known.now.lits in
    let relations : Relations = c.args.relations.now in
    let asking : ℕ → ℕ → Question = question_of c.args.asking in
    let ws : List Want = c.args.wants.now in
    let n : ℕ = c.in-Some.number in
    let rest : Option Ask = first_ask known (flat_map (want_queries known relations asking) (filter (from_pack (n + 1)) ws)) in
    found_first c.recall_package-ask.result rest (sym c.is_some.ensures ∙ c.if-is_some.true)
    ∙ ap (λ a. option_or a rest) (c.recall_package-ask.ensures.asked ∙ ap (λ l. first_ask known (flat_map (want_queries known relations asking) l)) c.of.ensures)
    ∙ sym (one_package known relations asking ws c.rise.ensures n)
    ∙ sym (to_next known relations asking ws c.rise.ensures c.packs_in.result.now c.packs_in.ensures c.loop-number.settled c.loop-number.invariant.right c.loop-number.invariant.fits c.loop-number.from n c.loop-number.invariant.some c.in-Some.ensures.next)
    ∙ c.loop-number.invariant.left

pub loop-number-preserved : goal.loop-number-preserved
loop-number-preserved c =
    let known : ℤ → Bool = is_fact c.args.known.now.lits in
    let relations : Relations = c.args.relations.now in
    let asking : ℕ → ℕ → Question = question_of c.args.asking in
    let ws : List Want = c.args.wants.now in
    let n : ℕ = c.in-Some.number in
    record {
      right = c.recall_package-ask.ensures.right ws c.of.ensures c.loop-number.invariant.right;
      fits = c.recall_package-ask.ensures.fits;
      some = omega arith;
      left =
          sym (quiet_package known relations asking ws c.rise.ensures n
          (none_is c.recall_package-ask.result (sym c.is_some.ensures ∙ c.if-is_some.false) ∙ c.recall_package-ask.ensures.asked ∙ ap (λ l. first_ask known (flat_map (want_queries known relations asking) l)) c.of.ensures))
          ∙ sym (to_next known relations asking ws c.rise.ensures c.packs_in.result.now c.packs_in.ensures c.loop-number.settled c.loop-number.invariant.right c.loop-number.invariant.fits c.loop-number.from n c.loop-number.invariant.some c.in-Some.ensures.next)
          ∙ c.loop-number.invariant.left;
    }

pub returns-clause-asked : goal.returns-clause-asked
returns-clause-asked c =
    sym (to_end (is_fact c.args.known.now.lits) c.args.relations.now (question_of c.args.asking) c.args.wants.now c.rise.ensures c.packs_in.result.now c.packs_in.ensures c.loop-number.settled c.loop-number.invariant.right c.loop-number.invariant.fits c.loop-number.from c.loop-number.invariant.some c.in_default.ensures.next)
    ∙ c.loop-number.invariant.left

pub loop-number-init : goal.loop-number-init
loop-number-init c = record {
  right = c.requires.right;
  fits = c.requires.fits;
  some = c.requires.some;
  left = from_low (is_fact c.args.known.now.lits) c.args.relations.now (question_of c.args.asking) c.args.wants.now c.rise.ensures c.args.low c.requires.some c.requires.below;
}
