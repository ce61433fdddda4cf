use Rattle.std.proofs.Common.{◌<◌, ◌+◌, ◌*◌, ◌-◌, ◌||◌, ℕ, false, subst, sym, ◌∙◌}
use Rattle.std.specs.List.{range_with_len}
use Rattle.std.specs.Option.{option_map_or}
use Rattle.solv_pool.specs.Prelude.{catalog_of, package_at, is_among}
use Rattle.solv_trail.specs.Inner.Numbers.{has}
use Rattle.solv_questions.specs.Questions.{request_of}
use Rattle.solv_plan.specs.Inner.PlanOf.{is_supplement}
use Rattle.solv_planning.proofs.Ranking.{tree_turn}
use Rattle.solv_planning.proofs.reads.put_all_supplements.Goals as goal
use Rattle.solv_list.proofs.Lists.{range_step}

pub loop-before-preserved : goal.loop-before-preserved
loop-before-preserved c =
    let catalog = catalog_of c.args.task.now in
    let n : ℕ = c.loop-before.before in
    let last : ℕ = c.count-before-end.result in
    record {
      size = c.put_supplements.ensures.room ∙ c.loop-before.invariant.size;
      left = λ marks k low.
          let L : ℕ → Type 0 = λ m. k < 64 * m in
          tree_turn (λ p. option_map_or (λ a. is_among a.supplements k) (package_at catalog p) false) (n + 1) (range_with_len (n + 1 + 1) (last - (n + 1))) (range_with_len (n + 1) (last - n))
          (has c.loop-before.set k) (has c.put_supplements.new.set k) (is_supplement (request_of c.args.task.now marks) k || has c.args.set.now k)
          (range_step (n + 1) n last c.loop-before-test.true)
          (c.put_supplements.ensures.put k (subst L (sym c.loop-before.invariant.size) low)) (c.loop-before.invariant.left marks k low);
    }
