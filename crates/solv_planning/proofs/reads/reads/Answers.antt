use Rattle.std.proofs.Common.{◌≡◌, ◌<◌, ◌||◌, ℕ, Bool, false, List, length, sym, ap, ◌∙◌}
use Rattle.solv_pool.specs.Prelude.{catalog_of}
use Rattle.solv_trail.specs.Inner.Numbers.{has}
use Rattle.solv_questions.specs.Questions.{request_of}
use Rattle.solv_plan.specs.Inner.PlanOf.{has_trees, is_asked_by, is_supplement, is_read, all_required, all_recommended}
use Rattle.solv_list.proofs.Answers.{ok_map}
use Rattle.solv_planning.proofs.reads.reads.Goals as goal

pub returns : goal.returns
returns c = λ marks required recommended.
    let r = request_of c.args.task.now marks in
    let none : has_trees (catalog_of c.args.task.now) ≡ false = sym c.requires.by_tree ∙ c.if-by_tree.false in
    let own : ℕ → Bool = λ k. is_asked_by c.args.required.now k || (is_asked_by c.args.recommended.now k || is_supplement r k) in
    ok_map (λ set. (k : ℕ) → k < length c.args.task.now.pool.nodes → has set k ≡ own k) (λ set. (k : ℕ) → k < length c.args.task.now.pool.nodes → has set k ≡ is_read r k) c.asked_for.result
    (λ set same k low.
    same k low ∙ ap (λ ws. is_asked_by ws k || (is_asked_by c.args.recommended.now k || is_supplement r k)) required
    ∙ ap (λ ws. is_asked_by (all_required r) k || (is_asked_by ws k || is_supplement r k)) recommended
    ∙ sym (ap (λ b. b || (is_asked_by (all_required r) k || (is_asked_by (all_recommended r) k || is_supplement r k))) none))
    (c.asked_for.ensures marks)
