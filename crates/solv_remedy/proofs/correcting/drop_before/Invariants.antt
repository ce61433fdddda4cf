use Rattle.std.proofs.Common.{◌≡◌, ◌≤◌, ◌-◌, ◌++◌, ◌∷◌, [], ℕ, true, drop}
use Rattle.solv_pool.specs.Prelude.{is_among}
use Rattle.solv_trail.specs.Asked.{is_enabled}
use Rattle.solv_questions.specs.Questions.{Request}
use Rattle.solv_remedy.specs.Remedies.{is_once}
use Rattle.solv_remedy.specs.Inner.Correcting.{and_some, open_count, IsPartedOf, IsRefutedOn, KeepsParted}
use Rattle.solv_remedy.specs.Inner.Runs.{IsOf, MayRun, HasRun}
use Rattle.solv_remedy.proofs.correcting.drop_before.Given as goal

abbrev pub invariant-loop-rule : goal.invariant-loop-rule
invariant-loop-rule l = record {
  may_run : MayRun l.setting l.core l.ledger;
  has_run : HasRun l.setting (open_count l.initial.parted - open_count l.parted) l.initial.core l.core l.initial.ledger l.ledger;
  few : open_count l.parted ≤ open_count l.initial.parted;
  kept : KeepsParted l.setting l.initial.core.made l.initial.parted l.parted;
  opened : (k : ℕ) → is_among (drop l.rule-index l.some ++ l.last.rule ∷ []) k ≡ true → is_enabled l.parted.open.items k ≡ true;
  once : is_once (drop l.rule-index l.some ++ l.last.rule ∷ []) ≡ true;
  refuted : (r : Request) → IsOf r l.setting l.initial.core.made → IsRefutedOn r l.initial.core.made (and_some l.parted (drop l.rule-index l.some ++ l.last.rule ∷ [])) l.last.log;
}
