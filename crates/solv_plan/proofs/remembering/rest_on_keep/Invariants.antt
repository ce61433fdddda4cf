use Rattle.std.proofs.Common.{◌≡◌, ℕ, Bool, true, drop}
use Rattle.std.specs.List.{list_all}
use Rattle.solv_pool.specs.Prelude.{is_fact}
use Rattle.solv_plan.specs.Inner.Entries.{is_rested, are_right}
use Rattle.solv_plan.specs.Inner.Settling.{met_by, Fits}
use Rattle.solv_plan.proofs.remembering.rest_on_keep.Given as goal

abbrev pub invariant-loop-demand : goal.invariant-loop-demand
invariant-loop-demand l = record {
  right : (by : (ℕ → Bool) → ℕ → Bool) → are_right by l.initial.settled ≡ true → are_right by l.settled ≡ true;
  fits : Fits (is_fact l.known.lits) l.settled;
  left : (rested : ℕ → Bool) → ((p : ℕ) → is_rested l.settled p ≡ true → rested p ≡ true) → list_all (λ d. met_by rested d.candidates) (drop l.demand-index l.keep.best) ≡ true → list_all (λ d. met_by rested d.candidates) l.keep.best ≡ true;
}
