use Rattle.std.proofs.Common.{◌≡◌, ℕ, Bool, true}
use Rattle.std.specs.List.{list_all}
use Rattle.solv_remedy.proofs.showing.met_among.Given as goal

abbrev pub invariant-loop-rule : goal.invariant-loop-rule
invariant-loop-rule l = (p : ℕ → Bool) → list_all p l.rules ≡ true → list_all p l.met.items ≡ true
