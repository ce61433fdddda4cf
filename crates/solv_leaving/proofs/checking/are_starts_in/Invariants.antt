use Rattle.std.proofs.Common.{ℕ, ◌≡◌, ◌<◌, true, false}
use Rattle.solv_pool.specs.Prelude.{marked}
use Rattle.solv_clean.specs.Inner.Tables.{is_marked}
use Rattle.solv_leaving.proofs.checking.are_starts_in.Given as goal

abbrev pub invariant-loop-place : goal.invariant-loop-place
invariant-loop-place l = (q : ℕ) → q < l.place → is_marked l.starts q ≡ true → marked l.left q ≡ false
