use Rattle.std.proofs.Common.{◌≡◌, ℕ, ◌<◌, ◌*◌, true}
use Rattle.solv_trail.specs.Inner.Numbers.{has}
use Rattle.solv_trail.proofs.Bits.{has_any}
use Rattle.solv_trail.proofs.numbers.have_all.Given as goal

abbrev pub invariant-loop-place : goal.invariant-loop-place
invariant-loop-place l = (k : ℕ) → k < l.place * 64 → has_any l.a l.b l.c l.d k ≡ true → has l.words k ≡ true
