-- What is kept of counts.
use Rattle.std.proofs.Common.{◌≡◌, ◌≤◌, ◌<◌, ℕ, Bool, true, ◌&&◌, length}
use Rattle.std.specs.Prelude.{◌==◌}
use Rattle.std.proofs.lemmas.Bool.{and_parts, eqb-true}
use Rattle.solv_pool.specs.Prelude.{times}
use Rattle.solv_rich.specs.Counts.{saturated}
use Rattle.solv_rich.specs.Inner.Expansions.{clauses_in, are_counted}
use Rattle.solv_rich.specs.declared.expansion.Expansion.{Expansion}
use Rattle.solv_rich.proofs.Numbered.{AreCrossed, crossed}

pub count_at : (count n : ℕ) (b : Bool) → (count == n && b) ≡ true → count ≡ n
count_at count n b h = eqb-true count n (and_parts (count == n) b h).0

pub first_counted : (a b c : Bool) → (a && (b && c)) ≡ true → b ≡ true
first_counted a b c h = (and_parts b c (and_parts a (b && c) h).1).0

pub second_counted : (a b c : Bool) → (a && (b && c)) ≡ true → c ≡ true
second_counted a b c h = (and_parts b c (and_parts a (b && c) h).1).1

pub crossed_is : (first second : Expansion) (count k : ℕ) → (count == saturated (length (clauses_in second)) && (are_counted first && are_counted second)) ≡ true
    → length (times (clauses_in first) (clauses_in second)) ≤ 65536 → k < length (times (clauses_in first) (clauses_in second)) → AreCrossed (clauses_in first) (clauses_in second) count k
crossed_is first second count k counted few there =
    crossed (clauses_in first) (clauses_in second) count k (count_at count (saturated (length (clauses_in second))) (are_counted first && are_counted second) counted) few there
