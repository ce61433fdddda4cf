use Rattle.std.proofs.Common.{◌≡◌, ◌+◌, ◌*◌, List, map, take, drop, length}
use Rattle.std.specs.Prelude.{ℤ}
use Rattle.solv_derive.specs.Inner.Marks.{Shows}
use Rattle.solv_derive.specs.Logs.{hint_clause, ends_in_conflict}
use Rattle.solv_derive.proofs.checker.leads_to_conflict.Given as goal

-- from the facts at the start: the facts now, from which the hints that are left run out as all do from those
abbrev pub invariant-loop-k : goal.invariant-loop-k
invariant-loop-k l =
    let look = hint_clause l.memory.rules (map (λ s. s.clause) (take l.place l.steps)) in
    record {
      size : length l.marks ≡ 2 * l.count + 2;
      run : (facts : List ℤ) → Shows l.count l.initial.marks l.now facts
          → (there : List ℤ) × Shows l.count l.marks l.now there × (ends_in_conflict look there (drop l.k l.hints) ≡ ends_in_conflict look facts l.hints);
    }
