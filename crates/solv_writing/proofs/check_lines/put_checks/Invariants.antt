use Rattle.std.proofs.Common.{◌≡◌, ◌++◌, ◌∷◌, [], map, drop}
use Rattle.std.specs.Prelude.{codes}
use Rattle.solv_deps.specs.Canonical.{comparison_text}
use Rattle.solv_io.specs.Lines.{ended_lines}
use Rattle.solv_io.specs.JoinedWords.{joined}
use Rattle.solv_writing.proofs.check_lines.put_checks.Given as goal

abbrev pub invariant-loop-check : goal.invariant-loop-check
invariant-loop-check l =
    l.into.items ++ ended_lines (map (λ check. joined (codes "evrcmp" ∷ check.left ∷ comparison_text check.op ∷ check.right ∷ [])) (drop l.check-index l.checks))
    ≡ l.fn.into.items ++ ended_lines (map (λ check. joined (codes "evrcmp" ∷ check.left ∷ comparison_text check.op ∷ check.right ∷ [])) l.checks)
