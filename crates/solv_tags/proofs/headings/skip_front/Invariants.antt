use Rattle.std.proofs.Common.{length, ◌-◌, ◌≡◌, ◌≤◌, drop}
use Rattle.solv_tags.specs.Headings.{without_front_blanks}
use Rattle.solv_tags.proofs.headings.skip_front.Given as goal

abbrev pub invariant-loop-n : goal.invariant-loop-n
invariant-loop-n l = (l.n ≤ length l.text) × (without_front_blanks (drop l.n l.text) ≡ without_front_blanks l.text)

abbrev pub decreases-loop-n : goal.decreases-loop-n
decreases-loop-n l = length l.initial.text - l.n
