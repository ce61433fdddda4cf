use Rattle.std.proofs.Common.{length, ◌≡◌, ◌≤◌, take}
use Rattle.solv_tags.specs.Inner.Tags.{without_back_blanks}
use Rattle.solv_tags.proofs.headings.skip_back.Given as goal

abbrev pub invariant-loop-n : goal.invariant-loop-n
invariant-loop-n l = (l.n ≤ length l.text) × (without_back_blanks (take l.n l.text) ≡ without_back_blanks l.text)

abbrev pub decreases-loop-n : goal.decreases-loop-n
decreases-loop-n l = l.n
