use Rattle.std.proofs.Common.{◌≡◌, ◌-◌, ◌≤◌, []}
use Rattle.std.specs.Prelude.{⊤}
use Rattle.solv_tags.specs.Inner.Pieces.{HasTaken}
use Rattle.solv_tags.proofs.pieces.Ahead.skip.Given as goal

abbrev pub invariant-loop-self : goal.invariant-loop-self
invariant-loop-self g l = record {
  text : l.self.text.items ≡ [];
  within : l.self.size ≤ l.most;
  contents : g.F.Files.contents l.files ≡ g.F.Files.contents l.fn.files;
  asked : g.F.Files.asked l.files ≡ g.F.Files.asked l.fn.files;
  faults : g.F.Files.faults l.files ≡ g.F.Files.faults l.fn.files;
  taken : HasTaken (g.F.Files.left l.fn.file) (g.F.Files.left l.file) l.fn.self.size l.self.size [] (λ bytes. ⊤);
}

abbrev pub decreases-loop-self : goal.decreases-loop-self
decreases-loop-self g l = l.most - l.self.size
