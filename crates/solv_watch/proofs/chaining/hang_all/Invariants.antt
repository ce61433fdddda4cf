use Rattle.std.proofs.Common.{◌≡◌, ◌≤◌, ◌*◌, length, vec_capacity}
use Rattle.solv_watch.specs.Inner.Watching.{AreChainedTo}
use Rattle.solv_watch.proofs.chaining.hang_all.Given as goal

abbrev pub invariant-loop-rule : goal.invariant-loop-rule
invariant-loop-rule l = record {
  room : 2 * length l.rules.rules ≤ vec_capacity l.chains.watched;
  chained : AreChainedTo l.packages l.rule l.rules.rules l.chains.heads.items l.chains.links.items l.chains.watched.items;
}
