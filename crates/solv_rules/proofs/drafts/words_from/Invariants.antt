use Rattle.std.proofs.Common.{◌≡◌, ◌≤◌, ◌+◌, ◌*◌, drop}
use Rattle.solv_pool.specs.Prelude.{words_of_all}
use Rattle.solv_rules.proofs.drafts.words_from.Given as goal

abbrev pub invariant-loop-rule : goal.invariant-loop-rule
invariant-loop-rule l = record {
  sum : l.words + words_of_all (drop l.rule l.memory.rules) ≡ words_of_all (drop l.place l.memory.rules);
  small : l.words ≤ l.rule * 2097156;
}
