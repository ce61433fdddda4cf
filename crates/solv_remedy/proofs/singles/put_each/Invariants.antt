use Rattle.std.proofs.Common.{◌≡◌, ℕ, List, true, false, length}
use Rattle.std.specs.Vec.Iter.{into_iter_items, into_iter_len}
use Rattle.solv_pool.specs.Prelude.{is_among}
use Rattle.solv_trail.specs.Asked.{is_enabled}
use Rattle.solv_core.specs.Inner.Contradictions.{AreRefuted}
use Rattle.solv_core.specs.Cores.{CoreOf}
use Rattle.solv_questions.specs.Questions.{Request}
use Rattle.solv_decide.specs.Inner.Deciding.{Asker}
use Rattle.solv_remedy.specs.Inner.Trying.{IsSetUp}
use Rattle.solv_remedy.specs.Inner.Conflicts.{listed_of, AreApart, AreMore, AreSettled}
use Rattle.solv_remedy.proofs.singles.put_each.Given as goal

abbrev pub invariant-loop-one : goal.invariant-loop-one
invariant-loop-one l = record {
  apart : AreApart l.fixed l.conflicts.items;
  free : (k : ℕ) → is_enabled l.free k ≡ true → is_among (listed_of l.conflicts.items) k ≡ false;
  more : AreMore l.initial.conflicts.items l.conflicts.items;
  settled : (r : Request) (asker : Asker) (core : CoreOf) (asked : List ℕ) → IsSetUp r asker core l.book l.fixed → AreRefuted core.clauses core.owners core.packages l.fixed asked (into_iter_items l.initial.one-iterator)
      → AreSettled r core l.initial.conflicts.items → AreSettled r core l.conflicts.items;
  left : (core : CoreOf) (asked : List ℕ) → AreRefuted core.clauses core.owners core.packages l.fixed asked (into_iter_items l.initial.one-iterator) → AreRefuted core.clauses core.owners core.packages l.fixed asked (into_iter_items l.one-iterator);
  long : into_iter_len l.one-iterator ≡ length (into_iter_items l.one-iterator);
}
