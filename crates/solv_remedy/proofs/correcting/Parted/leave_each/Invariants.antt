use Rattle.std.proofs.Common.{◌≡◌, ◌≤◌, ℕ, Bool, List, length}
use Rattle.std.specs.Vec.Iter.{into_iter_items, into_iter_len}
use Rattle.solv_trail.specs.Asked.{is_enabled}
use Rattle.solv_core.specs.Cores.{CoreOf}
use Rattle.solv_questions.specs.Questions.{Request}
use Rattle.solv_remedy.specs.Inner.Correcting.{open_count, AreRefutedBy, IsParted}
use Rattle.solv_remedy.proofs.correcting.Parted.leave_each.Given as goal

abbrev pub invariant-loop-one : goal.invariant-loop-one
invariant-loop-one l = record {
  held : l.self.held.items ≡ l.initial.self.held.items;
  few : open_count l.self ≤ open_count l.initial.self;
  parted : (r : Request) (core : CoreOf) (fixed : List Bool) (firm : ℕ → Bool) (rules : List ℕ) → IsParted r core fixed firm rules l.initial.self → AreRefutedBy r core (is_enabled l.initial.self.held.items) (into_iter_items l.initial.one-iterator) → IsParted r core fixed firm rules l.self;
  left_ : (r : Request) (core : CoreOf) → AreRefutedBy r core (is_enabled l.initial.self.held.items) (into_iter_items l.initial.one-iterator) → AreRefutedBy r core (is_enabled l.initial.self.held.items) (into_iter_items l.one-iterator);
  long : into_iter_len l.one-iterator ≡ length (into_iter_items l.one-iterator);
}
