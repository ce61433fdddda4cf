-- The events of what is held: a literal at a choice was taken, each other is known.
use Rattle.std.specs.Prelude.{◌≡◌, ◌<◌, ◌==◌, ◌&&◌, ℕ, pos, nat_abs, nat_lt, Bool, false, List, length, take, slice_get, slice_index, slice_index_or, Some}
use Rattle.solv_pool.specs.Prelude.{is_fact}
use Rattle.solv_trail.specs.Inner.Held.{Held}
use Rattle.solv_trail.specs.declared.questions.Question.{Question}
use Rattle.solv_core.specs.declared.verdicts.Event.{Event}
use Rattle.solv_core.specs.declared.verdicts.Event.TheVariants as event

-- the choice of this number stands at this place
abbrev pub stands_at : List ℕ → ℕ → ℕ → Bool
stands_at marks choice place = nat_lt choice (length marks) && (slice_index marks choice == place)

pub data IsEventAt (held : Held) (place : ℕ) (e : Event) : Type 0 where
  known_at : e ≡ event.Known (slice_index_or held.lits place (pos 0)) → ((k : ℕ) → k < length held.marks → slice_index held.marks k ≡ place → ⊥) → IsEventAt held place e
  taken_at : (k : ℕ) (q : Question) → k < length held.marks → slice_index held.marks k ≡ place → ((d : Question) → slice_index_or held.questions k d ≡ q) → e ≡ event.Took q (nat_abs (slice_index_or held.lits place (pos 0))) → IsEventAt held place e

-- the events, of which no literal came before
pub record AreEvents (held : Held) (events : List Event) : Type 0 where
  pub many : length events ≡ length held.lits
  pub each : (place : ℕ) (e : Event) → slice_get events place ≡ Some e → IsEventAt held place e
  pub fresh : (place : ℕ) → place < length held.lits → is_fact (take place held.lits) (slice_index_or held.lits place (pos 0)) ≡ false
