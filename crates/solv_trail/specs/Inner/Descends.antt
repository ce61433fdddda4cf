-- What a run of choices and propagation ends with.
use Rattle.std.specs.Prelude.{◌≡◌, ℕ, ℤ, pos, ◌<◌, ◌≤◌, Bool, true, false, List, length, take, slice_index, slice_index_or, Option, Some, None}
use Rattle.solv_pool.specs.Prelude.{is_fact, is_refuted}
use Rattle.solv_derive.specs.Forced.{is_falsified}
use Rattle.solv_trail.specs.Inner.Asked.{AreApart}
use Rattle.solv_trail.specs.Inner.Derivation.{IsTrail}
use Rattle.solv_trail.specs.Inner.Held.{Held}
use Rattle.solv_trail.specs.Inner.Propagated.{IsUsed, IsReasoned, IsAtRest}
use Rattle.solv_trail.specs.Inner.Used.{used_clauses}
use Rattle.solv_trail.specs.declared.questions.Ask.{Ask}
use Rattle.solv_trail.specs.declared.questions.Question.{Question}
use Rattle.solv_trail.specs.Descends.{asked_pack}

-- where the rules in use are at rest, an unknown package of the core is asked for
abbrev pub AsksUnknown : ℕ → List (List ℤ) → (ℕ → Bool) → ((ℤ → Bool) → Option Ask) → Type 0
AsksUnknown count rules used asks = (lits : List ℤ) → AreApart (is_fact lits) → ((r : ℕ) → r < length rules → IsAtRest rules used lits r) → (a : Ask) → asks (is_fact lits) ≡ Some a
    → (0 < a.pack) × (a.pack ≤ count) × (is_fact lits (pos a.pack) ≡ false) × (is_refuted lits (pos a.pack) ≡ false)

-- what was asked at the choice of this number, where the literals before it were known, is kept beside it
pub record IsAskedAt (asks : (ℤ → Bool) → Option Ask) (held : Held) (k : ℕ) (a : Ask) : Type 0 where
  pub kept : (d : Question) → slice_index_or held.questions k d ≡ a.question
  pub asked : asks (is_fact (take (slice_index held.marks k) held.lits)) ≡ Some a
  pub is : slice_index_or held.lits (slice_index held.marks k) (pos 0) ≡ pos a.pack

pub record AreAsked (asks : (ℤ → Bool) → Option Ask) (held : Held) : Type 0 where
  pub sizes : length held.questions ≡ length held.marks
  pub within : (k : ℕ) → k < length held.marks → slice_index held.marks k < length held.lits
  pub each : (k : ℕ) → k < length held.marks → (a : Ask) × IsAskedAt asks held k a

-- what holds of the literals that are known, between conflicts: each has its reason, each choice was made at rest as the guide asks
pub record IsKept (rules : List (List ℤ)) (used : ℕ → Bool) (asks : (ℤ → Bool) → Option Ask) (held : Held) : Type 0 where
  pub reasoned : IsReasoned rules used held
  pub trail : IsTrail (used_clauses used rules) (asked_pack asks) held.lits held.marks
  pub asked : AreAsked asks held

-- a rule in use is falsified; or nothing more is forced, and nothing asked
pub data Ended (rules : List (List ℤ)) (used : ℕ → Bool) (asks : (ℤ → Bool) → Option Ask) (lits : List ℤ) : Option ℕ → Type 0 where
  clash : (rule : ℕ) (c : List ℤ) → IsUsed rules used rule c → is_falsified lits c ≡ true → Ended rules used asks lits (Some rule)
  settled : ((r : ℕ) → r < length rules → IsAtRest rules used lits r) → asks (is_fact lits) ≡ None → Ended rules used asks lits None
