-- What the analysis of a conflict gives.
use Rattle.std.specs.Prelude.{◌≡◌, ℕ, ℤ, neg_ℤ, ◌<◌, ◌≤◌, ◌-◌, Bool, true, List, [], map, take, length, slice_index, Option}
use Rattle.std.specs.List.{list_all}
use Rattle.solv_derive.specs.Logs.{ends_in_conflict}
use Rattle.solv_pool.specs.Prelude.{is_over}
use Rattle.solv_derive.specs.declared.logs.Hint.{Hint}
use Rattle.solv_trail.specs.Inner.Derivation.{IsQuiet}
use Rattle.solv_trail.specs.Inner.Held.{Held}
use Rattle.solv_trail.specs.Walk.{asserts}
use Rattle.solv_learn.specs.Collecting.{is_plain}
use Rattle.solv_learn.specs.Inner.Refuting.{Finds, is_in_use}

-- a conflict without a choice: the hints lead from nothing to it
pub record IsRefuted (rules : List (List ℤ)) (used : ℕ → Bool) (count base : ℕ) (hints : List Hint) : Type 0 where
  pub good : (look : Hint → Option (List ℤ)) → Finds look rules count base → ends_in_conflict look [] hints ≡ true
  pub in_use : list_all (is_in_use used count base (length rules)) hints ≡ true

-- a conflict after choices: the clause d follows by the hints, and asserts its first literal before the last choice and after `back` choices, but not after fewer
pub record IsLearnt (rules : List (List ℤ)) (used : ℕ → Bool) (count base : ℕ) (held : Held) (d : List ℤ) (hints : List Hint) (back : ℕ) : Type 0 where
  pub good : (look : Hint → Option (List ℤ)) → Finds look rules count base → ends_in_conflict look (map neg_ℤ d) hints ≡ true
  pub in_use : list_all (is_in_use used count base (length rules)) hints ≡ true
  pub over : is_over held.count d ≡ true
  pub plain : is_plain d ≡ true
  pub short : length d ≤ length held.lits
  pub asserts_before : asserts (take (slice_index held.marks (length held.marks - 1)) held.lits) d ≡ true
  pub few : back < length held.marks
  pub asserts_back : asserts (take (slice_index held.marks back) held.lits) d ≡ true
  pub quiet_earlier : (k : ℕ) → k < back → IsQuiet (take (slice_index held.marks k) held.lits) d
