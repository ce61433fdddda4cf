-- What a good log says, and what its leaves are.
use Rattle.std.specs.Prelude.{ℕ, ℤ, ◌≡◌, Bool, true, false, List}
use Rattle.std.specs.List.Sorted.{IsStrictlyIncreasing}
use Rattle.solv_derive.specs.Logs.{is_good_log, checked}
use Rattle.solv_derive.specs.Leaves.{leaves, leaves_true, named_rules, is_one_of}
use Rattle.solv_derive.specs.Range.{steps_over}
use Rattle.solv_pool.specs.Range.{are_over}
use Rattle.solv_derive.specs.declared.logs.Step.{Step}
use Rattle.solv_derive.specs.declared.logs.Checked.TheVariants.{Yes}

-- no set makes all leaves of a good log true, whatever the number of packages
abbrev pub GoodLogsRefute : Type 0
GoodLogsRefute = (count : ℕ) (book : List (List ℤ)) (steps : List Step) → are_over count book ≡ true → steps_over count steps ≡ true
    → is_good_log book steps ≡ true → (set : ℕ → Bool) → leaves_true book steps set ≡ false

-- a check answers yes for good logs and for no other
abbrev pub YesIsForGoodLogs : Type 0
YesIsForGoodLogs = (book : List (List ℤ)) (steps : List Step) → (checked book steps ≡ Yes → is_good_log book steps ≡ true) × (is_good_log book steps ≡ true → checked book steps ≡ Yes)

-- the leaves rise, and are the rules that hints name
abbrev pub LeavesAreNamed : Type 0
LeavesAreNamed = (steps : List Step) → IsStrictlyIncreasing (leaves steps) × ((rule : ℕ) → is_one_of (leaves steps) rule ≡ is_one_of (named_rules steps) rule)
