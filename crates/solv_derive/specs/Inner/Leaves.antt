-- The rules that hints name.
use Rattle.std.specs.Prelude.{ℕ, List, flat_map}
use Rattle.solv_derive.specs.Leaves.{rule_of}
use Rattle.solv_derive.specs.declared.logs.Hint.{Hint}

-- the rules that hints name, hint by hint
abbrev pub rules_of : List Hint → List ℕ
rules_of hints = flat_map rule_of hints
