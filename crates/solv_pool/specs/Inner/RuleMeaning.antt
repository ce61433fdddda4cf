-- When a set of packages meets a rule.
use Rattle.std.specs.Prelude.{ℕ, Bool, List}
use Rattle.std.specs.List.{list_any}

-- the set holds some package of the list
abbrev pub holds_some : List ℕ → (ℕ → Bool) → Bool
holds_some xs set = list_any set xs
