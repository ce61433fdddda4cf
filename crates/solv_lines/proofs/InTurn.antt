-- Lines that are put into a set one list after another.
use Rattle.std.proofs.Common.{◌≡◌, ℕ, List, [], ◌∷◌, ◌++◌, refl, ◌∙◌}
use Rattle.std.specs.BTreeSet.{insert_key}
use Rattle.std.specs.Cmp.Lexicographic.{slice_cmp}
use Rattle.std.specs.Ordering.{nat_cmp}
use Rattle.solv_lines.specs.Inner.LineNames.{with_lines}

pub in_turn : (set xs ys : List (List ℕ)) → with_lines (with_lines set xs) ys ≡ with_lines set (xs ++ ys)
in_turn set [] ys = refl
in_turn set (x ∷ xs) ys = in_turn (insert_key (slice_cmp nat_cmp) set x) xs ys

pub four_in_turn : (set a b c d : List (List ℕ)) → with_lines (with_lines (with_lines (with_lines set a) b) c) d ≡ with_lines set (a ++ (b ++ (c ++ d)))
four_in_turn set a b c d = in_turn (with_lines (with_lines set a) b) c d ∙ in_turn (with_lines set a) b (c ++ d) ∙ in_turn set a (b ++ (c ++ d))
