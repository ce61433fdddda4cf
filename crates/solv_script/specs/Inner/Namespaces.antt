-- The packages of namespaces, by their names' ids. Inner contracts alone speak of it.
use Rattle.std.specs.Prelude.{ℕ, ◌==◌, List, [], ◌∷◌, ◌++◌, map, if◌then◌else◌}

-- packages after those of a namespace, or a new one after the others
abbrev pub with_packages : ℕ → List ℕ → List (ℕ × List ℕ) → List (ℕ × List ℕ)
with_packages name ps [] = (name, ps) ∷ []
with_packages name ps (n ∷ others) = if name == n.0 then (n.0, n.1 ++ ps) ∷ others else n ∷ with_packages name ps others

-- the ids of their names, in their order
abbrev pub names_of : List (ℕ × List ℕ) → List ℕ
names_of ns = map (λ n. n.0) ns
