-- The names of repositories, beside them.
use Rattle.std.proofs.Common.{◌≡◌, ℕ, List, [], ◌∷◌, map, refl, ap}
use Rattle.std.specs.Prelude.{◌==◌, ◌||◌}
use Rattle.std.specs.List.{list_any}
use Rattle.solv_pool.specs.declared.packages.Repo.{Repo}

abbrev pub names_of : List Repo → List ℕ
names_of repos = map (λ repo. repo.name) repos

pub any_name : (name : ℕ) (repos : List Repo) → list_any (λ other. name == other) (names_of repos) ≡ list_any (λ repo. name == repo.name) repos
any_name name [] = refl
any_name name (repo ∷ repos) = ap (λ b. (name == repo.name) || b) (any_name name repos)
