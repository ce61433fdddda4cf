-- Lines of a universe, with the texts of packages and repositories by ids.
use Rattle.std.specs.Prelude.{ℕ, Bool, true, false, List, [], ◌∷◌, ◌+◌, map, codes, Option, Some, None}
use Rattle.solv_base.specs.Pool.{Held, text_at}
use Rattle.solv_io.specs.JoinedWords.{joined}
use Rattle.solv_pool.specs.Contents.{Contents}
use Rattle.solv_pool.specs.PackageText.{package_text, repo_text}
use Rattle.solv_pool.specs.declared.universes.Arch.{Arch}
use Rattle.solv_script.specs.Rows.{arch_text}

module _ (pool : Held) (contents : Contents) where
  -- the name of the installed repository
  abbrev pub installed_texts : Option ℕ → List (List ℕ)
  installed_texts None = []
  installed_texts (Some place) = repo_text pool contents place ∷ []

  -- the line of the system
  abbrev pub system_text : Option Arch → List (List ℕ)
  system_text None = []
  system_text (Some arch) = joined (codes "system" ∷ arch_text arch ∷ codes "rpm" ∷ installed_texts contents.installed) ∷ []

  -- the line of a disabled package
  abbrev pub disable_text : ℕ → List ℕ
  disable_text p = joined (codes "disable" ∷ codes "pkg" ∷ package_text pool contents p ∷ [])

  -- the lines of the disabled packages, by whether each is disabled, from this number on
  abbrev pub disabled_texts : ℕ → List Bool → List (List ℕ)
  disabled_texts p [] = []
  disabled_texts p (true ∷ others) = disable_text p ∷ disabled_texts (p + 1) others
  disabled_texts p (false ∷ others) = disabled_texts (p + 1) others

  -- the line of a namespace with its packages
  abbrev pub namespace_text : ℕ × List ℕ → List ℕ
  namespace_text n = joined (codes "namespace" ∷ text_at pool n.0 ∷ map (package_text pool contents) n.1)
