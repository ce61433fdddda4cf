-- What packages are that a testtags file gives: what can be written again so that it is read as the same.
use Rattle.std.specs.Prelude.{ℕ, ◌≡◌, ◌&&◌, Bool, true, not, List, [], ◌∷◌, ◌++◌, map, All, option_to_list, Ok}
use Rattle.std.specs.List.{list_any}
use Rattle.std.specs.Str.{bytes_eq}
use Rattle.solv_base.specs.Dependency.{Dep}
use Rattle.solv_base.specs.Pool.{Held, is_name}
use Rattle.solv_deps.specs.Canonical.{text}
use Rattle.solv_deps.specs.Reading.{dependency}
use Rattle.solv_deps.specs.declared.place.Place.{Place}
use Rattle.solv_deps.specs.declared.place.Place.TheVariants.{Requires, Conflicts, Plain}
use Rattle.solv_pool.specs.Prelude.{WrittenPackage}
use Rattle.solv_tags.specs.Entries.{is_same}
use Rattle.solv_tags.specs.Headings.{trimmed}
use Rattle.solv_io.specs.JoinedWords.{is_word, is_line}
use Rattle.solv_deps.specs.Parts.{HoldsTree}

-- none of a list is the same as one before it, or as one of those that stand before the list
abbrev pub are_apart : {A : Type 0} → (A → A → Bool) → List A → List A → Bool
are_apart same before [] = true
are_apart same before (x ∷ xs) = not (list_any (same x) before) && are_apart same (before ++ x ∷ []) xs

-- the canonical text of a dependency is one line, which is read at this place as the dependency
pub record ReadsBack (place : Place) (d : Dep (List ℕ)) : Type 0 where
  pub again : dependency place (text d) ≡ Ok d
  pub line : is_line (text d) ≡ true

-- the dependencies of a list that belongs to this place, each once
pub record AreEntries (place : Place) (ds : List (Dep (List ℕ))) : Type 0 where
  pub each : All (ReadsBack place) ds
  pub once : are_apart is_same [] ds ≡ true

-- a text without blanks round it, and not empty
pub record IsKept (text : List ℕ) : Type 0 where
  pub first : ℕ
  pub rest : List ℕ
  pub is : text ≡ first ∷ rest
  pub trim : trimmed text ≡ text
  pub line : is_line text ≡ true

-- what was read of a package
pub record IsReadPackage (a : WrittenPackage) : Type 0 where
  pub name : is_word a.name ≡ true
  pub evr : is_word a.evr ≡ true
  pub arch : is_word a.arch ≡ true
  pub vendor : All IsKept (option_to_list a.vendor)
  pub provides : AreEntries Plain a.provides
  pub requires_ : AreEntries Requires (map (λ need. need.dep) a.requires_)
  pub conflicts : AreEntries Conflicts a.conflicts
  pub obsoletes : AreEntries Plain a.obsoletes
  pub recommends : AreEntries Requires a.recommends
  pub suggests : AreEntries Requires a.suggests
  pub supplements : AreEntries Requires a.supplements
  pub enhances : AreEntries Requires a.enhances
  pub files : All IsKept a.files
  pub files_once : are_apart bytes_eq [] a.files ≡ true

-- a pool holds a text
abbrev pub HoldsText : Held → List ℕ → Type 0
HoldsText held text = is_name held.names text ≡ true

-- a pool holds the texts and the dependencies of a package
pub record HoldsPackage (held : Held) (a : WrittenPackage) : Type 0 where
  pub name : HoldsText held a.name
  pub evr : HoldsText held a.evr
  pub arch : HoldsText held a.arch
  pub vendor : All (HoldsText held) (option_to_list a.vendor)
  pub provides : All (HoldsTree held) a.provides
  pub requires_ : All (HoldsTree held) (map (λ need. need.dep) a.requires_)
  pub conflicts : All (HoldsTree held) a.conflicts
  pub obsoletes : All (HoldsTree held) a.obsoletes
  pub recommends : All (HoldsTree held) a.recommends
  pub suggests : All (HoldsTree held) a.suggests
  pub supplements : All (HoldsTree held) a.supplements
  pub enhances : All (HoldsTree held) a.enhances
  pub files : All (HoldsText held) a.files
