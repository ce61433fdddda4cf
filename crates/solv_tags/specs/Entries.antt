-- The entries of a package in a testtags file: its lists, in which equal entries stand once.
use Rattle.std.specs.Prelude.{ℕ, ◌≡◌, ◌↔◌, ◌&&◌, ◌||◌, Bool, true, false, List, [], ◌∷◌, ◌++◌, map, codes, None, if◌then◌else◌}
use Rattle.std.specs.List.{list_any}
use Rattle.std.specs.Str.{bytes_eq}
use Rattle.solv_base.specs.contracts.comparison.CmpPartialEq.TheImpl.{eq-value}
use Rattle.solv_base.specs.Dependency.{Dep, plain, versioned, one, namespace, joined, under, under_else, missing}
use Rattle.solv_deps.specs.Grammar.{Operator, joins, conditions, spellings}
use Rattle.solv_pool.specs.Written.{WrittenPackage, WrittenNeed}

-- the same operator: that with the same sign?
abbrev pub is_same_operator : Operator → Operator → Bool
is_same_operator a b = bytes_eq (spellings a).0 (spellings b).0

-- the same dependency: the same tree, with the same texts?
abbrev pub is_same : Dep (List ℕ) → Dep (List ℕ) → Bool
is_same (one (plain a)) (one (plain b)) = bytes_eq a b
is_same (one (versioned a c e)) (one (versioned b d f)) = bytes_eq a b && (eq-value.it c d && bytes_eq e f)
is_same (namespace a) (namespace b) = bytes_eq a b
is_same (joined i a b) (joined j c d) = is_same_operator (joins i) (joins j) && (is_same a c && is_same b d)
is_same (under i a b) (under j c d) = is_same_operator (conditions i) (conditions j) && (is_same a c && is_same b d)
is_same (under_else i a b e) (under_else j c d f) = is_same_operator (conditions i) (conditions j) && (is_same a c && (is_same b d && is_same e f))
is_same missing missing = true
is_same a b = false

-- the test distinguishes dependencies exactly where they are not equal
abbrev pub SameIsEqual : Type 0
SameIsEqual = (a b : Dep (List ℕ)) → is_same a b ≡ true ↔ a ≡ b

-- the list with the dependency, added if it is new
abbrev pub with_dependency : Dep (List ℕ) → List (Dep (List ℕ)) → List (Dep (List ℕ))
with_dependency d entries = if list_any (is_same d) entries then entries else entries ++ d ∷ []

-- the list with the requirement, added if it is new; it is a pre-requirement if any of its entries was
abbrev pub with_need : Dep (List ℕ) → Bool → List WrittenNeed → List WrittenNeed
with_need d pre needs =
    if list_any (λ need. is_same d need.dep) needs
    then map (λ need. if is_same d need.dep then record { dep = need.dep; pre = need.pre || pre } else need) needs
    else needs ++ record { dep = d; pre = pre } ∷ []

-- `version-release`, or `version` where the release is `-`
abbrev pub evr_text : List ℕ → List ℕ → List ℕ
evr_text version release = if bytes_eq release (codes "-") then version else version ++ (codes "-" ++ release)

-- a package of this repository without entries
abbrev pub bare_package : ℕ → List ℕ → List ℕ → List ℕ → WrittenPackage
bare_package repo name evr arch = record {
  name = name;
  evr = evr;
  arch = arch;
  vendor = None;
  repo = repo;
  provides = [];
  requires_ = [];
  conflicts = [];
  obsoletes = [];
  recommends = [];
  suggests = [];
  supplements = [];
  enhances = [];
  files = [];
}
