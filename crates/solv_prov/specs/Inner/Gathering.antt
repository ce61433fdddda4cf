-- Values gathered by packages from the last to the first, and the packages that are read of them.
use Rattle.std.specs.Prelude.{ℕ, ◌≡◌, ◌<◌, ◌+◌, Bool, true, not, ◌&&◌, ◌==◌, nat_eq, List, [], ◌∷◌, length, map, filter, flat_map, Option, Some, None, if◌then◌else◌}
use Rattle.std.specs.Option.{option_map_or, option_eq}
use Rattle.solv_pool.specs.Prelude.{Held, Capability, plain, Catalog, packages, members, package_at}
use Rattle.solv_pool.specs.Contents.{Contents}
use Rattle.solv_pool.specs.Inner.Contents.{package_in}
use Rattle.solv_pool.specs.Providing.{name_of, has, has_namespace, is_named}
use Rattle.solv_prov.specs.declared.capability.Version.{Version}
use Rattle.solv_prov.specs.declared.capability.Provide.{Provide}
use Rattle.solv_prov.specs.Index.{named_by, obsoleters_of}
use Rattle.solv_prov.specs.Inner.Index.{relations}
use Rattle.solv_prov.specs.Inner.Capabilities.{version_of, versions_meet, entries}
use Rattle.solv_prov.specs.Inner.Groups.{group_at, in_front}

-- what a group has once the values of each package are put in front, those of the last package first
abbrev pub gathered : {T : Type 0} → (ℕ → List (ℕ × T)) → ℕ → List ℕ → List T
gathered puts g [] = []
gathered puts g (p ∷ ps) = in_front g (puts p) (gathered puts g ps)

-- the packages of the values that pass a test, those that stand together once; last is the package before them
abbrev pub each_once : {T : Type 0} → (T → ℕ) → (T → Bool) → Option ℕ → List T → List ℕ
each_once pack test last [] = []
each_once pack test last (x ∷ xs) =
    if test x && not (option_eq nat_eq last (Some (pack x))) then pack x ∷ each_once pack test (Some (pack x)) xs else each_once pack test last xs

-- packages, those that stand together once, after one
abbrev pub distinct_after : Option ℕ → List ℕ → List ℕ
distinct_after last ps = each_once (λ p. p) (λ p. true) last ps

-- what p provides by names; a number that is no package provides nothing
abbrev pub provided : Catalog → ℕ → List (ℕ × Provide)
provided catalog p = option_map_or (entries catalog.pool p) (package_at catalog p) []

-- the packages after one whose versions of a name meet the wanted ones
abbrev pub meeting_after : Held → Version → Option ℕ → List Provide → List ℕ
meeting_after pool wanted last xs = each_once (λ x. x.pack) (λ x. versions_meet pool x.version wanted) last xs

-- the packages of the name whose own versions do
abbrev pub named_among : Held → Version → List Provide → List ℕ
named_among pool wanted xs = map (λ x. x.pack) (filter (λ x. versions_meet pool x.version wanted && x.is_own) xs)

-- the packages of the name
abbrev pub own_among : List Provide → List ℕ
own_among xs = map (λ x. x.pack) (filter (λ x. x.is_own) xs)

-- what packages provide, by names
pub record AreProvides (groups : List (List Provide)) (catalog : Catalog) : Type 0 where
  pub meeting : (c : Capability ℕ) → name_of c < length catalog.pool.names → meeting_after catalog.pool (version_of c) None (group_at groups (name_of c)) ≡ filter (has catalog c) (packages catalog)
  pub named : (c : Capability ℕ) → name_of c < length catalog.pool.names → named_among catalog.pool (version_of c) (group_at groups (name_of c)) ≡ filter (is_named catalog c) (packages catalog)
  pub own : (n : ℕ) → n < length catalog.pool.names → own_among (group_at groups n) ≡ filter (is_named catalog (plain n)) (packages catalog)

-- a namespace for each package of a line, and of all lines
abbrev pub line_puts : ℕ → List ℕ → List (ℕ × ℕ)
line_puts n ps = map (λ p. (p, n)) ps

abbrev pub lines_puts : List (ℕ × List ℕ) → List (ℕ × ℕ)
lines_puts lines = flat_map (λ line. line_puts line.0 line.1) lines

-- the namespaces of p
abbrev pub namespaces_of : List (ℕ × List ℕ) → ℕ → List ℕ
namespaces_of lines p = in_front p (lines_puts lines) []

-- p for each of its namespaces
abbrev pub package_puts : ℕ → List ℕ → List (ℕ × ℕ)
package_puts p names = map (λ n. (n, p)) names

abbrev pub namespace_puts : List (ℕ × List ℕ) → ℕ → List (ℕ × ℕ)
namespace_puts lines p = package_puts p (namespaces_of lines p)

-- the packages of namespaces
pub record AreNamespaces (groups : List (List ℕ)) (catalog : Catalog) : Type 0 where
  pub listed : (n : ℕ) → n < length catalog.pool.names → distinct_after None (group_at groups n) ≡ filter (has_namespace catalog n) (members catalog)

-- q for each other package of a list, and of the lists of these numbers
abbrev pub others_puts : ℕ → List ℕ → List (ℕ × ℕ)
others_puts q ps = map (λ p. (p, q)) (filter (λ p. not (p == q)) ps)

abbrev pub obsoletion_puts : List (List ℕ) → ℕ → List ℕ → List (ℕ × ℕ)
obsoletion_puts lists q ids = flat_map (λ id. others_puts q (group_at lists id)) ids

-- q for each package that it obsoletes
abbrev pub obsoleting : List (List ℕ) → Contents → ℕ → List (ℕ × ℕ)
obsoleting lists contents q = option_map_or (λ a. obsoletion_puts lists q a.obsoletes) (package_in contents q) []

-- the lists of the packages that relations name
pub record AreNamedLists (lists : List (List ℕ)) (catalog : Catalog) : Type 0 where
  pub exact : lists ≡ map (named_by catalog) (relations catalog)

-- the packages that obsolete packages
pub record AreObsoleters (groups : List (List ℕ)) (catalog : Catalog) : Type 0 where
  pub listed : (p : ℕ) → p < length catalog.universe.packages + 1 → distinct_after None (group_at groups p) ≡ obsoleters_of catalog p
