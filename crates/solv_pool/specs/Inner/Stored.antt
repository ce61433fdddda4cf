-- How packages lie: a head of each, and rows for their lists.
use Rattle.std.specs.Prelude.{ℕ, suc, ◌≡◌, ◌+◌, ◌*◌, List, [], ◌∷◌, ◌++◌, length, take}
use Rattle.solv_list.specs.Inner.Layout.{row_at}
use Rattle.solv_pool.specs.declared.package_list.Head.{Head}
use Rattle.solv_pool.specs.declared.package_list.Lists.{Lists}
use Rattle.solv_pool.specs.declared.packages.Package.{Package}

-- the kinds of relations that a package lists
abbrev pub kinds : ℕ
kinds = 7

-- its relations, kind by kind
abbrev pub relation_rows : Package → List (List ℕ)
relation_rows a = a.provides ∷ a.conflicts ∷ a.obsoletes ∷ a.recommends ∷ a.suggests ∷ a.supplements ∷ a.enhances ∷ []

-- what a package has one of
abbrev pub head_of : Package → Head
head_of a = record { name = a.name; evr = a.evr; arch = a.arch; vendor = a.vendor; repo = a.repo }

-- the package at a place, which has this head
abbrev pub package_of : Lists → ℕ → Head → Package
package_of lists k head = record {
  name = head.name;
  evr = head.evr;
  arch = head.arch;
  vendor = head.vendor;
  repo = head.repo;
  provides = row_at lists.relations (k * kinds + 0);
  requires_ = row_at lists.needs k;
  conflicts = row_at lists.relations (k * kinds + 1);
  obsoletes = row_at lists.relations (k * kinds + 2);
  recommends = row_at lists.relations (k * kinds + 3);
  suggests = row_at lists.relations (k * kinds + 4);
  supplements = row_at lists.relations (k * kinds + 5);
  enhances = row_at lists.relations (k * kinds + 6);
  files = row_at lists.files k;
}

-- the packages from a place on, which have these heads
abbrev pub packages_from : Lists → ℕ → List Head → List Package
packages_from lists k [] = []
packages_from lists k (head ∷ heads) = package_of lists k head ∷ packages_from lists (suc k) heads

-- the lists with those of a package after them
abbrev pub with_lists : Lists → Package → Lists
with_lists lists a = record {
  relations = lists.relations ++ relation_rows a;
  needs = lists.needs ++ a.requires_ ∷ [];
  files = lists.files ++ a.files ∷ [];
}

-- the lists of the first so many packages
abbrev pub first_lists : ℕ → Lists → Lists
first_lists count lists = record {
  relations = take (count * kinds) lists.relations;
  needs = take count lists.needs;
  files = take count lists.files;
}

-- there are rows for so many packages
pub record AreOfAll (count : ℕ) (lists : Lists) : Type 0 where
  pub relations : length lists.relations ≡ count * kinds
  pub needs : length lists.needs ≡ count
  pub files : length lists.files ≡ count
