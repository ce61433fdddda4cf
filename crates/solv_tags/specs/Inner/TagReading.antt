-- What the reader of testtags lines holds, as what the lines so far give.
use Rattle.std.specs.Prelude.{ℕ, ◌≡◌, ◌<◌, ◌≤◌, ◌==◌, ◌||◌, Bool, true, false, List, [], ◌∷◌, ◌++◌, map, length, drop, nat_lt, option_to_list, Option, None, Some, Result, Ok, Err, if◌then◌else◌}
use Rattle.std.specs.Option.{option_map}
use Rattle.std.specs.List.{list_any, list_all}
use Rattle.solv_base.specs.Pool.{Held, text_at}
use Rattle.solv_deps.specs.Inner.Recent.{AreRead}
use Rattle.solv_pool.specs.Prelude.{IsOver, WrittenPackage, written_package}
use Rattle.solv_pool.specs.Contents.{Contents}
use Rattle.solv_pool.specs.declared.packages.Need.{Need}
use Rattle.solv_pool.specs.declared.packages.Package.{Package}
use Rattle.solv_tags.specs.declared.package_words.PackageIds.{PackageIds}
use Rattle.solv_tags.specs.declared.tag_reader.TagReader.{TagReader}
use Rattle.solv_tags.specs.declared.tag.Tag.{Tag}
use Rattle.solv_tags.specs.declared.tag.Tag.TheVariants.{Pkg, Prv, Req, Prq, Con, Obs, Rec, Sug, Sup, Enh, Vnd, Fls}
use Rattle.solv_tags.specs.declared.tag_fault.TagCause.{TagCause}
use Rattle.solv_tags.specs.declared.tag_fault.TagCause.TheVariants.{Memory}
use Rattle.solv_tags.specs.declared.tag_fault.TagFault.{TagFault}
use Rattle.solv_tags.specs.Testtags.{Tagged, Repository}
use Rattle.solv_tags.specs.Inner.Lines.{end_read}
use Rattle.solv_tags.specs.Inner.Tails.{are_apart, IsTail}
use Rattle.solv_tags.specs.declared.tails.Tails.{Tails}

-- the list with the id, added if it is new
abbrev pub with_id : ℕ → List ℕ → List ℕ
with_id id ids = if list_any (λ other. id == other) ids then ids else ids ++ id ∷ []

-- a requirement, which becomes a pre-requirement if it is of this relation and is said to be one now
abbrev pub also_pre_id : ℕ → Bool → Need → Need
also_pre_id dep pre need = if dep == need.dep then record { dep = need.dep; pre = need.pre || pre } else need

-- the list with the requirement, added if it is new; it is a pre-requirement if any of its entries was
abbrev pub with_need_id : ℕ → Bool → List Need → List Need
with_need_id dep pre needs =
    if list_any (λ need. dep == need.dep) needs then map (also_pre_id dep pre) needs
    else needs ++ record { dep = dep; pre = pre } ∷ []

-- a package with a relation in the list of this tag
abbrev pub with_entry_id : Tag → ℕ → Package → Package
with_entry_id Prv d a = record a { provides = with_id d a.provides }
with_entry_id Req d a = record a { requires_ = with_need_id d false a.requires_ }
with_entry_id Prq d a = record a { requires_ = with_need_id d true a.requires_ }
with_entry_id Con d a = record a { conflicts = with_id d a.conflicts }
with_entry_id Obs d a = record a { obsoletes = with_id d a.obsoletes }
with_entry_id Rec d a = record a { recommends = with_id d a.recommends }
with_entry_id Sug d a = record a { suggests = with_id d a.suggests }
with_entry_id Sup d a = record a { supplements = with_id d a.supplements }
with_entry_id Enh d a = record a { enhances = with_id d a.enhances }
with_entry_id Pkg d a = a
with_entry_id Vnd d a = a
with_entry_id Fls d a = a

-- a package without a vendor, dependencies or files
abbrev pub package_of : ℕ → PackageIds → Package
package_of repo ids = record {
  name = ids.name;
  evr = ids.evr;
  arch = ids.arch;
  vendor = None;
  repo = repo;
  provides = [];
  requires_ = [];
  conflicts = [];
  obsoletes = [];
  recommends = [];
  suggests = [];
  supplements = [];
  enhances = [];
  files = [];
}

-- each id is below this number
pub record AreWithin (count : ℕ) (ids : PackageIds) : Type 0 where
  pub name : ids.name < count
  pub evr : ids.evr < count
  pub arch : ids.arch < count

-- these are the texts
pub record HaveTexts (pool : Held) (ids : PackageIds) (name evr arch : List ℕ) : Type 0 where
  pub name_is : text_at pool ids.name ≡ name
  pub evr_is : text_at pool ids.evr ≡ evr
  pub arch_is : text_at pool ids.arch ≡ arch

-- the names and the relations of a package are of this pool
pub record IsOf (pool : Held) (a : Package) : Type 0 where
  pub name : nat_lt a.name (length pool.names) ≡ true
  pub evr : nat_lt a.evr (length pool.names) ≡ true
  pub arch : nat_lt a.arch (length pool.names) ≡ true
  pub vendor : list_all (λ n. nat_lt n (length pool.names)) (option_to_list a.vendor) ≡ true
  pub provides : list_all (λ d. nat_lt d (length pool.nodes)) a.provides ≡ true
  pub requires_ : list_all (λ need. nat_lt need.dep (length pool.nodes)) a.requires_ ≡ true
  pub conflicts : list_all (λ d. nat_lt d (length pool.nodes)) a.conflicts ≡ true
  pub obsoletes : list_all (λ d. nat_lt d (length pool.nodes)) a.obsoletes ≡ true
  pub recommends : list_all (λ d. nat_lt d (length pool.nodes)) a.recommends ≡ true
  pub suggests : list_all (λ d. nat_lt d (length pool.nodes)) a.suggests ≡ true
  pub supplements : list_all (λ d. nat_lt d (length pool.nodes)) a.supplements ≡ true
  pub enhances : list_all (λ d. nat_lt d (length pool.nodes)) a.enhances ≡ true
  pub files : list_all (λ n. nat_lt n (length pool.names)) a.files ≡ true

-- the relations behind the first 32 that are required are these, where there are such, and none is required twice
pub record IsNeedTail (known : List ℕ) (needs : List Need) : Type 0 where
  pub behind : IsTail known (map (λ need. need.dep) needs)
  pub apart : are_apart (map (λ need. need.dep) needs) ≡ true

-- what is known of each list of a package
pub record AreTails (tails : Tails) (a : Package) : Type 0 where
  pub provides : IsTail tails.provides a.provides
  pub requires_ : IsNeedTail tails.requires_ a.requires_
  pub conflicts : IsTail tails.conflicts a.conflicts
  pub obsoletes : IsTail tails.obsoletes a.obsoletes
  pub recommends : IsTail tails.recommends a.recommends
  pub suggests : IsTail tails.suggests a.suggests
  pub supplements : IsTail tails.supplements a.supplements
  pub enhances : IsTail tails.enhances a.enhances
  pub files : IsTail tails.files a.files

-- what is known of those of the package in hand, if there is one
abbrev pub AreHandTails : Tails → Option Package → Type 0
AreHandTails tails None = Unit {0}
AreHandTails tails (Some a) = AreTails tails a

-- what the lines so far give, with this package in hand
abbrev pub with_hand : Tagged → Held → Package → Tagged
with_hand s pool a = record s { held = pool; hand = Some (written_package pool a) }

-- a cause that is not running out of memory is this one
abbrev pub IsCause : {A : Type 0} → TagCause → Result A TagCause → Type 0
IsCause Memory r = Unit {0}
IsCause c r = r ≡ Err c

-- a reading of the package in hand gives this package
pub record HasRead (old new : Held) (a b : Package) (reading : Tagged → WrittenPackage → Result Tagged TagCause) : Type 0 where
  pub is : (s : Tagged) → s.held ≡ old → s.hand ≡ Some (written_package old a) → reading s (written_package old a) ≡ Ok (with_hand s new b)
  pub of : IsOf new b
  pub repo : b.repo ≡ a.repo

-- a reading of the package in hand ends for this cause
abbrev pub HasEnded : Held → Package → (Tagged → WrittenPackage → Result Tagged TagCause) → TagCause → Type 0
HasEnded old a reading c = (s : Tagged) → s.held ≡ old → IsCause c (reading s (written_package old a))

-- what the lines so far gave, as a reader, the pool and the universe have it
abbrev pub tagged_of : TagReader → Held → Contents → Tagged
tagged_of r pool universe = record {
  repo = r.repo;
  before = r.before;
  held = pool;
  done = map (written_package pool) (drop r.before universe.packages);
  hand = option_map (written_package pool) r.hand;
  block = r.block;
}

-- a package in hand, if any, is of this pool and of this repository
abbrev pub IsHand : Held → ℕ → Option Package → Type 0
IsHand pool repo None = Unit {0}
IsHand pool repo (Some a) = IsOf pool a × (a.repo ≡ repo)

-- what holds of a reader between two lines
pub record IsReading (r : TagReader) (pool : Held) (universe : Contents) : Type 0 where
  pub over : IsOver pool universe
  pub hand : IsHand pool r.repo r.hand
  pub repo : r.repo < length universe.repos
  pub before : r.before ≤ length universe.packages
  pub recent : AreRead pool r.recent
  pub tails : AreHandTails r.tails r.hand

-- a universe with these packages after the others, none of them disabled
abbrev pub with_packages : Contents → List Package → Contents
with_packages universe added =
    record universe { packages = universe.packages ++ added; disabled = universe.disabled ++ map (λ a. false) added }

-- packages come after the others, none of them disabled, and all else is as before
pub record HasMore (old new : Contents) : Type 0 where
  pub added : List Package
  pub is : new ≡ with_packages old added

-- a reader has read what gives this answer
pub record IsRead (r s : TagReader) (pool : Held) (universe : Contents) (answer : Result Tagged TagCause) : Type 0 where
  pub is : answer ≡ Ok (tagged_of s pool universe)
  pub reading : IsReading s pool universe
  pub repo : s.repo ≡ r.repo
  pub before : s.before ≡ r.before

-- a reader has read, in its package in hand, what gives this answer
pub record HasReadHand (old new : Held) (r t : TagReader) (reading : Tagged → Result Tagged TagCause) : Type 0 where
  pub is : (s : Tagged) → s.held ≡ old → s.hand ≡ option_map (written_package old) r.hand
      → reading s ≡ Ok (record s { held = new; hand = option_map (written_package new) t.hand })
  pub hand : IsHand new r.repo t.hand
  pub repo : t.repo ≡ r.repo
  pub before : t.before ≡ r.before
  pub block : t.block ≡ r.block
  pub recent : AreRead new t.recent
  pub tails : AreHandTails t.tails t.hand

-- a reading of the package in hand, if any, ends for this cause
abbrev pub HasEndedHand : Held → TagReader → (Tagged → Result Tagged TagCause) → TagCause → Type 0
HasEndedHand old r reading c = (s : Tagged) → s.held ≡ old → s.hand ≡ option_map (written_package old) r.hand → IsCause c (reading s)

-- the universe is as the whole reading says
pub record IsEnded (r : TagReader) (pool : Held) (old new : Contents) (answer : Result Repository TagFault) : Type 0 where
  pub is : answer ≡ Ok (record { held = pool; packages = map (written_package pool) (drop r.before new.packages) })
  pub universe : new ≡ with_packages old (option_to_list r.hand)
  pub over : IsOver pool new

-- a reader has read all lines, of which this is the number of the last one
pub record IsReadTo (last : ℕ) (r s : TagReader) (pool : Held) (universe : Contents) (answer : Result Repository TagFault) : Type 0 where
  pub is : answer ≡ end_read last (tagged_of s pool universe)
  pub reading : IsReading s pool universe
  pub repo : s.repo ≡ r.repo
  pub before : s.before ≡ r.before
