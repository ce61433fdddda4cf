-- What an entry is by its tag, as the code has it.
use Rattle.std.specs.Prelude.{ℕ, ◌||◌, Bool, false, true, List, codes, reverse, drop, Option, Some, None, if◌then◌else◌}
use Rattle.std.specs.Str.{bytes_eq}
use Rattle.solv_base.specs.Dependency.{Dep}
use Rattle.solv_base.specs.Pool.{with_name}
use Rattle.solv_deps.specs.declared.place.Place.{Place}
use Rattle.solv_deps.specs.declared.place.Place.TheVariants.{Requires, Conflicts, Plain}
use Rattle.solv_pool.specs.Prelude.{WrittenPackage, WrittenNeed}
use Rattle.solv_tags.specs.declared.tag.Tag.{Tag}
use Rattle.solv_tags.specs.declared.tag.Tag.TheVariants.{Pkg, Prv, Req, Prq, Con, Obs, Rec, Sug, Sup, Enh, Vnd, Fls}
use Rattle.solv_tags.specs.Entries.{is_same, with_dependency, with_need}
use Rattle.solv_tags.specs.Headings.{without_front_blanks}

-- `=`, which gives one entry
abbrev pub entry_sign : ℕ
entry_sign = 61

-- `+`, which opens a block of entries
abbrev pub opening_sign : ℕ
opening_sign = 43

-- `-`, which closes it
abbrev pub closing_sign : ℕ
closing_sign = 45

-- what follows a heading
abbrev pub after_heading : List ℕ → List ℕ
after_heading line = drop 5 line

-- the tag that these letters name; others are passed over
abbrev pub tag : List ℕ → Option Tag
tag name =
    if bytes_eq name (codes "Pkg") then Some Pkg
    else (if bytes_eq name (codes "Prv") then Some Prv
    else (if bytes_eq name (codes "Req") then Some Req
    else (if bytes_eq name (codes "Prq") then Some Prq
    else (if bytes_eq name (codes "Con") then Some Con
    else (if bytes_eq name (codes "Obs") then Some Obs
    else (if bytes_eq name (codes "Rec") then Some Rec
    else (if bytes_eq name (codes "Sug") then Some Sug
    else (if bytes_eq name (codes "Sup") then Some Sup
    else (if bytes_eq name (codes "Enh") then Some Enh
    else (if bytes_eq name (codes "Vnd") then Some Vnd
    else (if bytes_eq name (codes "Fls") then Some Fls
    else None)))))))))))

-- where the dependency of a tag stands
abbrev pub place_of : Tag → Place
place_of Prv = Plain
place_of Obs = Plain
place_of Con = Conflicts
place_of tag = Requires

-- a text without the blanks at its end
abbrev pub without_back_blanks : List ℕ → List ℕ
without_back_blanks text = reverse (without_front_blanks (reverse text))

-- the list with the path, added if it is new
abbrev pub with_path : List ℕ → List (List ℕ) → List (List ℕ)
with_path path paths = with_name paths path

-- a requirement, which becomes a pre-requirement if it is of this dependency and is said to be one now
abbrev pub also_pre : Dep (List ℕ) → Bool → WrittenNeed → WrittenNeed
also_pre d pre need = if is_same d need.dep then record { dep = need.dep; pre = need.pre || pre } else need

-- a package with a dependency in the list of this tag
abbrev pub with_entry : Tag → Dep (List ℕ) → WrittenPackage → WrittenPackage
with_entry Prv d a = record a { provides = with_dependency d a.provides }
with_entry Req d a = record a { requires_ = with_need d false a.requires_ }
with_entry Prq d a = record a { requires_ = with_need d true a.requires_ }
with_entry Con d a = record a { conflicts = with_dependency d a.conflicts }
with_entry Obs d a = record a { obsoletes = with_dependency d a.obsoletes }
with_entry Rec d a = record a { recommends = with_dependency d a.recommends }
with_entry Sug d a = record a { suggests = with_dependency d a.suggests }
with_entry Sup d a = record a { supplements = with_dependency d a.supplements }
with_entry Enh d a = record a { enhances = with_dependency d a.enhances }
with_entry Pkg d a = a
with_entry Vnd d a = a
with_entry Fls d a = a
