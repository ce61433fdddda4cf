-- Packages as testtags lines, entry by entry.
use Rattle.std.specs.Prelude.{ℕ, List, [], ◌∷◌, ◌++◌, map, flat_map, codes, option_to_list, if◌then◌else◌}
use Rattle.solv_base.specs.Dependency.{Dep}
use Rattle.solv_deps.specs.Canonical.{text}
use Rattle.solv_pool.specs.Prelude.{WrittenPackage}
use Rattle.solv_tags.specs.declared.tag.Tag.{Tag}
use Rattle.solv_tags.specs.declared.tag.Tag.TheVariants.{Pkg, Prv, Req, Prq, Con, Obs, Rec, Sug, Sup, Enh, Vnd, Fls}
use Rattle.solv_io.specs.JoinedWords.{joined}
use Rattle.solv_writing.specs.TagLines.{evr_words}

-- the three letters of a tag
abbrev pub letters_of : Tag → List ℕ
letters_of Pkg = codes "Pkg"
letters_of Prv = codes "Prv"
letters_of Req = codes "Req"
letters_of Prq = codes "Prq"
letters_of Con = codes "Con"
letters_of Obs = codes "Obs"
letters_of Rec = codes "Rec"
letters_of Sug = codes "Sug"
letters_of Sup = codes "Sup"
letters_of Enh = codes "Enh"
letters_of Vnd = codes "Vnd"
letters_of Fls = codes "Fls"

-- an entry: its tag, and its text
pub record Entry : Type 0 where
  pub tag : Tag
  pub text : List ℕ

-- `=TAG: TEXT`
abbrev pub tag_line : List ℕ → List ℕ → List ℕ
tag_line letters text = codes "=" ++ (letters ++ (codes ": " ++ text))

abbrev pub entry_line : Entry → List ℕ
entry_line e = tag_line (letters_of e.tag) e.text

-- an entry with a text as it stands
abbrev pub text_entry : Tag → List ℕ → Entry
text_entry t text = record { tag = t; text = text }

-- an entry with a dependency, by its canonical text
abbrev pub dep_entry : Tag → Dep (List ℕ) → Entry
dep_entry t d = record { tag = t; text = text d }

-- the entries of a package
abbrev pub entries_of : WrittenPackage → List Entry
entries_of a =
    map (text_entry Vnd) (option_to_list a.vendor)
    ++ (map (dep_entry Prv) a.provides
    ++ (map (λ need. dep_entry (if need.pre then Prq else Req) need.dep) a.requires_
    ++ (map (dep_entry Con) a.conflicts
    ++ (map (dep_entry Obs) a.obsoletes
    ++ (map (dep_entry Rec) a.recommends
    ++ (map (dep_entry Sug) a.suggests
    ++ (map (dep_entry Sup) a.supplements
    ++ (map (dep_entry Enh) a.enhances
    ++ map (text_entry Fls) a.files))))))))

-- the lines of a package
abbrev pub package_lines : WrittenPackage → List (List ℕ)
package_lines a = entry_line (record { tag = Pkg; text = joined (a.name ∷ (evr_words a.evr ++ a.arch ∷ [])) }) ∷ map entry_line (entries_of a)

-- the lines of packages
abbrev pub tag_lines : List WrittenPackage → List (List ℕ)
tag_lines packages = flat_map package_lines packages
