-- Packages as testtags lines: a package is its `=Pkg:` line, and then one line for each of its entries.
use Rattle.std.specs.Prelude.{ℕ, ◌&&◌, nat_lt, List, [], ◌∷◌, ◌++◌, map, flat_map, length, codes, option_to_list, if◌then◌else◌}
use Rattle.std.specs.List.{before_last, after_last}
use Rattle.solv_base.specs.Evr.{is_dash}
use Rattle.solv_deps.specs.Canonical.{text}
use Rattle.solv_pool.specs.Written.{WrittenPackage}
use Rattle.solv_io.specs.JoinedWords.{joined}

-- the version and the release of an EVR: it is parted at its last `-`, where something stands on both sides; otherwise it stands whole, with the release `-`
abbrev pub evr_words : List ℕ → List (List ℕ)
evr_words evr = if nat_lt 0 (length (before_last is_dash evr)) && nat_lt 0 (length (after_last is_dash evr)) then before_last is_dash evr ∷ after_last is_dash evr ∷ [] else evr ∷ codes "-" ∷ []

-- a line of this tag for each of these texts: `=TAG: TEXT`
abbrev pub tagged : List ℕ → List (List ℕ) → List (List ℕ)
tagged letters texts = map (λ entry. codes "=" ++ (letters ++ (codes ": " ++ entry))) texts

-- the lines of a package; a dependency stands there by its canonical text
abbrev pub package_lines : WrittenPackage → List (List ℕ)
package_lines a =
    tagged (codes "Pkg") (joined (a.name ∷ (evr_words a.evr ++ a.arch ∷ [])) ∷ [])
    ++ (tagged (codes "Vnd") (option_to_list a.vendor)
    ++ (tagged (codes "Prv") (map text a.provides)
    ++ (flat_map (λ need. tagged (if need.pre then codes "Prq" else codes "Req") (text need.dep ∷ [])) a.requires_
    ++ (tagged (codes "Con") (map text a.conflicts)
    ++ (tagged (codes "Obs") (map text a.obsoletes)
    ++ (tagged (codes "Rec") (map text a.recommends)
    ++ (tagged (codes "Sug") (map text a.suggests)
    ++ (tagged (codes "Sup") (map text a.supplements)
    ++ (tagged (codes "Enh") (map text a.enhances)
    ++ tagged (codes "Fls") a.files)))))))))
