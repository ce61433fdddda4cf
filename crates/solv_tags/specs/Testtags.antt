-- Testtags files, line by line: what the lines so far give, the cause of a line that is bad then, and what a whole file gives.
use Rattle.std.specs.Prelude.{ℕ, ◌+◌, ◌&&◌, false, true, List, [], ◌∷◌, ◌++◌, length, drop, codes, Option, Some, None, Result, Ok, Err, option_to_list, nat_le, is_some, is_none, if◌then◌else◌}
use Rattle.std.specs.List.{find, list_any}
use Rattle.std.specs.Str.{bytes_eq}
use Rattle.solv_io.specs.Words.{words_of}
use Rattle.solv_base.specs.Dependency.{Dep}
use Rattle.solv_base.specs.Pool.{Held, with_name}
use Rattle.solv_pool.specs.Contents.{most_packages}
use Rattle.solv_pool.specs.Written.{WrittenPackage}
use Rattle.solv_deps.specs.declared.fault.DepFault.{DepFault}
use Rattle.solv_deps.specs.declared.fault.DepFault.TheVariants as of_text
use Rattle.solv_deps.specs.declared.place.Place.{Place}
use Rattle.solv_deps.specs.declared.place.Place.TheVariants.{Requires, Conflicts, Plain}
use Rattle.solv_tags.specs.declared.tag_fault.TagCause.{TagCause}
use Rattle.solv_tags.specs.declared.tag_fault.TagCause.TheVariants as cause
use Rattle.solv_tags.specs.declared.tag_fault.TagFault.{TagFault}
use Rattle.solv_deps.specs.Reading.{dependency}
use Rattle.solv_deps.specs.Entering.{text_entered, dependency_entered}
use Rattle.solv_tags.specs.Headings.{is_heading, letters, trimmed}
use Rattle.solv_tags.specs.Entries.{with_dependency, with_need, evr_text, bare_package}

-- what the lines so far give
pub record Tagged : Type 0 where
  pub repo : ℕ  -- the number of the repository
  pub before : ℕ  -- how many packages stand before the repository's
  pub held : Held  -- the texts and relations that the pool holds
  pub done : List WrittenPackage  -- the packages before the one in hand
  pub hand : Option WrittenPackage  -- the package that entries belong to: the last one
  pub block : Option (List ℕ)  -- the letters of the block that is open

-- the packages of the repository so far
abbrev pub packages_so_far : Tagged → List WrittenPackage
packages_so_far s = s.done ++ option_to_list s.hand

-- the cause at a line that a dependency's is
abbrev pub cause_of : DepFault → TagCause
cause_of of_text.FullNames = cause.FullNames
cause_of of_text.Memory = cause.Memory
cause_of fault = cause.Dep fault

-- what follows where a text was read or entered, or else its cause
abbrev pub or_cause : {A B : Type 0} → Result A DepFault → (A → Result B TagCause) → Result B TagCause
or_cause (Ok x) next = next x
or_cause (Err fault) next = Err (cause_of fault)

-- `name version release arch`: a package with these texts, entered from left to right, comes into hand
abbrev pub package_entry : Tagged → List (List ℕ) → Result Tagged TagCause
package_entry s (name ∷ version ∷ release ∷ arch ∷ []) =
    let evr : List ℕ = evr_text version release in
    if nat_le most_packages (s.before + length (packages_so_far s)) then Err cause.TooManyPackages
    else or_cause (text_entered name s.held) (λ first. or_cause (text_entered evr first.held) (λ second. or_cause (text_entered arch second.held)
    (λ last. Ok (record s { held = last.held; done = packages_so_far s; hand = Some (bare_package s.repo name evr arch) }))))
package_entry s words = Err cause.BadPackageLine

-- a text of the package in hand, which with it is this one; an empty text says nothing
abbrev pub text_entry : Tagged → WrittenPackage → List ℕ → Result Tagged TagCause
text_entry s with_it [] = Ok s
text_entry s with_it text = or_cause (text_entered text s.held) (λ e. Ok (record s { held = e.held; hand = Some with_it }))

-- a dependency of the package in hand, which stands at this place and is added so: its own causes come before the limits of the pool
abbrev pub dependency_entry : Place → (Dep (List ℕ) → WrittenPackage → WrittenPackage) → Tagged → WrittenPackage → List ℕ → Result Tagged TagCause
dependency_entry place added s a text =
    or_cause (dependency place text) (λ d. or_cause (dependency_entered d s.held) (λ e. Ok (record s { held = e.held; hand = Some (added d a) })))

-- the entries of the package in hand, by their letters
abbrev pub entries : List (List ℕ × (Tagged → WrittenPackage → List ℕ → Result Tagged TagCause))
entries =
    (codes "Prv", dependency_entry Plain (λ d a. record a { provides = with_dependency d a.provides }))
    ∷ (codes "Req", dependency_entry Requires (λ d a. record a { requires_ = with_need d false a.requires_ }))
    ∷ (codes "Prq", dependency_entry Requires (λ d a. record a { requires_ = with_need d true a.requires_ }))
    ∷ (codes "Con", dependency_entry Conflicts (λ d a. record a { conflicts = with_dependency d a.conflicts }))
    ∷ (codes "Obs", dependency_entry Plain (λ d a. record a { obsoletes = with_dependency d a.obsoletes }))
    ∷ (codes "Rec", dependency_entry Requires (λ d a. record a { recommends = with_dependency d a.recommends }))
    ∷ (codes "Sug", dependency_entry Requires (λ d a. record a { suggests = with_dependency d a.suggests }))
    ∷ (codes "Sup", dependency_entry Requires (λ d a. record a { supplements = with_dependency d a.supplements }))
    ∷ (codes "Enh", dependency_entry Requires (λ d a. record a { enhances = with_dependency d a.enhances }))
    ∷ (codes "Vnd", λ s a text. text_entry s (record a { vendor = Some (trimmed text) }) (trimmed text))
    ∷ (codes "Fls", λ s a text. text_entry s (record a { files = with_name a.files (trimmed text) }) (trimmed text))
    ∷ []

-- an entry with these letters: a package, or one of the package in hand, before which nothing is read; others are passed over
abbrev pub entry : Tagged → List ℕ → List ℕ → Result Tagged TagCause
entry s name text =
    if bytes_eq name (codes "Pkg") then package_entry s (words_of text)
    else elim (find (λ row. bytes_eq name row.0) entries) [ None ↦ Ok s | Some row ↦ elim s.hand [ None ↦ Err cause.TagBeforePackage | Some a ↦ row.1 s a text ] ]

-- a line outside a block: after `=` (61) an entry, after `+` (43) the opening of a block, which wants a package in hand if its entries do
abbrev pub outside_block : Tagged → List ℕ → Result Tagged TagCause
outside_block s line =
    if is_heading 61 line then entry s (letters line) (drop 5 line)
    else (if is_heading 43 line
    then (if is_none s.hand && list_any (λ row. bytes_eq (letters line) row.0) entries then Err cause.TagBeforePackage else Ok (record s { block = Some (letters line) }))
    else Ok s)

-- a line in a block: after `-` (45) its closing, which has its letters, or else an entry, which is the whole line; a blank one says nothing
abbrev pub inside_block : Tagged → List ℕ → List ℕ → Result Tagged TagCause
inside_block s name line =
    if is_heading 45 line && bytes_eq (letters line) name then Ok (record s { block = None })
    else elim (trimmed line) [ [] ↦ Ok s | text ↦ entry s name line ]

-- a line: what it and those before give, or its first cause
abbrev pub line_read : Tagged → List ℕ → Result Tagged TagCause
line_read s line = elim s.block [ None ↦ outside_block s line | Some name ↦ inside_block s name line ]

-- what a whole file gives: what the pool holds then, and the packages of the repository
pub record Repository : Type 0 where
  pub held : Held
  pub packages : List WrittenPackage

-- what numbered lines give after the line of this number, or the first bad line and its cause; at the end no block may be open
abbrev pub lines_read : ℕ → Tagged → List (ℕ × List ℕ) → Result Repository TagFault
lines_read last s [] =
    if is_some s.block then Err (record { line = last; cause = cause.UnclosedBlock }) else Ok (record { held = s.held; packages = packages_so_far s })
lines_read last s (line ∷ others) =
    elim (line_read s line.1) [ Ok t ↦ lines_read line.0 t others | Err c ↦ Err (record { line = line.0; cause = c }) ]

-- the numbered lines of a repository, where the pool holds this and so many packages stand before: its packages, or the first bad line and its first cause
abbrev pub testtags : Held → ℕ → ℕ → List (ℕ × List ℕ) → Result Repository TagFault
testtags held before repo lines = lines_read 0 (record { repo = repo; before = before; held = held; done = []; hand = None; block = None }) lines
