-- Testtags files, line by line, as the code reads them: the meaning of a line by its tag, the package in hand and the block that is open.
use Rattle.std.specs.Prelude.{ℕ, ◌+◌, ◌&&◌, List, [], ◌∷◌, length, Option, Some, None, Result, Ok, Err, nat_le, is_some, if◌then◌else◌}
use Rattle.std.specs.Str.{bytes_eq}
use Rattle.solv_io.specs.Words.{words_of}
use Rattle.solv_base.specs.Pool.{Held}
use Rattle.solv_pool.specs.Contents.{most_packages}
use Rattle.solv_pool.specs.Prelude.{WrittenPackage}
use Rattle.solv_tags.specs.declared.tag.Tag.{Tag}
use Rattle.solv_tags.specs.declared.tag.Tag.TheVariants.{Pkg, Vnd, Fls}
use Rattle.solv_tags.specs.declared.tag_fault.TagCause.{TagCause}
use Rattle.solv_tags.specs.declared.tag_fault.TagCause.TheVariants as cause
use Rattle.solv_tags.specs.declared.tag_fault.TagFault.{TagFault}
use Rattle.solv_deps.specs.Reading.{dependency}
use Rattle.solv_deps.specs.Entering.{text_entered, dependency_entered}
use Rattle.solv_tags.specs.Headings.{is_heading, letters, trimmed}
use Rattle.solv_tags.specs.Entries.{evr_text, bare_package}
use Rattle.solv_tags.specs.Inner.Tags.{entry_sign, opening_sign, closing_sign, after_heading, tag, place_of, with_path, with_entry}
use Rattle.solv_tags.specs.Testtags.{Tagged, packages_so_far, or_cause, Repository}

-- texts entered from left to right
abbrev pub texts_entered : List (List ℕ) → Held → (Held → Result Tagged TagCause) → Result Tagged TagCause
texts_entered [] held next = next held
texts_entered (text ∷ texts) held next = or_cause (text_entered text held) (λ e. texts_entered texts e.held next)

-- a package with these texts comes into hand
abbrev pub begun : Tagged → List ℕ → List ℕ → List ℕ → Result Tagged TagCause
begun s name evr arch =
    if nat_le most_packages (s.before + length (packages_so_far s)) then Err cause.TooManyPackages
    else texts_entered (name ∷ evr ∷ arch ∷ []) s.held
    (λ held. Ok (record s { held = held; done = packages_so_far s; hand = Some (bare_package s.repo name evr arch) }))

-- `name version release arch`
abbrev pub package_entry : Tagged → List (List ℕ) → Result Tagged TagCause
package_entry s (name ∷ version ∷ release ∷ arch ∷ []) = begun s name (evr_text version release) arch
package_entry s words = Err cause.BadPackageLine

-- the vendor of the package in hand; an empty one says nothing
abbrev pub vendor_entry : Tagged → WrittenPackage → List ℕ → Result Tagged TagCause
vendor_entry s a [] = Ok s
vendor_entry s a text =
    or_cause (text_entered text s.held) (λ e. Ok (record s { held = e.held; hand = Some (record a { vendor = Some text }) }))

-- a path of the package in hand; an empty one says nothing
abbrev pub path_entry : Tagged → WrittenPackage → List ℕ → Result Tagged TagCause
path_entry s a [] = Ok s
path_entry s a text =
    or_cause (text_entered text s.held) (λ e. Ok (record s { held = e.held; hand = Some (record a { files = with_path text a.files }) }))

-- a dependency of the package in hand: its own causes come before the limits of the pool
abbrev pub dependency_entry : Tagged → WrittenPackage → Tag → List ℕ → Result Tagged TagCause
dependency_entry s a t text =
    or_cause (dependency (place_of t) text) (λ d. or_cause (dependency_entered d s.held)
    (λ e. Ok (record s { held = e.held; hand = Some (with_entry t d a) })))

-- an entry of the package in hand
abbrev pub entry_of : Tagged → WrittenPackage → Tag → List ℕ → Result Tagged TagCause
entry_of s a Vnd text = vendor_entry s a (trimmed text)
entry_of s a Fls text = path_entry s a (trimmed text)
entry_of s a t text = dependency_entry s a t text

-- an entry of the package in hand, if there is one: before the first package nothing is read
abbrev pub entry_of_hand : Tagged → Option WrittenPackage → Tag → List ℕ → Result Tagged TagCause
entry_of_hand s None t text = Err cause.TagBeforePackage
entry_of_hand s (Some a) t text = entry_of s a t text

-- an entry of a tag
abbrev pub entry : Tagged → Tag → List ℕ → Result Tagged TagCause
entry s Pkg text = package_entry s (words_of text)
entry s t text = entry_of_hand s s.hand t text

-- an entry of what may be a tag; others are passed over
abbrev pub entry_if_tag : Tagged → Option Tag → List ℕ → Result Tagged TagCause
entry_if_tag s None text = Ok s
entry_if_tag s (Some t) text = entry s t text

-- may a block of what may be a tag open while this package is in hand? One of packages, or one that is passed over, always
abbrev pub opens_block : Option WrittenPackage → Option Tag → Option TagCause
opens_block hand None = None
opens_block hand (Some Pkg) = None
opens_block None (Some t) = Some cause.TagBeforePackage
opens_block (Some a) (Some t) = None

-- a block of these letters is open, unless there is a cause
abbrev pub with_block : Tagged → List ℕ → Option TagCause → Result Tagged TagCause
with_block s name None = Ok (record s { block = Some name })
with_block s name (Some c) = Err c

-- a line outside a block: an entry, the opening of a block, or nothing
abbrev pub outside_block : Tagged → List ℕ → Result Tagged TagCause
outside_block s line =
    if is_heading entry_sign line then entry_if_tag s (tag (letters line)) (after_heading line)
    else (if is_heading opening_sign line then with_block s (letters line) (opens_block s.hand (tag (letters line)))
    else Ok s)

-- an entry of the open block, which is the whole line; a blank one says nothing
abbrev pub block_entry : Tagged → List ℕ → List ℕ → List ℕ → Result Tagged TagCause
block_entry s name line [] = Ok s
block_entry s name line text = entry_if_tag s (tag name) line

-- a line in a block: its closing, which has its letters, or an entry
abbrev pub inside_block : Tagged → List ℕ → List ℕ → Result Tagged TagCause
inside_block s name line =
    if is_heading closing_sign line && bytes_eq (letters line) name then Ok (record s { block = None })
    else block_entry s name line (trimmed line)

-- a line, by the block that is open
abbrev pub line_by_block : Tagged → Option (List ℕ) → List ℕ → Result Tagged TagCause
line_by_block s None line = outside_block s line
line_by_block s (Some name) line = inside_block s name line

-- a line: what it and those before give, or its first cause
abbrev pub line_read : Tagged → List ℕ → Result Tagged TagCause
line_read s line = line_by_block s s.block line

-- the end of the file after the line of this number, where no block may be open
abbrev pub end_read : ℕ → Tagged → Result Repository TagFault
end_read last s =
    if is_some s.block then Err (record { line = last; cause = cause.UnclosedBlock })
    else Ok (record { held = s.held; packages = packages_so_far s })

-- what follows where a line is not bad, or else that line and its cause
abbrev pub or_bad : ℕ → Result Tagged TagCause → (Tagged → Result Repository TagFault) → Result Repository TagFault
or_bad n (Ok s) next = next s
or_bad n (Err c) next = Err (record { line = n; cause = c })

-- what numbered lines give after the line of this number
abbrev pub lines_read : ℕ → Tagged → List (ℕ × List ℕ) → Result Repository TagFault
lines_read last s [] = end_read last s
lines_read last s (line ∷ others) = or_bad line.0 (line_read s line.1) (λ t. lines_read line.0 t others)

-- before the first line, where the pool holds this and so many packages stand before
abbrev pub no_line : Held → ℕ → ℕ → Tagged
no_line held before repo = record { repo = repo; before = before; held = held; done = []; hand = None; block = None }

-- the numbered lines of a repository: its packages, or the first bad line and its first cause
abbrev pub tags_read : Held → ℕ → ℕ → List (ℕ × List ℕ) → Result Repository TagFault
tags_read held before repo lines = lines_read 0 (no_line held before repo) lines
