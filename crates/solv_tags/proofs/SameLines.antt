-- What lines of testtags give, by tags as the code has them, is what they give.
use Rattle.std.proofs.Common.{◌≡◌, ℕ, Bool, true, false, ◌||◌, ◌&&◌, List, [], ◌∷◌, map, Option, Some, None, Result, Ok, Err, refl, sym, ap, ◌∙◌, subst}
use Rattle.std.specs.Prelude.{codes, drop, is_none, if◌then◌else◌}
use Rattle.std.specs.List.{find, list_any, zip}
use Rattle.std.specs.Str.{bytes_eq}
use Rattle.solv_io.specs.Words.{words_of}
use Rattle.solv_base.specs.Pool.{Held, with_name}
use Rattle.solv_pool.specs.Prelude.{WrittenPackage}
use Rattle.solv_tags.specs.Headings.{is_heading, letters, trimmed}
use Rattle.solv_tags.specs.Inner.Lines as tags
use Rattle.solv_tags.specs.Inner.Tags.{tag}
use Rattle.solv_tags.specs.Testtags.{Tagged, Repository, text_entry, entries, entry, package_entry, outside_block, inside_block, line_read, lines_read, testtags}
use Rattle.solv_tags.specs.declared.tag.Tag.{Tag}
use Rattle.solv_tags.specs.declared.tag.Tag.TheVariants.{Pkg, Prv, Req, Prq, Con, Obs, Rec, Sug, Sup, Enh, Vnd, Fls}
use Rattle.solv_tags.specs.declared.tag_fault.TagCause.{TagCause}
use Rattle.solv_tags.specs.declared.tag_fault.TagCause.TheVariants as cause
use Rattle.solv_tags.specs.declared.tag_fault.TagFault.{TagFault}
use Rattle.solv_list.proofs.Lists.{same_bytes}

-- a row of the entries
abbrev Row : Type 0
Row = List ℕ × (Tagged → WrittenPackage → List ℕ → Result Tagged TagCause)

package_same : (s : Tagged) (words : List (List ℕ)) → package_entry s words ≡ tags.package_entry s words
package_same s (name ∷ version ∷ release ∷ arch ∷ []) = refl
package_same s [] = refl
package_same s (a ∷ []) = refl
package_same s (a ∷ b ∷ []) = refl
package_same s (a ∷ b ∷ c ∷ []) = refl
package_same s (a ∷ b ∷ c ∷ d ∷ e ∷ words) = refl

vendor_same : (s : Tagged) (a : WrittenPackage) (text : List ℕ) → text_entry s (record a { vendor = Some text }) text ≡ tags.vendor_entry s a text
vendor_same s a [] = refl
vendor_same s a (x ∷ xs) = refl

path_same : (s : Tagged) (a : WrittenPackage) (text : List ℕ) → text_entry s (record a { files = with_name a.files text }) text ≡ tags.path_entry s a text
path_same s a [] = refl
path_same s a (x ∷ xs) = refl

-- an entry of a row
abbrev row_entry : Tagged → List ℕ → Option WrittenPackage → Option Row → Result Tagged TagCause
row_entry s text hand row = elim row [ None ↦ Ok s | Some row ↦ elim hand [ None ↦ Err cause.TagBeforePackage | Some a ↦ row.1 s a text ] ]

handed : (s : Tagged) (text : List ℕ) (hand : Option WrittenPackage) (row : Row) (t : Tag) → ((a : WrittenPackage) → row.1 s a text ≡ tags.entry_of s a t text) → row_entry s text hand (Some row) ≡ tags.entry_of_hand s hand t text
handed s text None row t h = refl
handed s text (Some a) row t h = h a

-- the rows of the entries with their tags, and the tag of the first one with these letters
abbrev rows : List (Row × Tag)
rows = zip entries (Prv ∷ Req ∷ Prq ∷ Con ∷ Obs ∷ Rec ∷ Sug ∷ Sup ∷ Enh ∷ Vnd ∷ Fls ∷ [])

abbrev tag_among : List ℕ → List (Row × Tag) → Option Tag
tag_among name [] = None
tag_among name (p ∷ ps) = if bytes_eq name p.0.0 then Some p.1 else tag_among name ps

-- what each row does is what is done by its tag
abbrev AreSame : Tagged → List ℕ → List (Row × Tag) → Type 0
AreSame s text [] = Unit {0}
AreSame s text (p ∷ ps) = (tags.entry s p.1 text ≡ tags.entry_of_hand s s.hand p.1 text) × (((a : WrittenPackage) → p.0.1 s a text ≡ tags.entry_of s a p.1 text) × AreSame s text ps)

rows_same : (s : Tagged) (name text : List ℕ) (ps : List (Row × Tag)) → AreSame s text ps
    → row_entry s text s.hand (find (λ row. bytes_eq name row.0) (map (λ p. p.0) ps)) ≡ tags.entry_if_tag s (tag_among name ps) text
rows_same s name text [] h = refl
rows_same s name text (p ∷ ps) h = by (bytes_eq name p.0.0) (rows_same s name text ps h.1.1)
  where
    by : (b : Bool) → row_entry s text s.hand (find (λ row. bytes_eq name row.0) (map (λ q. q.0) ps)) ≡ tags.entry_if_tag s (tag_among name ps) text
        → row_entry s text s.hand (if b then Some p.0 else find (λ row. bytes_eq name row.0) (map (λ q. q.0) ps)) ≡ tags.entry_if_tag s (if b then Some p.1 else tag_among name ps) text
    by true others = handed s text s.hand p.0 p.1 h.1.0 ∙ sym h.0
    by false others = others

chosen : (s : Tagged) (text : List ℕ) (b : Bool) (x y : Result Tagged TagCause) (t : Tag) (others : Option Tag)
    → x ≡ tags.entry_if_tag s (Some t) text → y ≡ tags.entry_if_tag s others text → (if b then x else y) ≡ tags.entry_if_tag s (if b then Some t else others) text
chosen s text true x y t others e f = e
chosen s text false x y t others e f = f

entry_same : (s : Tagged) (name text : List ℕ) → entry s name text ≡ tags.entry_if_tag s (tag name) text
entry_same s name text = chosen s text (bytes_eq name (codes "Pkg")) _ _ Pkg (tag_among name rows) (package_same s (words_of text)) (rows_same s name text rows same)
  where
    same : AreSame s text rows
    same = (refl, ((λ a. refl), (refl, ((λ a. refl), (refl, ((λ a. refl), (refl, ((λ a. refl), (refl, ((λ a. refl), (refl, ((λ a. refl), (refl, ((λ a. refl), (refl, ((λ a. refl), (refl, ((λ a. refl), (refl, ((λ a. vendor_same s a (trimmed text)), (refl, ((λ a. path_same s a (trimmed text)), tt))))))))))))))))))))))

-- a block opens
abbrev opening : Tagged → List ℕ → Option WrittenPackage → Bool → Result Tagged TagCause
opening s name hand any = if is_none hand && any then Err cause.TagBeforePackage else Ok (record s { block = Some name })

-- each tag but that of a package wants a package in hand
abbrev AreOpened : Tagged → List ℕ → Option WrittenPackage → List (Row × Tag) → Type 0
AreOpened s name hand [] = Unit {0}
AreOpened s name hand (p ∷ ps) = (opening s name hand true ≡ tags.with_block s name (tags.opens_block hand (Some p.1))) × AreOpened s name hand ps

opens_among : (s : Tagged) (name : List ℕ) (hand : Option WrittenPackage) (ps : List (Row × Tag)) → opening s name hand false ≡ Ok (record s { block = Some name }) → AreOpened s name hand ps
    → opening s name hand (list_any (λ row. bytes_eq name row.0) (map (λ p. p.0) ps)) ≡ tags.with_block s name (tags.opens_block hand (tag_among name ps))
opens_among s name hand [] e h = e
opens_among s name hand (p ∷ ps) e h = by (bytes_eq name p.0.0) (opens_among s name hand ps e h.1)
  where
    by : (b : Bool) → opening s name hand (list_any (λ row. bytes_eq name row.0) (map (λ q. q.0) ps)) ≡ tags.with_block s name (tags.opens_block hand (tag_among name ps))
        → opening s name hand (b || list_any (λ row. bytes_eq name row.0) (map (λ q. q.0) ps)) ≡ tags.with_block s name (tags.opens_block hand (if b then Some p.1 else tag_among name ps))
    by true others = h.0
    by false others = others

abbrev opens_same : Tagged → List ℕ → Option WrittenPackage → Type 0
opens_same s name hand = opening s name hand (list_any (λ row. bytes_eq name row.0) entries) ≡ tags.with_block s name (tags.opens_block hand (tag name))

opens_package : (s : Tagged) (hand : Option WrittenPackage) → opens_same s (codes "Pkg") hand
opens_package s None = refl
opens_package s (Some a) = refl

opens_other : (s : Tagged) (name : List ℕ) (hand : Option WrittenPackage) → bytes_eq name (codes "Pkg") ≡ false → opens_same s name hand
opens_other s name None e = rw e (opens_among s name None rows refl (refl, (refl, (refl, (refl, (refl, (refl, (refl, (refl, (refl, (refl, (refl, tt))))))))))))
opens_other s name (Some a) e = rw e (opens_among s name (Some a) rows refl (refl, (refl, (refl, (refl, (refl, (refl, (refl, (refl, (refl, (refl, (refl, tt))))))))))))

opens : (s : Tagged) (name : List ℕ) (hand : Option WrittenPackage) → opens_same s name hand
opens s name hand =
    elim (bytes_eq name (codes "Pkg")) as (λ b. bytes_eq name (codes "Pkg") ≡ b → opens_same s name hand) [
      | true ↦ λ e. subst (λ n. opens_same s n hand) (sym (same_bytes name (codes "Pkg") e)) (opens_package s hand)
      | false ↦ λ e. opens_other s name hand e
    ] refl

either : (b : Bool) (x y v w : Result Tagged TagCause) → x ≡ v → y ≡ w → (if b then x else y) ≡ (if b then v else w)
either true x y v w e f = e
either false x y v w e f = f

outside_same : (s : Tagged) (line : List ℕ) → outside_block s line ≡ tags.outside_block s line
outside_same s line =
    either (is_heading 61 line) _ _ _ _ (entry_same s (letters line) (drop 5 line)) (either (is_heading 43 line) _ _ _ _ (opens s (letters line) s.hand) refl)

inside_same : (s : Tagged) (name line : List ℕ) → inside_block s name line ≡ tags.inside_block s name line
inside_same s name line = either (is_heading 45 line && bytes_eq (letters line) name) _ _ _ _ refl (by (trimmed line))
  where
    by : (text : List ℕ) → (elim text [ [] ↦ Ok s | other ↦ entry s name line ]) ≡ tags.block_entry s name line text
    by [] = refl
    by (x ∷ xs) = entry_same s name line

pub line_same : (s : Tagged) (line : List ℕ) → line_read s line ≡ tags.line_read s line
line_same s line = by s.block
  where
    by : (block : Option (List ℕ)) → (elim block [ None ↦ outside_block s line | Some name ↦ inside_block s name line ]) ≡ tags.line_by_block s block line
    by None = outside_same s line
    by (Some name) = inside_same s name line

lines_same : (last : ℕ) (s : Tagged) (lines : List (ℕ × List ℕ)) → lines_read last s lines ≡ tags.lines_read last s lines
lines_same last s [] = refl
lines_same last s (line ∷ others) = ap (next (λ t. lines_read line.0 t others)) (line_same s line.1) ∙ by (tags.line_read s line.1) (λ t. lines_same line.0 t others)
  where
    next : (Tagged → Result Repository TagFault) → Result Tagged TagCause → Result Repository TagFault
    next f r = elim r [ Ok t ↦ f t | Err c ↦ Err (record { line = line.0; cause = c }) ]

    by : (r : Result Tagged TagCause) → ((t : Tagged) → lines_read line.0 t others ≡ tags.lines_read line.0 t others)
        → next (λ t. lines_read line.0 t others) r ≡ tags.or_bad line.0 r (λ t. tags.lines_read line.0 t others)
    by (Ok t) same = same t
    by (Err c) same = refl

-- what numbered lines of a repository give
pub testtags_same : (held : Held) (before repo : ℕ) (lines : List (ℕ × List ℕ)) → testtags held before repo lines ≡ tags.tags_read held before repo lines
testtags_same held before repo lines = lines_same 0 (tags.no_line held before repo) lines

-- what is said of them by tags
pub said_same : (P : Result Repository TagFault → Type 0) (held : Held) (before repo again : ℕ) (lines : List (ℕ × List ℕ)) → again ≡ repo → P (tags.tags_read held before again lines) → P (testtags held before repo lines)
said_same P held before repo again lines e h = subst P (ap (λ (r : ℕ). tags.tags_read held before r lines) e ∙ sym (testtags_same held before repo lines)) h
