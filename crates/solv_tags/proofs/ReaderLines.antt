-- What a reader of testtags lines does is what the lines give.
use Rattle.std.proofs.Common.{◌≡◌, ℕ, ◌<◌, ◌+◌, Bool, true, false, List, [], ◌∷◌, ◌++◌, map, drop, length, Option, Some, None, Result, Ok, Err, refl, ap, ◌∙◌, arith, length-drop}
use Rattle.std.specs.Prelude.{nat_le, ◌&&◌, option_to_list, OnOk, is_some}
use Rattle.std.specs.Option.{option_map}
use Rattle.std.specs.List.{list_all}
use Rattle.std.specs.Str.{bytes_eq}
use Rattle.std.proofs.lemmas.List.{map-append, length-append, drop-append-le, length-map, append_assoc}
use Rattle.solv_base.specs.Pool.{Held, Grows}
use Rattle.solv_pool.specs.Prelude.{IsOver, fits, WrittenPackage, written_package}
use Rattle.solv_pool.specs.Contents.{Contents, most_packages}
use Rattle.solv_pool.specs.declared.packages.Package.{Package}
use Rattle.solv_tags.specs.Entries.{bare_package}
use Rattle.solv_tags.specs.Inner.Tags.{entry_sign, opening_sign, closing_sign, after_heading, tag}
use Rattle.solv_tags.specs.Headings.{is_heading, letters, trimmed}
use Rattle.solv_tags.specs.Inner.TagReading.{IsOf, IsCause, IsHand, IsReading, IsRead, IsEnded, HasMore, HasReadHand, AreWithin, HaveTexts, package_of, tagged_of, with_packages}
use Rattle.solv_tags.specs.Testtags.{Tagged, packages_so_far}
use Rattle.solv_tags.specs.Inner.Lines.{texts_entered, begun, entry, entry_of_hand, entry_if_tag, block_entry, inside_block, outside_block, opens_block, end_read}
use Rattle.solv_tags.specs.declared.package_words.PackageIds.{PackageIds}
use Rattle.solv_tags.specs.declared.tag.Tag.{Tag}
use Rattle.solv_tags.specs.declared.tag.Tag.TheVariants.{Pkg, Prv, Req, Prq, Con, Obs, Rec, Sug, Sup, Enh, Vnd, Fls}
use Rattle.solv_tags.specs.declared.tag_fault.TagCause.{TagCause}
use Rattle.solv_tags.specs.declared.tag_fault.TagCause.TheVariants.{Dep, BadPackageLine, TagBeforePackage, UnclosedBlock, TooManyPackages, FullNames, Memory}
use Rattle.solv_tags.specs.declared.tag_reader.TagReader.{TagReader}
use Rattle.solv_deps.proofs.Recents.{read_before}
use Rattle.solv_tags.proofs.Noted.{no_tails}
use Rattle.solv_tags.proofs.Staying.{fits_of, of_grown, package_stays, packages_stay}
use Rattle.solv_base.proofs.Growth.{Grows-itself}
use Rattle.solv_list.proofs.Lists.{below_true, list_all_join, all_dropped}
use Rattle.std.proofs.lemmas.Bool.{and_from}

-- the packages before the one in hand stay
done_stays : (r : TagReader) (old new : Held) (universe : Contents) → Grows old new → IsReading r old universe
    → map (written_package new) (drop r.before universe.packages) ≡ map (written_package old) (drop r.before universe.packages)
done_stays r old new universe grows reading =
    packages_stay old new grows (length universe.repos) (drop r.before universe.packages)
    (all_dropped (fits (length old.names) (length old.nodes) (length universe.repos)) r.before universe.packages reading.over.packages)

hand_stays : (old new : Held) (repo : ℕ) (hand : Option Package) → Grows old new → IsHand old repo hand
    → map (written_package new) (option_to_list hand) ≡ option_to_list (option_map (written_package old) hand)
hand_stays old new repo None grows h = refl
hand_stays old new repo (Some a) grows h = ap (λ (w : WrittenPackage). w ∷ []) (package_stays old new grows a h.0)

-- the packages so far, with the one in hand among those of the universe
all_so_far : (r : TagReader) (old new : Held) (universe : Contents) → Grows old new → IsReading r old universe
    → map (written_package new) (drop r.before (universe.packages ++ option_to_list r.hand)) ≡ packages_so_far (tagged_of r old universe)
all_so_far r old new universe grows reading =
    ap (map (written_package new)) (drop-append-le r.before universe.packages (option_to_list r.hand) reading.before)
    ∙ map-append (written_package new) (drop r.before universe.packages) (option_to_list r.hand)
    ∙ ap (λ (l : List WrittenPackage). l ++ map (written_package new) (option_to_list r.hand)) (done_stays r old new universe grows reading)
    ∙ ap (λ (l : List WrittenPackage). map (written_package old) (drop r.before universe.packages) ++ l) (hand_stays old new r.repo r.hand grows reading.hand)

hand_length : (pool : Held) (hand : Option Package) → length (option_to_list (option_map (written_package pool) hand)) ≡ length (option_to_list hand)
hand_length pool None = refl
hand_length pool (Some a) = refl

-- how many they are
pub count_so_far : (r : TagReader) (pool : Held) (universe : Contents) → IsReading r pool universe
    → r.before + length (packages_so_far (tagged_of r pool universe)) ≡ length universe.packages + length (option_to_list r.hand)
count_so_far r pool universe reading =
    let done = map (written_package pool) (drop r.before universe.packages) in
    let hand = option_to_list (option_map (written_package pool) r.hand) in
    let both : length (done ++ hand) ≡ length done + length hand = length-append done hand in
    let front : length done ≡ length (drop r.before universe.packages) = length-map (drop r.before universe.packages) (written_package pool) in
    let behind = length-drop r.before universe.packages in
    let one = hand_length pool r.hand in
    let before = reading.before in
    omega (arith, both, front, behind, one, before)

-- the universe with the package in hand after the others is of the pool
hand_fits : (r : TagReader) (pool : Held) (count : ℕ) (hand : Option Package) → IsHand pool r.repo hand → r.repo < count
    → list_all (fits (length pool.names) (length pool.nodes) count) (option_to_list hand) ≡ true
hand_fits r pool count None h k = refl
hand_fits r pool count (Some a) h k =
    and_from (fits (length pool.names) (length pool.nodes) count a) true (fits_of pool count a h.0 (below_true a.repo count (rw h.1 k))) refl

hand_grown : (old new : Held) (repo : ℕ) (hand : Option Package) → Grows old new → IsHand old repo hand → IsHand new repo hand
hand_grown old new repo None grows h = tt
hand_grown old new repo (Some a) grows h = (of_grown old new a grows h.0, h.1)

put_over : (r : TagReader) (old new : Held) (universe : Contents) → Grows old new → IsReading r old universe → IsOver new universe → IsOver new (with_packages universe (option_to_list r.hand))
put_over r old new universe grows reading over = record {
  packages = list_all_join (fits (length new.names) (length new.nodes) (length universe.repos)) universe.packages (option_to_list r.hand) over.packages
      (hand_fits r new (length universe.repos) r.hand (hand_grown old new r.repo r.hand grows reading.hand) reading.repo);
  repos = over.repos;
}

ids_of : (pool : Held) (repo : ℕ) (ids : PackageIds) → AreWithin (length pool.names) ids → IsOf pool (package_of repo ids)
ids_of pool repo ids within = record {
  name = below_true ids.name (length pool.names) within.name;
  evr = below_true ids.evr (length pool.names) within.evr;
  arch = below_true ids.arch (length pool.names) within.arch;
  vendor = refl;
  provides = refl;
  requires_ = refl;
  conflicts = refl;
  obsoletes = refl;
  recommends = refl;
  suggests = refl;
  supplements = refl;
  enhances = refl;
  files = refl;
}

module _ (r s : TagReader) (old new : Held) (universe later : Contents) (reading : IsReading r old universe) (grows : Grows old new) (over : IsOver new universe) where
  pub begin_read : (ids : PackageIds) (name evr arch : List ℕ) → nat_le most_packages (length universe.packages + length (option_to_list r.hand)) ≡ false
      → ((next : Held → Result Tagged TagCause) → texts_entered (name ∷ evr ∷ arch ∷ []) old next ≡ next new)
      → AreWithin (length new.names) ids → HaveTexts new ids name evr arch
      → s.repo ≡ r.repo → s.before ≡ r.before → s.block ≡ r.block → s.recent ≡ r.recent → s.hand ≡ Some (package_of r.repo ids) → later ≡ with_packages universe (option_to_list r.hand)
      → IsRead r s new later (begun (tagged_of r old universe) name evr arch)
  begin_read ids name evr arch room entered within texts repo before block recent hand put = record {
    is =
        let count = count_so_far r old universe reading in
        let t = tagged_of r old universe in
        let next : Held → Result Tagged TagCause = λ held. Ok (record t { held = held; done = packages_so_far t; hand = Some (bare_package r.repo name evr arch) }) in
        let bare : written_package new (package_of r.repo ids) ≡ bare_package r.repo name evr arch = rw (texts.name_is, texts.evr_is, texts.arch_is) refl in
        rw (count, room, put, hand, repo, before, block, bare, all_so_far r old new universe grows reading) (entered next);
    reading = record {
      over = rw put (put_over r old new universe grows reading over);
      hand = rw (hand, repo) (ids_of new r.repo ids within, refl);
      repo = rw (put, repo) reading.repo;
      recent = rw recent (read_before old new r.recent grows reading.recent);
      tails = rw hand (no_tails s.tails r.repo ids);
      before = rw (put, before) (let l = length-append universe.packages (option_to_list r.hand) in let b = reading.before in omega (arith, l, b));
    };
    repo = repo;
    before = before;
  }

  pub entry_read : (t : Tag) (text : List ℕ) → entry (tagged_of r old universe) t text ≡ entry_of_hand (tagged_of r old universe) (tagged_of r old universe).hand t text
      → HasReadHand old new r s (λ x. entry_of_hand x x.hand t text) → IsRead r s new universe (entry (tagged_of r old universe) t text)
  entry_read t text other h = record {
    is = other ∙ h.is (tagged_of r old universe) refl refl ∙ rw (h.repo, h.before, h.block, done_stays r old new universe grows reading) refl;
    reading = record { over = over; hand = rw h.repo h.hand; repo = rw h.repo reading.repo; before = rw h.before reading.before; recent = h.recent; tails = h.tails };
    repo = h.repo;
    before = h.before;
  }

-- the entry of a tag that begins no package
pub entry_other : (s : Tagged) (t : Tag) (text : List ℕ) → (t ≡ Pkg → ⊥) → entry s t text ≡ entry_of_hand s s.hand t text
entry_other s Pkg text n = absurd (n refl)
entry_other s Prv text n = refl
entry_other s Req text n = refl
entry_other s Prq text n = refl
entry_other s Con text n = refl
entry_other s Obs text n = refl
entry_other s Rec text n = refl
entry_other s Sug text n = refl
entry_other s Sup text n = refl
entry_other s Enh text n = refl
entry_other s Vnd text n = refl
entry_other s Fls text n = refl

-- an entry of an open block
entry_inside : (s : Tagged) (name line text : List ℕ) → (length text ≡ 0 → ⊥) → block_entry s name line text ≡ entry_if_tag s (tag name) line
entry_inside s name line [] n = absurd (n refl)
entry_inside s name line (x ∷ xs) n = refl

pub inside_entry : (s : Tagged) (name line : List ℕ) → (is_heading closing_sign line && bytes_eq (letters line) name) ≡ false → (length (trimmed line) ≡ 0 → ⊥)
    → inside_block s name line ≡ entry_if_tag s (tag name) line
inside_entry s name line goes_on n = rw goes_on (entry_inside s name line (trimmed line) n)

-- the end
pub ended : (r : TagReader) (pool : Held) (universe later : Contents) (last : ℕ) → is_some r.block ≡ false → later ≡ with_packages universe (option_to_list r.hand)
    → IsReading r pool universe → IsEnded r pool universe later (end_read last (tagged_of r pool universe))
ended r pool universe later last closed put reading = record {
  is = rw (closed, put, all_so_far r pool pool universe (Grows-itself pool) reading) refl;
  universe = put;
  over = rw put (put_over r pool pool universe (Grows-itself pool) reading reading.over);
}

pub on_both : {T E P Q R : Type 0} (r : Result T E) → (P → Q → R) → OnOk r P → OnOk r Q → OnOk r R
on_both (Ok x) f h k = f h k
on_both (Err e) f h k = tt

cause_itself : {A : Type 0} (c : TagCause) (r : Result A TagCause) → r ≡ Err c → IsCause c r
cause_itself (Dep f) r h = h
cause_itself BadPackageLine r h = h
cause_itself TagBeforePackage r h = h
cause_itself UnclosedBlock r h = h
cause_itself TooManyPackages r h = h
cause_itself FullNames r h = h
cause_itself Memory r h = tt

-- a line outside a block
pub outside_entry : (s : Tagged) (line : List ℕ) → is_heading entry_sign line ≡ true → outside_block s line ≡ entry_if_tag s (tag (letters line)) (after_heading line)
outside_entry s line h = rw h refl

pub open_read : (r s : TagReader) (pool : Held) (universe : Contents) (line : List ℕ) → IsReading r pool universe → is_heading entry_sign line ≡ false → is_heading opening_sign line ≡ true
    → opens_block (option_map (written_package pool) r.hand) (tag (letters line)) ≡ None → s ≡ record r { block = Some (letters line) } → IsRead r s pool universe (outside_block (tagged_of r pool universe) line)
open_read r s pool universe line reading entry opening opens is =
    rw is (record { is = rw (entry, opening, opens) refl; reading = record { over = reading.over; hand = reading.hand; repo = reading.repo; before = reading.before; recent = reading.recent; tails = reading.tails }; repo = refl; before = refl })

pub open_ended : (r : TagReader) (pool : Held) (universe : Contents) (line : List ℕ) (c : TagCause) → is_heading entry_sign line ≡ false → is_heading opening_sign line ≡ true
    → opens_block (option_map (written_package pool) r.hand) (tag (letters line)) ≡ Some c → IsCause c (outside_block (tagged_of r pool universe) line)
open_ended r pool universe line c entry opening opens = cause_itself c (outside_block (tagged_of r pool universe) line) (rw (entry, opening, opens) refl)

-- packages after packages
pub more_more : (a b c : Contents) → HasMore a b → HasMore b c → HasMore a c
more_more a b c first second = record {
  added = first.added ++ second.added;
  is =
      let f : Package → Bool = λ a. false in
      let packages = append_assoc a.packages first.added second.added in
      let disabled = append_assoc a.disabled (map f first.added) (map f second.added) in
      rw (second.is, first.is, packages, disabled, map-append f first.added second.added) refl;
}
