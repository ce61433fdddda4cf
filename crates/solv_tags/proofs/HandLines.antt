-- The lines of the package in hand.
use Rattle.std.proofs.Common.{◌≡◌, ℕ, ◌<◌, true, List, [], ◌∷◌, length, Some, Result, Ok, Err, refl, sym, ap, ◌∙◌}
use Rattle.std.specs.Prelude.{nat_lt}
use Rattle.std.specs.Str.{bytes_eq}
use Rattle.solv_base.specs.Dependency.{Dep}
use Rattle.solv_base.specs.Pool.{Held, Grows, text_at, text_tree}
use Rattle.solv_pool.specs.Prelude.{WrittenPackage, written_package}
use Rattle.solv_pool.specs.declared.packages.Package.{Package}
use Rattle.solv_tags.specs.Inner.Tags.{with_path, with_entry}
use Rattle.solv_deps.specs.Inner.Entering.{IsRefusal, text_read}
use Rattle.solv_deps.specs.Entering.{Entered, text_entered, dependency_entered}
use Rattle.solv_tags.specs.Inner.Tags.{place_of}
use Rattle.solv_deps.specs.Reading.{and_then, dependency}
use Rattle.solv_tags.specs.Inner.TagReading.{IsOf, IsCause, HasRead, HasEnded, with_id, with_entry_id}
use Rattle.solv_tags.specs.Testtags.{Tagged, cause_of, or_cause}
use Rattle.solv_tags.specs.Inner.Lines.{vendor_entry, path_entry, dependency_entry, entry_of}
use Rattle.solv_deps.specs.declared.fault.DepFault.{DepFault}
use Rattle.solv_deps.specs.declared.fault.DepFault.TheVariants.{BadOperator, MissingOperand, MixedOperators, UnclosedParenthesis, TooDeep, OperatorNotHere, FullNames, FullRelations, Memory}
use Rattle.solv_tags.specs.declared.tag.Tag.{Tag}
use Rattle.solv_tags.specs.declared.tag.Tag.TheVariants.{Pkg, Prv, Req, Prq, Con, Obs, Rec, Sug, Sup, Enh, Vnd, Fls}
use Rattle.solv_tags.specs.declared.tag_fault.TagCause.{TagCause}
use Rattle.solv_tags.proofs.Staying.{of_grown, package_stays, with_id_at, with_id_all, entry_at, entry_of_pool}
use Rattle.solv_list.proofs.Lists.{bytes_themselves, same_bytes}
use Rattle.std.proofs.lemmas.Bool.{and_from}

pub refused_cause : {A B : Type 0} (e : DepFault) (r : Result A DepFault) (next : A → Result B TagCause) → IsRefusal e r → IsCause (cause_of e) (or_cause r next)
refused_cause BadOperator r next h = rw h refl
refused_cause MissingOperand r next h = rw h refl
refused_cause MixedOperators r next h = rw h refl
refused_cause UnclosedParenthesis r next h = rw h refl
refused_cause TooDeep r next h = rw h refl
refused_cause OperatorNotHere r next h = rw h refl
refused_cause FullNames r next h = rw h refl
refused_cause FullRelations r next h = rw h refl
refused_cause Memory r next h = tt

refused_then : {A B C : Type 0} (e : DepFault) (r : Result A DepFault) (f : A → Result B DepFault) (next : A → B → Result C TagCause) → IsRefusal e (and_then r f)
    → IsCause (cause_of e) (or_cause r (λ x. or_cause (f x) (next x)))
refused_then e (Ok x) f next h = refused_cause e (f x) (next x) h
refused_then {A} {B} {C} e (Err d) f next h = refused_cause {A = B} {B = C} e (Err d) (λ y. Err (cause_of d)) h

pub dependency_ended : (e : DepFault) (old : Held) (a : Package) (t : Tag) (text : List ℕ) → IsRefusal e (text_read (place_of t) text old)
    → HasEnded old a (λ s b. dependency_entry s b t text) (cause_of e)
dependency_ended e old a t text h = λ s held.
    rw held (refused_then e (dependency (place_of t) text) (λ d. dependency_entered d old)
    (λ d e. Ok (record s { held = e.held; hand = Some (with_entry t d (written_package old a)) })) h)

-- two answers are one
abbrev same_answer : Result Tagged TagCause → Result Tagged TagCause → Type 0
same_answer r t = r ≡ t

-- nothing said
nothing_read : (s : Tagged) (old : Held) (w : WrittenPackage) → s.held ≡ old → s.hand ≡ Some w → same_answer (Ok s) (Ok (record s { held = old; hand = Some w }))
nothing_read s old w h k = rw (← h, ← k) refl

pub vendor_nothing : (old : Held) (a : Package) (text : List ℕ) → length text ≡ 0 → IsOf old a → HasRead old old a a (λ s b. vendor_entry s b text)
vendor_nothing old a [] e of = record { is = λ s h k. nothing_read s old (written_package old a) h k; of = of; repo = refl }
vendor_nothing old a (x ∷ xs) e of = absurd (cc)

pub path_nothing : (old : Held) (a : Package) (text : List ℕ) → length text ≡ 0 → IsOf old a → HasRead old old a a (λ s b. path_entry s b text)
path_nothing old a [] e of = record { is = λ s h k. nothing_read s old (written_package old a) h k; of = of; repo = refl }
path_nothing old a (x ∷ xs) e of = absurd (cc)

pub vendor_read : (old new : Held) (a : Package) (text : List ℕ) (id : ℕ) → (length text ≡ 0 → ⊥) → Grows old new → IsOf old a
    → text_entered text old ≡ Ok (record { id = id; held = new }) → text_at new id ≡ text → nat_lt id (length new.names) ≡ true
    → HasRead old new a (record a { vendor = Some id }) (λ s b. vendor_entry s b text)
vendor_read old new a [] id some grows of entered text_is within = absurd (some refl)
vendor_read old new a (x ∷ xs) id some grows of entered text_is within = record {
  is = λ s h k.
      let stays = package_stays old new grows a of in
      let same : record (written_package old a) { vendor = Some (x ∷ xs) } ≡ written_package new (record a { vendor = Some id })
      = sym (ap (λ (w : WrittenPackage). record w { vendor = Some (text_at new id) }) stays ∙ ap (λ (t : List ℕ). record (written_package old a) { vendor = Some t }) text_is) in
      rw (h, entered) (ap (λ (w : WrittenPackage). Ok (record s { held = new; hand = Some w })) same);
  of = let more = of_grown old new a grows of in record { name = more.name; evr = more.evr; arch = more.arch; vendor = and_from (nat_lt id (length new.names)) true within refl; provides = more.provides; requires_ = more.requires_; conflicts = more.conflicts; obsoletes = more.obsoletes; recommends = more.recommends; suggests = more.suggests; supplements = more.supplements; enhances = more.enhances; files = more.files };
  repo = refl;
}

pub path_read : (old new : Held) (a : Package) (text : List ℕ) (id : ℕ) → (length text ≡ 0 → ⊥) → Grows old new → IsOf old a
    → text_entered text old ≡ Ok (record { id = id; held = new }) → text_at new id ≡ text → id < length new.names → nat_lt id (length new.names) ≡ true
    → ((m n : ℕ) → m < length new.names → n < length new.names → text_at new m ≡ text_at new n → m ≡ n)
    → HasRead old new a (record a { files = with_id id a.files }) (λ s b. path_entry s b text)
path_read old new a [] id some grows of entered text_is within low apart = absurd (some refl)
path_read old new a (x ∷ xs) id some grows of entered text_is within low apart =
    let more = of_grown old new a grows of in
    record {
      is = λ s h k.
          let stays = package_stays old new grows a of in
          let files = with_id_at bytes_eq same_bytes bytes_themselves (text_at new) (length new.names) apart id a.files within more.files in
          let same : record (written_package old a) { files = with_path (x ∷ xs) (written_package old a).files } ≡ written_package new (record a { files = with_id id a.files })
          = sym (ap (λ (l : List (List ℕ)). record (written_package new a) { files = l }) (sym files)
          ∙ ap (λ (w : WrittenPackage). record w { files = with_path (text_at new id) w.files }) stays
          ∙ ap (λ (t : List ℕ). record (written_package old a) { files = with_path t (written_package old a).files }) text_is) in
          rw (h, entered) (ap (λ (w : WrittenPackage). Ok (record s { held = new; hand = Some w })) same);
      of = record { name = more.name; evr = more.evr; arch = more.arch; vendor = more.vendor; provides = more.provides; requires_ = more.requires_; conflicts = more.conflicts; obsoletes = more.obsoletes; recommends = more.recommends; suggests = more.suggests; supplements = more.supplements; enhances = more.enhances; files = with_id_all (λ n. nat_lt n (length new.names)) id a.files low more.files };
      repo = refl;
    }

-- a text that is read and entered
read_then : {C : Type 0} (r : Result (Dep (List ℕ)) DepFault) (d : Dep (List ℕ)) (f : Dep (List ℕ) → Result Entered DepFault) (e : Entered) (next : Dep (List ℕ) → Entered → Result C TagCause)
    → r ≡ Ok d → and_then r f ≡ Ok e → or_cause r (λ x. or_cause (f x) (next x)) ≡ next d e
read_then r d f e next h k =
    let l : f d ≡ Ok e = sym (ap (λ q. and_then q f) h) ∙ k in
    rw (h, l) refl

entry_repo : (t : Tag) (d : ℕ) (a : Package) → (with_entry_id t d a).repo ≡ a.repo
entry_repo Pkg d a = refl
entry_repo Prv d a = refl
entry_repo Req d a = refl
entry_repo Prq d a = refl
entry_repo Con d a = refl
entry_repo Obs d a = refl
entry_repo Rec d a = refl
entry_repo Sug d a = refl
entry_repo Sup d a = refl
entry_repo Enh d a = refl
entry_repo Vnd d a = refl
entry_repo Fls d a = refl

pub dependency_taken : (old new : Held) (a : Package) (t : Tag) (text : List ℕ) (id : ℕ) → Grows old new → IsOf old a
    → dependency (place_of t) text ≡ Ok (text_tree new id) → text_read (place_of t) text old ≡ Ok (record { id = id; held = new }) → nat_lt id (length new.nodes) ≡ true
    → ((m n : ℕ) → m < length new.nodes → n < length new.nodes → text_tree new m ≡ text_tree new n → m ≡ n)
    → HasRead old new a (with_entry_id t id a) (λ s b. dependency_entry s b t text)
dependency_taken old new a t text id grows of read entered small apart =
    let more = of_grown old new a grows of in
    record {
      is = λ s h k.
          let stays = package_stays old new grows a of in
          let same : with_entry t (text_tree new id) (written_package old a) ≡ written_package new (with_entry_id t id a)
          = sym (ap (with_entry t (text_tree new id)) stays) ∙ entry_at new id small apart t a more in
          rw h (read_then (dependency (place_of t) text) (text_tree new id) (λ d. dependency_entered d old) (record { id = id; held = new })
          (λ d e. Ok (record s { held = e.held; hand = Some (with_entry t d (written_package old a)) })) read entered
          ∙ ap (λ (w : WrittenPackage). Ok (record s { held = new; hand = Some w })) same);
      of = entry_of_pool new id small apart t a more;
      repo = entry_repo t id a;
    }

-- the entry of any other tag is a dependency
pub other_read : (t : Tag) → (t ≡ Vnd → ⊥) → (t ≡ Fls → ⊥) → (o n : Held) (a b : Package) (text : List ℕ) → HasRead o n a b (λ s w. dependency_entry s w t text) → HasRead o n a b (λ s w. entry_of s w t text)
other_read Pkg v f o n a b text h = h
other_read Prv v f o n a b text h = h
other_read Req v f o n a b text h = h
other_read Prq v f o n a b text h = h
other_read Con v f o n a b text h = h
other_read Obs v f o n a b text h = h
other_read Rec v f o n a b text h = h
other_read Sug v f o n a b text h = h
other_read Sup v f o n a b text h = h
other_read Enh v f o n a b text h = h
other_read Vnd v f o n a b text h = absurd (v refl)
other_read Fls v f o n a b text h = absurd (f refl)

pub other_ended : (t : Tag) → (t ≡ Vnd → ⊥) → (t ≡ Fls → ⊥) → (o : Held) (a : Package) (text : List ℕ) (c : TagCause) → HasEnded o a (λ s w. dependency_entry s w t text) c → HasEnded o a (λ s w. entry_of s w t text) c
other_ended Pkg v f o a text c h = h
other_ended Prv v f o a text c h = h
other_ended Req v f o a text c h = h
other_ended Prq v f o a text c h = h
other_ended Con v f o a text c h = h
other_ended Obs v f o a text c h = h
other_ended Rec v f o a text c h = h
other_ended Sug v f o a text c h = h
other_ended Sup v f o a text c h = h
other_ended Enh v f o a text c h = h
other_ended Vnd v f o a text c h = absurd (v refl)
other_ended Fls v f o a text c h = absurd (f refl)
