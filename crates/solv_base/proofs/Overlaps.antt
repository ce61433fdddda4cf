-- Where two comparisons meet, some EVR is in both: below or above one of the two EVRs, between them, or one of them.
use Rattle.std.proofs.Common.{ℕ, zero, suc, ◌≡◌, ◌+◌, ◌<◌, List, [], ◌∷◌, ◌++◌, Bool, true, false, length, refl, ap, sym, ◌∙◌, arith}
use Rattle.std.proofs.Math.Bool.{or_comm, and-true}
use Rattle.std.proofs.lemmas.Bool.{and_parts}
use Rattle.std.proofs.lemmas.Cmp.{tied_itself, alike_right}
use Rattle.std.specs.Ordering.{is_eq, ordering_then, ordering_reverse}
use Rattle.std.specs.Prelude.{◌&&◌, ◌||◌, Option, Some, None}
use Rattle.std.specs.declared.cmp.Ordering.{Ordering}
use Rattle.std.specs.declared.cmp.Ordering.TheVariants.{Less, Equal, Greater}
use Rattle.solv_base.specs.declared.comparison.Cmp.{Cmp}
use Rattle.solv_base.specs.Inner.Comparisons.{allows, allows_some}
use Rattle.solv_base.specs.Tokens.{tokens, version_cmp}
use Rattle.solv_base.specs.Evr.{Parts, parts, stem_cmp, parts_cmp, evr_cmp}
use Rattle.solv_base.specs.Matching.{meets, meets_by_table, meets_by_order, lacks_release, same_side}
use Rattle.solv_base.specs.Inner.VersionLaws.{one_lacks_release, Overlap}
use Rattle.solv_base.proofs.TokenOrder.{version_total, stem_total, evr_total}
use Rattle.solv_base.proofs.VersionsBetween.{tildes, higher_version, lower_version, still_lower_version}
use Rattle.solv_base.proofs.LongerTexts.{lengthened, HasNoDash, parts-append}
use Rattle.solv_base.proofs.MatchingTable.{table-by_order, reversed}
use Rattle.solv_list.proofs.Numbers.{then_equal, then_less}

tildes_plain : (n : ℕ) → HasNoDash (tildes n)
tildes_plain zero k = refl
tildes_plain (suc n) zero = refl
tildes_plain (suc n) (suc k) = tildes_plain n k

caret_plain : (n : ℕ) → HasNoDash (94 ∷ tildes n)
caret_plain n zero = refl
caret_plain n (suc k) = tildes_plain n k

abbrev made : List ℕ → List ℕ → Option (List ℕ) → Parts
made epoch version release = record { epoch = epoch; version = version; release = release }

-- a text that moves each version in one way moves the parts so
moved : (r : Ordering) (ys epoch version : List ℕ) (release : Option (List ℕ)) → ((v : List ℕ) → version_cmp (v ++ ys) v ≡ r)
    → parts_cmp (lengthened (made epoch version release) ys) (made epoch version release) ≡ r
moved r ys epoch version None moves = rw (tied_itself version_total epoch, moves version) (then_equal r)
moved r ys epoch version (Some release) moves = rw (tied_itself version_total epoch, tied_itself version_total version) (moves release)

higher : (e : List ℕ) (n : ℕ) → evr_cmp (e ++ 94 ∷ tildes n) e ≡ Greater
higher e n =
    rw (parts-append 94 refl refl e (tildes n) (caret_plain n))
    (moved Greater (94 ∷ tildes n) (parts e).epoch (parts e).version (parts e).release (λ v. higher_version v (tildes n)))

lower : (e : List ℕ) → evr_cmp (e ++ 126 ∷ []) e ≡ Less
lower e =
    rw (parts-append 126 refl refl e [] (tildes_plain 1))
    (moved Less (126 ∷ []) (parts e).epoch (parts e).version (parts e).release (λ v. lower_version v []))

-- a stem that is lower stays lower, where the versions decide alike
lower_stem : (e v v' r r' : Ordering) → (v ≡ Less → v' ≡ Less) → (is_eq (ordering_then e v) ≡ false) → ordering_then (ordering_then e v) r ≡ Less → ordering_then (ordering_then e v') r' ≡ Less
lower_stem Less v v' r r' f ne h = refl
lower_stem Equal Less v' r r' f ne h = rw (f refl) refl
lower_stem Equal Equal v' r r' f ne h = cc
lower_stem Equal Greater v' r r' f ne h = cc
lower_stem Greater v v' r r' f ne h = cc

unequal : (r : Ordering) → r ≡ Less → is_eq r ≡ false
unequal r h = rw h refl

-- how many tokens a release has
abbrev release_length : Option (List ℕ) → ℕ
release_length None = 0
release_length (Some r) = length (tokens r)

-- enough `~` after a `^` keep the parts below higher ones, unless one side alone lacks a release
still_lower_parts : (n : ℕ) (epoch version : List ℕ) (release : Option (List ℕ)) (epoch' version' : List ℕ) (release' : Option (List ℕ))
    → length (tokens version') < n → release_length release' < n
    → (let a = made epoch version release in let b = made epoch' version' release' in is_eq (stem_cmp a b) && (lacks_release a b || lacks_release b a)) ≡ false
    → parts_cmp (made epoch version release) (made epoch' version' release') ≡ Less
    → parts_cmp (lengthened (made epoch version release) (94 ∷ tildes n)) (made epoch' version' release') ≡ Less
still_lower_parts n epoch version None epoch' version' None fits fits' one low =
    let stem : Ordering = ordering_then (version_cmp epoch epoch') (version_cmp version version') in
    lower_stem (version_cmp epoch epoch') (version_cmp version version') (version_cmp (version ++ 94 ∷ tildes n) version') Equal Equal
    (still_lower_version version version' n fits) (unequal stem (sym (then_equal stem) ∙ low)) low
still_lower_parts n epoch version None epoch' version' (Some release') fits fits' one low =
    let stem : Ordering = ordering_then (version_cmp epoch epoch') (version_cmp version version') in
    lower_stem (version_cmp epoch epoch') (version_cmp version version') (version_cmp (version ++ 94 ∷ tildes n) version') Less Less
    (still_lower_version version version' n fits) (sym (and-true (is_eq stem)) ∙ one) low
still_lower_parts n epoch version (Some release) epoch' version' None fits fits' one low = low
still_lower_parts n epoch version (Some release) epoch' version' (Some release') fits fits' one low =
    then_less (ordering_then (version_cmp epoch epoch') (version_cmp version version')) (version_cmp release release') (version_cmp (release ++ 94 ∷ tildes n) release')
    (still_lower_version release release' n fits') low

between : (e w : List ℕ) (n : ℕ) → length (tokens (parts w).version) < n → release_length (parts w).release < n
    → one_lacks_release e w ≡ false → evr_cmp e w ≡ Less → evr_cmp (e ++ 94 ∷ tildes n) w ≡ Less
between e w n fits fits' one low =
    rw (parts-append 94 refl refl e (tildes n) (caret_plain n))
    (still_lower_parts n (parts e).epoch (parts e).version (parts e).release (parts w).epoch (parts w).version (parts w).release fits fits' one low)

at : (f : Cmp) (e : List ℕ) (g : Cmp) (w x : List ℕ) (r s : Ordering) → evr_cmp x e ≡ r → evr_cmp x w ≡ s → allows f r ≡ true → allows g s ≡ true → Overlap f e g w
at f e g w x r s er es p q = (x, rw er p, rw es q)

by_ordering : {P : Type 0} (r : Ordering) → (r ≡ Less → P) → (r ≡ Equal → P) → (r ≡ Greater → P) → P
by_ordering Less a b c = a refl
by_ordering Equal a b c = b refl
by_ordering Greater a b c = c refl

from_or : {P : Type 0} (x y : Bool) → (x ≡ true → P) → (y ≡ true → P) → (x || y) ≡ true → P
from_or true y a b h = a refl
from_or false y a b h = b h

same : (x : List ℕ) → evr_cmp x x ≡ Equal
same x = tied_itself evr_total x

below_both : (f : Cmp) (e : List ℕ) (g : Cmp) (w : List ℕ) → f.less ≡ true → g.less ≡ true → Overlap f e g w
below_both f e g w p q =
    let x : List ℕ = e ++ 126 ∷ [] in
    let y : List ℕ = w ++ 126 ∷ [] in
    by_ordering (evr_cmp e w)
    (λ h. at f e g w x Less Less (lower e) (evr_total.trans x e w (lower e) h) p q)
    (λ h. at f e g w x Less Less (lower e) (sym (alike_right evr_total e w x h) ∙ lower e) p q)
    (λ h. at f e g w y Less Less (evr_total.trans y w e (lower w) (reversed e w Greater h)) (lower w) p q)

above_both : (f : Cmp) (e : List ℕ) (g : Cmp) (w : List ℕ) → f.greater ≡ true → g.greater ≡ true → Overlap f e g w
above_both f e g w p q =
    let x : List ℕ = e ++ 94 ∷ [] in
    let y : List ℕ = w ++ 94 ∷ [] in
    by_ordering (evr_cmp e w)
    (λ h. at f e g w y Greater Greater (reversed e y Less (evr_total.trans e w y h (reversed y w Greater (higher w 0)))) (higher w 0) p q)
    (λ h. at f e g w x Greater Greater (higher e 0) (sym (alike_right evr_total e w x h) ∙ higher e 0) p q)
    (λ h. at f e g w x Greater Greater (higher e 0) (reversed w x Less (evr_total.trans w e x (reversed e w Greater h) (reversed x e Greater (higher e 0)))) p q)

-- the first EVR is below the second
ascending : (f : Cmp) (e : List ℕ) (g : Cmp) (w : List ℕ) → one_lacks_release e w ≡ false → allows_some f ≡ true → allows_some g ≡ true
    → evr_cmp e w ≡ Less → (g.less || f.greater) ≡ true → Overlap f e g w
ascending f e g w one some_f some_g low =
    let n : ℕ = suc (length (tokens (parts w).version) + release_length (parts w).release) in
    let middle : f.greater ≡ true → g.less ≡ true → Overlap f e g w =
    λ p q. at f e g w (e ++ 94 ∷ tildes n) Greater Less (higher e n) (between e w n (omega arith) (omega arith) one low) p q in
    from_or g.less f.greater
    (λ q. from_or f.less (f.equal || f.greater) (λ p. below_both f e g w p q)
    (from_or f.equal f.greater (λ p. at f e g w e Equal Less (same e) low p q) (λ p. middle p q)) some_f)
    (λ p. from_or g.less (g.equal || g.greater) (λ q. middle p q)
    (from_or g.equal g.greater (λ q. at f e g w w Greater Equal (reversed e w Less low) (same w) p q) (λ q. above_both f e g w p q)) some_g)

is_eq-reverse : (r : Ordering) → is_eq (ordering_reverse r) ≡ is_eq r
is_eq-reverse Less = refl
is_eq-reverse Equal = refl
is_eq-reverse Greater = refl

one_lacks-swap : (e w : List ℕ) → one_lacks_release e w ≡ one_lacks_release w e
one_lacks-swap e w =
    let a : Parts = parts e in
    let b : Parts = parts w in
    let stems : is_eq (stem_cmp a b) ≡ is_eq (stem_cmp b a) = ap is_eq (stem_total.antisymm a b) ∙ is_eq-reverse (stem_cmp b a) in
    λ i. stems i && or_comm (lacks_release a b) (lacks_release b a) i

turned : (f : Cmp) (e : List ℕ) (g : Cmp) (w : List ℕ) → Overlap g w f e → Overlap f e g w
turned f e g w o = (o.0, o.2, o.1)

ordered : (f : Cmp) (e : List ℕ) (g : Cmp) (w : List ℕ) → one_lacks_release e w ≡ false → allows_some f ≡ true → allows_some g ≡ true
    → (r : Ordering) → evr_cmp e w ≡ r → meets_by_order f g r ≡ true → Overlap f e g w
ordered f e g w one some_f some_g Less h m = ascending f e g w one some_f some_g h m
ordered f e g w one some_f some_g Equal h m = at f e g w e Equal Equal (same e) h (and_parts _ _ m).0 (and_parts _ _ m).1
ordered f e g w one some_f some_g Greater h m =
    turned f e g w (ascending g w f e (sym (one_lacks-swap e w) ∙ one) some_g some_f (reversed e w Greater h) (or_comm f.less g.greater ∙ m))

pub meets-overlaps : (f : Cmp) (e : List ℕ) (g : Cmp) (w : List ℕ) → one_lacks_release e w ≡ false → allows_some f ≡ true → allows_some g ≡ true
    → meets f e g w ≡ true → Overlap f e g w
meets-overlaps f e g w one some_f some_g m =
    from_or (same_side f g) (meets_by_table f (parts e) g (parts w))
    (from_or (f.less && g.less) (f.greater && g.greater)
    (λ h. below_both f e g w (and_parts _ _ h).0 (and_parts _ _ h).1)
    (λ h. above_both f e g w (and_parts _ _ h).0 (and_parts _ _ h).1))
    (λ h. ordered f e g w one some_f some_g (evr_cmp e w) refl (sym (table-by_order f e g w one) ∙ h))
    m
