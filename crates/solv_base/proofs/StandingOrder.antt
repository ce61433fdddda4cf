-- The standing to a wanted EVR rises with the order, and decides what meets.
use Rattle.std.proofs.Common.{ℕ, ◌≡◌, ◌≤◌, List, Bool, true, false, refl, sym, ◌∙◌, arith}
use Rattle.std.proofs.lemmas.Bool.{true≢false}
use Rattle.std.proofs.lemmas.Cmp.{alike_right}
use Rattle.std.specs.Cmp.{IsTotalOrder}
use Rattle.std.specs.declared.cmp.Ordering.{Ordering}
use Rattle.std.specs.declared.cmp.Ordering.TheVariants.{Less, Equal, Greater}
use Rattle.std.specs.Ordering.{is_eq, is_gt, ordering_then}
use Rattle.std.specs.Option.{option_cmp}
use Rattle.std.specs.Prelude.{◌&&◌, ◌||◌, if◌then◌else◌, not, is_some, Option, Some, None}
use Rattle.solv_base.specs.declared.comparison.Cmp.{Cmp}
use Rattle.solv_base.specs.declared.version.placing.Standing.{Standing}
use Rattle.solv_base.specs.declared.version.placing.Standing.TheVariants.{Below, Bare, Earlier, Alike, Released, Above}
use Rattle.solv_base.specs.Tokens.{version_cmp}
use Rattle.solv_base.specs.Evr.{Parts, parts, stem_cmp, parts_cmp, evr_cmp}
use Rattle.solv_base.specs.Matching.{meets, meets_by_order, same_side}
use Rattle.solv_base.specs.Inner.Standings.{level, by_stems, by_order, by_releases, standing, meets_by_standing}
use Rattle.solv_base.proofs.TokenOrder.{version_total, stem_total}

highest : (s : Standing) → level s ≤ 5
highest Below = omega arith
highest Bare = omega arith
highest Earlier = omega arith
highest Alike = omega arith
highest Released = omega arith
highest Above = omega arith

-- of two releases the one that is no higher stands no higher
release_rises : (r s t : List ℕ) → is_gt (version_cmp r s) ≡ false → level (by_order (version_cmp r t)) ≤ level (by_order (version_cmp s t))
release_rises r s t h = by (version_cmp r s) refl h
  where
    low : (p : Ordering) → version_cmp r t ≡ Less → level (by_order (version_cmp r t)) ≤ level (by_order p)
    low Less e = rw e (omega arith)
    low Equal e = rw e (omega arith)
    low Greater e = rw e (omega arith)

    less : (p : Ordering) → version_cmp s t ≡ p → version_cmp r s ≡ Less → level (by_order (version_cmp r t)) ≤ level (by_order p)
    less Less e lower = low Less (version_total.trans r s t lower e)
    less Equal e lower = low Equal (sym (alike_right version_total s t r e) ∙ lower)
    less Greater e lower = highest (by_order (version_cmp r t))

    by : (p : Ordering) → version_cmp r s ≡ p → is_gt p ≡ false → level (by_order (version_cmp r t)) ≤ level (by_order (version_cmp s t))
    by Less e h = less (version_cmp s t) refl e
    by Equal e h = rw (version_total.congr r s t e) (omega arith)
    by Greater e h = absurd (true≢false h)

at_least : (p : Ordering) → 2 ≤ level (by_order p)
at_least Less = omega arith
at_least Equal = omega arith
at_least Greater = omega arith

releases_rise : (r s t : Option (List ℕ)) → is_gt (option_cmp version_cmp r s) ≡ false → level (by_releases r t) ≤ level (by_releases s t)
releases_rise None None t h = omega arith
releases_rise None (Some s) None h = omega arith
releases_rise None (Some s) (Some t) h = let low = at_least (version_cmp s t) in omega (arith, low)
releases_rise (Some r) None t h = absurd (true≢false h)
releases_rise (Some r) (Some s) None h = omega arith
releases_rise (Some r) (Some s) (Some t) h = release_rises r s t h

parts_rise : (a b c : Parts) → is_gt (parts_cmp a b) ≡ false → level (standing a c) ≤ level (standing b c)
parts_rise a b c h = by (stem_cmp a b) refl h
  where
    low : (s : Standing) → stem_cmp a c ≡ Less → level (standing a c) ≤ level s
    low s e = rw e (omega arith)

    less : (p : Ordering) → stem_cmp b c ≡ p → stem_cmp a b ≡ Less → level (standing a c) ≤ level (by_stems p (by_releases b.release c.release))
    less Less e lower = low Below (stem_total.trans a b c lower e)
    less Equal e lower = low (by_releases b.release c.release) (sym (alike_right stem_total b c a e) ∙ lower)
    less Greater e lower = highest (standing a c)

    same : (p : Ordering) → level (by_releases a.release c.release) ≤ level (by_releases b.release c.release) → level (by_stems p (by_releases a.release c.release)) ≤ level (by_stems p (by_releases b.release c.release))
    same Less h = omega arith
    same Equal h = h
    same Greater h = omega arith

    by : (p : Ordering) → stem_cmp a b ≡ p → is_gt (ordering_then p (option_cmp version_cmp a.release b.release)) ≡ false → level (standing a c) ≤ level (standing b c)
    by Less e h = less (stem_cmp b c) refl e
    by Equal e h = rw (stem_total.congr a b c e) (same (stem_cmp b c) (releases_rise a.release b.release c.release h))
    by Greater e h = absurd (true≢false h)

pub standing_rises : (e x w : List ℕ) → is_gt (evr_cmp e x) ≡ false → level (standing (parts e) (parts w)) ≤ level (standing (parts x) (parts w))
standing_rises e x w h = parts_rise (parts e) (parts x) (parts w) h

-- how the stems compare, and the two releases
abbrev line : Cmp → Cmp → Ordering → Option (List ℕ) → Option (List ℕ) → Bool
line f g r p q =
    same_side f g || (if is_eq r && (not (is_some p) && is_some q) then f.equal
    else (if is_eq r && (not (is_some q) && is_some p) then g.equal
    else meets_by_order f g (ordering_then r (option_cmp version_cmp p q))))

by_both : (f g : Cmp) (o : Ordering) → (same_side f g || meets_by_order f g o) ≡ meets_by_standing f g (by_order o)
by_both f g Less = refl
by_both f g Equal = refl
by_both f g Greater = refl

line_is : (f g : Cmp) (r : Ordering) (p q : Option (List ℕ)) → line f g r p q ≡ meets_by_standing f g (by_stems r (by_releases p q))
line_is f g Less p q = refl
line_is f g Greater p q = refl
line_is f g Equal None None = refl
line_is f g Equal None (Some q) = refl
line_is f g Equal (Some p) None = refl
line_is f g Equal (Some p) (Some q) = by_both f g (version_cmp p q)

pub meets_stands : (f : Cmp) (e : List ℕ) (g : Cmp) (w : List ℕ) → meets f e g w ≡ meets_by_standing f g (standing (parts e) (parts w))
meets_stands f e g w = line_is f g (stem_cmp (parts e) (parts w)) (parts e).release (parts w).release
