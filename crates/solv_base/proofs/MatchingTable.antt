-- The table of matching: how stems and releases choose its line, that it is symmetric, and that it follows the order.
use Rattle.std.proofs.Common.{ℕ, ◌≡◌, List, Bool, true, false, refl, sym, ◌∙◌}
use Rattle.std.proofs.Math.Bool.{or_comm, and_comm, or-false}
use Rattle.std.proofs.lemmas.Bool.{or_left, or_right, and_from, true≢false}
use Rattle.std.proofs.lemmas.Cmp.{alike_right}
use Rattle.std.specs.declared.cmp.Ordering.{Ordering}
use Rattle.std.specs.declared.cmp.Ordering.TheVariants.{Less, Equal, Greater}
use Rattle.std.specs.Ordering.{is_eq, ordering_then, ordering_reverse}
use Rattle.std.specs.Option.{option_cmp}
use Rattle.std.specs.Prelude.{◌&&◌, ◌||◌, if◌then◌else◌, not, is_some}
use Rattle.solv_base.specs.declared.comparison.Cmp.{Cmp}
use Rattle.solv_base.specs.Tokens.{version_cmp}
use Rattle.solv_base.specs.Evr.{Parts, parts, stem_cmp, parts_cmp, evr_cmp}
use Rattle.solv_base.specs.Matching.{meets, meets_by_table, meets_by_order, lacks_release, same_side}
use Rattle.solv_base.specs.Inner.Comparisons.{allows, exactly}
use Rattle.solv_base.specs.Inner.VersionLaws.{one_lacks_release}
use Rattle.solv_base.proofs.TokenOrder.{stem_total, parts_total, evr_total}

-- the line of the table, where the stems compare as r, the provide alone lacks a release (p) or the wanted side does (q), and the parts compare as s
abbrev line : Cmp → Cmp → Ordering → Bool → Bool → Ordering → Bool
line f g r p q s = if is_eq r && p then f.equal else (if is_eq r && q then g.equal else meets_by_order f g s)

-- unequal stems decide
pub table-unequal : (f : Cmp) (a : Parts) (g : Cmp) (b : Parts) → (stem_cmp a b ≡ Equal → ⊥) → meets_by_table f a g b ≡ meets_by_order f g (stem_cmp a b)
table-unequal f a g b ne =
    let p : Bool = lacks_release a b in
    let q : Bool = lacks_release b a in
    let releases : Ordering = option_cmp version_cmp a.release b.release in
    elim (stem_cmp a b) as (λ r. (r ≡ Equal → ⊥) → line f g r p q (ordering_then r releases) ≡ meets_by_order f g r) [
      | Less ↦ λ n. refl
      | Equal ↦ λ n. absurd (n refl)
      | Greater ↦ λ n. refl
    ] ne

-- the wanted side alone lacks a release
pub table-wanted_lacks : (f : Cmp) (a : Parts) (g : Cmp) (b : Parts) → stem_cmp a b ≡ Equal → is_some a.release ≡ true → is_some b.release ≡ false → meets_by_table f a g b ≡ g.equal
table-wanted_lacks f a g b e s n = rw (e, s, n) refl

order-swap : (f g : Cmp) (s : Ordering) → meets_by_order f g s ≡ meets_by_order g f (ordering_reverse s)
order-swap f g Less = or_comm g.less f.greater
order-swap f g Equal = and_comm f.equal g.equal
order-swap f g Greater = or_comm g.greater f.less

line-swap : (f g : Cmp) (r : Ordering) (p q : Bool) (s : Ordering) → (p && q) ≡ false → line f g r p q s ≡ line g f (ordering_reverse r) q p (ordering_reverse s)
line-swap f g Less p q s h = order-swap f g s
line-swap f g Greater p q s h = order-swap f g s
line-swap f g Equal true true s h = absurd (true≢false h)
line-swap f g Equal true false s h = refl
line-swap f g Equal false true s h = refl
line-swap f g Equal false false s h = order-swap f g s

only_one : (s t : Bool) → ((not s && t) && (not t && s)) ≡ false
only_one true t = refl
only_one false true = refl
only_one false false = refl

table-swap : (f : Cmp) (a : Parts) (g : Cmp) (b : Parts) → meets_by_table f a g b ≡ meets_by_table g b f a
table-swap f a g b =
    line-swap f g (stem_cmp a b) (lacks_release a b) (lacks_release b a) (parts_cmp a b) (only_one (is_some a.release) (is_some b.release)) ∙
    (λ i. line g f (sym (stem_total.antisymm b a) i) (lacks_release b a) (lacks_release a b) (sym (parts_total.antisymm b a) i))

same_side-swap : (f g : Cmp) → same_side f g ≡ same_side g f
same_side-swap f g = λ i. and_comm f.less g.less i || and_comm f.greater g.greater i

pub meets-swap : (f : Cmp) (e : List ℕ) (g : Cmp) (w : List ℕ) → meets f e g w ≡ meets g w f e
meets-swap f e g w = λ i. same_side-swap f g i || table-swap f (parts e) g (parts w) i

line-by_order : (f g : Cmp) (r : Ordering) (p q : Bool) (s : Ordering) → (is_eq r && (p || q)) ≡ false → line f g r p q s ≡ meets_by_order f g s
line-by_order f g Less p q s h = refl
line-by_order f g Greater p q s h = refl
line-by_order f g Equal true q s h = absurd (true≢false h)
line-by_order f g Equal false true s h = absurd (true≢false h)
line-by_order f g Equal false false s h = refl

pub table-by_order : (f : Cmp) (e : List ℕ) (g : Cmp) (w : List ℕ) → one_lacks_release e w ≡ false → meets_by_table f (parts e) g (parts w) ≡ meets_by_order f g (evr_cmp e w)
table-by_order f e g w h =
    line-by_order f g (stem_cmp (parts e) (parts w)) (lacks_release (parts e) (parts w)) (lacks_release (parts w) (parts e)) (evr_cmp e w) h

exact_by_order : (g : Cmp) (s : Ordering) → meets_by_order exactly g s ≡ allows g s
exact_by_order g Less = or-false g.less
exact_by_order g Equal = refl
exact_by_order g Greater = or-false g.greater

pub meets-exact : (e : List ℕ) (g : Cmp) (w : List ℕ) → one_lacks_release e w ≡ false → meets exactly e g w ≡ allows g (evr_cmp e w)
meets-exact e g w h = table-by_order exactly e g w h ∙ exact_by_order g (evr_cmp e w)

-- x compares as r with the first EVR and as s with the second, and the first as t with the second
covers : (f g : Cmp) (r s t : Ordering) → allows f r ≡ true → allows g s ≡ true
    → (r ≡ Equal → s ≡ t) → (s ≡ Equal → ordering_reverse r ≡ t) → (r ≡ Less → s ≡ Greater → t ≡ Greater) → (r ≡ Greater → s ≡ Less → t ≡ Less)
    → (same_side f g || meets_by_order f g t) ≡ true
covers f g Less Less t h k left right above below = or_left _ _ (or_left _ _ (and_from _ _ h k))
covers f g Less Equal t h k left right above below = rw (← right refl) (or_right _ _ (or_right _ _ h))
covers f g Less Greater t h k left right above below = rw (above refl refl) (or_right _ _ (or_left _ _ k))
covers f g Equal Less t h k left right above below = rw (← left refl) (or_right _ _ (or_left _ _ k))
covers f g Equal Equal t h k left right above below = rw (← left refl) (or_right _ _ (and_from _ _ h k))
covers f g Equal Greater t h k left right above below = rw (← left refl) (or_right _ _ (or_left _ _ k))
covers f g Greater Less t h k left right above below = rw (below refl refl) (or_right _ _ (or_left _ _ k))
covers f g Greater Equal t h k left right above below = rw (← right refl) (or_right _ _ (or_right _ _ h))
covers f g Greater Greater t h k left right above below = or_left _ _ (or_right _ _ (and_from _ _ h k))

pub reversed : (x y : List ℕ) (r : Ordering) → evr_cmp x y ≡ r → evr_cmp y x ≡ ordering_reverse r
reversed x y r e = rw (← e) (evr_total.antisymm y x)

pub meets-shared : (f : Cmp) (e : List ℕ) (g : Cmp) (w x : List ℕ) → one_lacks_release e w ≡ false
    → allows f (evr_cmp x e) ≡ true → allows g (evr_cmp x w) ≡ true → meets f e g w ≡ true
meets-shared f e g w x h p q =
    rw (table-by_order f e g w h)
    (covers f g (evr_cmp x e) (evr_cmp x w) (evr_cmp e w) p q
    (λ same. evr_total.congr x e w same)
    (λ same. sym (evr_total.antisymm e x) ∙ alike_right evr_total x w e same)
    (λ low high. reversed w e Less (evr_total.trans w x e (reversed x w Greater high) low))
    (λ high low. evr_total.trans e x w (reversed x e Greater high) low))
