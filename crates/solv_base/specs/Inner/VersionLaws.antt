-- What the order of EVRs and their matching keep.
use Rattle.std.specs.Prelude.{◌≡◌, ◌↔◌, ℕ, ◌&&◌, ◌||◌, Bool, true, false, List}
use Rattle.std.specs.Ordering.{is_eq}
use Rattle.std.specs.declared.cmp.Ordering.TheVariants.{Equal}
use Rattle.solv_base.specs.Inner.Comparisons.{allows, allows_some, exactly}
use Rattle.solv_base.specs.Evr.{parts, stem_cmp, evr_cmp}
use Rattle.solv_base.specs.Matching.{meets, lacks_release}
use Rattle.solv_base.specs.declared.comparison.Cmp.{Cmp}

-- each EVR compares equal with itself
abbrev pub IsReflexive : Type 0
IsReflexive = (e : List ℕ) → evr_cmp e e ≡ Equal

-- what compares equal stands in the same place on the right too; `IsTotalOrder` says so of the left
abbrev pub HasEqualsAlike : Type 0
HasEqualsAlike = (e w x : List ℕ) → evr_cmp e w ≡ Equal → evr_cmp x e ≡ evr_cmp x w

-- epoch and version are equal, and one side alone has no release: the table has lines of its own for these
abbrev pub one_lacks_release : List ℕ → List ℕ → Bool
one_lacks_release e w = is_eq (stem_cmp (parts e) (parts w)) && (lacks_release (parts e) (parts w) || lacks_release (parts w) (parts e))

-- which side provides and which is wanted makes no difference
abbrev pub MeetsBothWays : Type 0
MeetsBothWays = (f : Cmp) (e : List ℕ) (g : Cmp) (w : List ℕ) → meets f e g w ≡ meets g w f e

-- a provide `= e` meets exactly the comparisons that hold of e
abbrev pub ExactMeetsByOrder : Type 0
ExactMeetsByOrder = (e : List ℕ) (g : Cmp) (w : List ℕ) → one_lacks_release e w ≡ false → meets exactly e g w ≡ allows g (evr_cmp e w)

-- some EVR is in both ranges
abbrev pub Overlap : Cmp → List ℕ → Cmp → List ℕ → Type 0
Overlap f e g w = (x : List ℕ) × (allows f (evr_cmp x e) ≡ true) × (allows g (evr_cmp x w) ≡ true)

-- two comparisons meet exactly where some EVR is in both ranges
abbrev pub MeetsByOverlap : Type 0
MeetsByOverlap =
    (f : Cmp) (e : List ℕ) (g : Cmp) (w : List ℕ) → one_lacks_release e w ≡ false → allows_some f ≡ true → allows_some g ≡ true
    → (meets f e g w ≡ true) ↔ Overlap f e g w
