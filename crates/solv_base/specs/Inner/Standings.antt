-- How a provided EVR stands to a wanted one, and what meets by that.
use Rattle.std.specs.Prelude.{ℕ, ◌≡◌, ◌≤◌, ◌&&◌, ◌||◌, Bool, false, List, Option, Some, None}
use Rattle.std.specs.Ordering.{is_gt}
use Rattle.std.specs.declared.cmp.Ordering.{Ordering}
use Rattle.std.specs.declared.cmp.Ordering.TheVariants.{Less, Equal, Greater}
use Rattle.solv_base.specs.Tokens.{version_cmp}
use Rattle.solv_base.specs.Evr.{Parts, parts, stem_cmp, evr_cmp}
use Rattle.solv_base.specs.Matching.{meets, same_side}
use Rattle.solv_base.specs.declared.comparison.Cmp.{Cmp}
use Rattle.solv_base.specs.declared.version.placing.Standing.{Standing}
use Rattle.solv_base.specs.declared.version.placing.Standing.TheVariants.{Below, Bare, Earlier, Alike, Released, Above}

-- in ascending order
abbrev pub level : Standing → ℕ
level Below = 0
level Bare = 1
level Earlier = 2
level Alike = 3
level Released = 4
level Above = 5

-- epoch and version decide, where they are not equal
abbrev pub by_stems : Ordering → Standing → Standing
by_stems Less s = Below
by_stems Equal s = s
by_stems Greater s = Above

-- where they are, the releases do
abbrev pub by_order : Ordering → Standing
by_order Less = Earlier
by_order Equal = Alike
by_order Greater = Above

abbrev pub by_releases : Option (List ℕ) → Option (List ℕ) → Standing
by_releases None None = Alike
by_releases None (Some s) = Bare
by_releases (Some r) None = Released
by_releases (Some r) (Some s) = by_order (version_cmp r s)

-- how an EVR stands to a wanted one
abbrev pub standing : Parts → Parts → Standing
standing a b = by_stems (stem_cmp a b) (by_releases a.release b.release)

-- a provide with comparison f whose EVR stands so meets a wanted comparison g
abbrev pub meets_by_standing : Cmp → Cmp → Standing → Bool
meets_by_standing f g Below = same_side f g || (g.less || f.greater)
meets_by_standing f g Bare = same_side f g || f.equal
meets_by_standing f g Earlier = same_side f g || (g.less || f.greater)
meets_by_standing f g Alike = same_side f g || (f.equal && g.equal)
meets_by_standing f g Released = same_side f g || g.equal
meets_by_standing f g Above = same_side f g || (g.greater || f.less)

-- along EVRs that ascend the standing to a wanted one never falls
abbrev pub StandingRises : Type 0
StandingRises = (e x w : List ℕ) → is_gt (evr_cmp e x) ≡ false → level (standing (parts e) (parts w)) ≤ level (standing (parts x) (parts w))

-- of two EVRs their standing is all that decides whether a provide and a dependency meet
abbrev pub MeetsByStanding : Type 0
MeetsByStanding = (f : Cmp) (e : List ℕ) (g : Cmp) (w : List ℕ) → meets f e g w ≡ meets_by_standing f g (standing (parts e) (parts w))
