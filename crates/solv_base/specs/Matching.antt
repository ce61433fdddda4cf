-- Which provided versions meet which wanted ones.
use Rattle.std.specs.Prelude.{ℕ, ◌&&◌, ◌||◌, Bool, List, not, is_some, if◌then◌else◌}
use Rattle.std.specs.Ordering.{is_eq}
use Rattle.std.specs.declared.cmp.Ordering.{Ordering}
use Rattle.std.specs.declared.cmp.Ordering.TheVariants.{Less, Equal, Greater}
use Rattle.solv_base.specs.Evr.{Parts, parts, stem_cmp, parts_cmp}
use Rattle.solv_base.specs.declared.comparison.Cmp.{Cmp}

-- a provide with comparison f against a wanted g, where the provided EVR is below, equal to or above the wanted one
abbrev pub meets_by_order : Cmp → Cmp → Ordering → Bool
meets_by_order f g Less = g.less || f.greater
meets_by_order f g Equal = f.equal && g.equal
meets_by_order f g Greater = g.greater || f.less

-- the first has no release, and the second has one
abbrev pub lacks_release : Parts → Parts → Bool
lacks_release a b = not (is_some a.release) && is_some b.release

-- where epoch and version are equal, a release that only one side has decides before the order does
abbrev pub meets_by_table : Cmp → Parts → Cmp → Parts → Bool
meets_by_table f a g b =
    if is_eq (stem_cmp a b) && lacks_release a b then f.equal
    else (if is_eq (stem_cmp a b) && lacks_release b a then g.equal
    else meets_by_order f g (parts_cmp a b))

-- both have less, or both have greater
abbrev pub same_side : Cmp → Cmp → Bool
same_side f g = (f.less && g.less) || (f.greater && g.greater)

-- a provide with comparison f and EVR e meets a wanted comparison g and EVR w
abbrev pub meets : Cmp → List ℕ → Cmp → List ℕ → Bool
meets f e g w = same_side f g || meets_by_table f (parts e) g (parts w)
