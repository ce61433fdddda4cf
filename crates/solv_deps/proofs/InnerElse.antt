-- The innermost rule that a parenthesis interrupts.
use Rattle.std.proofs.Common.{◌≡◌, ℕ, Bool, true, false, ◌&&◌, List, [], ◌∷◌, Some, None, slice_get, refl}
use Rattle.solv_base.specs.Dependency.{Dep}
use Rattle.solv_deps.specs.declared.outer.Rule.{Rule}
use Rattle.solv_deps.specs.declared.outer.Rule.TheVariants.{Nothing, Chain, Difference, Condition, Else, InnerElse}
use Rattle.solv_deps.specs.Inner.Reading.{inner_else}
use Rattle.solv_deps.specs.Inner.Points.{rule_hand, hands, rule_in, rules_in}

inner_alone : (at : ℕ → Dep (List ℕ)) (r : Rule) (o : List Rule) (b : Dep (List ℕ)) → inner_else (hands at (r ∷ o)) b ≡ inner_else (rule_hand at r ∷ []) b
inner_alone at Nothing o b = refl
inner_alone at (Chain j a) o b = refl
inner_alone at (Difference a) o b = refl
inner_alone at (Condition k a) o b = refl
inner_alone at (Else k a c) o b = refl
inner_alone at (InnerElse k a c) o b = refl

pub top_some : (at : ℕ → Dep (List ℕ)) (o : List Rule) (r : Rule) (b : Dep (List ℕ)) → Some r ≡ slice_get o 0 → inner_else (hands at o) b ≡ inner_else (rule_hand at r ∷ []) b
top_some at [] r b e = cc
top_some at (q ∷ o) r b e = let same : r ≡ q = cc in rw same (inner_alone at q o b)

pub top_none : (at : ℕ → Dep (List ℕ)) (o : List Rule) (b : Dep (List ℕ)) → None ≡ slice_get o 0 → inner_else (hands at o) b ≡ None
top_none at [] b e = refl
top_none at (q ∷ o) b e = cc

pub top_in : (n : ℕ) (o : List Rule) (r : Rule) (l : Bool) → Some r ≡ slice_get o 0 → (rules_in n o && l) ≡ true → (rule_in n r && l) ≡ true
top_in n [] r l e h = cc
top_in n (q ∷ o) r l e h = let same : r ≡ q = cc in rw same (front (rule_in n q) (rules_in n o) l h)
  where
    front : (a b c : Bool) → ((a && b) && c) ≡ true → (a && c) ≡ true
    front true true c h = h
    front true false c h = cc
    front false b c h = h
