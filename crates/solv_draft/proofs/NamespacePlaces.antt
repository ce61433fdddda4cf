-- Packages that are added to those of a namespace, place by place.
use Rattle.std.proofs.Common.{◌≡◌, ℕ, zero, suc, ◌==◌, ◌<◌, true, List, [], ◌∷◌, ◌++◌, take, drop, length, get_or, refl, sym, ap, ◌∙◌, arith}
use Rattle.std.specs.Prelude.{slice_set}
use Rattle.solv_script.specs.Inner.Namespaces.{with_packages}
use Rattle.solv_list.proofs.Numbers.{equal_swapped}

-- what stands at a place, whatever stands in its stead where there is none
pub same_there : {X : Type 0} (xs : List X) (place : ℕ) (a b : X) → place < length xs → get_or xs place a ≡ get_or xs place b
same_there [] place a b l = absurd (omega (arith, l))
same_there (x ∷ xs) zero a b l = refl
same_there (x ∷ xs) (suc place) a b l = same_there xs place a b (omega (arith, l))

-- packages more for the one at this place, which has this name
pub found_at : (name : ℕ) (packs : List ℕ) (ns : List (ℕ × List ℕ)) (place : ℕ) (n m : ℕ × List ℕ) → place < length ns → n ≡ get_or ns place n → (n.0 == name) ≡ true → m ≡ (n.0, n.1 ++ packs)
    → slice_set ns place m ≡ take place ns ++ with_packages name packs (drop place ns)
found_at name packs [] place n m l at is e = absurd (omega (arith, l))
found_at name packs (x ∷ ns) zero n m l at is e = let turned : (name == n.0) ≡ true = equal_swapped name n.0 ∙ is in rw (sym at, turned) (ap (λ l. l ∷ ns) e)
found_at name packs (x ∷ ns) (suc place) n m l at is e = ap (λ l. x ∷ l) (found_at name packs ns place n m (omega (arith, l)) at is e)
