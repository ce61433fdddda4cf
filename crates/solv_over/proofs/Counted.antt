-- One turn of a table of all packages.
use Rattle.std.proofs.Common.{◌≡◌, ◌<◌, ◌+◌, ◌-◌, ℕ, suc, List, [], ◌∷◌, ◌++◌, map, refl, sym, ◌∙◌, ap, arith}
use Rattle.std.specs.List.{range_with_len}

append_more : {X : Type 0} (xs : List X) (x : X) (ys : List X) → (xs ++ x ∷ []) ++ ys ≡ xs ++ x ∷ ys
append_more [] x ys = refl
append_more (z ∷ xs) x ys = ap (λ l. z ∷ l) (append_more xs x ys)

-- a table of a range has one entry more
pub entry_more : (u : ℕ → ℕ) (done whole next : List ℕ) (entry before end : ℕ) → before < end → next ≡ done ++ entry ∷ [] → entry ≡ u (before + 1) → done ++ map u (range_with_len (before + 1) (end - before)) ≡ whole
    → next ++ map u (range_with_len (before + 1 + 1) (end - (before + 1))) ≡ whole
entry_more u done whole next entry before end lt put is was =
    let more : end - before ≡ suc (end - (before + 1)) = omega (arith, lt) in
    ap (λ l. l ++ map u (range_with_len (before + 1 + 1) (end - (before + 1)))) put
    ∙ append_more done entry (map u (range_with_len (before + 1 + 1) (end - (before + 1))))
    ∙ ap (λ n. done ++ n ∷ map u (range_with_len (before + 1 + 1) (end - (before + 1)))) is
    ∙ ap (λ n. done ++ map u (range_with_len (before + 1) n)) (sym more)
    ∙ was
