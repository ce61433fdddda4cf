-- Tables of names and turns.
use Rattle.std.proofs.Common.{◌≡◌, ℕ, suc, ◌+◌, ◌-◌, ◌<◌, Bool, true, false, ◌&&◌, ◌||◌, List, [], ◌∷◌, ◌++◌, length, inl, inr, refl, sym, ap, ◌∙◌, arith, eqb, Some}
use Rattle.std.specs.Prelude.{slice_set}
use Rattle.std.specs.List.{list_any, range_with_len}
use Rattle.std.proofs.Math.ListN.{get_or-append}
use Rattle.std.proofs.Math.Seq.{get_or-append_seam}
use Rattle.std.proofs.lemmas.Bool.Decides.{eqb_tells}
use Rattle.std.proofs.lemmas.List.{get_or-set_same, get_or-set_other}
use Rattle.solv_pool.specs.Prelude.{passes, Catalog, package_at, packages}
use Rattle.solv_pool.specs.declared.packages.Package.{Package}
use Rattle.solv_graph.specs.Inner.Orders.{turn_at}
use Rattle.solv_graph.specs.declared.orders.Turn.{Turn}
use Rattle.solv_graph.specs.declared.orders.Turn.TheVariants.{Never}
use Rattle.solv_trans.specs.Moving.{comes}
use Rattle.solv_trans.specs.Inner.Joining.{is_marked, comes_named}
use Rattle.solv_list.proofs.Booleans.{or_assoc, or_false}

or_true : (a : Bool) → true ≡ (a || true)
or_true true = refl
or_true false = refl

module _ (catalog : Catalog) (set : ℕ → Bool) where
  pub name_marked : (names : List Bool) (p : ℕ) (a : Package) → comes catalog set p ≡ true → package_at catalog p ≡ Some a → a.name < length names → (n : ℕ)
      → is_marked (slice_set names a.name true) n ≡ (is_marked names n || comes_named catalog set n p)
  name_marked names p a c at lt n =
      let named : comes_named catalog set n p ≡ eqb n a.name = ap (λ b. b && passes (package_at catalog p) (λ x. eqb n x.name)) c ∙ ap (λ o. passes o (λ (x : Package). eqb n x.name)) at in
      elim (eqb_tells n a.name) [
        | inl e ↦
            ap (is_marked (slice_set names a.name true)) e.1 ∙ get_or-set_same names a.name true false lt ∙ or_true (is_marked names n) ∙ ap (λ b. is_marked names n || b) (sym (named ∙ e.0))
        | inr m ↦ get_or-set_other names a.name n true false m.1 ∙ sym (or_false (is_marked names n)) ∙ ap (λ b. is_marked names n || b) (sym (named ∙ m.0))
      ]

  -- one package more
  pub marked_more : (names names' : List Bool) (k : ℕ) → k < length catalog.universe.packages → ((n : ℕ) → is_marked names' n ≡ (is_marked names n || comes_named catalog set n (k + 1)))
      → ((n : ℕ) → (is_marked names n || list_any (comes_named catalog set n) (range_with_len (k + 1) (length catalog.universe.packages - k))) ≡ list_any (comes_named catalog set n) (packages catalog))
      → (n : ℕ) → (is_marked names' n || list_any (comes_named catalog set n) (range_with_len (k + 1 + 1) (length catalog.universe.packages - (k + 1)))) ≡ list_any (comes_named catalog set n) (packages catalog)
  marked_more names names' k lt now left n =
      let more : length catalog.universe.packages - k ≡ suc (length catalog.universe.packages - (k + 1)) = omega arith in
      ap (λ b. b || list_any (comes_named catalog set n) (range_with_len (k + 1 + 1) (length catalog.universe.packages - (k + 1)))) (now n)
      ∙ or_assoc (is_marked names n) (comes_named catalog set n (k + 1)) (list_any (comes_named catalog set n) (range_with_len (k + 1 + 1) (length catalog.universe.packages - (k + 1))))
      ∙ ap (λ m. is_marked names n || list_any (comes_named catalog set n) (range_with_len (k + 1) m)) (sym more) ∙ left n

-- one turn more
pub turns_more : (turns : List Turn) (t : Turn) (f : ℕ → Turn) (k : ℕ) → length turns ≡ k → t ≡ f k → ((p : ℕ) → p < k → turn_at turns p ≡ f p) → (p : ℕ) → p < k + 1 → turn_at (turns ++ t ∷ []) p ≡ f p
turns_more turns t f k size is each p lt = elim (eqb_tells p (length turns)) [
  | inl e ↦ ap (turn_at (turns ++ t ∷ [])) e.1 ∙ get_or-append_seam turns t [] Never ∙ is ∙ ap f (sym (e.1 ∙ size))
  | inr n ↦ let ne = n.1 in let b : p < length turns = omega (arith, lt, size) in get_or-append turns (t ∷ []) Never p b ∙ each p (omega (arith, b, size))
]
