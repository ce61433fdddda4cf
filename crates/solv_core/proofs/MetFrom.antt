-- The clauses of enabled owners from a place on.
use Rattle.std.proofs.Common.{◌≡◌, ◌<◌, ◌+◌, ℕ, Bool, true, false, List, ◌∷◌, Some, refl, sym, ap, ◌∙◌, drop, length}
use Rattle.std.specs.Prelude.{ℤ, slice_get, if◌then◌else◌, ◌&&◌}
use Rattle.solv_pool.specs.Prelude.{clause_true, all_true}
use Rattle.solv_trail.specs.Asked.{is_enabled, enabled_clauses}
use Rattle.solv_list.proofs.Lists.{drop_get, some_there}

module _ (set : ℕ → Bool) (enabled : List Bool) (clauses : List (List ℤ)) (owners : List ℕ) where
  -- what is said of them
  abbrev pub from : ℕ → Bool
  from i = all_true set (enabled_clauses enabled (drop i clauses) (drop i owners))

  here : (i : ℕ) (c : List ℤ) (o : ℕ) → slice_get clauses i ≡ Some c → slice_get owners i ≡ Some o
      → from i ≡ all_true set (if is_enabled enabled o then c ∷ enabled_clauses enabled (drop (i + 1) clauses) (drop (i + 1) owners) else enabled_clauses enabled (drop (i + 1) clauses) (drop (i + 1) owners))
  here i c o at of =
      ap (λ cs. all_true set (enabled_clauses enabled cs (drop i owners))) (drop_get clauses i c at)
      ∙ ap (λ os. all_true set (enabled_clauses enabled (c ∷ drop (i + 1) clauses) os)) (drop_get owners i o of)

  -- a clause that is off, or true, changes nothing
  pub off : (i o : ℕ) → i < length clauses → slice_get owners i ≡ Some o → is_enabled enabled o ≡ false → from (i + 1) ≡ from i
  off i o less of is_off =
      let s = some_there clauses i less in
      sym (here i s.0 o s.1 of ∙ ap (λ b. all_true set (if b then s.0 ∷ enabled_clauses enabled (drop (i + 1) clauses) (drop (i + 1) owners) else enabled_clauses enabled (drop (i + 1) clauses) (drop (i + 1) owners))) is_off)

  pub met : (i o : ℕ) (c : List ℤ) → slice_get clauses i ≡ Some c → slice_get owners i ≡ Some o → is_enabled enabled o ≡ true → clause_true set c ≡ true → from (i + 1) ≡ from i
  met i o c at of on true_ =
      sym (here i c o at of ∙ ap (λ b. all_true set (if b then c ∷ enabled_clauses enabled (drop (i + 1) clauses) (drop (i + 1) owners) else enabled_clauses enabled (drop (i + 1) clauses) (drop (i + 1) owners))) on ∙ ap (λ b. b && from (i + 1)) true_)

  -- one that is enabled and false decides the answer
  pub unmet : (i o : ℕ) (c : List ℤ) → slice_get clauses i ≡ Some c → slice_get owners i ≡ Some o → is_enabled enabled o ≡ true → clause_true set c ≡ false → from i ≡ false
  unmet i o c at of on false_ =
      here i c o at of ∙ ap (λ b. all_true set (if b then c ∷ enabled_clauses enabled (drop (i + 1) clauses) (drop (i + 1) owners) else enabled_clauses enabled (drop (i + 1) clauses) (drop (i + 1) owners))) on ∙ ap (λ b. b && from (i + 1)) false_
