-- What a set changes depends on the packages in it alone.
use Rattle.std.proofs.Common.{◌≡◌, ◌<◌, ◌≤◌, ◌+◌, ℕ, zero, suc, Bool, not, ◌&&◌, List, [], ◌∷◌, ◌++◌, map, length, refl, ap, ◌∙◌, arith}
use Rattle.std.specs.Prelude.{filter, find}
use Rattle.std.specs.List.{range_with_len}
use Rattle.std.specs.Option.{option_map_or}
use Rattle.solv_pool.specs.Prelude.{Catalog, packages, is_installed, same_name, is_pack}
use Rattle.solv_pool.specs.Providing.{obsoletes}
use Rattle.solv_trans.specs.declared.kinds.Change.{Change}
use Rattle.solv_trans.specs.declared.kinds.Change.TheVariants.{Install, Erase, Obsolete}
use Rattle.solv_trans.specs.Inner.Order.{greatest}
use Rattle.solv_trans.specs.Changes.{partner, obsoleter, line_of, lines_of_leaving, changes}
use Rattle.solv_trans.specs.Inner.Changes.{change_to, leaves, is_installed_anew}
use Rattle.solv_trans.specs.Moving.{comes}
use Rattle.solv_trans.specs.Effects.{is_brought}

pub filter_range : (s t : ℕ → Bool) (start count end : ℕ) → start + count ≤ end → 0 < start → ((p : ℕ) → 0 < p → p < end → s p ≡ t p) → filter s (range_with_len start count) ≡ filter t (range_with_len start count)
filter_range s t start zero end within some h = refl
filter_range s t start (suc count) end within some h = rw (h start some (omega arith), filter_range s t (start + 1) count end (omega (arith, within)) (omega arith) h) refl

find_range : (s t : ℕ → Bool) (start count end : ℕ) → start + count ≤ end → 0 < start → ((p : ℕ) → 0 < p → p < end → s p ≡ t p) → find s (range_with_len start count) ≡ find t (range_with_len start count)
find_range s t start zero end within some h = refl
find_range s t start (suc count) end within some h = rw (h start some (omega arith), find_range s t (start + 1) count end (omega (arith, within)) (omega arith) h) refl

map_same : {X : Type 0} (s t : ℕ → X) → ((p : ℕ) → s p ≡ t p) → (xs : List ℕ) → map s xs ≡ map t xs
map_same s t h [] = refl
map_same s t h (x ∷ xs) = rw (h x, map_same s t h xs) refl

module _ (catalog : Catalog) (f g : ℕ → Bool) (same : (p : ℕ) → 0 < p → p < length catalog.universe.packages + 1 → f p ≡ g p) where
  filtered : (s t : ℕ → Bool) → ((p : ℕ) → 0 < p → p < length catalog.universe.packages + 1 → s p ≡ t p) → filter s (packages catalog) ≡ filter t (packages catalog)
  filtered s t h = filter_range s t 1 (length catalog.universe.packages) (length catalog.universe.packages + 1) (omega arith) (omega arith) h

  partners : (p : ℕ) → partner catalog f p ≡ partner catalog g p
  partners p =
      ap (greatest catalog)
      (filtered (λ q. comes catalog f q && same_name catalog p q) (λ q. comes catalog g q && same_name catalog p q) (λ q some within.
      ap (λ b. (is_pack (length catalog.universe.packages) q && (b && not (is_installed catalog q))) && same_name catalog p q) (same q some within)))

  obsoleters : (p : ℕ) → obsoleter catalog f p ≡ obsoleter catalog g p
  obsoleters p =
      find_range (λ q. f q && obsoletes catalog q p) (λ q. g q && obsoletes catalog q p) 1 (length catalog.universe.packages) (length catalog.universe.packages + 1) (omega arith) (omega arith)
      (λ q some within. ap (λ b. b && obsoletes catalog q p) (same q some within))

  lines : (p : ℕ) → line_of catalog f p ≡ line_of catalog g p
  lines p =
      ap (λ o. option_map_or (change_to catalog p) o (option_map_or (Obsolete p) (obsoleter catalog f p) (Erase p))) (partners p)
      ∙ ap (λ o. option_map_or (change_to catalog p) (partner catalog g p) (option_map_or (Obsolete p) o (Erase p))) (obsoleters p)

  all_lines : lines_of_leaving catalog f ≡ lines_of_leaving catalog g
  all_lines =
      map_same (line_of catalog f) (line_of catalog g) lines (filter (leaves catalog f) (packages catalog))
      ∙ ap (map (line_of catalog g)) (filtered (leaves catalog f) (leaves catalog g) (λ p some within. ap (λ b. is_installed catalog p && not b) (same p some within)))

  -- the lines of the packages that go, and install lines beside them
  pub made_is : (made : List Change) (brought : ℕ → Bool) → made ≡ lines_of_leaving catalog f → ((p : ℕ) → 0 < p → p < length catalog.universe.packages + 1 → brought p ≡ is_brought made p)
      → made ++ map Install (filter (λ q. comes catalog f q && not (brought q)) (packages catalog)) ≡ changes catalog g
  made_is made brought is says =
      ap (λ ls. ls ++ map Install (filter (λ q. comes catalog f q && not (brought q)) (packages catalog))) (is ∙ all_lines)
      ∙ ap (λ qs. lines_of_leaving catalog g ++ map Install qs)
      (filtered (λ q. comes catalog f q && not (brought q)) (is_installed_anew catalog g)
      (λ q some within.
      ap (λ b. (is_pack (length catalog.universe.packages) q && (b && not (is_installed catalog q))) && not (brought q)) (same q some within)
      ∙ ap (λ b. comes catalog g q && not b) (says q some within ∙ ap (λ ls. is_brought ls q) (is ∙ all_lines))))
