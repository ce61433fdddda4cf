-- What no walk leads to, by tables.
use Rattle.std.proofs.Common.{◌≡◌, ℕ, zero, suc, ◌+◌, ◌<◌, Bool, true, false, ◌&&◌, List, [], ◌∷◌, length, filter, inl, inr, refl, sym, ap, ◌∙◌, subst, arith, eqb}
use Rattle.std.specs.Prelude.{not, replicate}
use Rattle.std.proofs.lemmas.Bool.{and_from, and_parts, or_left, or_right, cases_lt, eqb-true}
use Rattle.solv_list.proofs.Booleans.{or_cases, second_is_false, true_of_not}
use Rattle.solv_pool.specs.Prelude.{is_among, Catalog, packages, marked}
use Rattle.solv_pool.specs.Cleaning.{needed_from}
use Rattle.solv_pool.specs.Needs.{serves_package, supplements}
use Rattle.solv_pool.proofs.Among.{among_filter}
use Rattle.solv_graph.specs.Reaching.{ReachedIsWhereWalksLead}
use Rattle.solv_clean.specs.Inner.Tables.{is_marked, table_of, but_not}
use Rattle.solv_clean.proofs.Told.{entries, told_at, told_past, bounds, is_there}
use Rattle.solv_clean.proofs.Walked.{needed_by, needed_next, needed_start}

pub marked_is : (M : List Bool) (q : ℕ) → marked M q ≡ is_marked M q
marked_is [] q = refl
marked_is (x ∷ M) zero = refl
marked_is (x ∷ M) (suc q) = marked_is M q

-- a table that marks all
all_marked : (n q : ℕ) → q < n → is_marked (replicate n true) q ≡ true
all_marked zero q lt = absurd (omega (arith, lt))
all_marked (suc n) zero lt = refl
all_marked (suc n) (suc q) lt = all_marked n q (omega (arith, lt))

pub all_entries : (n : ℕ) → length (replicate n true) ≡ n
all_entries zero = refl
all_entries (suc n) = ap (λ k. suc k) (all_entries n)

neither_with : (a b : Bool) → b ≡ true → (a && not b) ≡ false
neither_with true true h = refl
neither_with true false h = sym h
neither_with false b h = refl

module _ (catalog : Catalog) where
  abbrev count : ℕ
  count = length catalog.universe.packages + 1

  abbrev all : List Bool
  all = replicate (length catalog.universe.packages + 1) true

  -- the system, and what a table marks
  abbrev pub begun : List Bool → List ℕ
  begun starts = 0 ∷ filter (is_marked starts) (packages catalog)

  pub begun_inside : (starts : List Bool) (q : ℕ) → is_among (begun starts) q ≡ true → is_marked all q ≡ true
  begun_inside starts q h = elim (or_cases (eqb 0 q) (is_among (filter (is_marked starts) (packages catalog)) q) h) [
    | inl e ↦ ap (is_marked all) (sym (eqb-true 0 q e)) ∙ all_marked count 0 (omega arith)
    | inr k ↦ all_marked count q (bounds catalog q (and_parts (is_among (packages catalog) q) (is_marked starts q) (sym (among_filter (is_marked starts) (packages catalog) q) ∙ k)).0).1
  ]

  module _ (starts reached : List Bool) (law : ReachedIsWhereWalksLead) (tells : (q : ℕ) → is_marked reached q ≡ is_among (needed_from catalog (is_marked all) (begun starts)) q) where
    abbrev made : List Bool
    made = table_of (length catalog.universe.packages + 1) (but_not all reached)

    abbrev need : ℕ → Bool
    need q = is_among (needed_from catalog (is_marked all) (begun starts)) q

    found_out : (q : ℕ) → need q ≡ true → is_marked made q ≡ false
    found_out q h = elim (cases_lt q count) [
      | inl lt ↦ told_at (but_not all reached) count q lt ∙ neither_with (is_marked all q) (is_marked reached q) (tells q ∙ h)
      | inr le ↦ told_past (but_not all reached) 0 count q le
    ]

    found_by : (p : ℕ) → p < count → is_marked made p ≡ false → need p ≡ true
    found_by p lt h = sym (tells p) ∙ true_of_not (is_marked reached p) (second_is_false (is_marked all p) (not (is_marked reached p)) (sym (told_at (but_not all reached) count p lt) ∙ h) (all_marked count p lt))

    start_out : (q : ℕ) → is_among (begun starts) q ≡ true → marked made q ≡ false
    start_out q h = marked_is made q ∙ found_out q (needed_start catalog all (all_entries count) law (begun starts) (begun_inside starts) q h)

    pub system_out : marked made 0 ≡ false
    system_out = start_out 0 refl

    pub starts_out : (q : ℕ) → marked starts q ≡ true → marked made q ≡ false
    starts_out zero h = system_out
    starts_out (suc k) h = elim (cases_lt (suc k) count) [
      | inl lt ↦ start_out (suc k)
          (or_right (eqb 0 (suc k)) (is_among (filter (is_marked starts) (packages catalog)) (suc k))
          (among_filter (is_marked starts) (packages catalog) (suc k) ∙ and_from (is_among (packages catalog) (suc k)) (is_marked starts (suc k)) (is_there catalog (suc k) (omega arith) lt) (sym (marked_is starts (suc k)) ∙ h)))
      | inr le ↦ marked_is made (suc k) ∙ told_past (but_not all reached) 0 count (suc k) le
    ]

    pub needed_out : (p q : ℕ) → is_among (packages catalog) p ≡ true → marked made p ≡ false → serves_package catalog q p ≡ true → marked made q ≡ false
    needed_out p q there out s = elim (cases_lt q count) [
      | inl lt ↦
          let low : p < count = (bounds catalog p there).1 in
          marked_is made q
          ∙ found_out q (needed_next catalog all (all_entries count) law (begun starts) (begun_inside starts) p q (found_by p low (sym (marked_is made p) ∙ out))
          (needed_by catalog all (all_entries count) p q (all_marked count p low) (all_marked count q lt) (or_left (serves_package catalog q p) (supplements catalog (is_marked all) q p) s)))
      | inr le ↦ marked_is made q ∙ told_past (but_not all reached) 0 count q le
    ]

  -- the same of the tables of a search
  pub record IsUnreached (starts T : List Bool) : Type 0 where
    pub size : length T ≡ length catalog.universe.packages + 1
    pub system : marked T 0 ≡ false
    pub starts_out : (q : ℕ) → marked starts q ≡ true → marked T q ≡ false
    pub needed : (p q : ℕ) → is_among (packages catalog) p ≡ true → marked T p ≡ false → serves_package catalog q p ≡ true → marked T q ≡ false

  pub unreached_is : (starts M R T : List Bool) (F : List ℕ) → ReachedIsWhereWalksLead → M ≡ all → F ≡ begun starts → ((q : ℕ) → is_marked R q ≡ is_among (needed_from catalog (is_marked M) F) q)
      → T ≡ table_of (length catalog.universe.packages + 1) (but_not M R) → IsUnreached starts T
  unreached_is starts M R T F law marks from tells made =
      let tells_all : (q : ℕ) → is_marked R q ≡ is_among (needed_from catalog (is_marked all) (begun starts)) q = λ q.
      tells q ∙ ap (λ m. is_among (needed_from catalog (is_marked m) F) q) marks ∙ ap (λ f. is_among (needed_from catalog (is_marked all) f) q) from in
      let is : T ≡ table_of (length catalog.universe.packages + 1) (but_not all R) = made ∙ ap (λ m. table_of (length catalog.universe.packages + 1) (but_not m R)) marks in
      subst (IsUnreached starts) (sym is) (record {
        size = entries (length catalog.universe.packages + 1) (but_not all R);
        system = system_out starts R law tells_all;
        starts_out = starts_out starts R law tells_all;
        needed = needed_out starts R law tells_all;
      })
