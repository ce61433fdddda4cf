-- Namespaces by their ids are those by their texts.
use Rattle.std.proofs.Common.{◌≡◌, ℕ, zero, suc, ◌==◌, ◌<◌, Bool, true, false, List, [], ◌∷◌, ◌++◌, map, length, get_or, cond, refl, sym, ap, ◌∙◌, arith, nat_lt}
use Rattle.std.specs.Prelude.{◌+◌, not, nat_le, slice_set, if◌then◌else◌}
use Rattle.std.specs.List.{list_all, list_any, position_or_len}
use Rattle.std.specs.Str.{bytes_eq}
use Rattle.std.proofs.lemmas.Bool.{and_from, ltb-true, lt-ltb, or_parts}
use Rattle.solv_base.specs.Pool.{Held, IsPool, text_at}
use Rattle.solv_base.proofs.Identity.{texts_differ}
use Rattle.solv_pool.specs.Prelude.{line_fits}
use Rattle.solv_script.specs.Inner.Namespaces.{names_of, with_packages}
use Rattle.solv_script.specs.Rows.{with_namespace}
use Rattle.solv_script.proofs.TaskGrowth.{written_line}
use Rattle.solv_list.proofs.Booleans.{first_of_both, second_of_both, same_truth}
use Rattle.solv_list.proofs.Lists.{list_all_join, same_bytes, bytes_themselves}
use Rattle.solv_list.proofs.Numbers.{same_number, equal_to_itself}

module _ (pool : Held) (p : IsPool pool) (name : ℕ) (within : name < length pool.names) where
  -- two texts are equal where their ids are
  pub texts_as_ids : (n : ℕ) → n < length pool.names → bytes_eq (text_at pool name) (text_at pool n) ≡ (name == n)
  texts_as_ids n below =
      same_truth (bytes_eq (text_at pool name) (text_at pool n)) (name == n)
      (λ h. let same : name ≡ n = texts_differ pool p name n within below (same_bytes (text_at pool name) (text_at pool n) h) in ap (λ k. name == k) (sym same) ∙ equal_to_itself name)
      (λ h. let same : name ≡ n = same_number name n h in ap (λ k. bytes_eq (text_at pool name) (text_at pool k)) (sym same) ∙ bytes_themselves (text_at pool name))

  pub namespaces_with : (count : ℕ) (packs : List ℕ) (ns : List (ℕ × List ℕ)) → list_all (line_fits (length pool.names) count) ns ≡ true
      → with_namespace (text_at pool name) packs (map (written_line pool) ns) ≡ map (written_line pool) (with_packages name packs ns)
  namespaces_with count packs [] h = refl
  namespaces_with count packs (n ∷ ns) h =
      let fits = first_of_both (line_fits (length pool.names) count n) (list_all (line_fits (length pool.names) count) ns) h in
      let below : n.0 < length pool.names = ltb-true n.0 (length pool.names) (first_of_both (nat_lt n.0 (length pool.names)) (list_all (λ q. nat_le q count) n.1) fits) in
      let rest = namespaces_with count packs ns (second_of_both (line_fits (length pool.names) count n) (list_all (line_fits (length pool.names) count) ns) h) in
      rw (texts_as_ids n.0 below) (on (name == n.0) rest)
    where
      on : (b : Bool) → with_namespace (text_at pool name) packs (map (written_line pool) ns) ≡ map (written_line pool) (with_packages name packs ns)
          → (if b then (text_at pool n.0, n.1 ++ packs) ∷ map (written_line pool) ns else written_line pool n ∷ with_namespace (text_at pool name) packs (map (written_line pool) ns))
          ≡ map (written_line pool) (if b then (n.0, n.1 ++ packs) ∷ ns else n ∷ with_packages name packs ns)
      on true rest = refl
      on false rest = ap (λ l. written_line pool n ∷ l) rest

-- all of them are there
pub packages_fit : (names count name : ℕ) (packs : List ℕ) (ns : List (ℕ × List ℕ)) → name < names → list_all (λ q. nat_le q count) packs ≡ true → list_all (line_fits names count) ns ≡ true
    → list_all (line_fits names count) (with_packages name packs ns) ≡ true
packages_fit names count name packs [] within there h = and_from (line_fits names count (name, packs)) true (and_from (nat_lt name names) (list_all (λ q. nat_le q count) packs) (lt-ltb name names within) there) refl
packages_fit names count name packs (n ∷ ns) within there h =
    let fits = first_of_both (line_fits names count n) (list_all (line_fits names count) ns) h in
    let others = second_of_both (line_fits names count n) (list_all (line_fits names count) ns) h in
    let more : line_fits names count (n.0, n.1 ++ packs) ≡ true
    = and_from (nat_lt n.0 names) _ (first_of_both (nat_lt n.0 names) (list_all (λ q. nat_le q count) n.1) fits)
    (list_all_join (λ q. nat_le q count) n.1 packs (second_of_both (nat_lt n.0 names) (list_all (λ q. nat_le q count) n.1) fits) there) in
    on (name == n.0) fits others more (packages_fit names count name packs ns within there others)
  where
    on : (b : Bool) → line_fits names count n ≡ true → list_all (line_fits names count) ns ≡ true → line_fits names count (n.0, n.1 ++ packs) ≡ true → list_all (line_fits names count) (with_packages name packs ns) ≡ true
        → list_all (line_fits names count) (if b then (n.0, n.1 ++ packs) ∷ ns else n ∷ with_packages name packs ns) ≡ true
    on true f o m r = and_from (line_fits names count (n.0, n.1 ++ packs)) (list_all (line_fits names count) ns) m o
    on false f o m r = and_from (line_fits names count n) (list_all (line_fits names count) (with_packages name packs ns)) f r

-- the first place of a name, or the end
abbrev pub first_named : ℕ → List (ℕ × List ℕ) → ℕ
first_named name ns = position_or_len (λ other. name == other) (names_of ns)

-- more packages at that place
put_step : (name : ℕ) (packs : List ℕ) (x : ℕ × List ℕ) (ns : List (ℕ × List ℕ)) (n m : ℕ × List ℕ) → m ≡ (n.0, n.1 ++ packs)
    → ((q : ℕ) → q ≡ first_named name ns → q < length ns → n ≡ get_or ns q n → slice_set ns q m ≡ with_packages name packs ns)
    → (b : Bool) (place : ℕ) → place ≡ cond (not b) (1 + first_named name ns) 0 → place < suc (length ns) → n ≡ get_or (x ∷ ns) place n
    → slice_set (x ∷ ns) place m ≡ (if b then (x.0, x.1 ++ packs) ∷ ns else x ∷ with_packages name packs ns)
put_step name packs x ns n m e rest true zero at low is = ap (λ k. k ∷ ns) (e ∙ ap (λ (k : ℕ × List ℕ). (k.0, k.1 ++ packs)) is)
put_step name packs x ns n m e rest true (suc q) at low is = absurd (omega (arith, at))
put_step name packs x ns n m e rest false zero at low is = absurd (omega (arith, at))
put_step name packs x ns n m e rest false (suc q) at low is = ap (λ l. x ∷ l) (rest q (omega (arith, at)) (omega (arith, low)) is)

pub put_at : (name : ℕ) (packs : List ℕ) (ns : List (ℕ × List ℕ)) (place : ℕ) (n m : ℕ × List ℕ) → m ≡ (n.0, n.1 ++ packs) → place ≡ first_named name ns → place < length ns → n ≡ get_or ns place n
    → slice_set ns place m ≡ with_packages name packs ns
put_at name packs [] place n m e at low is = absurd (omega (arith, low))
put_at name packs (x ∷ ns) place n m e at low is = put_step name packs x ns n m e (λ q a l i. put_at name packs ns q n m e a l i) (name == x.0) place at low is

-- their names are the same
pub same_names : (ns : List (ℕ × List ℕ)) (place : ℕ) (n m : ℕ × List ℕ) → n ≡ get_or ns place n → m.0 ≡ n.0 → names_of (slice_set ns place m) ≡ names_of ns
same_names [] place n m is e = refl
same_names (x ∷ ns) zero n m is e = ap (λ k. k ∷ names_of ns) (e ∙ ap (λ (k : ℕ × List ℕ). k.0) is)
same_names (x ∷ ns) (suc place) n m is e = ap (λ l. x.0 ∷ l) (same_names ns place n m is e)

-- a new one
pub put_behind : (name : ℕ) (packs : List ℕ) (ns : List (ℕ × List ℕ)) → list_any (λ other. name == other) (names_of ns) ≡ false → with_packages name packs ns ≡ ns ++ (name, packs) ∷ []
put_behind name packs [] h = refl
put_behind name packs (x ∷ ns) h =
    let parts = or_parts (name == x.0) (list_any (λ other. name == other) (names_of ns)) h in
    rw parts.0 (ap (λ l. x ∷ l) (put_behind name packs ns parts.1))
