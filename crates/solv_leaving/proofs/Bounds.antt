-- So many words, or none where they are too many; and what is added up.
use Rattle.std.proofs.Common.{◌≡◌, ◌≤◌, ◌<◌, ◌+◌, ◌-◌, ℕ, suc, Bool, true, false, cond, List, [], ◌∷◌, length, map, Some, None, zero, refl, sym, ap, ◌∙◌, arith}
use Rattle.std.specs.Prelude.{filter, nat_lt, nat_le, slice_get, unwrap_or, if◌then◌else◌}
use Rattle.std.specs.List.{list_all, range_with_len}
use Rattle.std.specs.Option.{option_map_or}
use Rattle.std.proofs.lemmas.Bool.Decides.{nat_tests}
use Rattle.solv_list.proofs.Lists.{all_at, all_left, all_right}
use Rattle.solv_list.proofs.Booleans.{first_of_both, second_of_both}
use Rattle.solv_pool.specs.Prelude.{fits, names_of, relations_of, Catalog, catalog_of, packages, package_at, marked, IsClosed}
use Rattle.solv_pool.specs.declared.packages.Need.{Need}
use Rattle.solv_pool.specs.declared.packages.Package.{Package}
use Rattle.solv_pool.specs.declared.tasks.Task.{Task}
use Rattle.solv_prov.specs.Index.{Index, IsIndexOf}
use Rattle.solv_rules.specs.Books.{most_words}
use Rattle.solv_leaving.proofs.Totals.{total, total_is}
use Rattle.solv_leaving.specs.Inner.Fitting.{within, required_words, words_at, words_left_out}

pub within_some : (n m : ℕ) → within n ≡ Some m → (m ≡ n) × (n ≤ most_words)
within_some n m h = by (nat_lt most_words n) refl h
  where
    by : (b : Bool) → nat_lt most_words n ≡ b → cond b None (Some n) ≡ Some m → (m ≡ n) × (n ≤ most_words)
    by true e i = absurd (cc)
    by false e i = (sym (ap (λ o. unwrap_or o 0) i), grind (arith, nat_tests, e))

pub within_none : (n : ℕ) → within n ≡ None → most_words < n
within_none n h = by (nat_lt most_words n) refl h
  where
    by : (b : Bool) → nat_lt most_words n ≡ b → cond b None (Some n) ≡ None → most_words < n
    by true e i = grind (arith, nat_tests, e)
    by false e i = absurd (cc)

within_few : (n : ℕ) → n ≤ most_words → within n ≡ Some n
within_few n h = let few : nat_lt most_words n ≡ false = grind (arith, nat_tests, h) in rw few refl

pub nothing_added : (n m : ℕ) → m ≡ 0 → n ≤ most_words → Some n ≡ within (n + m)
nothing_added n m none few = let same : n + m ≡ n = omega (arith, none) in rw same (sym (within_few n few))

pub few_enough : (n : ℕ) → n ≤ most_words → nat_le n most_words ≡ true
few_enough n h = grind (arith, nat_tests, h)

pub too_many : (n : ℕ) → most_words < n → nat_le n most_words ≡ false
too_many n h = grind (arith, nat_tests, h)

-- those of a range, one after another
pub next_of : (w : ℕ → ℕ) (before count : ℕ) → before < count → total w (range_with_len (before + 1) (count - before)) ≡ w (before + 1) + total w (range_with_len (before + 1 + 1) (count - (before + 1)))
next_of w before count lt = let more : count - before ≡ suc (count - (before + 1)) = omega (arith, lt) in rw more refl

pub none_of : (w : ℕ → ℕ) (before count : ℕ) → count ≤ before → total w (range_with_len (before + 1) (count - before)) ≡ 0
none_of w before count le = let none : count - before ≡ 0 = omega (arith, le) in rw none refl

module _ (catalog : Catalog) (left : List Bool) where
  -- at least the words of what it requires
  abbrev own : ℕ → ℕ
  own p = option_map_or (required_words catalog) (package_at catalog p) 0

  -- a package that is not left out adds none
  pub left_words : words_left_out catalog left ≡ total (words_at catalog left) (packages catalog)
  left_words = total_is own (filter (marked left) (packages catalog)) ∙ along (packages catalog)
    where
      along : (ps : List ℕ) → total own (filter (marked left) ps) ≡ total (words_at catalog left) ps
      along [] = refl
      along (p ∷ ps) = step (marked left p) (along ps)
        where
          step : (b : Bool) → total own (filter (marked left) ps) ≡ total (words_at catalog left) ps → total own (cond b (p ∷ filter (marked left) ps) (filter (marked left) ps)) ≡ (if b then own p else 0) + total (words_at catalog left) ps
          step true h = ap (λ n. own p + n) h
          step false h = omega (arith, h)

  pub words_there : (p : ℕ) (a : Package) → 0 < p → slice_get catalog.universe.packages (p - 1) ≡ Some a → marked left p ≡ true → words_at catalog left p ≡ required_words catalog a
  words_there zero a lt is at = absurd (omega arith)
  words_there (suc k) a lt is at = let e : suc k - 1 ≡ k = omega arith in let here : package_at catalog (suc k) ≡ Some a = rw e at is in rw (at, here) refl

  pub no_words_there : (p : ℕ) → marked left p ≡ false → words_at catalog left p ≡ 0
  no_words_there p at = rw at refl

-- the requirements of a package of a closed task are there
module _ (task : Task) (closed : IsClosed task) where
  abbrev below : ℕ → Bool
  below d = nat_lt d (length task.pool.nodes)

  all_of_needs : (needs : List Need) → list_all below (map (λ (n : Need). n.dep) needs) ≡ true → list_all (λ (n : Need). below n.dep) needs ≡ true
  all_of_needs [] h = refl
  all_of_needs (n ∷ ns) h =
      let here = first_of_both (below n.dep) (list_all below (map (λ (n : Need). n.dep) ns)) h in
      let rest = all_of_needs ns (second_of_both (below n.dep) (list_all below (map (λ (n : Need). n.dep) ns)) h) in
      rw (here, rest) refl

  needs_there : (k : ℕ) (a : Package) → slice_get task.universe.packages k ≡ Some a → list_all (λ (n : Need). nat_lt n.dep (length task.pool.nodes)) a.requires_ ≡ true
  needs_there k a at =
      let fit = all_at (fits (length task.pool.names) (length task.pool.nodes) (length task.universe.repos)) task.universe.packages k a closed.universe.packages at in
      let relations = first_of_both (list_all below (relations_of a)) _ (second_of_both (list_all (λ n. nat_lt n (length task.pool.names)) (names_of a)) _ fit) in
      all_of_needs a.requires_ (all_left below (map (λ (n : Need). n.dep) a.requires_) _ (all_right below a.provides _ relations))

pub needs_held : (task : Task) (index : Index) (k : ℕ) (a : Package) (needs : List Need) → IsIndexOf index (catalog_of task) → IsClosed task → slice_get task.universe.packages k ≡ Some a → needs ≡ a.requires_
    → list_all (λ (n : Need). nat_lt n.dep (length index.providers)) needs ≡ true
needs_held task index k a needs is closed at same = rw (is.providers_each, same) (needs_there task closed k a at)
