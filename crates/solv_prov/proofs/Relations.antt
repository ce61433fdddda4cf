-- The lists of one relation, by its node.
use Rattle.std.proofs.Common.{◌≡◌, ◌<◌, ◌+◌, ℕ, zero, suc, Bool, true, false, cond, ◌&&◌, List, [], ◌∷◌, ◌++◌, length, map, Some, None, refl, sym, ap, ◌∙◌, arith, add-one}
use Rattle.std.specs.Prelude.{filter, nat_eq, nat_lt, codes, unwrap_or, option_map, slice_get}
use Rattle.std.specs.List.{starts_with}
use Rattle.std.proofs.lemmas.Bool.{ltb-true, false≢true}
use Rattle.std.proofs.lemmas.Option.{slice_get-map}
use Rattle.std.specs.List.{range_with_len}
use Rattle.solv_prov.specs.declared.merging.Joint.{Joint}
use Rattle.solv_prov.specs.declared.merging.Joint.TheVariants.{Either, Both, FirstAlone}
use Rattle.solv_prov.specs.Inner.Merging.{is_kept, merged}
use Rattle.solv_prov.proofs.Merged.{merging}
use Rattle.solv_pool.specs.Prelude.{uses_below, Capability, Dep, one, namespace, or, with, without, joined, tree, tree_of_node, capability_of_node, Cmp, DepNode, Simple, Versioned, Namespace, And, Or, With, Without, If, IfElse, Unless, UnlessElse, when, passes, Catalog, packages, members, dependency, capability_at, text, package_meets}
use Rattle.std.proofs.lemmas.List.{length-map}
use Rattle.solv_pool.specs.Providing.{name_of, has, has_namespace, is_named}
use Rattle.solv_prov.specs.declared.capability.Provide.{Provide}
use Rattle.solv_prov.specs.Inner.Capabilities.{version_of}
use Rattle.solv_prov.specs.Inner.Groups.{group_at}
use Rattle.solv_prov.specs.Inner.Gathering.{meeting_after, named_among, AreProvides}
use Rattle.solv_prov.specs.Index.{providers_of, named_by, obsoleters_of, packages_named, index_of, Index, IsIndexOf}
use Rattle.solv_prov.specs.Inner.Index.{relations, names}
use Rattle.solv_prov.proofs.Booleans.{filter_none, at_range, made_at}
use Rattle.solv_list.proofs.Booleans.{first_of_both}
use Rattle.std.proofs.lemmas.List.FromFn.{length-range_with_len}
use Rattle.solv_pool.proofs.Dependencies.{no_capability}

-- what a relation of a dependency has
abbrev providers_by : Catalog → Dep ℕ → List ℕ
providers_by catalog d = filter (package_meets catalog d) (members catalog)

-- the system first, where it has the name
pub system_first : (catalog : Catalog) (c : Capability ℕ) → filter (has catalog c) (members catalog) ≡ when (starts_with nat_eq (text catalog (name_of c)) (codes "rpmlib(")) (0 ∷ []) ++ filter (has catalog c) (packages catalog)
system_first catalog c = by (starts_with nat_eq (text catalog (name_of c)) (codes "rpmlib("))
  where
    by : (b : Bool) → cond b (0 ∷ filter (has catalog c) (packages catalog)) (filter (has catalog c) (packages catalog)) ≡ when b (0 ∷ []) ++ filter (has catalog c) (packages catalog)
    by true = refl
    by false = refl

module _ (catalog : Catalog) (id : ℕ) where
  -- a simple or versioned relation
  module _ (c : Capability ℕ) where
    pub providers_of-one : dependency catalog id ≡ one c → providers_of catalog id ≡ when (starts_with nat_eq (text catalog (name_of c)) (codes "rpmlib(")) (0 ∷ []) ++ filter (has catalog c) (packages catalog)
    providers_of-one e = ap (λ d. providers_by catalog d) e ∙ system_first catalog c

    pub named_by-one : capability_at catalog id ≡ Some c → named_by catalog id ≡ filter (is_named catalog c) (packages catalog)
    named_by-one e = ap (λ o. filter (λ p. passes o (λ d. is_named catalog d p)) (packages catalog)) e

  pub providers_of-namespace : (n : ℕ) → dependency catalog id ≡ namespace n → providers_of catalog id ≡ filter (has_namespace catalog n) (members catalog)
  providers_of-namespace n e = ap (λ d. providers_by catalog d) e

  pub named_by-none : capability_at catalog id ≡ None → named_by catalog id ≡ []
  named_by-none e =
      ap (λ o. filter (λ p. passes o (λ d. is_named catalog d p)) (packages catalog)) e ∙ filter_none (λ p. false) (λ p. refl) (packages catalog)

-- a relation that no package meets alone
pub record IsOther (node : DepNode) : Type 0 where
  pub not_simple : (n : ℕ) → node ≡ Simple n → ⊥
  pub not_versioned : (n : ℕ) (c : Cmp) (e : ℕ) → node ≡ Versioned n c e → ⊥
  pub not_namespace : (n : ℕ) → node ≡ Namespace n → ⊥
  pub not_or : (a b : ℕ) → node ≡ Or a b → ⊥
  pub not_with : (a b : ℕ) → node ≡ With a b → ⊥
  pub not_without : (a b : ℕ) → node ≡ Without a b → ⊥

none_meets : (catalog : Catalog) (at : ℕ → Dep ℕ) (node : DepNode) → IsOther node → providers_by catalog (tree_of_node at node) ≡ []
none_meets catalog at (Simple n) h = absurd (h.not_simple n refl)
none_meets catalog at (Versioned n c e) h = absurd (h.not_versioned n c e refl)
none_meets catalog at (Namespace n) h = absurd (h.not_namespace n refl)
none_meets catalog at (Or a b) h = absurd (h.not_or a b refl)
none_meets catalog at (With a b) h = absurd (h.not_with a b refl)
none_meets catalog at (Without a b) h = absurd (h.not_without a b refl)
none_meets catalog at (And a b) h = filter_none (λ p. false) (λ p. refl) (members catalog)
none_meets catalog at (If a b) h = filter_none (λ p. false) (λ p. refl) (members catalog)
none_meets catalog at (Unless a b) h = filter_none (λ p. false) (λ p. refl) (members catalog)
none_meets catalog at (IfElse a b c) h = filter_none (λ p. false) (λ p. refl) (members catalog)
none_meets catalog at (UnlessElse a b c) h = filter_none (λ p. false) (λ p. refl) (members catalog)

-- a relation of the pool by its node
module _ (catalog : Catalog) (id : ℕ) (node : DepNode) (held : slice_get catalog.pool.nodes id ≡ Some node) (read : dependency catalog id ≡ tree_of_node (tree catalog.pool.nodes) node) where
  pub capability_is : capability_at catalog id ≡ capability_of_node node
  capability_is = ap (λ o. unwrap_or (option_map capability_of_node o) None) held

  pub other_providers : IsOther node → providers_of catalog id ≡ []
  other_providers h = ap (λ d. providers_by catalog d) read ∙ none_meets catalog (tree catalog.pool.nodes) node h

  pub other_named : IsOther node → named_by catalog id ≡ []
  other_named h = named_by-none catalog id (capability_is ∙ no_capability node h.not_simple h.not_versioned)

-- an index that was made
pub IsIndexOf-made : (catalog : Catalog) (index : Index) → index ≡ index_of catalog → IsIndexOf index catalog
IsIndexOf-made catalog index e = record {
  exact = e;
  providers_each = ap (λ (i : Index). length i.providers) e ∙ length-map (relations catalog) (providers_of catalog) ∙ length-range_with_len 0 (length catalog.pool.nodes);
  named_each = ap (λ (i : Index). length i.named) e ∙ length-map (relations catalog) (named_by catalog) ∙ length-range_with_len 0 (length catalog.pool.nodes);
  by_name_each = ap (λ (i : Index). length i.by_name) e ∙ length-map (names catalog) (packages_named catalog) ∙ length-range_with_len 0 (length catalog.pool.names);
  obsoleters_each = ap (λ (i : Index). length i.obsoleters) e ∙ length-map (members catalog) (obsoleters_of catalog) ∙ length-range_with_len 0 (suc (length catalog.universe.packages)) ∙ sym (add-one (length catalog.universe.packages));
}

module _ (catalog : Catalog) (index : Index) (h : IsIndexOf index catalog) (k : ℕ) (list : List ℕ) where
  pub providers_held : k < length index.providers → slice_get index.providers k ≡ Some list → list ≡ providers_of catalog k
  providers_held lt e = made_at (providers_of catalog) (length catalog.pool.nodes) k list (omega (arith, h.providers_each)) (sym (ap (λ (i : Index). slice_get i.providers k) h.exact) ∙ e)

  pub named_held : k < length index.named → slice_get index.named k ≡ Some list → list ≡ named_by catalog k
  named_held lt e = made_at (named_by catalog) (length catalog.pool.nodes) k list (omega (arith, h.named_each)) (sym (ap (λ (i : Index). slice_get i.named k) h.exact) ∙ e)

  pub obsoleters_held : k < length index.obsoleters → slice_get index.obsoleters k ≡ Some list → list ≡ obsoleters_of catalog k
  obsoleters_held lt e = made_at (obsoleters_of catalog) (suc (length catalog.universe.packages)) k list (omega (arith, h.obsoleters_each)) (sym (ap (λ (i : Index). slice_get i.obsoleters k) h.exact) ∙ e)

  pub names_held : k < length index.by_name → slice_get index.by_name k ≡ Some list → list ≡ packages_named catalog k
  names_held lt e = made_at (packages_named catalog) (length catalog.pool.names) k list (omega (arith, h.by_name_each)) (sym (ap (λ (i : Index). slice_get i.by_name k) h.exact) ∙ e)

  pub providers_exact : k < length index.providers → slice_get index.providers k ≡ Some list → list ≡ filter (package_meets catalog (dependency catalog k)) (members catalog)
  providers_exact lt e = providers_held lt e

-- two relations joined: their lists are merged
module _ (catalog : Catalog) (id a b : ℕ) (closed : List (List ℕ)) (before : closed ≡ map (providers_of catalog) (range_with_len 0 id)) where
  list_of : (k : ℕ) → k < id → slice_get closed k ≡ Some (providers_of catalog k)
  list_of k low =
      ap (λ l. slice_get l k) before ∙ slice_get-map (providers_of catalog) (range_with_len 0 id) k ∙ ap (λ o. option_map (providers_of catalog) o) (at_range 0 id k low)
      ∙ ap (λ n. Some (providers_of catalog n)) (zero_more k)
    where
      zero_more : (k : ℕ) → 0 + k ≡ k
      zero_more k = omega arith

  pub first_list : a < id → slice_get closed a ≡ Some (providers_of catalog a)
  first_list low = list_of a low

  pub second_list : b < id → slice_get closed b ≡ Some (providers_of catalog b)
  second_list low = list_of b low

  pub closed_many : length closed ≡ id
  closed_many = ap length before ∙ length-map (range_with_len 0 id) (providers_of catalog) ∙ length-range_with_len 0 id

module _ (catalog : Catalog) (id a b : ℕ) where
  both_lists : (joint : Joint) → merged joint (providers_of catalog a) (providers_of catalog b) ≡ filter (λ p. is_kept joint (package_meets catalog (dependency catalog a) p) (package_meets catalog (dependency catalog b) p)) (members catalog)
  both_lists joint = merging joint (package_meets catalog (dependency catalog a)) (package_meets catalog (dependency catalog b)) 0 (suc (length catalog.universe.packages))

  pub or_list : dependency catalog id ≡ joined or (dependency catalog a) (dependency catalog b) → providers_of catalog id ≡ merged Either (providers_of catalog a) (providers_of catalog b)
  or_list e = ap (λ d. providers_by catalog d) e ∙ sym (both_lists Either)

  pub with_list : dependency catalog id ≡ joined with (dependency catalog a) (dependency catalog b) → providers_of catalog id ≡ merged Both (providers_of catalog a) (providers_of catalog b)
  with_list e = ap (λ d. providers_by catalog d) e ∙ sym (both_lists Both)

  pub without_list : dependency catalog id ≡ joined without (dependency catalog a) (dependency catalog b) → providers_of catalog id ≡ merged FirstAlone (providers_of catalog a) (providers_of catalog b)
  without_list e = ap (λ d. providers_by catalog d) e ∙ sym (both_lists FirstAlone)

-- operands are below
pub first_below : (names id a b : ℕ) → (nat_lt a id && (nat_lt b id && true)) ≡ true → a < id
first_below _ id a b h = ltb-true a id (first_of_both (nat_lt a id) (nat_lt b id && true) h)

pub second_below : (names id a b : ℕ) → (nat_lt a id && (nat_lt b id && true)) ≡ true → b < id
second_below _ id a b h = ltb-true b id (first_of_both (nat_lt b id) true (after (nat_lt a id) (nat_lt b id && true) h))
  where
    after : (x y : Bool) → (x && y) ≡ true → y ≡ true
    after true y e = e
    after false y e = absurd (false≢true e)

-- the lists of a simple or versioned relation, as read from the group of its name
module _ (catalog : Catalog) (id : ℕ) (c : Capability ℕ) (groups : List (List Provide)) (h : AreProvides groups catalog) (within : name_of c < length catalog.pool.names) where
  pub capability_providers : dependency catalog id ≡ one c
      → providers_of catalog id ≡ when (starts_with nat_eq (text catalog (name_of c)) (codes "rpmlib(")) (0 ∷ []) ++ meeting_after catalog.pool (version_of c) None (group_at groups (name_of c))
  capability_providers e =
      providers_of-one catalog id c e ∙ ap (λ t. when (starts_with nat_eq (text catalog (name_of c)) (codes "rpmlib(")) (0 ∷ []) ++ t) (sym (h.meeting c within))

  pub capability_named : capability_at catalog id ≡ Some c → named_by catalog id ≡ named_among catalog.pool (version_of c) (group_at groups (name_of c))
  capability_named e = named_by-one catalog id c e ∙ sym (h.named c within)

-- the names of a node are held
pub simple_within : (names nodes n : ℕ) → uses_below names nodes (Simple n) ≡ true → n < names
simple_within names nodes n h = ltb-true n names (first_of_both (nat_lt n names) true (first_of_both (nat_lt n names && true) true h))

pub versioned_within : (names nodes n : ℕ) (c : Cmp) (e : ℕ) → uses_below names nodes (Versioned n c e) ≡ true → n < names
versioned_within names nodes n c e h = ltb-true n names (first_of_both (nat_lt n names) (nat_lt e names && true) (first_of_both (nat_lt n names && (nat_lt e names && true)) true h))

pub namespace_within : (names nodes n : ℕ) → uses_below names nodes (Namespace n) ≡ true → n < names
namespace_within names nodes n h = ltb-true n names (first_of_both (nat_lt n names) true (first_of_both (nat_lt n names && true) true h))

-- the list of one more relation
range_more : (a n : ℕ) → range_with_len a n ++ (a + n) ∷ [] ≡ range_with_len a (n + 1)
range_more a zero = ap (λ k. k ∷ []) (nothing_more a)
  where
    nothing_more : (a : ℕ) → a + 0 ≡ a
    nothing_more a = omega arith
range_more a (suc n) =
    ap (λ l. a ∷ l) (ap (λ k. range_with_len (a + 1) n ++ k ∷ []) (shifted a n) ∙ range_more (a + 1) n)
    ∙ ap (λ k. range_with_len a k) (sucs n)
  where
    shifted : (a n : ℕ) → a + suc n ≡ a + 1 + n
    shifted a n = omega arith

    sucs : (n : ℕ) → suc (n + 1) ≡ suc n + 1
    sucs n = omega arith

mapped_more : (f : ℕ → List ℕ) (xs ys : List ℕ) → map f (xs ++ ys) ≡ map f xs ++ map f ys
mapped_more f [] ys = refl
mapped_more f (x ∷ xs) ys = ap (λ l. f x ∷ l) (mapped_more f xs ys)

pub one_more_list : (f : ℕ → List ℕ) (n : ℕ) → map f (range_with_len 0 n) ++ f n ∷ [] ≡ map f (range_with_len 0 (n + 1))
one_more_list f n = sym (ap (map f) (sym (range_more 0 n)) ∙ mapped_more f (range_with_len 0 n) ((0 + n) ∷ []) ∙ ap (λ k. map f (range_with_len 0 n) ++ f k ∷ []) (zero_more n))
  where
    zero_more : (n : ℕ) → 0 + n ≡ n
    zero_more n = omega arith
