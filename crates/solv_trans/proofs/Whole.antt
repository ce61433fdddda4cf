-- The order of a task.
use Rattle.std.proofs.Common.{◌≡◌, ℕ, zero, suc, ◌+◌, ◌<◌, ◌≤◌, Bool, true, false, not, ◌&&◌, ◌||◌, List, [], ◌∷◌, length, inl, inr, refl, sym, ◌∙◌, subst, arith, eqb, Option, Some, None}
use mathlib.Core.Path.{fun_ext}
use Rattle.std.specs.Prelude.{nat_le}
use Rattle.std.specs.List.{list_any, list_all}
use Rattle.std.proofs.lemmas.Bool.{and_parts, and_from, false≢true, false_from_ne_true, or_left, or_right}
use Rattle.std.proofs.lemmas.Bool.Decides.{nat_tests}
use Rattle.solv_pool.specs.Prelude.{passes, is_among, Catalog, package_at, dependency}
use Rattle.solv_pool.specs.declared.packages.Package.{Package}
use Rattle.solv_pool.specs.declared.packages.Need.{Need}
use Rattle.solv_graph.specs.Inner.Orders.{part_of, late_of}
use Rattle.solv_graph.specs.declared.orders.Turn.{Turn}
use Rattle.solv_trans.specs.Moving.{comes, goes, is_part}
use Rattle.solv_trans.specs.Edges.{brings, requires_some, edge, pre_edge}
use Rattle.solv_trans.specs.Inner.Edges.{coming_edge, going_edge}
use Rattle.solv_trans.specs.Orders.{IsOrdered}
use Rattle.solv_trans.specs.Inner.Joining.{is_marked, linked, pre_linked, AreTurns, AreEdges}
use Rattle.solv_trans.specs.declared.ordering.Ordered.{Ordered}
use Rattle.solv_trans.specs.declared.edges.Link.{Link}
use Rattle.solv_trans.proofs.Asking.{part_is, late_is}
use Rattle.solv_list.proofs.Booleans.{or_cases}
use Rattle.solv_pool.proofs.Among.{among_passes}
use Rattle.solv_pool.specs.Needs.{serves}

-- some requirement asks where some of fewer do
any_fewer : (these asks : Need → Bool) (ns : List Need) → list_any (λ n. these n && asks n) ns ≡ true → list_any asks ns ≡ true
any_fewer these asks [] h = h
any_fewer these asks (n ∷ ns) h = elim (or_cases (these n && asks n) (list_any (λ m. these m && asks m) ns) h) [
  | inl k ↦ or_left (asks n) (list_any asks ns) (and_parts (these n) (asks n) k).1
  | inr k ↦ or_right (asks n) (list_any asks ns) (any_fewer these asks ns k)
]

passes_fewer : (f g : Package → Bool) → ((x : Package) → f x ≡ true → g x ≡ true) → (o : Option Package) → passes o f ≡ true → passes o g ≡ true
passes_fewer f g more None h = h
passes_fewer f g more (Some x) h = more x h

module _ (catalog : Catalog) (set : ℕ → Bool) where
  -- a pre edge is an edge
  pub pre_within : (a b : ℕ) → pre_edge catalog set a b ≡ true → edge catalog set a b ≡ true
  pre_within a b h =
      let one = and_parts (not (eqb a b)) (coming_edge catalog set (λ need. need.pre) a b || going_edge catalog set (λ need. need.pre) a b) h in
      and_from (not (eqb a b)) (coming_edge catalog set (λ need. true) a b || going_edge catalog set (λ need. true) a b) one.0
      (elim (or_cases (coming_edge catalog set (λ need. need.pre) a b) (going_edge catalog set (λ need. need.pre) a b) one.1) [
        | inl k ↦
            let two = and_parts (comes catalog set a) (comes catalog set b && requires_some catalog set (λ need. need.pre) (brings catalog set a b) b) k in
            let three = and_parts (comes catalog set b) (requires_some catalog set (λ need. need.pre) (brings catalog set a b) b) two.1 in
            or_left (coming_edge catalog set (λ need. true) a b) (going_edge catalog set (λ need. true) a b)
            (and_from (comes catalog set a) (comes catalog set b && requires_some catalog set (λ need. true) (brings catalog set a b) b) two.0
            (and_from (comes catalog set b) (requires_some catalog set (λ need. true) (brings catalog set a b) b) three.0
            (passes_fewer (λ x. list_any (λ n. n.pre && brings catalog set a b (dependency catalog n.dep)) x.requires_) (λ x. list_any (λ n. brings catalog set a b (dependency catalog n.dep)) x.requires_)
            (λ x. any_fewer (λ n. n.pre) (λ n. brings catalog set a b (dependency catalog n.dep)) x.requires_) (package_at catalog b) three.1)))
        | inr k ↦
            let two = and_parts (goes catalog set a) (goes catalog set b && requires_some catalog set (λ need. need.pre) (serves catalog b) a) k in
            let three = and_parts (goes catalog set b) (requires_some catalog set (λ need. need.pre) (serves catalog b) a) two.1 in
            or_right (coming_edge catalog set (λ need. true) a b) (going_edge catalog set (λ need. true) a b)
            (and_from (goes catalog set a) (goes catalog set b && requires_some catalog set (λ need. true) (serves catalog b) a) two.0
            (and_from (goes catalog set b) (requires_some catalog set (λ need. true) (serves catalog b) a) three.0
            (passes_fewer (λ x. list_any (λ n. n.pre && serves catalog b (dependency catalog n.dep)) x.requires_) (λ x. list_any (λ n. serves catalog b (dependency catalog n.dep)) x.requires_)
            (λ x. any_fewer (λ n. n.pre) (λ n. serves catalog b (dependency catalog n.dep)) x.requires_) (package_at catalog a) three.1)))
      ])

  -- edges join parts
  pub joins_parts : (a b : ℕ) → edge catalog set a b ≡ true → (is_part catalog set a ≡ true) × (is_part catalog set b ≡ true)
  joins_parts a b h =
      let one = and_parts (not (eqb a b)) (coming_edge catalog set (λ need. true) a b || going_edge catalog set (λ need. true) a b) h in
      elim (or_cases (coming_edge catalog set (λ need. true) a b) (going_edge catalog set (λ need. true) a b) one.1) [
        | inl k ↦
            let two = and_parts (comes catalog set a) (comes catalog set b && requires_some catalog set (λ need. true) (brings catalog set a b) b) k in
            let three = and_parts (comes catalog set b) (requires_some catalog set (λ need. true) (brings catalog set a b) b) two.1 in
            (or_left (comes catalog set a) (goes catalog set a) two.0, or_left (comes catalog set b) (goes catalog set b) three.0)
        | inr k ↦
            let two = and_parts (goes catalog set a) (goes catalog set b && requires_some catalog set (λ need. true) (serves catalog b) a) k in
            let three = and_parts (goes catalog set b) (requires_some catalog set (λ need. true) (serves catalog b) a) two.1 in
            (or_right (comes catalog set a) (goes catalog set a) two.0, or_right (comes catalog set b) (goes catalog set b) three.0)
      ]

  module _ (turns : List Turn) (are : AreTurns catalog set turns) (links : List Link) (tell : AreEdges catalog set links) where
    pub within : (a b : ℕ) → pre_linked links a b ≡ true → linked links a b ≡ true
    within a b h = tell.all a b ∙ pre_within a b (sym (tell.pre a b) ∙ h)

    pub starts : (a b : ℕ) → linked links a b ≡ true → part_of turns a ≡ true
    starts a b h = part_is catalog set turns are a ∙ (joins_parts a b (sym (tell.all a b) ∙ h)).0

    pub ends : (a b : ℕ) → linked links a b ≡ true → part_of turns b ≡ true
    ends a b h = part_is catalog set turns are b ∙ (joins_parts a b (sym (tell.all a b) ∙ h)).1

    -- the order by the list is that of the set
    pub ordered : (made : Ordered) → IsOrdered (length turns) (part_of turns) (late_of turns) (linked links) (pre_linked links) made
        → IsOrdered (length catalog.universe.packages + 1) (is_part catalog set) (goes catalog set) (edge catalog set) (pre_edge catalog set) made
    ordered made h =
        let parts : part_of turns ≡ is_part catalog set = fun_ext (λ p. part_is catalog set turns are p) in
        let late : late_of turns ≡ goes catalog set = fun_ext (λ p. late_is catalog set turns are p) in
        let all : linked links ≡ edge catalog set = fun_ext (λ a. fun_ext (λ b. tell.all a b)) in
        let pre : pre_linked links ≡ pre_edge catalog set = fun_ext (λ a. fun_ext (λ b. tell.pre a b)) in
        subst (λ (f : ℕ → ℕ → Bool). IsOrdered (length catalog.universe.packages + 1) (is_part catalog set) (goes catalog set) (edge catalog set) f made) pre
        (subst (λ (f : ℕ → ℕ → Bool). IsOrdered (length catalog.universe.packages + 1) (is_part catalog set) (goes catalog set) f (pre_linked links) made) all
        (subst (λ (f : ℕ → Bool). IsOrdered (length catalog.universe.packages + 1) (is_part catalog set) f (linked links) (pre_linked links) made) late
        (subst (λ (f : ℕ → Bool). IsOrdered (length catalog.universe.packages + 1) f (late_of turns) (linked links) (pre_linked links) made) parts
        (subst (λ (n : ℕ). IsOrdered n (part_of turns) (late_of turns) (linked links) (pre_linked links) made) are.size h))))

-- a table of a set is the set
past_table : (table : List Bool) (p : ℕ) → length table ≤ p → is_marked table p ≡ false
past_table [] p le = refl
past_table (x ∷ table) zero le = absurd (omega arith)
past_table (x ∷ table) (suc p) le = past_table table p (omega (arith, le))

pub table_is : (table : List Bool) (set : List ℕ) (n : ℕ) → length table ≡ n + 1 → ((p : ℕ) → p < n + 1 → is_marked table p ≡ is_among set p) → list_all (λ p. nat_le p n) set ≡ true → is_marked table ≡ is_among set
table_is table set n size each within = fun_ext (λ p. at p (nat_le p n) refl)
  where
    low : (p : ℕ) → nat_le p n ≡ true → p < n + 1
    low p e = grind (arith, nat_tests)

    high : (p : ℕ) → nat_le p n ≡ false → n + 1 ≤ p
    high p e = grind (arith, nat_tests)

    at : (p : ℕ) (b : Bool) → nat_le p n ≡ b → is_marked table p ≡ is_among set p
    at p true e = each p (low p e)
    at p false e = past_table table p (omega (arith, high p e, size)) ∙ sym (false_from_ne_true (is_among set p) (λ i. false≢true (sym e ∙ among_passes (λ q. nat_le q n) set p within i)))
