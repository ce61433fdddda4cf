-- The edges that each package owns.
use Rattle.std.proofs.Common.{◌≡◌, ℕ, ◌+◌, ◌<◌, Bool, true, false, not, ◌&&◌, ◌||◌, List, [], ◌∷◌, ◌++◌, length, filter, map, inl, inr, refl, sym, ap, ◌∙◌, arith, eqb, eq-eqb, get_or, Option, Some, None}
use Rattle.std.specs.Prelude.{slice_get, nat_lt, if◌then◌else◌}
use Rattle.std.specs.List.{list_any, list_all}
use Rattle.std.proofs.lemmas.Bool.{and_parts, and_from, false≢true, eqb-true, ne_eqb, ltb-true, false_from_ne_true, or_left, or_right}
use Rattle.std.proofs.lemmas.Bool.Decides.{nat_tests}
use Rattle.std.proofs.lemmas.List.Folds.{list_any-append}
use Rattle.solv_pool.specs.Prelude.{Dep, passes, is_among, fits, names_of, relations_of, Catalog, dependency, members, package_at, packages, package_meets}
use Rattle.solv_pool.specs.Parts.{parts}
use Rattle.solv_pool.specs.declared.packages.Package.{Package}
use Rattle.solv_pool.specs.declared.packages.Need.{Need}
use Rattle.solv_pool.specs.declared.tasks.Task.{Task}
use Rattle.solv_prov.specs.Index.{Index}
use Rattle.solv_graph.specs.Inner.Orders.{late_of}
use Rattle.solv_graph.specs.declared.orders.Turn.{Turn}
use Rattle.solv_graph.specs.declared.orders.Turn.TheVariants.{Never, Early, Late}
use Rattle.solv_trans.specs.Moving.{comes, goes}
use Rattle.solv_trans.specs.Edges.{is_met_already, brings, requires_some, edge_by}
use Rattle.solv_trans.specs.Inner.Edges.{coming_edge, going_edge}
use Rattle.solv_trans.specs.Inner.Readiness.{IsReady}
use Rattle.solv_trans.specs.Inner.Joining.{Joins, turn_of, AreTurns, is_early_in, from_one, to_one, settles, unsettled, to_coming, from_going, owned_by}
use Rattle.solv_trans.proofs.Lists.{in_filter, filter_in, all_members}
use Rattle.solv_trans.specs.declared.edges.Link.{Link}
use Rattle.solv_trans.proofs.Joined.{joins_by, joins_more}
use Rattle.solv_trans.proofs.Asking.{brings_is, serves_is, settled_is, comes_pack, goes_pack, in_members, packages_bound, late_is, early_is, not_both}
use Rattle.solv_list.proofs.Booleans.{and_false, false_of_not, or_cases, or_false, same_truth}
use Rattle.solv_list.proofs.Lists.{all_at, all_left, all_right, all_get}
use Rattle.solv_pool.proofs.Among.{any_from, any_gives}
use Rattle.solv_pool.specs.Needs.{serves}

unsettled_in : (b : Bool) (qs : List ℕ) (q : ℕ) → is_among (if b then [] else qs) q ≡ true → (b ≡ false) × (is_among qs q ≡ true)
unsettled_in true qs q h = absurd (false≢true h)
unsettled_in false qs q h = (refl, h)

-- constants before a test of needs
none_of : (t : Need → Bool) (xs : List Need) → list_any (λ n. t n && false) xs ≡ false
none_of t [] = refl
none_of t (n ∷ xs) = ap (λ b. b || list_any (λ m. t m && false) xs) (and_false (t n)) ∙ none_of t xs
  where
    and_false : (a : Bool) → (a && false) ≡ false
    and_false true = refl
    and_false false = refl

pull_two : (t g : Need → Bool) (c k : Bool) (xs : List Need) → list_any (λ n. t n && (c && (k && g n))) xs ≡ (c && (k && list_any (λ n. t n && g n) xs))
pull_two t g true true xs = refl
pull_two t g true false xs = none_of t xs
pull_two t g false k xs = none_of t xs

pull_three : (t g : Need → Bool) (c k l : Bool) (xs : List Need) → list_any (λ n. t n && (c && (k && (l && g n)))) xs ≡ (c && (k && (l && list_any (λ n. t n && g n) xs)))
pull_three t g true true true xs = refl
pull_three t g true true false xs = none_of t xs
pull_three t g true false l xs = none_of t xs
pull_three t g false k l xs = none_of t xs

-- a package that comes owns no edge as one that goes, and the other way
coming_only : (c k r x y z s cp gp : Bool) → cp ≡ true → gp ≡ false → (c && (k && r)) ≡ (((c && (k && (cp && r))) || (x && (y && (z && (gp && s))))) || false)
coming_only c k r x y z s cp gp e f =
    sym (or_false (c && (k && r))) ∙ ap (λ t. (c && (k && r)) || t) (sym (nothing x y z s gp f))
    ∙ ap (λ t. (c && (k && (t && r))) || (x && (y && (z && (gp && s))))) (sym e) ∙ sym (or_false ((c && (k && (cp && r))) || (x && (y && (z && (gp && s))))))
  where
    nothing : (x y z s gp : Bool) → gp ≡ false → (x && (y && (z && (gp && s)))) ≡ false
    nothing x y z s gp f = ap (λ t. x && (y && (z && (t && s)))) f ∙ ap (λ t. x && (y && t)) (and_false z) ∙ ap (λ t. x && t) (and_false y) ∙ and_false x

going_only : (c k r x y z s cp gp : Bool) → cp ≡ false → gp ≡ true → (x && (y && (z && s))) ≡ (((c && (k && (cp && r))) || (x && (y && (z && (gp && s))))) || false)
going_only c k r x y z s cp gp e f =
    ap (λ t. t || (x && (y && (z && s)))) (sym (nothing c k r cp e)) ∙ ap (λ t. (c && (k && (cp && r))) || (x && (y && (z && (t && s))))) (sym f)
    ∙ sym (or_false ((c && (k && (cp && r))) || (x && (y && (z && (gp && s))))))
  where
    nothing : (c k r cp : Bool) → cp ≡ false → (c && (k && (cp && r))) ≡ false
    nothing c k r cp e = ap (λ t. c && (k && (t && r))) e ∙ ap (λ t. c && t) (and_false k) ∙ and_false c

neither : (c k r x y z s cp gp : Bool) → cp ≡ false → gp ≡ false → false ≡ (((c && (k && (cp && r))) || (x && (y && (z && (gp && s))))) || false)
neither c k r x y z s cp gp e f =
    sym (and_false x) ∙ ap (λ t. x && t) (sym (and_false y)) ∙ ap (λ t. x && (y && t)) (sym (and_false z)) ∙ ap (λ t. x && (y && (z && (t && s)))) (sym f)
    ∙ ap (λ t. t || (x && (y && (z && (gp && s))))) (sym (nothing c k r cp e)) ∙ sym (or_false ((c && (k && (cp && r))) || (x && (y && (z && (gp && s))))))
  where
    nothing : (c k r cp : Bool) → cp ≡ false → (c && (k && (cp && r))) ≡ false
    nothing c k r cp e = ap (λ t. c && (k && (t && r))) e ∙ ap (λ t. c && t) (and_false k) ∙ and_false c

module _ (catalog : Catalog) (set : ℕ → Bool) where
  module _ (turns : List Turn) (are : AreTurns catalog set turns) (need : Need) (single : parts (dependency catalog need.dep) ≡ dependency catalog need.dep ∷ []) (these : Need → Bool) (a b : ℕ) where
    abbrev meets : ℕ → Bool
    meets = package_meets catalog (dependency catalog need.dep)

    -- the edges of one requirement, by its providers
    pub coming_same : (p : ℕ) → is_among (packages catalog) p ≡ true
        → list_any (λ q. from_one turns p need these q a b) (unsettled catalog set p (filter (package_meets catalog (dependency catalog need.dep)) (members catalog))) ≡ list_any (λ n. to_coming catalog set p these n a b) (need ∷ [])
    coming_same p is_package = same_truth _ _ to from
      where
        to : list_any (λ q. from_one turns p need these q a b) (unsettled catalog set p (filter (package_meets catalog (dependency catalog need.dep)) (members catalog))) ≡ true → list_any (λ n. to_coming catalog set p these n a b) (need ∷ []) ≡ true
        to h =
            let r = any_gives (λ q. from_one turns p need these q a b) (unsettled catalog set p (filter (package_meets catalog (dependency catalog need.dep)) (members catalog))) h in
            let u = unsettled_in (list_any (settles catalog set p) (filter (package_meets catalog (dependency catalog need.dep)) (members catalog))) (filter (package_meets catalog (dependency catalog need.dep)) (members catalog)) r.0 r.1 in
            let m = in_filter (package_meets catalog (dependency catalog need.dep)) (members catalog) r.0 u.1 in
            let one = and_parts (these need) (is_early_in turns r.0 && (eqb r.0 a && eqb p b)) r.2 in
            let two = and_parts (is_early_in turns r.0) (eqb r.0 a && eqb p b) one.1 in
            let three = and_parts (eqb r.0 a) (eqb p b) two.1 in
            let same : r.0 ≡ a = eqb-true r.0 a three.0 in
            let come : comes catalog set a ≡ true = ap (comes catalog set) (sym same) ∙ sym (early_is catalog set turns are r.0) ∙ two.0 in
            let open_ : is_met_already catalog set p (dependency catalog need.dep) ≡ false = sym (settled_is catalog set need.dep single p is_package) ∙ u.0 in
            let bring : brings catalog set a p (dependency catalog need.dep) ≡ true =
            brings_is catalog set need.dep single a p
            ∙ and_from (package_meets catalog (dependency catalog need.dep) a) (not (is_met_already catalog set p (dependency catalog need.dep))) (ap (package_meets catalog (dependency catalog need.dep)) (sym same) ∙ m.1) (ap not open_) in
            or_left _ false
            (and_from (these need) (eqb p b && (comes catalog set a && brings catalog set a p (dependency catalog need.dep))) one.0
            (and_from (eqb p b) (comes catalog set a && brings catalog set a p (dependency catalog need.dep)) three.1 (and_from (comes catalog set a) (brings catalog set a p (dependency catalog need.dep)) come bring)))

        from : list_any (λ n. to_coming catalog set p these n a b) (need ∷ []) ≡ true → list_any (λ q. from_one turns p need these q a b) (unsettled catalog set p (filter (package_meets catalog (dependency catalog need.dep)) (members catalog))) ≡ true
        from h =
            let k : to_coming catalog set p these need a b ≡ true = sym (or_false (to_coming catalog set p these need a b)) ∙ h in
            let one = and_parts (these need) (eqb p b && (comes catalog set a && brings catalog set a p (dependency catalog need.dep))) k in
            let two = and_parts (eqb p b) (comes catalog set a && brings catalog set a p (dependency catalog need.dep)) one.1 in
            let three = and_parts (comes catalog set a) (brings catalog set a p (dependency catalog need.dep)) two.1 in
            let four = and_parts (package_meets catalog (dependency catalog need.dep) a) (not (is_met_already catalog set p (dependency catalog need.dep))) (sym (brings_is catalog set need.dep single a p) ∙ three.1) in
            let open_ : list_any (settles catalog set p) (filter (package_meets catalog (dependency catalog need.dep)) (members catalog)) ≡ false =
            settled_is catalog set need.dep single p is_package ∙ false_of_not (is_met_already catalog set p (dependency catalog need.dep)) four.1 in
            ap (λ s. list_any (λ q. from_one turns p need these q a b) (if s then [] else filter (package_meets catalog (dependency catalog need.dep)) (members catalog))) open_
            ∙ any_from (λ q. from_one turns p need these q a b) (filter (package_meets catalog (dependency catalog need.dep)) (members catalog)) a
            (filter_in (package_meets catalog (dependency catalog need.dep)) (members catalog) a (in_members catalog set a (comes_pack catalog set a three.0)) four.0)
            (and_from (these need) (is_early_in turns a && (eqb a a && eqb p b)) one.0
            (and_from (is_early_in turns a) (eqb a a && eqb p b) (early_is catalog set turns are a ∙ three.0) (and_from (eqb a a) (eqb p b) (eq-eqb a a refl) two.0)))

    pub going_same : (p : ℕ) → list_any (λ q. to_one turns p need these q a b) (filter (package_meets catalog (dependency catalog need.dep)) (members catalog)) ≡ list_any (λ n. from_going catalog set p these n a b) (need ∷ [])
    going_same p = same_truth _ _ to from
      where
        to : list_any (λ q. to_one turns p need these q a b) (filter (package_meets catalog (dependency catalog need.dep)) (members catalog)) ≡ true → list_any (λ n. from_going catalog set p these n a b) (need ∷ []) ≡ true
        to h =
            let r = any_gives (λ q. to_one turns p need these q a b) (filter (package_meets catalog (dependency catalog need.dep)) (members catalog)) h in
            let m = in_filter (package_meets catalog (dependency catalog need.dep)) (members catalog) r.0 r.1 in
            let one = and_parts (these need) (not (eqb p r.0) && (late_of turns r.0 && (eqb p a && eqb r.0 b))) r.2 in
            let two = and_parts (not (eqb p r.0)) (late_of turns r.0 && (eqb p a && eqb r.0 b)) one.1 in
            let three = and_parts (late_of turns r.0) (eqb p a && eqb r.0 b) two.1 in
            let four = and_parts (eqb p a) (eqb r.0 b) three.1 in
            let same : r.0 ≡ b = eqb-true r.0 b four.1 in
            or_left _ false
            (and_from (these need) (eqb p a && (not (eqb p b) && (goes catalog set b && serves catalog b (dependency catalog need.dep)))) one.0
            (and_from (eqb p a) (not (eqb p b) && (goes catalog set b && serves catalog b (dependency catalog need.dep))) four.0
            (and_from (not (eqb p b)) (goes catalog set b && serves catalog b (dependency catalog need.dep)) (ap (λ x. not (eqb p x)) (sym same) ∙ two.0)
            (and_from (goes catalog set b) (serves catalog b (dependency catalog need.dep)) (ap (goes catalog set) (sym same) ∙ sym (late_is catalog set turns are r.0) ∙ three.0)
            (serves_is catalog set need.dep single b ∙ ap (package_meets catalog (dependency catalog need.dep)) (sym same) ∙ m.1)))))

        from : list_any (λ n. from_going catalog set p these n a b) (need ∷ []) ≡ true → list_any (λ q. to_one turns p need these q a b) (filter (package_meets catalog (dependency catalog need.dep)) (members catalog)) ≡ true
        from h =
            let k : from_going catalog set p these need a b ≡ true = sym (or_false (from_going catalog set p these need a b)) ∙ h in
            let one = and_parts (these need) (eqb p a && (not (eqb p b) && (goes catalog set b && serves catalog b (dependency catalog need.dep)))) k in
            let two = and_parts (eqb p a) (not (eqb p b) && (goes catalog set b && serves catalog b (dependency catalog need.dep))) one.1 in
            let three = and_parts (not (eqb p b)) (goes catalog set b && serves catalog b (dependency catalog need.dep)) two.1 in
            let four = and_parts (goes catalog set b) (serves catalog b (dependency catalog need.dep)) three.1 in
            any_from (λ q. to_one turns p need these q a b) (filter (package_meets catalog (dependency catalog need.dep)) (members catalog)) b
            (filter_in (package_meets catalog (dependency catalog need.dep)) (members catalog) b (in_members catalog set b (goes_pack catalog set b four.0)) (sym (serves_is catalog set need.dep single b) ∙ four.1))
            (and_from (these need) (not (eqb p b) && (late_of turns b && (eqb p a && eqb b b))) one.0
            (and_from (not (eqb p b)) (late_of turns b && (eqb p a && eqb b b)) three.0
            (and_from (late_of turns b) (eqb p a && eqb b b) (late_is catalog set turns are b ∙ four.0) (and_from (eqb p a) (eqb b b) two.0 (eq-eqb b b refl)))))

  -- the edges of a requirement by the operands of its dependency
  module _ (need : Need) (x : ℕ) (old mid new : List Link) where
    abbrev at : ℕ → Need
    at d = record need { dep = d }

    one_side : (t f g : Bool) → f ≡ g → ((t && f) || false) ≡ ((t && g) || false)
    one_side t f g e = ap (λ b. (t && b) || false) e

    pub coming_operand : (a : ℕ) → parts (dependency catalog need.dep) ≡ parts (dependency catalog a) → Joins (to_coming catalog set x) (at a ∷ []) old new → Joins (to_coming catalog set x) (need ∷ []) old new
    coming_operand a same = joins_by (to_coming catalog set x) (at a ∷ []) (need ∷ []) old new
        (λ p q. one_side true (eqb x q && (comes catalog set p && brings catalog set p x (dependency catalog a))) (eqb x q && (comes catalog set p && brings catalog set p x (dependency catalog need.dep))) (ap (λ ds. eqb x q && (comes catalog set p && list_any (λ part. package_meets catalog part p && not (is_met_already catalog set x part)) ds)) (sym same)))
        (λ p q. one_side need.pre (eqb x q && (comes catalog set p && brings catalog set p x (dependency catalog a))) (eqb x q && (comes catalog set p && brings catalog set p x (dependency catalog need.dep))) (ap (λ ds. eqb x q && (comes catalog set p && list_any (λ part. package_meets catalog part p && not (is_met_already catalog set x part)) ds)) (sym same)))

    pub going_operand : (a : ℕ) → parts (dependency catalog need.dep) ≡ parts (dependency catalog a) → Joins (from_going catalog set x) (at a ∷ []) old new → Joins (from_going catalog set x) (need ∷ []) old new
    going_operand a same = joins_by (from_going catalog set x) (at a ∷ []) (need ∷ []) old new
        (λ p q. one_side true (eqb x p && (not (eqb x q) && (goes catalog set q && serves catalog q (dependency catalog a)))) (eqb x p && (not (eqb x q) && (goes catalog set q && serves catalog q (dependency catalog need.dep)))) (ap (λ ds. eqb x p && (not (eqb x q) && (goes catalog set q && list_any (λ part. package_meets catalog part q) ds))) (sym same)))
        (λ p q. one_side need.pre (eqb x p && (not (eqb x q) && (goes catalog set q && serves catalog q (dependency catalog a)))) (eqb x p && (not (eqb x q) && (goes catalog set q && serves catalog q (dependency catalog need.dep)))) (ap (λ ds. eqb x p && (not (eqb x q) && (goes catalog set q && list_any (λ part. package_meets catalog part q) ds))) (sym same)))

    spread : (t c k f g h : Bool) → h ≡ (f || g) → ((t && (c && (k && f))) || ((t && (c && (k && g))) || false)) ≡ ((t && (c && (k && h))) || false)
    spread true true true f g h e = ap (λ b. f || b) (or_false g) ∙ sym e ∙ sym (or_false h)
    spread true true false f g h e = refl
    spread true false k f g h e = refl
    spread false c k f g h e = refl

    wide : (t c k l f g h : Bool) → h ≡ (f || g) → ((t && (c && (k && (l && f)))) || ((t && (c && (k && (l && g)))) || false)) ≡ ((t && (c && (k && (l && h)))) || false)
    wide true true true l f g h e = spread true true l f g h e
    wide true true false l f g h e = refl
    wide true false k l f g h e = refl
    wide false c k l f g h e = refl

    pub coming_both : (a b : ℕ) → parts (dependency catalog need.dep) ≡ parts (dependency catalog a) ++ parts (dependency catalog b)
        → Joins (to_coming catalog set x) (at a ∷ []) old mid → Joins (to_coming catalog set x) (at b ∷ []) mid new → Joins (to_coming catalog set x) (need ∷ []) old new
    coming_both a b same f g = joins_by (to_coming catalog set x) (at a ∷ at b ∷ []) (need ∷ []) old new
        (λ p q. spread true (eqb x q) (comes catalog set p) (brings catalog set p x (dependency catalog a)) (brings catalog set p x (dependency catalog b)) (brings catalog set p x (dependency catalog need.dep)) (whole p))
        (λ p q. spread need.pre (eqb x q) (comes catalog set p) (brings catalog set p x (dependency catalog a)) (brings catalog set p x (dependency catalog b)) (brings catalog set p x (dependency catalog need.dep)) (whole p))
        (joins_more (to_coming catalog set x) (at a ∷ []) (at b ∷ []) old mid new f g)
      where
        whole : (p : ℕ) → brings catalog set p x (dependency catalog need.dep) ≡ (brings catalog set p x (dependency catalog a) || brings catalog set p x (dependency catalog b))
        whole p = ap (list_any (λ part. package_meets catalog part p && not (is_met_already catalog set x part))) same ∙ list_any-append (λ part. package_meets catalog part p && not (is_met_already catalog set x part)) (parts (dependency catalog a)) (parts (dependency catalog b))

    pub going_both : (a b : ℕ) → parts (dependency catalog need.dep) ≡ parts (dependency catalog a) ++ parts (dependency catalog b)
        → Joins (from_going catalog set x) (at a ∷ []) old mid → Joins (from_going catalog set x) (at b ∷ []) mid new → Joins (from_going catalog set x) (need ∷ []) old new
    going_both a b same f g = joins_by (from_going catalog set x) (at a ∷ at b ∷ []) (need ∷ []) old new
        (λ p q. wide true (eqb x p) (not (eqb x q)) (goes catalog set q) (serves catalog q (dependency catalog a)) (serves catalog q (dependency catalog b)) (serves catalog q (dependency catalog need.dep)) (whole q))
        (λ p q. wide need.pre (eqb x p) (not (eqb x q)) (goes catalog set q) (serves catalog q (dependency catalog a)) (serves catalog q (dependency catalog b)) (serves catalog q (dependency catalog need.dep)) (whole q))
        (joins_more (from_going catalog set x) (at a ∷ []) (at b ∷ []) old mid new f g)
      where
        whole : (q : ℕ) → serves catalog q (dependency catalog need.dep) ≡ (serves catalog q (dependency catalog a) || serves catalog q (dependency catalog b))
        whole q = ap (list_any (λ part. package_meets catalog part q)) same ∙ list_any-append (λ part. package_meets catalog part q) (parts (dependency catalog a)) (parts (dependency catalog b))

  -- the edges of all requirements of a package
  module _ (p : ℕ) (held : Package) (at : package_at catalog p ≡ Some held) (these : Need → Bool) (a b : ℕ) where
    requires_are : (asks : Dep ℕ → Bool) → list_any (λ n. these n && asks (dependency catalog n.dep)) held.requires_ ≡ requires_some catalog set these asks p
    requires_are asks = ap (λ o. passes o (λ (x : Package). list_any (λ n. these n && asks (dependency catalog n.dep)) x.requires_)) (sym at)

    pub coming_owned : comes catalog set p ≡ true → list_any (λ n. to_coming catalog set p these n a b) held.requires_ ≡ list_any (λ x. owned_by catalog set these x a b) (p ∷ [])
    coming_owned c =
        pull_two these (λ n. brings catalog set a p (dependency catalog n.dep)) (eqb p b) (comes catalog set a) held.requires_
        ∙ ap (λ t. eqb p b && (comes catalog set a && t)) (requires_are (brings catalog set a p))
        ∙ coming_only (eqb p b) (comes catalog set a) (requires_some catalog set these (brings catalog set a p) p) (eqb p a) (not (eqb p b)) (goes catalog set b) (requires_some catalog set these (serves catalog b) p) (comes catalog set p) (goes catalog set p) c (not_both catalog set p c)

    pub going_owned : goes catalog set p ≡ true → list_any (λ n. from_going catalog set p these n a b) held.requires_ ≡ list_any (λ x. owned_by catalog set these x a b) (p ∷ [])
    going_owned g =
        pull_three these (λ n. serves catalog b (dependency catalog n.dep)) (eqb p a) (not (eqb p b)) (goes catalog set b) held.requires_
        ∙ ap (λ t. eqb p a && (not (eqb p b) && (goes catalog set b && t))) (requires_are (serves catalog b))
        ∙ going_only (eqb p b) (comes catalog set a) (requires_some catalog set these (brings catalog set a p) p) (eqb p a) (not (eqb p b)) (goes catalog set b) (requires_some catalog set these (serves catalog b) p) (comes catalog set p) (goes catalog set p)
        (false_from_ne_true (comes catalog set p) (λ c. false≢true (sym (not_both catalog set p c) ∙ g))) g

  pub nothing_owned : (p : ℕ) → comes catalog set p ≡ false → goes catalog set p ≡ false → (these : Need → Bool) (a b : ℕ) → list_any {X = ℕ} (λ x. owned_by catalog set these x a b) [] ≡ list_any (λ x. owned_by catalog set these x a b) (p ∷ [])
  nothing_owned p c g these a b = neither (eqb p b) (comes catalog set a) (requires_some catalog set these (brings catalog set a p) p) (eqb p a) (not (eqb p b)) (goes catalog set b) (requires_some catalog set these (serves catalog b) p) (comes catalog set p) (goes catalog set p) c g

  -- no package brings what it meets itself
  no_self_part : (p : ℕ) (ds : List (Dep ℕ)) → list_any (λ part. package_meets catalog part p && not (is_met_already catalog set p part)) ds ≡ false
  no_self_part p [] = refl
  no_self_part p (d ∷ ds) = ap (λ t. t || list_any (λ part. package_meets catalog part p && not (is_met_already catalog set p part)) ds) (never (package_meets catalog d p) _) ∙ no_self_part p ds
    where
      never : (x y : Bool) → (x && not (x || y)) ≡ false
      never true y = refl
      never false y = refl

  no_self : (p : ℕ) (these : Need → Bool) (o : Option Package) → passes o (λ x. list_any (λ n. these n && brings catalog set p p (dependency catalog n.dep)) x.requires_) ≡ false
  no_self p these None = refl
  no_self p these (Some x) = all_no x.requires_
    where
      all_no : (ns : List Need) → list_any (λ n. these n && brings catalog set p p (dependency catalog n.dep)) ns ≡ false
      all_no [] = refl
      all_no (n ∷ ns) = ap (λ t. (these n && t) || list_any (λ m. these m && brings catalog set p p (dependency catalog m.dep)) ns) (no_self_part p (parts (dependency catalog n.dep))) ∙ ap (λ t. t || list_any (λ m. these m && brings catalog set p p (dependency catalog m.dep)) ns) (and_false (these n)) ∙ all_no ns

  -- together they are the edges
  pub all_owned : (these : Need → Bool) (a b : ℕ) → list_any (λ x. owned_by catalog set these x a b) (packages catalog) ≡ edge_by catalog set these a b
  all_owned these a b = same_truth _ _ to from
    where
      to : list_any (λ x. owned_by catalog set these x a b) (packages catalog) ≡ true → edge_by catalog set these a b ≡ true
      to h =
          let r = any_gives (λ x. owned_by catalog set these x a b) (packages catalog) h in
          elim (or_cases (eqb r.0 b && (comes catalog set a && (comes catalog set r.0 && requires_some catalog set these (brings catalog set a r.0) r.0))) (eqb r.0 a && (not (eqb r.0 b) && (goes catalog set b && (goes catalog set r.0 && requires_some catalog set these (serves catalog b) r.0)))) r.2) [
            | inl k ↦
                let one = and_parts (eqb r.0 b) (comes catalog set a && (comes catalog set r.0 && requires_some catalog set these (brings catalog set a r.0) r.0)) k in
                let same : r.0 ≡ b = eqb-true r.0 b one.0 in
                let edge : coming_edge catalog set these a b ≡ true = ap (λ x. comes catalog set a && (comes catalog set x && requires_some catalog set these (brings catalog set a x) x)) (sym same) ∙ one.1 in
                let three = and_parts (comes catalog set b) (requires_some catalog set these (brings catalog set a b) b) (and_parts (comes catalog set a) (comes catalog set b && requires_some catalog set these (brings catalog set a b) b) edge).1 in
                let other : eqb a b ≡ false = ne_eqb a b (λ e. false≢true (sym (no_self b these (package_at catalog b)) ∙ ap (λ x. requires_some catalog set these (brings catalog set x b) b) (sym e) ∙ three.1)) in
                and_from (not (eqb a b)) (coming_edge catalog set these a b || going_edge catalog set these a b) (ap not other) (or_left (coming_edge catalog set these a b) (going_edge catalog set these a b) edge)
            | inr k ↦
                let one = and_parts (eqb r.0 a) (not (eqb r.0 b) && (goes catalog set b && (goes catalog set r.0 && requires_some catalog set these (serves catalog b) r.0))) k in
                let same : r.0 ≡ a = eqb-true r.0 a one.0 in
                let two = and_parts (not (eqb a b)) (goes catalog set b && (goes catalog set a && requires_some catalog set these (serves catalog b) a))
                (ap (λ x. not (eqb x b) && (goes catalog set b && (goes catalog set x && requires_some catalog set these (serves catalog b) x))) (sym same) ∙ one.1) in
                let three = and_parts (goes catalog set b) (goes catalog set a && requires_some catalog set these (serves catalog b) a) two.1 in
                let four = and_parts (goes catalog set a) (requires_some catalog set these (serves catalog b) a) three.1 in
                and_from (not (eqb a b)) (coming_edge catalog set these a b || going_edge catalog set these a b) two.0
                (or_right (coming_edge catalog set these a b) (going_edge catalog set these a b)
                (and_from (goes catalog set a) (goes catalog set b && requires_some catalog set these (serves catalog b) a) four.0 (and_from (goes catalog set b) (requires_some catalog set these (serves catalog b) a) three.0 four.1)))
          ]

      from : edge_by catalog set these a b ≡ true → list_any (λ x. owned_by catalog set these x a b) (packages catalog) ≡ true
      from h =
          let one = and_parts (not (eqb a b)) (coming_edge catalog set these a b || going_edge catalog set these a b) h in
          elim (or_cases (coming_edge catalog set these a b) (going_edge catalog set these a b) one.1) [
            | inl k ↦
                let two = and_parts (comes catalog set a) (comes catalog set b && requires_some catalog set these (brings catalog set a b) b) k in
                let three = and_parts (comes catalog set b) (requires_some catalog set these (brings catalog set a b) b) two.1 in
                any_from (λ x. owned_by catalog set these x a b) (packages catalog) b (comes_pack catalog set b three.0)
                (or_left _ _ (and_from (eqb b b) (comes catalog set a && (comes catalog set b && requires_some catalog set these (brings catalog set a b) b)) (eq-eqb b b refl) k))
            | inr k ↦
                let two = and_parts (goes catalog set a) (goes catalog set b && requires_some catalog set these (serves catalog b) a) k in
                let three = and_parts (goes catalog set b) (requires_some catalog set these (serves catalog b) a) two.1 in
                any_from (λ x. owned_by catalog set these x a b) (packages catalog) a (goes_pack catalog set a two.0)
                (or_right (eqb a b && (comes catalog set a && (comes catalog set a && requires_some catalog set these (brings catalog set a a) a))) _
                (and_from (eqb a a) (not (eqb a b) && (goes catalog set b && (goes catalog set a && requires_some catalog set these (serves catalog b) a))) (eq-eqb a a refl)
                (and_from (not (eqb a b)) (goes catalog set b && (goes catalog set a && requires_some catalog set these (serves catalog b) a)) one.0
                (and_from (goes catalog set b) (goes catalog set a && requires_some catalog set these (serves catalog b) a) three.0 (and_from (goes catalog set a) (requires_some catalog set these (serves catalog b) a) two.0 three.1)))))
          ]

all_of_map : (p : ℕ → Bool) (needs : List Need) → list_all p (map (λ (need : Need). need.dep) needs) ≡ true → list_all (λ need. p need.dep) needs ≡ true
all_of_map p [] h = refl
all_of_map p (need ∷ needs) h = let both = and_parts (p need.dep) (list_all p (map (λ (n : Need). n.dep) needs)) h in and_from (p need.dep) (list_all (λ (n : Need). p n.dep) needs) both.0 (all_of_map p needs both.1)

-- a requirement of a package of a task that is ready
module _ (task : Task) (index : Index) (k : ℕ) (held : Package) (ready : IsReady task index) (at : slice_get task.universe.packages k ≡ Some held) (i : ℕ) (need : Need) (lt : i < length held.requires_) (is : need ≡ get_or held.requires_ i need) where
  pub need_below : need.dep < length task.pool.nodes
  need_below =
      let fit : fits (length task.pool.names) (length task.pool.nodes) (length task.universe.repos) held ≡ true = all_at (fits (length task.pool.names) (length task.pool.nodes) (length task.universe.repos)) task.universe.packages k held ready.over.packages at in
      let related : list_all (λ d. nat_lt d (length task.pool.nodes)) (relations_of held) ≡ true = (and_parts (list_all (λ d. nat_lt d (length task.pool.nodes)) (relations_of held)) _ (and_parts (list_all (λ n. nat_lt n (length task.pool.names)) (names_of held)) _ fit).1).0 in
      let behind = all_right (λ d. nat_lt d (length task.pool.nodes)) held.provides _ related in
      ltb-true need.dep (length task.pool.nodes)
      (all_get (λ (n : Need). nat_lt n.dep (length task.pool.nodes)) held.requires_ i need (all_of_map (λ d. nat_lt d (length task.pool.nodes)) held.requires_ (all_left (λ d. nat_lt d (length task.pool.nodes)) (map (λ (n : Need). n.dep) held.requires_) _ behind)) lt is)

-- the providers are packages, or the system
pub providers_below : (catalog : Catalog) (set : ℕ → Bool) (m : ℕ → Bool) (n : ℕ) → n ≡ length catalog.universe.packages + 1 → list_all (λ q. nat_lt q n) (filter m (members catalog)) ≡ true
providers_below catalog set m n e = all_members (λ q. nat_lt q n) (filter m (members catalog)) (λ q i.
    elim (or_cases (eqb 0 q) (is_among (packages catalog) q) (in_filter m (members catalog) q i).0) [
      | inl z ↦ less q (omega (arith, eqb-true 0 q z, e))
      | inr k ↦ less q (omega (arith, packages_bound catalog set q k, e))
    ])
  where
    less : (q : ℕ) → q < n → nat_lt q n ≡ true
    less q lt = grind (arith, nat_tests, lt)

-- what a turn says
pub early_comes : (catalog : Catalog) (set : ℕ → Bool) (p : ℕ) → turn_of catalog set p ≡ Early → comes catalog set p ≡ true
early_comes catalog set p h = by (comes catalog set p) (goes catalog set p) h
  where
    by : (c g : Bool) → (if c then Early else if g then Late else Never) ≡ Early → c ≡ true
    by true g e = refl
    by false true e = cc
    by false false e = cc

pub late_goes : (catalog : Catalog) (set : ℕ → Bool) (p : ℕ) → turn_of catalog set p ≡ Late → goes catalog set p ≡ true
late_goes catalog set p h = by (comes catalog set p) (goes catalog set p) h
  where
    by : (c g : Bool) → (if c then Early else if g then Late else Never) ≡ Late → g ≡ true
    by true g e = cc
    by false true e = refl
    by false false e = cc

pub never_moves : (catalog : Catalog) (set : ℕ → Bool) (p : ℕ) → turn_of catalog set p ≡ Never → (comes catalog set p ≡ false) × (goes catalog set p ≡ false)
never_moves catalog set p h = by (comes catalog set p) (goes catalog set p) h
  where
    by : (c g : Bool) → (if c then Early else if g then Late else Never) ≡ Never → (c ≡ false) × (g ≡ false)
    by true g e = cc
    by false true e = cc
    by false false e = (refl, refl)
