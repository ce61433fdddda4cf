-- Walks over relations from what serves a supplement to the members that have it.
use Rattle.std.proofs.Common.{◌≡◌, ℕ, ◌+◌, ◌<◌, Bool, true, false, ◌&&◌, ◌||◌, List, [], ◌∷◌, ◌++◌, length, inl, inr, refl, sym, ap, ◌∙◌, arith, eqb, eq-eqb, Option, Some, None}
use Rattle.std.specs.List.{list_any}
use Rattle.std.proofs.lemmas.Bool.{and_parts, and_from, false≢true, eqb-true, or_left, or_right}
use Rattle.solv_list.proofs.Booleans.{or_cases}
use Rattle.solv_pool.specs.Prelude.{is_among, passes, Catalog, members, package_at, dependency, package_meets, holds}
use Rattle.solv_pool.specs.Parts.{parts}
use Rattle.solv_pool.specs.Needs.{serves}
use Rattle.solv_pool.specs.declared.packages.Package.{Package}
use Rattle.solv_pool.proofs.Among.{among_filter, any_from, any_gives}
use Rattle.solv_graph.specs.Walks.{is_walk, Leads}
use Rattle.solv_graph.specs.Inner.Graphs.{edge_to}
use Rattle.solv_graph.proofs.Walking.{leads_step, leads_through}
use Rattle.solv_prov.specs.Index.{providers_of}
use Rattle.solv_clean.specs.Inner.Tables.{is_marked}
use Rattle.solv_clean.specs.Inner.Finding.{serving}
use Rattle.solv_clean.specs.Inner.Joining.{Adds, from_member, Grows, Says, a_serving, a_part, a_supplement, LeadFromServing, LeadByOne, LeadTo, AreJoined, AreSupplements, has_supplement, supplements_something}
use Rattle.solv_clean.proofs.Served.{marked_below, single, serves_both, in_members}

pub grows_none : (old : List (List ℕ)) → Grows old old
grows_none old = record { size = refl; keeps = λ a b h. h }

pub grows_more : (old mid new : List (List ℕ)) → Grows old mid → Grows mid new → Grows old new
grows_more old mid new f g = record { size = g.size ∙ f.size; keeps = λ a b h. g.keeps a b (f.keeps a b h) }

pub grows_adds : {X : Type 0} (asks : X → ℕ → ℕ → Bool) (xs : List X) (old new : List (List ℕ)) → Adds asks xs old new → Grows old new
grows_adds asks xs old new f = record { size = f.size; keeps = λ a b h. f.edges a b ∙ or_left (edge_to old a b) (list_any (λ x. asks x a b) xs) h }

-- one edge more
pub grows_edge : (v w : ℕ) (old new : List (List ℕ)) → length new ≡ length old → ((a b : ℕ) → edge_to new a b ≡ (edge_to old a b || (eqb v a && eqb w b))) → Grows old new
grows_edge v w old new size joined = record { size = size; keeps = λ a b h. joined a b ∙ or_left (edge_to old a b) (eqb v a && eqb w b) h }

edge_there : (v w : ℕ) (old new : List (List ℕ)) → ((a b : ℕ) → edge_to new a b ≡ (edge_to old a b || (eqb v a && eqb w b))) → edge_to new v w ≡ true
edge_there v w old new joined = joined v w ∙ or_right (edge_to old v w) (eqb v v && eqb w w) (and_from (eqb v v) (eqb w w) (eq-eqb v v refl) (eq-eqb w w refl))

walk_more : (old new : List (List ℕ)) → Grows old new → (p : ℕ) (over : List ℕ) → is_walk (edge_to old) p over ≡ true → is_walk (edge_to new) p over ≡ true
walk_more old new g p [] h = refl
walk_more old new g p (q ∷ over) h =
    let both = and_parts (edge_to old p q) (is_walk (edge_to old) q over) h in
    and_from (edge_to new p q) (is_walk (edge_to new) q over) (g.keeps p q both.0) (walk_more old new g q over both.1)

-- what has no supplement has none of a kind
nothing_passes : (o : Option Package) (f : ℕ → Bool) → passes o (λ (a : Package). list_any (λ (d : ℕ). true) a.supplements) ≡ false → passes o (λ (a : Package). list_any f a.supplements) ≡ false
nothing_passes None f h = refl
nothing_passes (Some a) f h = nothing_listed a.supplements h
  where
    nothing_listed : (xs : List ℕ) → list_any (λ (d : ℕ). true) xs ≡ false → list_any f xs ≡ false
    nothing_listed [] e = refl
    nothing_listed (x ∷ xs) e = absurd (false≢true (sym e))

pub leads_more : (old new : List (List ℕ)) → Grows old new → (p q : ℕ) → Leads (edge_to old) p q → Leads (edge_to new) p q
leads_more old new g p q l = record { over = l.over; is = walk_more old new g p l.over l.is; ends = l.ends }

module _ (catalog : Catalog) (may : List Bool) where
  pub served_more : (old new : List (List ℕ)) → Grows old new → (id : ℕ) → LeadFromServing catalog may old id → LeadFromServing catalog may new id
  served_more old new g id f p k s = leads_more old new g p (length may + id) (f p k s)

  -- what serves one relation alone serves another alone
  pub served_alike : (rows : List (List ℕ)) (o id : ℕ) → edge_to rows (length may + o) (length may + id) ≡ true → LeadFromServing catalog may rows o → (p : ℕ) → is_marked may p ≡ true → serving catalog o p ≡ true → Leads (edge_to rows) p (length may + id)
  served_alike rows o id e f p k s = leads_through (edge_to rows) p (length may + o) (length may + id) (f p k s) (leads_step (edge_to rows) (length may + o) (length may + id) e)

  -- one relation more was gone through
  pub joined_noted : (P P' : List Bool) (rows : List (List ℕ)) (id : ℕ) → length P' ≡ length P → ((y : ℕ) → y < length P → is_marked P' y ≡ (is_marked P y || eqb id y))
      → LeadFromServing catalog may rows id → AreJoined catalog may P rows → AreJoined catalog may P' rows
  joined_noted P P' rows id size noted f are = record {
    size = are.size;
    sound = are.sound;
    served = λ y h. let low : y < length P = omega (arith, marked_below P' y h, size) in
        elim (or_cases (is_marked P y) (eqb id y) (sym (noted y low) ∙ h)) [
          | inl e ↦ are.served y e
          | inr e ↦ λ p k s. let same : id ≡ y = eqb-true id y e in
              let l : Leads (edge_to rows) p (length may + id) = f p k (ap (λ z. serving catalog z p) same ∙ s) in
              record { over = l.over; is = l.is; ends = l.ends ∙ ap (λ z. length may + z) same }
        ];
  }

  -- more edges that say something
  joined_more : (P : List Bool) (old new : List (List ℕ)) → Grows old new → ((a b : ℕ) → edge_to new a b ≡ true → Says catalog may a b) → AreJoined catalog may P old → AreJoined catalog may P new
  joined_more P old new g sound are = record { size = g.size ∙ are.size; sound = sound; served = λ y h. served_more old new g y (are.served y h) }

  -- edges from the members that meet a relation
  module _ (each : length may ≡ length catalog.universe.packages + 1) (id : ℕ) (below : id < length catalog.pool.nodes) (alone : parts (dependency catalog id) ≡ dependency catalog id ∷ []) (old new : List (List ℕ))
      (adds : Adds (from_member may (length may + id)) (providers_of catalog id) old new) where
    abbrev meets : ℕ → Bool
    meets = package_meets catalog (dependency catalog id)

    says_itself : (P : List Bool) → AreJoined catalog may P old → (a b : ℕ) → edge_to new a b ≡ true → Says catalog may a b
    says_itself P are a b h = elim (or_cases (edge_to old a b) (list_any (λ x. from_member may (length may + id) x a b) (providers_of catalog id)) (sym (adds.edges a b) ∙ h)) [
      | inl e ↦ are.sound a b e
      | inr e ↦ let r = any_gives (λ x. from_member may (length may + id) x a b) (providers_of catalog id) e in
          let one = and_parts (is_marked may r.0) (eqb r.0 a && eqb (length may + id) b) r.2 in
          let two = and_parts (eqb r.0 a) (eqb (length may + id) b) one.1 in
          let is : r.0 ≡ a = eqb-true r.0 a two.0 in
          let among = and_parts (is_among (members catalog) r.0) (meets r.0) (sym (among_filter meets (members catalog) r.0) ∙ r.1) in
          a_serving id (sym (eqb-true (length may + id) b two.1)) below (ap (is_marked may) (sym is) ∙ one.0) (single catalog (dependency catalog id) alone a ∙ ap meets (sym is) ∙ among.1)
    ]

    pub joined_itself : (P : List Bool) → AreJoined catalog may P old → AreJoined catalog may P new
    joined_itself P are = joined_more P old new (grows_adds (from_member may (length may + id)) (providers_of catalog id) old new adds) (says_itself P are) are

    pub served_itself : LeadFromServing catalog may new id
    served_itself p k s =
        let there : is_among (providers_of catalog id) p ≡ true = among_filter meets (members catalog) p ∙ and_from (is_among (members catalog) p) (meets p) (in_members catalog may each p k) (sym (single catalog (dependency catalog id) alone p) ∙ s) in
        let asked : from_member may (length may + id) p p (length may + id) ≡ true =
        and_from (is_marked may p) (eqb p p && eqb (length may + id) (length may + id)) k (and_from (eqb p p) (eqb (length may + id) (length may + id)) (eq-eqb p p refl) (eq-eqb (length may + id) (length may + id) refl)) in
        leads_step (edge_to new) p (length may + id)
        (adds.edges p (length may + id) ∙ or_right (edge_to old p (length may + id)) (list_any (λ x. from_member may (length may + id) x p (length may + id)) (providers_of catalog id))
        (any_from (λ x. from_member may (length may + id) x p (length may + id)) (providers_of catalog id) p there asked))

  -- an edge from an operand
  module _ (o id : ℕ) (below : id < length catalog.pool.nodes) (wider : (p : ℕ) → serving catalog o p ≡ true → serving catalog id p ≡ true) (old new : List (List ℕ)) (size : length new ≡ length old)
      (joined : (a b : ℕ) → edge_to new a b ≡ (edge_to old a b || (eqb (length may + o) a && eqb (length may + id) b))) where
    pub joined_over : (P : List Bool) → AreJoined catalog may P old → AreJoined catalog may P new
    joined_over P are = joined_more P old new (grows_edge (length may + o) (length may + id) old new size joined) says are
      where
        says : (a b : ℕ) → edge_to new a b ≡ true → Says catalog may a b
        says a b h = elim (or_cases (edge_to old a b) (eqb (length may + o) a && eqb (length may + id) b) (sym (joined a b) ∙ h)) [
          | inl e ↦ are.sound a b e
          | inr e ↦ let both = and_parts (eqb (length may + o) a) (eqb (length may + id) b) e in a_part o id (sym (eqb-true (length may + o) a both.0)) (sym (eqb-true (length may + id) b both.1)) below wider
        ]

    pub served_over : LeadFromServing catalog may old o → (p : ℕ) → is_marked may p ≡ true → serving catalog o p ≡ true → Leads (edge_to new) p (length may + id)
    served_over f = served_alike new o id (edge_there (length may + o) (length may + id) old new joined) (served_more old new (grows_edge (length may + o) (length may + id) old new size joined) o f)

  -- edges from two operands
  module _ (a b id : ℕ) (below : id < length catalog.pool.nodes) (by : parts (dependency catalog id) ≡ parts (dependency catalog a) ++ parts (dependency catalog b)) (first grown mid new : List (List ℕ)) (grows : Grows first grown)
      (size : length mid ≡ length grown) (joined : (x y : ℕ) → edge_to mid x y ≡ (edge_to grown x y || (eqb (length may + a) x && eqb (length may + id) y)))
      (size' : length new ≡ length mid) (joined' : (x y : ℕ) → edge_to new x y ≡ (edge_to mid x y || (eqb (length may + b) x && eqb (length may + id) y))) where
    by_first : (p : ℕ) → serving catalog a p ≡ true → serving catalog id p ≡ true
    by_first p s = serves_both catalog id a b by p ∙ or_left (serving catalog a p) (serving catalog b p) s

    by_second : (p : ℕ) → serving catalog b p ≡ true → serving catalog id p ≡ true
    by_second p s = serves_both catalog id a b by p ∙ or_right (serving catalog a p) (serving catalog b p) s

    pub joined_both : (P : List Bool) → AreJoined catalog may P grown → AreJoined catalog may P new
    joined_both P are = joined_over b id below by_second mid new size' joined' P (joined_over a id below by_first grown mid size joined P are)

    pub served_both : LeadFromServing catalog may first a → LeadFromServing catalog may grown b → LeadFromServing catalog may new id
    served_both f g p k s = elim (or_cases (serving catalog a p) (serving catalog b p) (sym (serves_both catalog id a b by p) ∙ s)) [
      | inl e ↦ leads_more mid new (grows_edge (length may + b) (length may + id) mid new size' joined') p (length may + id) (served_over a id below by_first grown mid size joined (served_more first grown grows a f) p k e)
      | inr e ↦ served_over b id below by_second mid new size' joined' (served_more grown mid (grows_edge (length may + a) (length may + id) grown mid size joined) b g) p k e
    ]

  -- an edge to a member that has a supplement which holds
  module _ (q id : ℕ) (member : is_marked may q ≡ true) (has : has_supplement catalog q id ≡ true) (held : holds catalog (dependency catalog id) (is_marked may) ≡ true) (old new : List (List ℕ)) (size : length new ≡ length old)
      (joined : (a b : ℕ) → edge_to new a b ≡ (edge_to old a b || (eqb (length may + id) a && eqb q b))) where
    pub joined_supplement : (P : List Bool) → AreJoined catalog may P old → AreJoined catalog may P new
    joined_supplement P are = joined_more P old new (grows_edge (length may + id) q old new size joined) says are
      where
        says : (a b : ℕ) → edge_to new a b ≡ true → Says catalog may a b
        says a b h = elim (or_cases (edge_to old a b) (eqb (length may + id) a && eqb q b) (sym (joined a b) ∙ h)) [
          | inl e ↦ are.sound a b e
          | inr e ↦ let both = and_parts (eqb (length may + id) a) (eqb q b) e in
              let is : q ≡ b = eqb-true q b both.1 in
              a_supplement id (sym (eqb-true (length may + id) a both.0)) (ap (is_marked may) (sym is) ∙ member) (ap (λ x. has_supplement catalog x id) (sym is) ∙ has) held
        ]

    pub leads_supplement : LeadFromServing catalog may old id → LeadByOne catalog may new q id
    leads_supplement f p k h =
        let s : serving catalog id p ≡ true = (and_parts (holds catalog (dependency catalog id) (is_marked may)) (serving catalog id p) h).1 in
        leads_through (edge_to new) p (length may + id) q (leads_more old new (grows_edge (length may + id) q old new size joined) p (length may + id) (f p k s)) (leads_step (edge_to new) (length may + id) q (edge_there (length may + id) q old new joined))

  -- one that does not hold
  pub leads_not : (rows : List (List ℕ)) (q id : ℕ) → holds catalog (dependency catalog id) (is_marked may) ≡ false → LeadByOne catalog may rows q id
  leads_not rows q id h p k both = absurd (false≢true (sym h ∙ (and_parts (holds catalog (dependency catalog id) (is_marked may)) (serving catalog id p) both).0))

  pub by_more : (old new : List (List ℕ)) → Grows old new → (q id : ℕ) → LeadByOne catalog may old q id → LeadByOne catalog may new q id
  by_more old new g q id f p k h = leads_more old new g p q (f p k h)

  pub to_more : (old new : List (List ℕ)) → Grows old new → (q : ℕ) → LeadTo catalog may old q → LeadTo catalog may new q
  to_more old new g q f p k m h = leads_more old new g p q (f p k m h)

  -- by all of its supplements, where it is in the set, and to what is not
  pub leads_all : (rows : List (List ℕ)) (q : ℕ) (a : Package) → package_at catalog q ≡ Some a → ((id : ℕ) → is_among a.supplements id ≡ true → LeadByOne catalog may rows q id) → LeadTo catalog may rows q
  leads_all rows q a at f p k m h =
      let here : list_any (λ id. holds catalog (dependency catalog id) (is_marked may) && serving catalog id p) a.supplements ≡ true =
      ap (λ o. passes o (λ (b : Package). list_any (λ id. holds catalog (dependency catalog id) (is_marked may) && serves catalog p (dependency catalog id)) b.supplements)) (sym at) ∙ h in
      let r = any_gives (λ id. holds catalog (dependency catalog id) (is_marked may) && serving catalog id p) a.supplements here in
      f r.0 r.1 p k r.2

  pub leads_out : (rows : List (List ℕ)) (q : ℕ) → is_marked may q ≡ false → LeadTo catalog may rows q
  leads_out rows q h p k m s = absurd (false≢true (sym h ∙ m))

  -- where no package supplements anything, a graph without an edge will do
  pub supplements_none : (rows : List (List ℕ)) → length may ≡ length catalog.universe.packages + 1 → ((a b : ℕ) → edge_to rows a b ≡ false)
      → ((q : ℕ) → q < length catalog.universe.packages + 1 → supplements_something catalog q ≡ false) → AreSupplements catalog may rows
  supplements_none rows each none nothing = record {
    sound = λ a b h. absurd (false≢true (sym (none a b) ∙ h));
    whole = λ q p k m h. let low : q < length catalog.universe.packages + 1 = omega (arith, marked_below may q m, each) in
        absurd (false≢true (sym (nothing_passes (package_at catalog q) (λ id. holds catalog (dependency catalog id) (is_marked may) && serving catalog id p) (nothing q low)) ∙ h));
  }
