-- A search finds where walks lead.
use Rattle.std.proofs.Common.{◌≡◌, ℕ, zero, suc, ◌+◌, ◌-◌, ◌<◌, ◌≤◌, Bool, true, false, ◌&&◌, ◌||◌, List, [], ◌∷◌, length, take, inl, inr, refl, sym, ap, ◌∙◌, arith, Option, Some, None}
use Rattle.std.specs.Prelude.{slice_index, sum_by, if◌then◌else◌, nat_lt}
use Rattle.std.specs.List.{list_any}
use Rattle.std.proofs.lemmas.Bool.{and_parts, and_from, false≢true, false_from_ne_true, or_left, or_right, cases_lt}
use Rattle.std.proofs.lemmas.Bool.Decides.{eqb_tells, nat_tests}
use Rattle.solv_list.proofs.Booleans.{or_cases, or_false, same_truth}
use Rattle.solv_list.proofs.Lists.{below_true}
use Rattle.solv_pool.specs.Prelude.{is_among, passes, Catalog, members, package_at, dependency, holds}
use Rattle.solv_pool.specs.Cleaning.{needed_from}
use Rattle.solv_pool.specs.Needs.{needs, serves, serves_package, supplements}
use Rattle.solv_pool.specs.declared.packages.Package.{Package}
use Rattle.solv_pool.proofs.Among.{any_from, any_gives}
use Rattle.solv_graph.specs.Inner.Graphs.{edge_to}
use Rattle.solv_graph.specs.Reaching.{LeadsFrom, ReachedIsWhereWalksLead}
use Rattle.solv_graph.proofs.Walking.{leads_here, leads_step, leads_through, closed_holds}
use Rattle.solv_clean.specs.Inner.Tables.{is_marked, IsWithRelations}
use Rattle.solv_clean.specs.Inner.Finding.{AreListed, Finds, itself, serving, serving_package, next_to}
use Rattle.solv_clean.specs.Inner.Joining.{AreSupplements, Says, a_serving, a_part, a_supplement, has_supplement}
use Rattle.solv_clean.specs.Inner.Searching.{edge_in, HasBegun, IsFound}
use Rattle.solv_clean.proofs.Served.{marked_below, in_members, asks_nothing}
use Rattle.solv_graph.specs.Inner.Searching.{one_if}
use Rattle.solv_graph.proofs.Marks.{ones_within}

taken : (M : List Bool) (n q : ℕ) → q < n → is_marked (take n M) q ≡ is_marked M q
taken M zero q lt = absurd (omega (arith, lt))
taken [] (suc n) q lt = refl
taken (x ∷ M) (suc n) zero lt = refl
taken (x ∷ M) (suc n) (suc q) lt = taken M n q (omega (arith, lt))

taken_past : (M : List Bool) (n q : ℕ) → n ≤ q → is_marked (take n M) q ≡ false
taken_past M zero q le = refl
taken_past [] (suc n) q le = refl
taken_past (x ∷ M) (suc n) zero le = absurd (omega (arith, le))
taken_past (x ∷ M) (suc n) (suc q) le = taken_past M n q (omega (arith, le))

sum_ones : (M : List Bool) → ((q : ℕ) → is_marked M q ≡ false) → sum_by one_if M ≡ 0
sum_ones [] none = refl
sum_ones (true ∷ M) none = absurd (false≢true (sym (none 0)))
sum_ones (false ∷ M) none = sum_ones M (λ q. none (suc q))

-- the members from which a search starts
pub has_begun : (may : List Bool) (starts : List ℕ) (M0 M : List Bool) (F : List ℕ) → length M0 ≡ length may → ((q : ℕ) → is_marked M0 q ≡ false) → ((q : ℕ) → is_among starts q ≡ true → is_marked may q ≡ true)
    → Finds may itself starts M0 [] M F → HasBegun may starts M F
has_begun may starts M0 M F size none inside f = record {
  size = f.size ∙ size;
  listing = f.listing (record { marked = λ k h. absurd (omega arith); listed = λ q h. absurd (false≢true (sym (none q) ∙ h)); count = sum_ones M0 none });
  inside = λ q h. elim (f.sound q h) [ inl k ↦ absurd (false≢true (sym (none q) ∙ k)) | inr k ↦ k.0 ];
  started = λ q i. f.whole q (inside q i) i;
  only = λ q h. elim (f.sound q h) [ inl k ↦ absurd (false≢true (sym (none q) ∙ k)) | inr k ↦ k.1 ];
}

module _ (next : ℕ → ℕ → Bool) (may : List Bool) (starts : List ℕ) where
  abbrev edge : ℕ → ℕ → Bool
  edge = edge_in may next

  -- the marking after so many of the listed were looked at
  pub record Going (M : List Bool) (F : List ℕ) (i : ℕ) : Type 0 where
    pub size : length M ≡ length may
    pub listing : AreListed M F
    pub started : (q : ℕ) → is_among starts q ≡ true → is_marked M q ≡ true
    pub inside : (q : ℕ) → is_marked M q ≡ true → is_marked may q ≡ true
    pub sound : (q : ℕ) → is_marked M q ≡ true → LeadsFrom (edge_in may next) starts q
    pub closed : (k : ℕ) → k < i → k < length F → (y : ℕ) → edge_in may next (slice_index F k) y ≡ true → is_marked M y ≡ true

  pub going_start : (M : List Bool) (F : List ℕ) → HasBegun may starts M F → Going M F 0
  going_start M F b = record {
    size = b.size;
    listing = b.listing;
    started = b.started;
    inside = b.inside;
    sound = λ q h. record { start = q; is_start = b.only q h; leads = leads_here edge q };
    closed = λ k h. absurd (omega arith);
  }

  pub going_visit : (M : List Bool) (F : List ℕ) (i : ℕ) (M' : List Bool) (F' : List ℕ) → i < length F → Finds may next (slice_index F i ∷ []) M F M' F' → Going M F i → Going M' F' (i + 1)
  going_visit M F i M' F' lt v m =
      let p : ℕ = slice_index F i in
      let there : LeadsFrom (edge_in may next) starts p = m.sound p (m.listing.marked i lt) in
      let p_in : is_marked may p ≡ true = m.inside p (m.listing.marked i lt) in
      record {
        size = v.size ∙ m.size;
        listing = v.listing m.listing;
        started = λ q h. v.keeps q (m.started q h);
        inside = λ q h. elim (v.sound q h) [ inl k ↦ m.inside q k | inr k ↦ k.0 ];
        sound = λ q h. elim (v.sound q h) [
          | inl k ↦ m.sound q k
          | inr k ↦ record {
            start = there.start;
            is_start = there.is_start;
            leads = leads_through edge there.start p q there.leads (leads_step edge p q (and_from (is_marked may p) (is_marked may q && next p q) p_in (and_from (is_marked may q) (next p q) k.0 (sym (or_false (next p q)) ∙ k.1))));
          }
        ];
        closed = λ k h b y e. elim (eqb_tells k i) [
          | inl is ↦ let at : slice_index F' k ≡ p = ap (slice_index F') is.1 ∙ v.before i lt in
              let e' : edge_in may next p y ≡ true = ap (λ x. edge_in may next x y) (sym at) ∙ e in
              let one = and_parts (is_marked may p) (is_marked may y && next p y) e' in
              let both = and_parts (is_marked may y) (next p y) one.1 in
              v.whole y both.0 (or_false (next p y) ∙ both.1)
          | inr n ↦ let ne = n.1 in let less : k < i = omega arith in let short : k < length F = omega arith in
              v.keeps y (m.closed k less short y (ap (λ x. edge_in may next x y) (sym (v.before k short)) ∙ e))
        ];
      }

  pub going_done : (M : List Bool) (F : List ℕ) (i : ℕ) → length F ≤ i → Going M F i → IsFound (edge_in may next) starts M
  going_done M F i most m = record {
    sound = m.sound;
    whole = λ q l.
        closed_holds edge (is_marked M) (λ x y k e. let w = m.listing.listed x k in m.closed w.0 (omega (arith, w.1)) w.1 y (ap (λ z. edge_in may next z y) w.2 ∙ e)) l.start q (m.started l.start l.is_start) l.leads;
  }

  pub going_end : (M : List Bool) (F : List ℕ) (i : ℕ) → length may ≤ i → Going M F i → IsFound (edge_in may next) starts M
  going_end M F i h m = going_done M F i (omega (arith, ones_within M, m.listing.count, m.size)) m

-- what is needed in a set, by tables
module _ (catalog : Catalog) (in_set : List Bool) (each : length in_set ≡ length catalog.universe.packages + 1) where
  abbrev need : ℕ → ℕ → Bool
  need = needs catalog (is_marked in_set)

  ends : (x y : ℕ) → need x y ≡ true → is_among (members catalog) y ≡ true
  ends x y h =
      let one = and_parts (is_marked in_set x) (is_marked in_set y && (serves_package catalog y x || supplements catalog (is_marked in_set) y x)) h in
      in_members catalog in_set each y (and_parts (is_marked in_set y) (serves_package catalog y x || supplements catalog (is_marked in_set) y x) one.1).0

  pub needed_by : (x y : ℕ) → is_marked in_set x ≡ true → is_marked in_set y ≡ true → (serves_package catalog y x || supplements catalog (is_marked in_set) y x) ≡ true → need x y ≡ true
  needed_by x y a b h = and_from (is_marked in_set x) (is_marked in_set y && (serves_package catalog y x || supplements catalog (is_marked in_set) y x)) a (and_from (is_marked in_set y) (serves_package catalog y x || supplements catalog (is_marked in_set) y x) b h)

  -- what asks for something is a package
  asks_there : (v q : ℕ) → serving_package catalog v q ≡ true → v < length in_set
  asks_there v q h = elim (cases_lt v (length in_set)) [
    | inl lt ↦ lt
    | inr le ↦ absurd (false≢true (sym (asks_nothing catalog v (inr (omega (arith, le, each))) q) ∙ h))
  ]

  supplements_by : (q id p : ℕ) → has_supplement catalog q id ≡ true → holds catalog (dependency catalog id) (is_marked in_set) ≡ true → serving catalog id p ≡ true → supplements catalog (is_marked in_set) q p ≡ true
  supplements_by q id p has held s = both (package_at catalog q) has
    where
      both : (o : Option Package) → passes o (λ (a : Package). is_among a.supplements id) ≡ true → passes o (λ (b : Package). list_any (λ i. holds catalog (dependency catalog i) (is_marked in_set) && serves catalog p (dependency catalog i)) b.supplements) ≡ true
      both None h = absurd (false≢true h)
      both (Some a) h = any_from (λ i. holds catalog (dependency catalog i) (is_marked in_set) && serves catalog p (dependency catalog i)) a.supplements id h (and_from (holds catalog (dependency catalog id) (is_marked in_set)) (serving catalog id p) held s)

  module _ (law : ReachedIsWhereWalksLead) (starts : List ℕ) (inside : (q : ℕ) → is_among starts q ≡ true → is_marked in_set q ≡ true) where
    abbrev needed : ℕ → Bool
    needed q = is_among (needed_from catalog (is_marked in_set) starts) q

    tells : (q : ℕ) → (needed q ≡ true → LeadsFrom need starts q) × (LeadsFrom need starts q → needed q ≡ true)
    tells q = let t = law need (members catalog) starts (λ x h. in_members catalog in_set each x (inside x h)) ends q in (t.0, t.1)

    pub needed_next : (p q : ℕ) → needed p ≡ true → need p q ≡ true → needed q ≡ true
    needed_next p q h e = let l = (tells p).0 h in (tells q).1 (record { start = l.start; is_start = l.is_start; leads = leads_through need l.start p q l.leads (leads_step need p q e) })

    pub needed_start : (q : ℕ) → is_among starts q ≡ true → needed q ≡ true
    needed_start q h = (tells q).1 (record { start = q; is_start = h; leads = leads_here need q })

    -- what is needed lies in the set
    pub needed_inside : (q : ℕ) → needed q ≡ true → is_marked in_set q ≡ true
    needed_inside q h = let l = (tells q).0 h in closed_holds need (is_marked in_set) stays l.start q (inside l.start l.is_start) l.leads
      where
        stays : (x y : ℕ) → is_marked in_set x ≡ true → need x y ≡ true → is_marked in_set y ≡ true
        stays x y k e =
            let one = and_parts (is_marked in_set x) (is_marked in_set y && (serves_package catalog y x || supplements catalog (is_marked in_set) y x)) e in
            (and_parts (is_marked in_set y) (serves_package catalog y x || supplements catalog (is_marked in_set) y x) one.1).0

    -- the members alone
    pub cut_are : (M : List Bool) → ((q : ℕ) → q < length in_set → is_marked M q ≡ needed q) → (q : ℕ) → is_marked (take (length in_set) M) q ≡ needed q
    cut_are M same q = elim (cases_lt q (length in_set)) [
      | inl lt ↦ taken M (length in_set) q lt ∙ same q lt
      | inr le ↦ taken_past M (length in_set) q le ∙ sym (false_from_ne_true (needed q) (λ h. let b = marked_below in_set q (needed_inside q h) in omega (arith, le, b)))
    ]

    -- a needed member; or a relation that a needed member serves
    abbrev good_at : ℕ → Bool → Bool
    good_at v low = if low then needed v else list_any (λ p. needed p && (is_marked in_set p && serving catalog (v - length in_set) p)) (members catalog)

    abbrev good : ℕ → Bool
    good v = good_at v (nat_lt v (length in_set))

    good_low : (v : ℕ) → v < length in_set → good v ≡ needed v
    good_low v lt = ap (good_at v) (below_true v (length in_set) lt)

    good_high : (v id : ℕ) → v ≡ length in_set + id → good v ≡ list_any (λ p. needed p && (is_marked in_set p && serving catalog id p)) (members catalog)
    good_high v id e =
        let far : nat_lt v (length in_set) ≡ false = grind (arith, nat_tests, e) in
        let less : v - length in_set ≡ id = omega (arith, e) in
        ap (good_at v) far ∙ ap (λ k. list_any (λ p. needed p && (is_marked in_set p && serving catalog k p)) (members catalog)) less

    good_from : (id p : ℕ) → needed p ≡ true → is_marked in_set p ≡ true → serving catalog id p ≡ true → list_any (λ x. needed x && (is_marked in_set x && serving catalog id x)) (members catalog) ≡ true
    good_from id p n m s =
        any_from (λ x. needed x && (is_marked in_set x && serving catalog id x)) (members catalog) p (in_members catalog in_set each p m)
        (and_from (needed p) (is_marked in_set p && serving catalog id p) n (and_from (is_marked in_set p) (serving catalog id p) m s))

    good_by : (id : ℕ) → list_any (λ x. needed x && (is_marked in_set x && serving catalog id x)) (members catalog) ≡ true → (p : ℕ) × (needed p ≡ true) × (is_marked in_set p ≡ true) × (serving catalog id p ≡ true)
    good_by id h =
        let r = any_gives (λ x. needed x && (is_marked in_set x && serving catalog id x)) (members catalog) h in
        let one = and_parts (needed r.0) (is_marked in_set r.0 && serving catalog id r.0) r.2 in
        let two = and_parts (is_marked in_set r.0) (serving catalog id r.0) one.1 in
        (r.0, one.0, two.0, two.1)

    -- where walks of a search lead to members, walks of what members need do
    module _ (may : List Bool) (rows : List (List ℕ)) (with : IsWithRelations in_set (length catalog.pool.nodes) may) (are : AreSupplements catalog in_set rows) where
      abbrev next : ℕ → ℕ → Bool
      next = next_to catalog in_set rows

      member_may : (q : ℕ) → is_marked in_set q ≡ true → is_marked may q ≡ true
      member_may q h = with.members q (marked_below in_set q h) ∙ h

      may_member : (q : ℕ) → q < length in_set → is_marked may q ≡ true → is_marked in_set q ≡ true
      may_member q lt h = sym (with.members q lt) ∙ h

      good_said : (v w : ℕ) → good v ≡ true → Says catalog in_set v w → good w ≡ true
      good_said v w g (a_serving id e below m s) = good_high w id e ∙ good_from id v (sym (good_low v (marked_below in_set v m)) ∙ g) m s
      good_said v w g (a_part o id f e below wider) = let r = good_by o (sym (good_high v o f) ∙ g) in good_high w id e ∙ good_from id r.0 r.1 r.2 (wider r.0 r.3)
      good_said v w g (a_supplement id f m has held) =
          let r = good_by id (sym (good_high v id f) ∙ g) in
          good_low w (marked_below in_set w m)
          ∙ needed_next r.0 w r.1 (needed_by r.0 w r.2 m (or_right (serves_package catalog w r.0) (supplements catalog (is_marked in_set) w r.0) (supplements_by w id r.0 has held r.3)))

      good_next : (v w : ℕ) → good v ≡ true → edge_in may next v w ≡ true → good w ≡ true
      good_next v w g e =
          let one = and_parts (is_marked may v) (is_marked may w && next v w) e in
          let two = and_parts (is_marked may w) (next v w) one.1 in
          elim (or_cases (is_marked in_set w && serves_package catalog w v) (edge_to rows v w) two.1) [
            | inl k ↦ let both = and_parts (is_marked in_set w) (serves_package catalog w v) k in
                let low : v < length in_set = asks_there v w both.1 in
                good_low w (marked_below in_set w both.0)
                ∙ needed_next v w (sym (good_low v low) ∙ g) (needed_by v w (may_member v low one.0) both.0 (or_left (serves_package catalog w v) (supplements catalog (is_marked in_set) w v) both.1))
            | inr k ↦ good_said v w g (are.sound v w k)
          ]

      module _ (M : List Bool) (f : IsFound (edge_in may next) starts M) where
        found_next : (x y : ℕ) → is_marked M x ≡ true → edge_in may next x y ≡ true → is_marked M y ≡ true
        found_next x y h e = let l = f.sound x h in f.whole y (record { start = l.start; is_start = l.is_start; leads = leads_through (edge_in may next) l.start x y l.leads (leads_step (edge_in may next) x y e) })

        found_may : (x : ℕ) → is_marked M x ≡ true → is_marked may x ≡ true
        found_may x h = let l = f.sound x h in closed_holds (edge_in may next) (is_marked may) stays l.start x (member_may l.start (inside l.start l.is_start)) l.leads
          where
            stays : (x y : ℕ) → is_marked may x ≡ true → edge_in may next x y ≡ true → is_marked may y ≡ true
            stays x y k e = let one = and_parts (is_marked may x) (is_marked may y && next x y) e in (and_parts (is_marked may y) (next x y) one.1).0

        there : (x y : ℕ) → Says catalog in_set x y → is_marked may y ≡ true
        there x y (a_serving id e below m s) = ap (is_marked may) e ∙ with.others id below
        there x y (a_part o id f e below wider) = ap (is_marked may) e ∙ with.others id below
        there x y (a_supplement id f m has held) = member_may y m

        -- along an edge of the graph
        found_along : (x y : ℕ) → is_marked M x ≡ true → edge_to rows x y ≡ true → is_marked M y ≡ true
        found_along x y h e =
            found_next x y h
            (and_from (is_marked may x) (is_marked may y && next x y) (found_may x h)
            (and_from (is_marked may y) (next x y) (there x y (are.sound x y e)) (or_right (is_marked in_set y && serves_package catalog y x) (edge_to rows x y) e)))

        -- along what a member needs
        found_need : (x y : ℕ) → is_marked M x ≡ true → need x y ≡ true → is_marked M y ≡ true
        found_need x y h e =
            let one = and_parts (is_marked in_set x) (is_marked in_set y && (serves_package catalog y x || supplements catalog (is_marked in_set) y x)) e in
            let two = and_parts (is_marked in_set y) (serves_package catalog y x || supplements catalog (is_marked in_set) y x) one.1 in
            elim (or_cases (serves_package catalog y x) (supplements catalog (is_marked in_set) y x) two.1) [
              | inl s ↦ found_next x y h
                  (and_from (is_marked may x) (is_marked may y && next x y) (member_may x one.0)
                  (and_from (is_marked may y) (next x y) (member_may y two.0) (or_left (is_marked in_set y && serves_package catalog y x) (edge_to rows x y) (and_from (is_marked in_set y) (serves_package catalog y x) two.0 s))))
              | inr s ↦ closed_holds (edge_to rows) (is_marked M) found_along x y h (are.whole y x one.0 two.0 s)
            ]

        pub needed_are : (q : ℕ) → q < length in_set → is_marked M q ≡ needed q
        needed_are q lt =
            same_truth (is_marked M q) (needed q)
            (λ h. let l = f.sound q h in sym (good_low q lt) ∙ closed_holds (edge_in may next) good good_next l.start q (good_low l.start (marked_below in_set l.start (inside l.start l.is_start)) ∙ needed_start l.start l.is_start) l.leads)
            (λ h. let l = (tells q).0 h in closed_holds need (is_marked M) found_need l.start q (f.whole l.start (record { start = l.start; is_start = l.is_start; leads = leads_here (edge_in may next) l.start })) l.leads)
