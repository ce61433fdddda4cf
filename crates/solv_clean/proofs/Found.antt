-- Members that are marked and listed one after another.
use Rattle.std.proofs.Common.{◌≡◌, ◌≢◌, ℕ, ◌<◌, Bool, true, false, ◌&&◌, ◌||◌, List, [], ◌∷◌, ◌++◌, length, get_or, inl, inr, refl, sym, ap, ◌∙◌, arith, eqb, eq-eqb}
use Rattle.std.specs.Prelude.{slice_index, slice_set}
use Rattle.std.specs.List.{list_any}
use Rattle.std.proofs.Math.ListN.{length-set, length-append, get_or-append}
use Rattle.std.proofs.Math.Seq.{get_or-append_seam}
use Rattle.std.proofs.lemmas.Bool.{and_parts, and_from, false≢true, eqb-true, or_left, or_right}
use Rattle.std.proofs.lemmas.Bool.Decides.{eqb_tells}
use Rattle.std.proofs.lemmas.List.{get_or-set_other, get_or-set_same}
use Rattle.std.proofs.lemmas.List.Folds.{list_any-append}
use Rattle.std.proofs.lemmas.List.Sums.{sum_by-set}
use Rattle.solv_list.proofs.Booleans.{or_cases}
use Rattle.solv_clean.specs.Inner.Tables.{is_marked}
use Rattle.solv_clean.specs.Inner.Finding.{Finds, itself}
use Rattle.solv_graph.specs.Inner.Searching.{one_if}

is_only : (q x : ℕ) → list_any (λ y. itself y x) (q ∷ []) ≡ true → q ≡ x
is_only q x h = elim (or_cases (eqb q x) false h) [ inl e ↦ eqb-true q x e | inr n ↦ absurd (false≢true n) ]

only_is : (q : ℕ) → list_any (λ y. itself y q) (q ∷ []) ≡ true
only_is q = ap (λ b. b || false) (eq-eqb q q refl)

module _ (M : List Bool) (q : ℕ) (lt : q < length M) where
  set_same : is_marked (slice_set M q true) q ≡ true
  set_same = get_or-set_same M q true false lt

  set_other : (x : ℕ) → x ≢ q → is_marked (slice_set M q true) x ≡ is_marked M x
  set_other x n = get_or-set_other M q x true false n

  set_keeps : (x : ℕ) → is_marked M x ≡ true → is_marked (slice_set M q true) x ≡ true
  set_keeps x h = elim (eqb_tells x q) [
    | inl e ↦ ap (is_marked (slice_set M q true)) e.1 ∙ set_same
    | inr n ↦ set_other x n.1 ∙ h
  ]

module _ (may : List Bool) (M : List Bool) (F : List ℕ) (q : ℕ) where
  pub finds_push : q < length M → is_marked may q ≡ true → is_marked M q ≡ false → Finds may itself (q ∷ []) M F (slice_set M q true) (F ++ q ∷ [])
  finds_push lt l fresh = record {
    size = length-set M q true;
    keeps = set_keeps M q lt;
    longer = omega (arith, length-append F (q ∷ []));
    before = λ k h. get_or-append F (q ∷ []) 0 k h;
    sound = λ x h. elim (eqb_tells x q) [
      | inl e ↦ inr (ap (is_marked may) e.1 ∙ l, ap (λ z. list_any (λ y. itself y z) (q ∷ [])) e.1 ∙ only_is q)
      | inr n ↦ inl (sym (set_other M q lt x n.1) ∙ h)
    ];
    whole = λ x k i. ap (is_marked (slice_set M q true)) (sym (is_only q x i)) ∙ set_same M q lt;
    listing = λ is. record {
      marked = λ k h. elim (eqb_tells k (length F)) [
        | inl e ↦ ap (λ i. is_marked (slice_set M q true) (slice_index (F ++ q ∷ []) i)) e.1 ∙ ap (is_marked (slice_set M q true)) (get_or-append_seam F q [] 0) ∙ set_same M q lt
        | inr n ↦ let ne = n.1 in let b : k < length F = omega (arith, length-append F (q ∷ [])) in
            ap (is_marked (slice_set M q true)) (get_or-append F (q ∷ []) 0 k b) ∙ set_keeps M q lt (slice_index F k) (is.marked k b)
      ];
      listed = λ x h. elim (eqb_tells x q) [
        | inl e ↦ (length F, omega (arith, length-append F (q ∷ [])), get_or-append_seam F q [] 0 ∙ sym e.1)
        | inr n ↦ let w = is.listed x (sym (set_other M q lt x n.1) ∙ h) in (w.0, omega (arith, w.1, length-append F (q ∷ [])), get_or-append F (q ∷ []) 0 w.0 w.1 ∙ w.2)
      ];
      count = let s = sum_by-set one_if M q true false lt in let z : one_if (get_or M q false) ≡ 0 = ap one_if fresh in omega (arith, s, z, is.count, length-append F (q ∷ []));
    };
  }

  pub finds_skip : (is_marked may q ≡ true → is_marked M q ≡ true) → Finds may itself (q ∷ []) M F M F
  finds_skip known = record {
    size = refl;
    keeps = λ x h. h;
    longer = omega arith;
    before = λ k h. refl;
    sound = λ x h. inl h;
    whole = λ x k i. let e : q ≡ x = is_only q x i in ap (is_marked M) (sym e) ∙ known (ap (is_marked may) e ∙ k);
    listing = λ is. is;
  }

module _ {X : Type 0} (may : List Bool) (asks : X → ℕ → Bool) where
  pub finds_none : (M : List Bool) (F : List ℕ) → Finds may asks [] M F M F
  finds_none M F = record {
    size = refl;
    keeps = λ x h. h;
    longer = omega arith;
    before = λ k h. refl;
    sound = λ x h. inl h;
    whole = λ x k i. absurd (false≢true i);
    listing = λ is. is;
  }

  pub finds_more : (a b : List X) (M : List Bool) (F : List ℕ) (M' : List Bool) (F' : List ℕ) (N : List Bool) (G : List ℕ) → Finds may asks a M F M' F' → Finds may asks b M' F' N G → Finds may asks (a ++ b) M F N G
  finds_more a b M F M' F' N G v w = record {
    size = w.size ∙ v.size;
    keeps = λ x h. w.keeps x (v.keeps x h);
    longer = omega (arith, v.longer, w.longer);
    before = λ k h. w.before k (omega (arith, h, v.longer)) ∙ v.before k h;
    sound = λ x h. elim (w.sound x h) [
      | inl k ↦ elim (v.sound x k) [ inl m ↦ inl m | inr m ↦ inr (m.0, list_any-append (λ y. asks y x) a b ∙ or_left (list_any (λ y. asks y x) a) (list_any (λ y. asks y x) b) m.1) ]
      | inr m ↦ inr (m.0, list_any-append (λ y. asks y x) a b ∙ or_right (list_any (λ y. asks y x) a) (list_any (λ y. asks y x) b) m.1)
    ];
    whole = λ x l i. elim (or_cases (list_any (λ y. asks y x) a) (list_any (λ y. asks y x) b) (sym (list_any-append (λ y. asks y x) a b) ∙ i)) [
      | inl k ↦ w.keeps x (v.whole x l k)
      | inr k ↦ w.whole x l k
    ];
    listing = λ is. w.listing (v.listing is);
  }

  -- what asks for the same members in another way
  pub finds_same : {Y : Type 0} (others : Y → ℕ → Bool) (xs : List X) (ys : List Y) (M : List Bool) (F : List ℕ) (N : List Bool) (G : List ℕ)
      → ((q : ℕ) → is_marked may q ≡ true → list_any (λ x. asks x q) xs ≡ list_any (λ y. others y q) ys) → Finds may asks xs M F N G → Finds may others ys M F N G
  finds_same others xs ys M F N G same f = record {
    size = f.size;
    keeps = f.keeps;
    longer = f.longer;
    before = f.before;
    sound = λ q h. elim (f.sound q h) [ inl k ↦ inl k | inr k ↦ inr (k.0, sym (same q k.0) ∙ k.1) ];
    whole = λ q l i. f.whole q l (same q l ∙ i);
    listing = f.listing;
  }

-- what two searches one after the other find
pub finds_both : {X Y Z : Type 0} (may : List Bool) (asks : X → ℕ → Bool) (others : Y → ℕ → Bool) (third : Z → ℕ → Bool) (xs : List X) (ys : List Y) (zs : List Z)
    (M : List Bool) (F : List ℕ) (M' : List Bool) (F' : List ℕ) (N : List Bool) (G : List ℕ)
    → ((q : ℕ) → (list_any (λ x. asks x q) xs || list_any (λ y. others y q) ys) ≡ list_any (λ z. third z q) zs)
    → Finds may asks xs M F M' F' → Finds may others ys M' F' N G → Finds may third zs M F N G
finds_both may asks others third xs ys zs M F M' F' N G same v w = record {
  size = w.size ∙ v.size;
  keeps = λ x h. w.keeps x (v.keeps x h);
  longer = omega (arith, v.longer, w.longer);
  before = λ k h. w.before k (omega (arith, h, v.longer)) ∙ v.before k h;
  sound = λ q h. elim (w.sound q h) [
    | inl k ↦ elim (v.sound q k) [ inl m ↦ inl m | inr m ↦ inr (m.0, sym (same q) ∙ or_left (list_any (λ x. asks x q) xs) (list_any (λ y. others y q) ys) m.1) ]
    | inr m ↦ inr (m.0, sym (same q) ∙ or_right (list_any (λ x. asks x q) xs) (list_any (λ y. others y q) ys) m.1)
  ];
  whole = λ q l i. elim (or_cases (list_any (λ x. asks x q) xs) (list_any (λ y. others y q) ys) (same q ∙ i)) [
    | inl k ↦ w.keeps q (v.whole q l k)
    | inr k ↦ w.whole q l k
  ];
  listing = λ is. w.listing (v.listing is);
}

-- what is found of some is found of more, as long as it is asked for of those alone
pub finds_wider : {X : Type 0} (some may : List Bool) (asks : X → ℕ → Bool) (xs : List X) (M : List Bool) (F : List ℕ) (N : List Bool) (G : List ℕ)
    → ((q : ℕ) → is_marked some q ≡ true → is_marked may q ≡ true) → Finds some asks xs M F N G → Finds may (λ x q. is_marked some q && asks x q) xs M F N G
finds_wider {X} some may asks xs M F N G within f = record {
  size = f.size;
  keeps = f.keeps;
  longer = f.longer;
  before = f.before;
  sound = λ q h. elim (f.sound q h) [ inl k ↦ inl k | inr k ↦ inr (within q k.0, pulled (is_marked some q) (λ x. asks x q) xs ∙ and_from (is_marked some q) (list_any (λ x. asks x q) xs) k.0 k.1) ];
  whole = λ q l i. let both = and_parts (is_marked some q) (list_any (λ x. asks x q) xs) (sym (pulled (is_marked some q) (λ x. asks x q) xs) ∙ i) in f.whole q both.0 both.1;
  listing = f.listing;
}
  where
    none_of : (ys : List X) → list_any (λ x. false) ys ≡ false
    none_of [] = refl
    none_of (y ∷ ys) = none_of ys

    pulled : (c : Bool) (g : X → Bool) (ys : List X) → list_any (λ x. c && g x) ys ≡ (c && list_any g ys)
    pulled true g ys = refl
    pulled false g ys = none_of ys

-- where nothing is asked for
pub finds_nothing : {X : Type 0} (may : List Bool) (asks : X → ℕ → Bool) (xs : List X) (M : List Bool) (F : List ℕ) → ((q : ℕ) → list_any (λ x. asks x q) xs ≡ false) → Finds may asks xs M F M F
finds_nothing may asks xs M F none = record {
  size = refl;
  keeps = λ x h. h;
  longer = omega arith;
  before = λ k h. refl;
  sound = λ x h. inl h;
  whole = λ x k i. absurd (false≢true (sym (none x) ∙ i));
  listing = λ is. is;
}
