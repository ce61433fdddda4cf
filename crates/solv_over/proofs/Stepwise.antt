-- Good trails event by event.
use Rattle.std.proofs.Common.{◌≡◌, ℕ, zero, suc, Bool, true, false, List, [], ◌∷◌, ◌++◌, take, Option, Some, None, inl, inr, refl, sym, ap, ◌∙◌, subst}
use Rattle.std.specs.Prelude.{ℤ, pos, neg_ℤ, slice_get}
use Rattle.std.specs.List.{list_all}
use Rattle.std.proofs.lemmas.Bool.{and_parts, and_from, false≢true, false_from_ne_true}
use Rattle.solv_pool.specs.Prelude.{clause_true, is_fact, is_refuted, is_open, names_package, is_over, are_over}
use Rattle.solv_derive.proofs.Facts.{known_here, known_later, known_cases, known_same, open_parts, open_from, neg-neg}
use Rattle.solv_trail.specs.Asked.{set_of}
use Rattle.solv_trail.specs.declared.questions.Ask.{Ask}
use Rattle.solv_trail.specs.declared.questions.Question.{Question}
use Rattle.solv_learn.specs.Collecting.{is_plain}
use Rattle.solv_core.specs.GoodTrails.{facts_of, taken_in, IsClosed, Follows, IsGoodTrail}
use Rattle.solv_core.specs.declared.verdicts.Event.{Event}
use Rattle.solv_core.specs.declared.verdicts.Event.TheVariants as event
use Rattle.solv_over.proofs.Closed.{IsRest, rest_of, closed_of}
use Rattle.solv_over.proofs.Literals.{known_front, known_back, known_parts}

pub join_nothing : {X : Type 0} (xs : List X) → xs ++ [] ≡ xs
join_nothing [] = refl
join_nothing (x ∷ xs) = ap (λ w. x ∷ w) (join_nothing xs)

pub joined : {X : Type 0} (xs : List X) (y : X) (ys : List X) → (xs ++ y ∷ []) ++ ys ≡ xs ++ (y ∷ ys)
joined [] y ys = refl
joined (x ∷ xs) y ys = ap (λ w. x ∷ w) (joined xs y ys)

-- a literal that is new
pub record IsNew (n : ℕ) (K : List ℤ) (l : ℤ) : Type 0 where
  pub over : names_package n l ≡ true
  pub unknown : is_open K l ≡ true

-- from what is known and taken these events are good, one after another
module _ (n : ℕ) (F : List (List ℤ)) (asks : (ℤ → Bool) → Option Ask) where
  abbrev pub GoodFrom : List ℤ → List ℤ → List Event → Type 0
  GoodFrom K T [] = IsRest F K × (asks (is_fact K) ≡ None)
  GoodFrom K T (event.Known l ∷ es) = IsNew n K l × (Follows F T l × GoodFrom (K ++ l ∷ []) T es)
  GoodFrom K T (event.Took q p ∷ es) = IsNew n K (pos p) × ((IsRest F K × (asks (is_fact K) ≡ Some (record { pack = p; question = q }))) × GoodFrom (K ++ pos p ∷ []) (T ++ pos p ∷ []) es)

  -- the same by places, after what is known and taken
  pub record GoodAfter (K T : List ℤ) (es : List Event) : Type 0 where
    pub over : is_over n (facts_of es) ≡ true
    pub once : is_plain (facts_of es) ≡ true
    pub new : (l : ℤ) → is_fact (facts_of es) l ≡ true → is_open K l ≡ true
    pub follows : (place : ℕ) (l : ℤ) → slice_get es place ≡ Some (event.Known l) → Follows F (T ++ taken_in (take place es)) l
    pub at_rest : (place : ℕ) (a : Ask) → slice_get es place ≡ Some (event.Took a.question a.pack) → IsClosed n F (K ++ facts_of (take place es))
    pub asked : (place : ℕ) (a : Ask) → slice_get es place ≡ Some (event.Took a.question a.pack) → asks (is_fact (K ++ facts_of (take place es))) ≡ Some a
    pub closed : IsClosed n F (K ++ facts_of es)
    pub ended : asks (is_fact (K ++ facts_of es)) ≡ None

  -- open after one more
  open_after : (K : List ℤ) (x l : ℤ) → is_open K l ≡ true → (is_open (x ∷ []) l ≡ true) → is_open (K ++ x ∷ []) l ≡ true
  open_after K x l h k =
      let a = open_parts K l h in
      let b = open_parts (x ∷ []) l k in
      open_from (K ++ x ∷ []) l
      (false_from_ne_true (is_fact (K ++ x ∷ []) l) (λ t. elim (known_parts K (x ∷ []) l t) [ inl s ↦ false≢true (sym a.0 ∙ s) | inr s ↦ false≢true (sym b.0 ∙ s) ]))
      (false_from_ne_true (is_refuted (K ++ x ∷ []) l) (λ t. elim (known_parts K (x ∷ []) (neg_ℤ l) t) [ inl s ↦ false≢true (sym a.1 ∙ s) | inr s ↦ false≢true (sym b.1 ∙ s) ]))

  -- and so before it
  pub open_before : (K : List ℤ) (x l : ℤ) → is_open (K ++ x ∷ []) l ≡ true → (is_open K l ≡ true) × (is_open (x ∷ []) l ≡ true)
  open_before K x l h =
      let a = open_parts (K ++ x ∷ []) l h in
      let f : is_fact K l ≡ false = false_from_ne_true (is_fact K l) (λ t. false≢true (sym a.0 ∙ known_front K (x ∷ []) l t)) in
      let g : is_refuted K l ≡ false = false_from_ne_true (is_refuted K l) (λ t. false≢true (sym a.1 ∙ known_front K (x ∷ []) (neg_ℤ l) t)) in
      let i : is_fact (x ∷ []) l ≡ false = false_from_ne_true (is_fact (x ∷ []) l) (λ t. false≢true (sym a.0 ∙ known_back K (x ∷ []) l t)) in
      let j : is_refuted (x ∷ []) l ≡ false = false_from_ne_true (is_refuted (x ∷ []) l) (λ t. false≢true (sym a.1 ∙ known_back K (x ∷ []) (neg_ℤ l) t)) in
      (open_from K l f g, open_from (x ∷ []) l i j)

  -- neither is the other, nor its negation, either way round
  turned : (x l : ℤ) → is_open (x ∷ []) l ≡ true → (l ≡ x → ⊥) × (neg_ℤ l ≡ x → ⊥)
  turned x l h =
      let a = open_parts (x ∷ []) l h in
      ((λ e. false≢true (sym a.0 ∙ known_same x l [] e)), (λ e. false≢true (sym a.1 ∙ known_same x (neg_ℤ l) [] e)))

  apart_open : (x l : ℤ) → (l ≡ x → ⊥) → (neg_ℤ l ≡ x → ⊥) → is_open (x ∷ []) l ≡ true
  apart_open x l f g = open_from (x ∷ []) l (not_there l f) (not_there (neg_ℤ l) g)
    where
      not_there : (m : ℤ) → (m ≡ x → ⊥) → is_fact (x ∷ []) m ≡ false
      not_there m f = false_from_ne_true (is_fact (x ∷ []) m) (λ t. elim (known_cases x m [] t) [ inl e ↦ f e | inr z ↦ false≢true z ])

  -- a literal that stands before others, each of which is new after it
  plain_front : (x : ℤ) (ls : List ℤ) → ((l : ℤ) → is_fact ls l ≡ true → is_open (x ∷ []) l ≡ true) → is_plain ls ≡ true → is_plain (x ∷ ls) ≡ true
  plain_front x ls h k =
      and_from (is_open ls x) (is_plain ls)
      (open_from ls x
      (false_from_ne_true (is_fact ls x) (λ t. (turned x x (h x t)).0 refl))
      (false_from_ne_true (is_refuted ls x) (λ t. (turned x (neg_ℤ x) (h (neg_ℤ x) t)).1 (neg-neg x)))) k

  plain_new : (x : ℤ) (ls : List ℤ) → is_plain (x ∷ ls) ≡ true → (l : ℤ) → is_fact ls l ≡ true → is_open (x ∷ []) l ≡ true
  plain_new x ls h l k =
      let both = open_parts ls x (and_parts (is_open ls x) (is_plain ls) h).0 in
      apart_open x l (λ e. false≢true (sym both.0 ∙ ap (is_fact ls) (sym e) ∙ k)) (λ e. false≢true (sym both.1 ∙ ap (is_fact ls) (sym (sym (neg-neg l) ∙ ap neg_ℤ e)) ∙ k))

  closed_nothing : (K : List ℤ) → IsRest F K → IsClosed n F (K ++ [])
  closed_nothing K h = subst (λ (v : List ℤ). IsClosed n F v) (sym (join_nothing K)) (closed_of n K F h.apart h.quiet)

  asks_nothing : (K : List ℤ) (o : Option Ask) → asks (is_fact K) ≡ o → asks (is_fact (K ++ [])) ≡ o
  asks_nothing K o h = ap (λ v. asks (is_fact v)) (join_nothing K) ∙ h

  follows_nothing : (T : List ℤ) (l : ℤ) → Follows F T l → Follows F (T ++ []) l
  follows_nothing T l h = subst (λ (v : List ℤ). Follows F v l) (sym (join_nothing T)) h

  abbrev ask_of : Question → ℕ → Ask
  ask_of q p = record { pack = p; question = q }

  same_known : (l m : ℤ) → Some (event.Known l) ≡ Some (event.Known m) → l ≡ m
  same_known l m h = cc

  same_ask : (q : Question) (p : ℕ) (a : Ask) → Some (event.Took q p) ≡ Some (event.Took a.question a.pack) → ask_of q p ≡ a
  same_ask q p a h =
      let e : p ≡ a.pack = cc in
      let f : q ≡ a.question = cc in
      λ i. record { pack = e i; question = f i }

  closed_joined : (K : List ℤ) (x : ℤ) (xs : List ℤ) → IsClosed n F ((K ++ x ∷ []) ++ xs) → IsClosed n F (K ++ (x ∷ xs))
  closed_joined K x xs h = subst (λ (v : List ℤ). IsClosed n F v) (joined K x xs) h

  asks_joined : (K : List ℤ) (x : ℤ) (xs : List ℤ) (o : Option Ask) → asks (is_fact ((K ++ x ∷ []) ++ xs)) ≡ o → asks (is_fact (K ++ (x ∷ xs))) ≡ o
  asks_joined K x xs o h = ap (λ v. asks (is_fact v)) (sym (joined K x xs)) ∙ h

  new_joined : (K : List ℤ) (x : ℤ) (xs : List ℤ) → is_open K x ≡ true → ((l : ℤ) → is_fact xs l ≡ true → is_open (K ++ x ∷ []) l ≡ true) → (l : ℤ) → is_fact (x ∷ xs) l ≡ true → is_open K l ≡ true
  new_joined K x xs own rest l h = elim (known_cases x l xs h) [ inl e ↦ ap (is_open K) e ∙ own | inr k ↦ (open_before K x l (rest l k)).0 ]

  pub after_from : (K T : List ℤ) (es : List Event) → GoodFrom K T es → GoodAfter K T es
  after_from K T [] good = record {
    over = refl;
    once = refl;
    new = λ l h. absurd (false≢true h);
    follows = λ place l h. absurd (cc);
    at_rest = λ place a h. absurd (cc);
    asked = λ place a h. absurd (cc);
    closed = closed_nothing K good.0;
    ended = asks_nothing K None good.1;
  }
  after_from K T (event.Known x ∷ es) good =
      let rest = after_from (K ++ x ∷ []) T es good.1.1 in
      record {
        over = and_from (names_package n x) (is_over n (facts_of es)) good.0.over rest.over;
        once = plain_front x (facts_of es) (λ l k. (open_before K x l (rest.new l k)).1) rest.once;
        new = new_joined K x (facts_of es) good.0.unknown rest.new;
        follows = follows_by rest.follows;
        at_rest = rest_by rest.at_rest;
        asked = asked_by rest.asked;
        closed = closed_joined K x (facts_of es) rest.closed;
        ended = asks_joined K x (facts_of es) None rest.ended;
      }
    where
      follows_by : ((place : ℕ) (l : ℤ) → slice_get es place ≡ Some (event.Known l) → Follows F (T ++ taken_in (take place es)) l)
          → (place : ℕ) (l : ℤ) → slice_get (event.Known x ∷ es) place ≡ Some (event.Known l) → Follows F (T ++ taken_in (take place (event.Known x ∷ es))) l
      follows_by f zero l e = follows_nothing T l (subst (λ (v : ℤ). Follows F T v) (same_known x l e) good.1.0)
      follows_by f (suc place) l e = f place l e

      rest_by : ((place : ℕ) (a : Ask) → slice_get es place ≡ Some (event.Took a.question a.pack) → IsClosed n F ((K ++ x ∷ []) ++ facts_of (take place es)))
          → (place : ℕ) (a : Ask) → slice_get (event.Known x ∷ es) place ≡ Some (event.Took a.question a.pack) → IsClosed n F (K ++ facts_of (take place (event.Known x ∷ es)))
      rest_by f zero a e = absurd (cc)
      rest_by f (suc place) a e = closed_joined K x (facts_of (take place es)) (f place a e)

      asked_by : ((place : ℕ) (a : Ask) → slice_get es place ≡ Some (event.Took a.question a.pack) → asks (is_fact ((K ++ x ∷ []) ++ facts_of (take place es))) ≡ Some a)
          → (place : ℕ) (a : Ask) → slice_get (event.Known x ∷ es) place ≡ Some (event.Took a.question a.pack) → asks (is_fact (K ++ facts_of (take place (event.Known x ∷ es)))) ≡ Some a
      asked_by f zero a e = absurd (cc)
      asked_by f (suc place) a e = asks_joined K x (facts_of (take place es)) (Some a) (f place a e)
  after_from K T (event.Took q p ∷ es) good =
      let rest = after_from (K ++ pos p ∷ []) (T ++ pos p ∷ []) es good.1.1 in
      record {
        over = and_from (names_package n (pos p)) (is_over n (facts_of es)) good.0.over rest.over;
        once = plain_front (pos p) (facts_of es) (λ l k. (open_before K (pos p) l (rest.new l k)).1) rest.once;
        new = new_joined K (pos p) (facts_of es) good.0.unknown rest.new;
        follows = follows_by rest.follows;
        at_rest = rest_by rest.at_rest;
        asked = asked_by rest.asked;
        closed = closed_joined K (pos p) (facts_of es) rest.closed;
        ended = asks_joined K (pos p) (facts_of es) None rest.ended;
      }
    where
      follows_by : ((place : ℕ) (l : ℤ) → slice_get es place ≡ Some (event.Known l) → Follows F ((T ++ pos p ∷ []) ++ taken_in (take place es)) l)
          → (place : ℕ) (l : ℤ) → slice_get (event.Took q p ∷ es) place ≡ Some (event.Known l) → Follows F (T ++ taken_in (take place (event.Took q p ∷ es))) l
      follows_by f zero l e = absurd (cc)
      follows_by f (suc place) l e = subst (λ (v : List ℤ). Follows F v l) (joined T (pos p) (taken_in (take place es))) (f place l e)

      rest_by : ((place : ℕ) (a : Ask) → slice_get es place ≡ Some (event.Took a.question a.pack) → IsClosed n F ((K ++ pos p ∷ []) ++ facts_of (take place es)))
          → (place : ℕ) (a : Ask) → slice_get (event.Took q p ∷ es) place ≡ Some (event.Took a.question a.pack) → IsClosed n F (K ++ facts_of (take place (event.Took q p ∷ es)))
      rest_by f zero a e = closed_nothing K good.1.0.0
      rest_by f (suc place) a e = closed_joined K (pos p) (facts_of (take place es)) (f place a e)

      asked_by : ((place : ℕ) (a : Ask) → slice_get es place ≡ Some (event.Took a.question a.pack) → asks (is_fact ((K ++ pos p ∷ []) ++ facts_of (take place es))) ≡ Some a)
          → (place : ℕ) (a : Ask) → slice_get (event.Took q p ∷ es) place ≡ Some (event.Took a.question a.pack) → asks (is_fact (K ++ facts_of (take place (event.Took q p ∷ es)))) ≡ Some a
      asked_by f zero a e = asks_nothing K (Some a) (good.1.0.1 ∙ ap Some (same_ask q p a e))
      asked_by f (suc place) a e = asks_joined K (pos p) (facts_of (take place es)) (Some a) (f place a e)

  -- the other way, where the clauses are of these packages
  module _ (each : are_over n F ≡ true) where
    closed_nothing_of : (K : List ℤ) → IsClosed n F (K ++ []) → IsRest F K
    closed_nothing_of K h = rest_of n F K each (subst (λ (v : List ℤ). IsClosed n F v) (join_nothing K) h)

    closed_parted : (K : List ℤ) (x : ℤ) (xs : List ℤ) → IsClosed n F (K ++ (x ∷ xs)) → IsClosed n F ((K ++ x ∷ []) ++ xs)
    closed_parted K x xs h = subst (λ (v : List ℤ). IsClosed n F v) (sym (joined K x xs)) h

    asks_parted : (K : List ℤ) (x : ℤ) (xs : List ℤ) (o : Option Ask) → asks (is_fact (K ++ (x ∷ xs))) ≡ o → asks (is_fact ((K ++ x ∷ []) ++ xs)) ≡ o
    asks_parted K x xs o h = ap (λ v. asks (is_fact v)) (joined K x xs) ∙ h

    new_parted : (K : List ℤ) (x : ℤ) (xs : List ℤ) → is_plain (x ∷ xs) ≡ true → ((l : ℤ) → is_fact (x ∷ xs) l ≡ true → is_open K l ≡ true) → (l : ℤ) → is_fact xs l ≡ true → is_open (K ++ x ∷ []) l ≡ true
    new_parted K x xs once new l h = open_after K x l (new l (known_later x l xs h)) (plain_new x xs once l h)

    from_after : (K T : List ℤ) (es : List Event) → GoodAfter K T es → GoodFrom K T es
    from_after K T [] h = (closed_nothing_of K h.closed, ap (λ v. asks (is_fact v)) (sym (join_nothing K)) ∙ h.ended)
    from_after K T (event.Known x ∷ es) h =
        let over = and_parts (names_package n x) (is_over n (facts_of es)) h.over in
        let rest : GoodAfter (K ++ x ∷ []) T es = record {
          over = over.1;
          once = (and_parts (is_open (facts_of es) x) (is_plain (facts_of es)) h.once).1;
          new = new_parted K x (facts_of es) h.once h.new;
          follows = λ place l e. h.follows (suc place) l e;
          at_rest = λ place a e. closed_parted K x (facts_of (take place es)) (h.at_rest (suc place) a e);
          asked = λ place a e. asks_parted K x (facts_of (take place es)) (Some a) (h.asked (suc place) a e);
          closed = closed_parted K x (facts_of es) h.closed;
          ended = asks_parted K x (facts_of es) None h.ended;
        } in
        let own : IsNew n K x = record { over = over.0; unknown = h.new x (known_here x (facts_of es)) } in
        let follow : Follows F T x = subst (λ (v : List ℤ). Follows F v x) (join_nothing T) (h.follows 0 x refl) in
        (own, (follow, from_after (K ++ x ∷ []) T es rest))
    from_after K T (event.Took q p ∷ es) h =
        let over = and_parts (names_package n (pos p)) (is_over n (facts_of es)) h.over in
        let rest : GoodAfter (K ++ pos p ∷ []) (T ++ pos p ∷ []) es = record {
          over = over.1;
          once = (and_parts (is_open (facts_of es) (pos p)) (is_plain (facts_of es)) h.once).1;
          new = new_parted K (pos p) (facts_of es) h.once h.new;
          follows = λ place l e. subst (λ (v : List ℤ). Follows F v l) (sym (joined T (pos p) (taken_in (take place es)))) (h.follows (suc place) l e);
          at_rest = λ place a e. closed_parted K (pos p) (facts_of (take place es)) (h.at_rest (suc place) a e);
          asked = λ place a e. asks_parted K (pos p) (facts_of (take place es)) (Some a) (h.asked (suc place) a e);
          closed = closed_parted K (pos p) (facts_of es) h.closed;
          ended = asks_parted K (pos p) (facts_of es) None h.ended;
        } in
        let own : IsNew n K (pos p) = record { over = over.0; unknown = h.new (pos p) (known_here (pos p) (facts_of es)) } in
        let asked_here : asks (is_fact K) ≡ Some (ask_of q p) = ap (λ v. asks (is_fact v)) (sym (join_nothing K)) ∙ h.asked 0 (ask_of q p) refl in
        (own, ((closed_nothing_of K (h.at_rest 0 (ask_of q p) refl), asked_here), from_after (K ++ pos p ∷ []) (T ++ pos p ∷ []) es rest))

    open_nothing : (l : ℤ) → is_open [] l ≡ true
    open_nothing l = refl

    pub from_trail : (es : List Event) → IsGoodTrail n F asks es → GoodFrom [] [] es
    from_trail es good =
        let after : GoodAfter [] [] es = record {
          over = good.over;
          once = good.once;
          new = λ l h. open_nothing l;
          follows = good.follows;
          at_rest = good.at_rest;
          asked = good.asked;
          closed = good.closed;
          ended = good.ended;
        } in
        from_after [] [] es after

  pub trail_from : (es : List Event) → GoodFrom [] [] es → list_all (clause_true (set_of (is_fact (facts_of es)))) F ≡ true → IsGoodTrail n F asks es
  trail_from es good meets =
      let after = after_from [] [] es good in
      record {
        over = after.over;
        once = after.once;
        follows = after.follows;
        at_rest = after.at_rest;
        asked = after.asked;
        closed = after.closed;
        ended = after.ended;
        meets = meets;
      }
