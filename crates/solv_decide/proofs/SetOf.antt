-- The set of a trail, from the packages of its events.
use Rattle.std.proofs.Common.{◌≡◌, ◌≤◌, ℕ, zero, suc, Bool, true, false, cond, ◌||◌, List, [], ◌∷◌, refl, sym, ap, ◌∙◌, inl, inr, subst, arith, eq-eqb}
use Rattle.std.specs.Prelude.{pos, negsuc, filter, flat_map, ◌==◌, Result, Ok, Err, IfOk}
use Rattle.std.specs.List.{list_all, range_with_len}
use Rattle.std.specs.Ordering.{int_eq}
use Rattle.std.proofs.lemmas.Bool.{and_parts, and_from, eqb-true, cases_Bool}
use Rattle.std.proofs.lemmas.Bool.Decides.{Decides-int_eq}
use Rattle.std.proofs.lemmas.List.Folds.{list_any-append}
use Rattle.solv_pool.specs.Prelude.{is_among, is_fact, is_pack, names_package, is_over}
use Rattle.solv_trail.specs.Asked.{set_of}
use Rattle.solv_core.specs.GoodTrails.{facts_of, literal_of}
use Rattle.solv_core.specs.declared.verdicts.Event.{Event}
use Rattle.solv_core.specs.declared.verdicts.Event.TheVariants as event
use Rattle.solv_pool.proofs.Members.{Has}
use Rattle.solv_questions.proofs.Asking.{in_range}
use Rattle.solv_decide.specs.Inner.Sets.{pack_of}
use Rattle.solv_decide.specs.Sets.{IsSetOf}
use Rattle.solv_list.proofs.Booleans.{or_false, same_truth}
use Rattle.solv_list.proofs.Lists.{list_all_join}
use Rattle.solv_list.proofs.Numbers.{equal_swapped}

-- the packages of an event are over what its literal is over
one_pack : (count : ℕ) (e : Event) → names_package count (literal_of e) ≡ true → list_all (is_pack count) (pack_of e) ≡ true
one_pack count (event.Known (pos zero)) h = refl
one_pack count (event.Known (pos (suc p))) h = and_from (is_pack count (suc p)) true h refl
one_pack count (event.Known (negsuc k)) h = refl
one_pack count (event.Took q p) h = and_from (is_pack count p) true h refl

packs_over : (count : ℕ) (events : List Event) → is_over count (facts_of events) ≡ true → list_all (is_pack count) (flat_map pack_of events) ≡ true
packs_over count [] h = refl
packs_over count (e ∷ events) h =
    let both = and_parts (names_package count (literal_of e)) (is_over count (facts_of events)) h in
    list_all_join (is_pack count) (pack_of e) (flat_map pack_of events) (one_pack count e both.0) (packs_over count events both.1)

zero_apart : (p : ℕ) → 1 ≤ p → (p == 0) ≡ false
zero_apart p h = grind (arith, h)

-- a package is one of an event exactly where its literal says that it is in
int_tests : (p q : ℕ) → int_eq (pos p) (pos q) ≡ (p == q)
int_tests p q = same_truth (int_eq (pos p) (pos q)) (p == q)
    (λ h. eq-eqb p q (ap (λ z. elim z as (λ _. ℕ) [ pos n ↦ n | negsuc n ↦ 0 ]) ((Decides-int_eq (pos p) (pos q)).0 h)))
    (λ h. (Decides-int_eq (pos p) (pos q)).1 (ap pos (eqb-true p q h)))

never_out : (p k : ℕ) → int_eq (pos p) (negsuc k) ≡ false
never_out p k = elim (cases_Bool (int_eq (pos p) (negsuc k))) [ inl y ↦ absurd (apart ((Decides-int_eq (pos p) (negsuc k)).0 y)) | inr n ↦ n ]
  where
    apart : pos p ≡ negsuc k → ⊥
    apart e = cc

one_fact : (p : ℕ) → 1 ≤ p → (e : Event) → is_among (pack_of e) p ≡ int_eq (pos p) (literal_of e)
one_fact p h (event.Known (pos zero)) = sym (int_tests p 0 ∙ zero_apart p h)
one_fact p h (event.Known (pos (suc q))) = or_false (suc q == p) ∙ equal_swapped (suc q) p ∙ sym (int_tests p (suc q))
one_fact p h (event.Known (negsuc k)) = sym (never_out p k)
one_fact p h (event.Took q o) = or_false (o == p) ∙ equal_swapped o p ∙ sym (int_tests p o)

among_facts : (p : ℕ) → 1 ≤ p → (events : List Event) → is_among (flat_map pack_of events) p ≡ is_fact (facts_of events) (pos p)
among_facts p h [] = refl
among_facts p h (e ∷ events) =
    list_any-append (λ y. y == p) (pack_of e) (flat_map pack_of events)
    ∙ ap (λ b. b || is_among (flat_map pack_of events) p) (one_fact p h e)
    ∙ ap (λ b. int_eq (pos p) (literal_of e) || b) (among_facts p h events)

pub filter_alike : (f g : ℕ → Bool) (xs : List ℕ) → ((x : ℕ) → Has xs x → f x ≡ g x) → filter f xs ≡ filter g xs
filter_alike f g [] h = refl
filter_alike f g (x ∷ xs) h = ap (λ b. cond b (x ∷ filter f xs) (filter f xs)) (h x (inl refl)) ∙ ap (λ l. cond (g x) (x ∷ l) l) (filter_alike f g xs (λ y k. h y (inr k)))

-- the packages in order, after the system, are the set
pub set_is : (events : List Event) (old new : List ℕ) → old ≡ flat_map pack_of events
    → ((count : ℕ) → list_all (is_pack count) old ≡ true → new ≡ filter (is_among old) (range_with_len 1 count)) → IsSetOf events (0 ∷ new)
set_is events old new is order count over =
    let packs = order count (ap (list_all (is_pack count)) is ∙ packs_over count events over) in
    ap (λ l. 0 ∷ l)
    (packs ∙ ap (λ o. filter (is_among o) (range_with_len 1 count)) is
    ∙ filter_alike (is_among (flat_map pack_of events)) (set_of (is_fact (facts_of events))) (range_with_len 1 count) (λ p h.
    let low = (in_range 1 count p h).0 in
    among_facts p low events ∙ ap (λ b. b || is_fact (facts_of events) (pos p)) (sym (zero_apart p low))))

-- the answer of a call that makes it
pub set_if : {T E : Type 0} (items : T → List ℕ) (o : Result T E) (events : List Event) (packs : List ℕ) → IfOk o (λ set. items set ≡ 0 ∷ packs) → IsSetOf events (0 ∷ packs) → IfOk o (λ set. IsSetOf events (items set))
set_if items (Ok set) events packs is h = let S : List ℕ → Type 0 = λ l. IsSetOf events l in subst S (sym is) h
set_if items (Err e) events packs is h = tt
