-- Unit propagation is a closure: least, and the same in whatever order it is done.
use Rattle.std.proofs.Common.{◌≡◌, ℕ, zero, suc, ◌+◌, ◌-◌, ◌<◌, ◌≤◌, Bool, true, false, not, ◌&&◌, ◌||◌, List, [], ◌∷◌, ◌++◌, length, take, get_or, Option, Some, None, ◌⊎◌, inl, inr, refl, sym, ap, ◌∙◌, subst, filter, arith, add-one}
use Rattle.std.specs.Prelude.{ℤ, pos, neg_ℤ}
use Rattle.std.specs.List.{list_any}
use Rattle.std.specs.Ordering.{int_eq}
use Rattle.std.proofs.lemmas.Bool.{or_left, or_right, or_cases, or_parts, or_from, cases_Bool, false≢true, false_from_ne_true}
use Rattle.std.proofs.lemmas.List.{take_more, take_all}
use Rattle.std.proofs.lemmas.List.Folds.{list_any-append}
use Rattle.solv_pool.specs.Prelude.{is_fact, is_refuted, is_open, unit, clashes}
use Rattle.solv_derive.specs.Forced.{is_falsified, forced}
use Rattle.solv_derive.specs.Inner.Forced.{is_satisfied}
use Rattle.solv_trail.proofs.Rounds.{grown, settled, round, rounds, rounds_are}
use Rattle.solv_trail.specs.Inner.Derivation.{Within, IsConsistent, IsQuiet, AllQuiet, none, more, Among, here, there}
use Rattle.solv_derive.proofs.Facts.{known_here, known_later, known_cases, all_member, all_from, none_member, none_from, filter_same, Forces, forces_from, forced_from, open_parts, open_from, forced_member, forced_others}
use Rattle.solv_list.proofs.Booleans.{same_truth}

pub within_false : (A K : List ℤ) → Within A K → (l : ℤ) → is_refuted A l ≡ true → is_refuted K l ≡ true
within_false A K w l h = w.sub (neg_ℤ l) h

not_both : (a b : Bool) → b ≡ true → (not a && not b) ≡ false
not_both true b h = refl
not_both false b h = rw h refl

pub not_open : (B : List ℤ) (m : ℤ) → is_refuted B m ≡ true → is_open B m ≡ false
not_open B m g = not_both (is_fact B m) (is_refuted B m) g

module _ (A K c : List ℤ) (x : ℤ) (w : Within A K) (h : forced A c ≡ Some x) where
  -- a clause that forces x is false where more is known and x is false
  pub false_more : is_refuted K x ≡ true → is_falsified K c ≡ true
  false_more f = all_from (is_refuted K) c (λ m k. elim (forced_others A c x (forces_from A c x h) m k) [
    | inl e ↦ ap (is_refuted K) e ∙ f
    | inr g ↦ within_false A K w m g
  ])

  -- and forces x still where more is known and x is open
  pub forced_more : IsConsistent K → is_fact K x ≡ false → is_refuted K x ≡ false → forced K c ≡ Some x
  forced_more apart unknown f =
      let force : Forces A c x = forces_from A c x h in
      let no_true : is_satisfied K c ≡ false = none_from (is_fact K) c (λ m k. elim (forced_others A c x force m k) [
        | inl e ↦ ap (is_fact K) e ∙ unknown
        | inr g ↦ false_from_ne_true (is_fact K m) (λ t. apart.apart m t (within_false A K w m g))
      ]) in
      let same_open : filter (is_open K) c ≡ filter (is_open A) c = filter_same (is_open K) (is_open A) c (λ m k. elim (forced_others A c x force m k) [
        | inl e ↦ ap (is_open K) e ∙ open_from K x unknown f ∙ sym (forced_member A c x force).1 ∙ ap (is_open A) (sym e)
        | inr g ↦ not_open K m (within_false A K w m g) ∙ sym (not_open A m g)
      ]) in
      forced_from K c x (record { none_true = no_true; the_open = same_open ∙ force.the_open })

none_some : (x : ℤ) → None ≡ Some x → ⊥
none_some x h = cc

-- what a part of K forces stands in K, where K is consistent and the clause is quiet there
pub forced_within : (A K c : List ℤ) (x : ℤ) → Within A K → IsConsistent K → IsQuiet K c → forced A c ≡ Some x → is_fact K x ≡ true
forced_within A K c x w apart quiet h = elim (cases_Bool (is_fact K x)) [
  | inl k ↦ k
  | inr unknown ↦ elim (cases_Bool (is_refuted K x)) [
    | inl f ↦ absurd (false≢true (sym quiet.not_false ∙ false_more A K c x w h f))
    | inr f ↦ absurd (none_some x (sym quiet.forces_none ∙ forced_more A K c x w h apart unknown f))
  ]
]

pub within_grown : (o : Option ℤ) (A K : List ℤ) → Within A K → ((x : ℤ) → o ≡ Some x → is_fact K x ≡ true) → Within (grown o A) K
within_grown None A K w h = w
within_grown (Some x) A K w h = record { sub = λ l k. elim (known_cases x l A k) [ inl e ↦ ap (is_fact K) e ∙ h x refl | inr r ↦ w.sub l r ] }

pub within_settled : (A K c : List ℤ) → Within A K → IsConsistent K → IsQuiet K c → Within (settled A c) K
within_settled A K c w apart quiet = within_grown (forced A c) A K w (λ x h. forced_within A K c x w apart quiet h)

pub within_round : (K A : List ℤ) {F : List (List ℤ)} → Within A K → IsConsistent K → AllQuiet K F → Within (round F A) K
within_round K A w apart none = w
within_round K A w apart (more {c} {F} q rest) = within_round K (settled A c) (within_settled A K c w apart q) apart rest

-- what propagation gives from a part of K is a part of K
pub within_rounds : (k : ℕ) (A K : List ℤ) (F : List (List ℤ)) → Within A K → IsConsistent K → AllQuiet K F → Within (rounds k F A) K
within_rounds zero A K F w apart quiet = w
within_rounds (suc k) A K F w apart quiet = within_round K (rounds k F A) (within_rounds k A K F w apart quiet) apart quiet

-- nothing is lost on the way
pub within_self : (A : List ℤ) → Within A A
within_self A = record { sub = λ l h. h }

pub within_within : (A B C : List ℤ) → Within A B → Within B C → Within A C
within_within A B C v w = record { sub = λ l h. w.sub l (v.sub l h) }

grown_keeps : (o : Option ℤ) (A : List ℤ) → Within A (grown o A)
grown_keeps None A = within_self A
grown_keeps (Some x) A = record { sub = λ l h. known_later x l A h }

pub settled_keeps : (A c : List ℤ) → Within A (settled A c)
settled_keeps A c = grown_keeps (forced A c) A

pub round_keeps : (F : List (List ℤ)) (A : List ℤ) → Within A (round F A)
round_keeps [] A = within_self A
round_keeps (c ∷ F) A = within_within A (settled A c) (round F (settled A c)) (settled_keeps A c) (round_keeps F (settled A c))

pub rounds_keep : (k : ℕ) (F : List (List ℤ)) (A : List ℤ) → Within A (rounds k F A)
rounds_keep zero F A = within_self A
rounds_keep (suc k) F A = within_within A (rounds k F A) (rounds (suc k) F A) (rounds_keep k F A) (round_keeps F (rounds k F A))

rounds_more : (j d : ℕ) (F : List (List ℤ)) (A : List ℤ) → Within (rounds j F A) (rounds (d + j) F A)
rounds_more j zero F A = let e : 0 + j ≡ j = omega arith in rw e (within_self (rounds j F A))
rounds_more j (suc d) F A =
    let e : suc d + j ≡ suc (d + j) = omega arith in
    rw e (within_within (rounds j F A) (rounds (d + j) F A) (rounds (suc (d + j)) F A) (rounds_more j d F A) (round_keeps F (rounds (d + j) F A)))

pub rounds_up : (j k : ℕ) (F : List (List ℤ)) (A : List ℤ) → j ≤ k → Within (rounds j F A) (rounds k F A)
rounds_up j k F A h = let e : k ≡ (k - j) + j = omega arith in let P : ℕ → Type 0 = λ n. Within (rounds j F A) (rounds n F A) in subst P (sym e) (rounds_more j (k - j) F A)

pub false_within : (A K c : List ℤ) → Within A K → is_falsified A c ≡ true → is_falsified K c ≡ true
false_within A K c w h = all_from (is_refuted K) c (λ m k. within_false A K w m (all_member (is_refuted A) c h m k))

no_clause_false : {A K : List ℤ} {F : List (List ℤ)} → AllQuiet K F → Within A K → list_any (is_falsified A) F ≡ false
no_clause_false none w = refl
no_clause_false {A} {K} (more {c} {F} q rest) w =
    or_from (is_falsified A c) (list_any (is_falsified A) F)
    (false_from_ne_true (is_falsified A c) (λ f. false≢true (sym q.not_false ∙ false_within A K c w f)))
    (no_clause_false rest w)

-- a fact, or forced by a clause and the literals before it
pub data Reached (F : List (List ℤ)) (A T : List ℤ) (j : ℕ) : Type 0 where
  given : is_fact A (get_or T j (pos 0)) ≡ true → Reached F A T j
  implied : (c : List ℤ) → Among c F → forced (take j T) c ≡ Some (get_or T j (pos 0)) → Reached F A T j

pub record IsDerived (F : List (List ℤ)) (A T : List ℤ) : Type 0 where
  pub at : (j : ℕ) → j < length T → Reached F A T j

-- neither a false clause nor a literal with its negation
pub record IsClear (F : List (List ℤ)) (U : List ℤ) : Type 0 where
  pub apart : IsConsistent U
  pub none_false : (c : List ℤ) → Among c F → is_falsified U c ≡ true → ⊥

any_clause : (p : List ℤ → Bool) {c : List ℤ} {F : List (List ℤ)} → Among c F → list_any p F ≡ false → p c ≡ false
any_clause p (here {F}) h = (or_parts _ _ h).0
any_clause p (there {d} {F} a) h = any_clause p a (or_parts (p d) (list_any p F) h).1

pub clear_from : (F : List (List ℤ)) (U : List ℤ) → clashes F U ≡ false → IsClear F U
clear_from F U h =
    let both = or_parts (list_any (is_falsified U) F) (list_any (is_refuted U) U) h in
    record {
      apart = record { apart = λ l k f. false≢true (sym (none_member (is_refuted U) U both.1 l k) ∙ f) };
      none_false = λ c a f. false≢true (sym (any_clause (is_falsified U) a both.0) ∙ f);
    }

pub any_clause_at : (p : List ℤ → Bool) {c : List ℤ} {F : List (List ℤ)} → Among c F → p c ≡ true → list_any p F ≡ true
any_clause_at p (here {F}) h = or_left _ (list_any p F) h
any_clause_at p (there {d} {F} a) h = or_right (p d) (list_any p F) (any_clause_at p a h)

consistent_within : (A K : List ℤ) → Within A K → IsConsistent K → IsConsistent A
consistent_within A K w h = record { apart = λ l k f. h.apart l (w.sub l k) (within_false A K w l f) }

-- what is forced by a part of R stands after a round from R, where no clash comes
forced_now : (B U c R : List ℤ) (x : ℤ) → Within B R → forced B c ≡ Some x → Within R U → IsConsistent U → (is_falsified U c ≡ true → ⊥) → is_fact (settled R c) x ≡ true
forced_now B U c R x w h v apart alive = elim (cases_Bool (is_fact R x)) [
  | inl k ↦ (settled_keeps R c).sub x k
  | inr unknown ↦ elim (cases_Bool (is_refuted R x)) [
    | inl f ↦ absurd (alive (false_within R U c v (false_more B R c x w h f)))
    | inr f ↦
        let e : forced R c ≡ Some x = forced_more B R c x w h (consistent_within R U v apart) unknown f in
        let P : Option ℤ → Type 0 = λ o. is_fact (grown o R) x ≡ true in subst P (sym e) (known_here x R)
  ]
]

pub round_reaches : (B U c R : List ℤ) (x : ℤ) {F : List (List ℤ)} → Among c F → Within B R → forced B c ≡ Some x → Within (round F R) U → IsConsistent U → (is_falsified U c ≡ true → ⊥) → is_fact (round F R) x ≡ true
round_reaches B U c R x (here {F}) w h v apart alive =
    let inside : Within (settled R c) U = within_within (settled R c) (round F (settled R c)) U (round_keeps F (settled R c)) v in
    (round_keeps F (settled R c)).sub x (forced_now B U c R x w h (within_within R (settled R c) U (settled_keeps R c) inside) apart alive)
round_reaches B U c R x (there {d} {F} a) w h v apart alive =
    round_reaches B U c (settled R d) x a (within_within B R (settled R d) w (settled_keeps R d)) h v apart alive

-- a list's first literals, with one more
pub known_next : (T : List ℤ) (j : ℕ) → j < length T → (l : ℤ) → is_fact (take (suc j) T) l ≡ true → (is_fact (take j T) l ≡ true) ⊎ (l ≡ get_or T j (pos 0))
known_next T j h l k =
    let e : take (suc j) T ≡ take j T ++ get_or T j (pos 0) ∷ [] = rw (← add-one) (take_more T j (pos 0) h) in
    let s : (is_fact (take j T) l || is_fact (get_or T j (pos 0) ∷ []) l) ≡ true = sym (list_any-append (int_eq l) (take j T) (get_or T j (pos 0) ∷ [])) ∙ ap (λ v. is_fact v l) (sym e) ∙ k in
    elim (or_cases (is_fact (take j T) l) (is_fact (get_or T j (pos 0) ∷ []) l) s) [
      | inl a ↦ inl a
      | inr b ↦ elim (known_cases (get_or T j (pos 0)) l [] b) [ inl f ↦ inr f | inr z ↦ absurd (false≢true z) ]
    ]

module _ (F : List (List ℤ)) (A T : List ℤ) (derived : IsDerived F A T) where
  -- so many rounds reach the first so many literals of a derivation, where no clash comes
  pub derived_within : (k : ℕ) → IsClear F (rounds k F A) → (j : ℕ) → j ≤ length T → j ≤ k → Within (take j T) (rounds j F A)
  derived_within k clear zero g h = record { sub = λ l z. absurd (false≢true z) }
  derived_within k clear (suc j) g h =
      let before : Within (take j T) (rounds j F A) = derived_within k clear j (omega arith) (omega arith) in
      record {
        sub = λ l m. elim (known_next T j (omega arith) l m) [
          | inl a ↦ (round_keeps F (rounds j F A)).sub l (before.sub l a)
          | inr e ↦ let P : ℤ → Type 0 = λ v. is_fact (rounds (suc j) F A) v ≡ true in
              subst P (sym e) (elim (derived.at j (omega arith)) [
                | given q ↦ (rounds_keep (suc j) F A).sub (get_or T j (pos 0)) q
                | implied c a q ↦ round_reaches (take j T) (rounds k F A) c (rounds j F A) (get_or T j (pos 0)) a before q (rounds_up (suc j) k F A h) clear.apart (clear.none_false c a)
              ])
        ];
      }

  all_within : (k : ℕ) → length T ≤ k → IsClear F (rounds k F A) → Within T (rounds k F A)
  all_within k h clear =
      let w : Within (take (length T) T) (rounds (length T) F A) = derived_within k clear (length T) (omega arith) h in
      let v : Within T (rounds (length T) F A) = let P : List ℤ → Type 0 = λ u. Within u (rounds (length T) F A) in subst P (take_all (length T) T (omega arith)) w in
      within_within T (rounds (length T) F A) (rounds k F A) v (rounds_up (length T) k F A h)

  -- where a derivation makes a clause false, propagation clashes
  pub clash_reached : (k : ℕ) → length T ≤ k → (c : List ℤ) → Among c F → is_falsified T c ≡ true → clashes F (rounds k F A) ≡ true
  clash_reached k h c a f = elim (cases_Bool (clashes F (rounds k F A))) [
    | inl e ↦ e
    | inr e ↦
        let clear : IsClear F (rounds k F A) = clear_from F (rounds k F A) e in
        absurd (clear.none_false c a (false_within T (rounds k F A) c (all_within k h clear) f))
  ]

  module _ (k : ℕ) (long : length T ≤ k) (start : Within A T) (apart : IsConsistent T) (quiet : AllQuiet T F) where
    -- where a derivation is at rest, propagation gives exactly its literals, and no clash
    pub rest_is_clear : clashes F (rounds k F A) ≡ false
    rest_is_clear =
        let inside : Within (rounds k F A) T = within_rounds k A T F start apart quiet in
        or_from (list_any (is_falsified (rounds k F A)) F) (list_any (is_refuted (rounds k F A)) (rounds k F A))
        (no_clause_false quiet inside)
        (none_from (is_refuted (rounds k F A)) (rounds k F A) (λ l m. false_from_ne_true (is_refuted (rounds k F A) l) (λ f. apart.apart l (inside.sub l m) (within_false (rounds k F A) T inside l f))))

    pub rest_is_reached : (l : ℤ) → is_fact (rounds k F A) l ≡ is_fact T l
    rest_is_reached l = same_truth (is_fact (rounds k F A) l) (is_fact T l)
        ((within_rounds k A T F start apart quiet).sub l)
        ((all_within k long (clear_from F (rounds k F A) rest_is_clear)).sub l)

-- the same of unit propagation as it is defined
module _ (n : ℕ) (F : List (List ℤ)) (A T : List ℤ) (derived : IsDerived F A T) (long : length T ≤ n + 1) where
  pub clash_in_unit : (c : List ℤ) → Among c F → is_falsified T c ≡ true → clashes F (unit n F A) ≡ true
  clash_in_unit c a f = ap (clashes F) (rounds_are (n + 1) F A) ∙ clash_reached F A T derived (n + 1) long c a f

  module _ (start : Within A T) (apart : IsConsistent T) (quiet : AllQuiet T F) where
    pub unit_is_clear : clashes F (unit n F A) ≡ false
    unit_is_clear = ap (clashes F) (rounds_are (n + 1) F A) ∙ rest_is_clear F A T derived (n + 1) long start apart quiet

    pub unit_is_reached : (l : ℤ) → is_fact (unit n F A) l ≡ is_fact T l
    unit_is_reached l = ap (λ v. is_fact v l) (rounds_are (n + 1) F A) ∙ rest_is_reached F A T derived (n + 1) long start apart quiet l

-- a clause with two literals that are open, at two places, is quiet
pub two_open_quiet : (K c : List ℤ) (l m : ℤ) → is_fact c l ≡ true → is_fact c m ≡ true → (l ≡ m → ⊥) → is_open K l ≡ true → is_open K m ≡ true → IsQuiet K c
two_open_quiet K c l m hl hm apart ol om = record {
  forces_none = none_of (forced K c) (λ x e. apart (only x e l hl ol ∙ sym (only x e m hm om)));
  not_false = false_from_ne_true (is_falsified K c) (λ f. false≢true (sym (open_parts K l ol).1 ∙ all_member (is_refuted K) c f l hl));
}
  where
    none_of : (o : Option ℤ) → ((x : ℤ) → o ≡ Some x → ⊥) → o ≡ None
    none_of None h = refl
    none_of (Some x) h = absurd (h x refl)

    only : (x : ℤ) → forced K c ≡ Some x → (n : ℤ) → is_fact c n ≡ true → is_open K n ≡ true → n ≡ x
    only x e n hn on = elim (forced_others K c x (forces_from K c x e) n hn) [
      | inl s ↦ s
      | inr f ↦ absurd (false≢true (sym (open_parts K n on).1 ∙ f))
    ]

-- a derivation stays one, and rest stays rest, when such a clause comes to the others
pub among_more : (d : List ℤ) {c : List ℤ} {F : List (List ℤ)} → Among c F → Among c (F ++ d ∷ [])
among_more d here = here
among_more d (there a) = there (among_more d a)

pub derived_more : (F : List (List ℤ)) (A T d : List ℤ) → IsDerived F A T → IsDerived (F ++ d ∷ []) A T
derived_more F A T d h = record { at = λ j l. elim (h.at j l) [ given q ↦ given q | implied c a q ↦ implied c (among_more d a) q ] }

pub quiet_more : (K d : List ℤ) {F : List (List ℤ)} → AllQuiet K F → IsQuiet K d → AllQuiet K (F ++ d ∷ [])
quiet_more K d none q = more q none
quiet_more K d (more p rest) q = more p (quiet_more K d rest q)
