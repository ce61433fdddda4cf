-- A walk through a chain.
use Rattle.std.proofs.Common.{◌≡◌, ◌≢◌, ℕ, zero, suc, ◌+◌, ◌*◌, ◌/◌, ◌^◌, ◌<◌, ◌≤◌, Bool, true, false, eqb, List, [], ◌∷◌, ◌++◌, length, take, get_or, set, Option, Some, inl, inr, refl, sym, ap, ◌∙◌, subst, arith, append_assoc, get_or-set_other, if◌then◌else◌}
use Rattle.std.specs.Prelude.{ℤ, pos, neg_ℤ, slice_get}
use Rattle.std.specs.List.{list_any, IsDistinct}
use Rattle.std.proofs.lemmas.Map.Made.{IsDistinct-from_AllPairs}
use Rattle.std.proofs.lemmas.Bool.Decides.{Decides-eqb}
use Rattle.std.specs.Ordering.{int_eq}
use Rattle.std.proofs.lemmas.Bool.{or_cases, or_left, or_right, eqb-true, eq-eqb, ne_eqb, false≢true}
use Rattle.std.proofs.lemmas.List.{length-set, take-append-le, length_push}
use Rattle.std.proofs.lemmas.List.Folds.{list_any-append}
use Rattle.std.proofs.lemmas.Map.Steps.{length-le_from_distinct_below}
use Rattle.solv_pool.specs.Prelude.{is_fact, is_refuted}
use Rattle.solv_pack.specs.Inner.Literals.{place_of}
use Rattle.solv_derive.proofs.Facts.{neg-neg, known_here}
use Rattle.solv_trail.specs.Inner.Derivation.{IsConsistent}
use Rattle.solv_trail.proofs.Walk.{take_known, known_at}
use Rattle.solv_watch.specs.Inner.Chains.{no_link, Has, AreOnce, IsChain, AreHung, AreAllHung, other, heads_past, links_past}
use Rattle.solv_watch.specs.Inner.Spares.{AreTwoOf, IsBesideFalse}
use Rattle.solv_watch.specs.Inner.Watching.{literal_of, place_at, IsWatch, ArePairs, AreGuards, AreGuardsAtChoices, Each, AreChained, AreHeadsKept, IsPart, Visited, stays, falsified, forces, moves}
use Rattle.solv_watch.specs.declared.walking.Visit.TheVariants.{Stays, Falsified, Forces, Moves}
use Rattle.solv_derive.specs.Forced.{is_falsified, forced}
use Rattle.solv_derive.proofs.Tables.{place_of-injective}
use Rattle.solv_trail.specs.Inner.Propagated.{IsUsed}
use Rattle.solv_watch.proofs.Hanging.{IsFront, none, upto, Has-left, Has-right, length-heads_past, length-links_past, rehung, once_right, chain_set, behind_past}
use Rattle.solv_watch.proofs.Guards.{moved_guards, moved_pairs, guards_next, guards_more, refuted_next, literal_same, literal_other}

-- the places of two literals differ
place_even : (n m : ℕ) → 2 * n ≡ 2 * (m + 1) + 1 → ⊥
place_even n m e = omega arith

-- what holds where a walk stands before the watch, and after last
pub record IsWalk (count : ℕ) (rules : List (List ℤ)) (used : ℕ → Bool) (heads links : List ℕ) (watched lits : List ℤ) (marks : List ℕ) (at place last watch : ℕ) : Type 0 where
  pub two : length watched ≡ 2 * length rules
  pub linked : length links ≡ 2 * length rules
  pub few : length rules ≤ 2 ^ 28
  pub room : length heads ≡ 2 * count + 2
  pub within : place < length heads
  pub literal : ℤ
  pub placed : place ≡ place_of literal
  pub now_false : is_refuted lits literal ≡ true
  pub pairs : ArePairs rules watched
  pub chain : ℕ → List ℕ
  pub hung : AreHung heads links (IsWatch rules) (place_at watched) chain
  pub all : AreAllHung (IsWatch rules) (place_at watched) chain
  pub front : List ℕ
  pub rest : List ℕ
  pub walked : IsFront last front
  pub here : chain place ≡ front ++ rest
  pub behind : IsChain links watch rest
  pub guards : AreGuards rules used watched (λ v. Has rest v → ⊥) (take (at + 1) lits) lits
  pub choices : AreGuardsAtChoices rules used watched lits marks

-- a chain from nowhere has nothing
rest_none : (links : List ℕ) (rest : List ℕ) → ((w : ℕ) → Has rest w → w < no_link) → IsChain links no_link rest → rest ≡ []
rest_none links [] small h = refl
rest_none links (w ∷ ws) small h = let m : w < no_link = small w (inl refl) in absurd (let e : no_link ≡ w = h.0 in omega arith)

-- a chain from somewhere begins there
rest_some : (links : List ℕ) (watch : ℕ) (rest : List ℕ) → watch ≢ no_link → IsChain links watch rest → (ws : List ℕ) × (rest ≡ watch ∷ ws) × IsChain links (get_or links watch 0) ws
rest_some links watch [] n h = absurd (n h)
rest_some links watch (w ∷ ws) n h =
    let e : w ≡ watch = sym h.0 in
    let P : ℕ → Type 0 = λ v. IsChain links (get_or links v 0) ws in
    (ws, ap (λ v. v ∷ ws) e, subst P e h.1)

-- how many watches stand on a chain, at most so many
abbrev pub chain_length : List ℕ → ℕ → ℕ → ℕ
chain_length links zero from = 0
chain_length links (suc more) from = if eqb from no_link then 0 else suc (chain_length links more (get_or links from 0))

chain_length_is : (links : List ℕ) (fuel from : ℕ) (rest : List ℕ) → IsChain links from rest → length rest ≤ fuel → ((w : ℕ) → Has rest w → w < no_link) → chain_length links fuel from ≡ length rest
chain_length_is links zero from [] h few small = refl
chain_length_is links (suc more) from [] h few small = let e : eqb from no_link ≡ true = eq-eqb from no_link h in rw e refl
chain_length_is links zero from (w ∷ ws) h few small = absurd (omega arith)
chain_length_is links (suc more) from (w ∷ ws) h few small =
    let m : w < no_link = small w (inl refl) in
    let n : from ≡ no_link → ⊥ = λ e. (let q : from ≡ w = h.0 in omega arith) in
    let e : eqb from no_link ≡ false = ne_eqb from no_link n in
    let P : ℕ → Type 0 = λ v. IsChain links (get_or links v 0) ws in
    rw e (ap suc (chain_length_is links more (get_or links from 0) ws (subst P (sym h.0) h.1) (omega arith) (λ v k. small v (inr k))))

-- numbers that differ and are below a bound are at most so many
has_at : (xs : List ℕ) (j d : ℕ) → j < length xs → Has xs (get_or xs j d)
has_at [] j d h = absurd (omega arith)
has_at (x ∷ xs) zero d h = inl refl
has_at (x ∷ xs) (suc j) d h = inr (has_at xs j d (omega arith))

pairs_differ : (xs : List ℕ) → AreOnce xs → (i j d : ℕ) → i < j → j < length xs → get_or xs i d ≡ get_or xs j d → ⊥
pairs_differ [] once i j d h k e = omega arith
pairs_differ (x ∷ xs) once i zero d h k e = omega arith
pairs_differ (x ∷ xs) once zero (suc j) d h k e = once.0 (let P : ℕ → Type 0 = λ v. Has xs v in subst P (sym e) (has_at xs j d (omega arith)))
pairs_differ (x ∷ xs) once (suc i) (suc j) d h k e = pairs_differ xs once.1 i j d (omega arith) (omega arith) e

distinct : (xs : List ℕ) → AreOnce xs → IsDistinct eqb xs
distinct xs h = IsDistinct-from_AllPairs Decides-eqb xs (pairs_differ xs h)

has_of : (xs : List ℕ) (q : ℕ) → list_any (eqb q) xs ≡ true → Has xs q
has_of [] q h = absurd (false≢true h)
has_of (x ∷ xs) q h = elim (or_cases (eqb q x) (list_any (eqb q) xs) h) [ inl e ↦ inl (sym (eqb-true q x e)) | inr k ↦ inr (has_of xs q k) ]

at_most : (xs : List ℕ) (n : ℕ) → AreOnce xs → ((q : ℕ) → Has xs q → q < n) → length xs ≤ n
at_most xs n once below = length-le_from_distinct_below xs n (distinct xs once) (λ q h. below q (has_of xs q h))

module _ (count : ℕ) (rules : List (List ℤ)) (used : ℕ → Bool) (heads links : List ℕ) (watched lits : List ℤ) (marks : List ℕ) (at place : ℕ) where
  pub walk_chained : (last watch : ℕ) → IsWalk count rules used heads links watched lits marks at place last watch → AreChained count rules heads links watched
  walk_chained last watch h = record { two = h.two; linked = h.linked; few = h.few; room = h.room; pairs = h.pairs; chain = h.chain; hung = h.hung; all = h.all }

  -- it begins at the head
  pub walk_start : (x : ℤ) → place ≡ place_of x → place < length heads → at < length lits → get_or lits at (pos 0) ≡ neg_ℤ x → AreChained count rules heads links watched
      → AreGuards rules used watched Each (take at lits) lits → AreGuardsAtChoices rules used watched lits marks
      → IsWalk count rules used heads links watched lits marks at place no_link (get_or heads place 0)
  walk_start x is_place within small stands chained guards choices = record {
    two = chained.two;
    linked = chained.linked;
    few = chained.few;
    room = chained.room;
    within = within;
    literal = x;
    placed = is_place;
    now_false = ap (is_fact lits) (sym stands) ∙ known_at lits at small;
    pairs = chained.pairs;
    chain = chained.chain;
    hung = chained.hung;
    all = chained.all;
    front = [];
    rest = chained.chain place;
    walked = none;
    here = refl;
    behind = chained.hung.linked place within;
    guards = λ v is on away r. elim (refuted_next lits at (literal_of watched v) small r) [
      | inl before ↦ guards v is on tt before
      | inr now ↦
          let e : literal_of watched v ≡ x = sym (neg-neg (literal_of watched v)) ∙ ap neg_ℤ (now ∙ stands) ∙ neg-neg x in
          let p : place_at watched v ≡ place = ap place_of e ∙ sym is_place in
          let P : ℕ → Type 0 = λ q. Has (chained.chain q) v in
          absurd (away (subst P p (chained.all v is)))
    ];
    choices = choices;
  }

  in_rest : (last watch : ℕ) (h : IsWalk count rules used heads links watched lits marks at place last watch) (w : ℕ) → Has h.rest w → (w < length links) × IsWatch rules w × (place_at watched w ≡ place)
  in_rest last watch h w k =
      let P : List ℕ → Type 0 = λ c. Has c w in
      h.hung.own place w (subst P (sym h.here) (Has-right h.front h.rest w k))

  -- at the end all is seen
  pub walk_end : (last : ℕ) → IsWalk count rules used heads links watched lits marks at place last no_link → AreGuards rules used watched Each (take (at + 1) lits) lits
  walk_end last h v is on e r =
      let gone : h.rest ≡ [] = rest_none links h.rest (λ w k. let m : w < length links = (in_rest last no_link h w k).0 in let f : length rules ≤ 2 ^ 28 = h.few in omega (arith, h.linked)) h.behind in
      h.guards v is on (λ k. let P : List ℕ → Type 0 = λ c. Has c v in let none_left : Has [] v = subst P gone k in elim none_left [ ]) r

  -- the watch at which it stands
  pub walk_at : (last watch : ℕ) → IsWalk count rules used heads links watched lits marks at place last watch → watch ≢ no_link → (watch < 2 * length rules) × IsWatch rules watch × (place_at watched watch ≡ place)
  walk_at last watch h n =
      let s = rest_some links watch h.rest n h.behind in
      let P : List ℕ → Type 0 = λ c. Has c watch in
      let o = in_rest last watch h watch (subst P (sym s.1) (inl refl)) in
      (let m : watch < length links = o.0 in omega (arith, h.linked), o.1, o.2)

  in_rest_small : (last watch : ℕ) (h : IsWalk count rules used heads links watched lits marks at place last watch) (w : ℕ) → Has h.rest w → w < no_link
  in_rest_small last watch h w k = let m : w < length links = (in_rest last watch h w k).0 in let f : length rules ≤ 2 ^ 28 = h.few in omega (arith, h.linked)

  rest_few : (last watch : ℕ) (h : IsWalk count rules used heads links watched lits marks at place last watch) → length h.rest ≤ length links
  rest_few last watch h =
      let P : List ℕ → Type 0 = λ c. AreOnce c in
      at_most h.rest (length links) (once_right h.front h.rest (subst P h.here (h.hung.once place))) (λ q k. (in_rest last watch h q k).0)

  -- what is left gets shorter
  shorter : (last watch : ℕ) (h : IsWalk count rules used heads links watched lits marks at place last watch) (ws links2 : List ℕ) → h.rest ≡ watch ∷ ws → length links2 ≡ length links → IsChain links2 (get_or links watch 0) ws
      → chain_length links2 (length links2) (get_or links watch 0) < chain_length links (length links) watch
  shorter last watch h ws links2 e same after =
      let few : length h.rest ≤ length links = rest_few last watch h in
      let long : length h.rest ≡ suc (length ws) = ap (λ c. length c) e in
      let a : chain_length links (length links) watch ≡ length h.rest = chain_length_is links (length links) watch h.rest h.behind few (in_rest_small last watch h) in
      let P : List ℕ → Type 0 = λ c. (v : ℕ) → Has c v → v < no_link in
      let below : (v : ℕ) → Has (watch ∷ ws) v → v < no_link = subst P e (in_rest_small last watch h) in
      let b : chain_length links2 (length links2) (get_or links watch 0) ≡ length ws = chain_length_is links2 (length links2) (get_or links watch 0) ws after (omega (arith, same)) (λ v k. below v (inr k)) in
      omega arith

  -- a rule that has nothing to change
  pub walk_past : (last watch : ℕ) → IsWalk count rules used heads links watched lits marks at place last watch → watch ≢ no_link
      → (used (watch / 2) ≡ true → is_fact lits (literal_of watched (other watch)) ≡ true)
      → IsWalk count rules used heads links watched lits marks at place watch (get_or links watch 0) × (chain_length links (length links) (get_or links watch 0) < chain_length links (length links) watch)
  walk_past last watch h n known =
      let s = rest_some links watch h.rest n h.behind in
      let o = walk_at last watch h n in
      let small : watch < no_link = let m : watch < 2 * length rules = o.0 in let f : length rules ≤ 2 ^ 28 = h.few in omega arith in
      let P : List ℕ → Type 0 = λ c. AreGuards rules used watched (λ v. Has c v → ⊥) (take (at + 1) lits) lits in (
        record {
          two = h.two;
          linked = h.linked;
          few = h.few;
          room = h.room;
          within = h.within;
          literal = h.literal;
          placed = h.placed;
          now_false = h.now_false;
          pairs = h.pairs;
          chain = h.chain;
          hung = h.hung;
          all = h.all;
          front = h.front ++ watch ∷ [];
          rest = s.0;
          walked = upto watch h.front small;
          here = h.here ∙ ap (λ c. h.front ++ c) s.1 ∙ sym (append_assoc h.front (watch ∷ []) s.0);
          behind = s.2;
          guards = guards_next rules used watched watch s.0 (take (at + 1) lits) lits (λ is on r. known on) (subst P s.1 h.guards);
          choices = h.choices;
        },
        shorter last watch h s.0 links s.1 refl s.2,
      )

  -- another literal is watched
  pub walk_moved : (last watch : ℕ) (y : ℤ) (c : List ℤ) → IsWalk count rules used heads links watched lits marks at place last watch → watch ≢ no_link → IsConsistent lits
      → is_refuted lits y ≡ false → place_of y < length heads → slice_get rules (watch / 2) ≡ Some c → AreTwoOf y (literal_of watched (other watch)) c
      → IsWalk count rules used (set (heads_past heads place last (get_or links watch 0)) (place_of y) watch)
      (set (links_past links last (get_or links watch 0)) watch (get_or (heads_past heads place last (get_or links watch 0)) (place_of y) 0))
      (set watched watch y) lits marks at place last (get_or links watch 0)
      × (chain_length (set (links_past links last (get_or links watch 0)) watch (get_or (heads_past heads place last (get_or links watch 0)) (place_of y) 0))
      (length (set (links_past links last (get_or links watch 0)) watch (get_or (heads_past heads place last (get_or links watch 0)) (place_of y) 0))) (get_or links watch 0) < chain_length links (length links) watch)
  walk_moved last watch y c h n apart not_false room found two =
      let s = rest_some links watch h.rest n h.behind in
      let o = walk_at last watch h n in
      let was_false : is_refuted lits (literal_of watched watch) ≡ true = ap (is_refuted lits) (place_of-injective (literal_of watched watch) h.literal (o.2 ∙ h.placed)) ∙ h.now_false in
      let within : watch < length watched = let m : watch < 2 * length rules = o.0 in omega (arith, h.two) in
      let next : ℕ = get_or links watch 0 in
      let heads2 : List ℕ = set (heads_past heads place last next) (place_of y) watch in
      let links2 : List ℕ = set (links_past links last next) watch (get_or (heads_past heads place last next) (place_of y) 0) in
      let there : h.chain place ≡ h.front ++ watch ∷ s.0 = h.here ∙ ap (λ c. h.front ++ c) s.1 in
      let differs : place_of y ≢ place = λ e.
      let q : y ≡ literal_of watched watch = place_of-injective y (literal_of watched watch) (e ∙ sym o.2) in
      false≢true (sym not_false ∙ ap (is_refuted lits) q ∙ was_false) in
      let hang = rehung heads links (IsWatch rules) (place_at watched) h.chain h.hung place watch (place_of y) last h.front s.0 (place_at (set watched watch y))
      h.all h.within room differs h.walked there (ap place_of (literal_same watched watch y within)) (λ v m. ap place_of (literal_other watched watch v y m)) in
      let P : List ℕ → Type 0 = λ d. AreGuards rules used watched (λ v. Has d v → ⊥) (take (at + 1) lits) lits in
      let O : List ℕ → Type 0 = λ d. AreOnce d in
      let once : AreOnce (h.front ++ watch ∷ s.0) = subst O there (h.hung.once place) in
      let gone : Has s.0 watch → ⊥ = (once_right h.front (watch ∷ s.0) once).0 in
      let same : length links2 ≡ length links = length-set (links_past links last next) watch (get_or (heads_past heads place last next) (place_of y) 0) ∙ length-links_past links last next in
      let behind : IsChain links2 next s.0 = chain_set (links_past links last next) watch (get_or (heads_past heads place last next) (place_of y) 0) next s.0 gone (behind_past links last watch next h.front s.0 h.walked once s.2) in (
        record {
          two = length-set watched watch y ∙ h.two;
          linked = length-set (links_past links last next) watch (get_or (heads_past heads place last next) (place_of y) 0) ∙ length-links_past links last next ∙ h.linked;
          few = h.few;
          room = length-set (heads_past heads place last next) (place_of y) watch ∙ length-heads_past heads place last next ∙ h.room;
          within = let m : place < length heads = h.within in omega (arith, length-set (heads_past heads place last next) (place_of y) watch, length-heads_past heads place last next);
          literal = h.literal;
          placed = h.placed;
          now_false = h.now_false;
          pairs = moved_pairs rules used watched lits apart watch y within was_false not_false c found two h.pairs;
          chain = hang.0;
          hung = hang.1;
          all = hang.2;
          front = h.front;
          rest = s.0;
          walked = h.walked;
          here = hang.3;
          behind = behind;
          guards = moved_guards rules used watched lits apart watch y within was_false not_false (λ v. Has (watch ∷ s.0) v → ⊥) (λ v. Has s.0 v → ⊥) (take (at + 1) lits) lits
              (λ l k. take_known lits (at + 1) l k) (λ l k. k) (λ v m k j. elim j [ inl e ↦ m (sym e) | inr r ↦ k r ]) (subst P s.1 h.guards);
          choices = λ k m. let g = h.choices k m in (
            g.0,
            moved_guards rules used watched lits apart watch y within was_false not_false Each Each (take (get_or marks k 0) lits) (take (get_or marks k 0) lits)
                (λ l j. take_known lits (get_or marks k 0) l j) (λ l j. take_known lits (get_or marks k 0) l j) (λ v j e. e) g.1,
          );
        },
        shorter last watch h s.0 links2 s.1 same behind,
      )

  -- one literal more is known
  pub walk_more : (last watch : ℕ) (x : ℤ) → IsWalk count rules used heads links watched lits marks at place last watch → at < length lits → IsWalk count rules used heads links watched (lits ++ x ∷ []) marks at place last watch
  walk_more last watch x h small =
      let t : take (at + 1) (lits ++ x ∷ []) ≡ take (at + 1) lits = take-append-le (at + 1) lits (x ∷ []) (omega arith) in
      let long : length (lits ++ x ∷ []) ≡ length lits + 1 = length_push lits x in
      record {
        two = h.two;
        linked = h.linked;
        few = h.few;
        room = h.room;
        within = h.within;
        literal = h.literal;
        placed = h.placed;
        now_false = list_any-append (int_eq (neg_ℤ h.literal)) lits (x ∷ []) ∙ or_left (is_refuted lits h.literal) (is_fact (x ∷ []) (neg_ℤ h.literal)) h.now_false;
        pairs = h.pairs;
        chain = h.chain;
        hung = h.hung;
        all = h.all;
        front = h.front;
        rest = h.rest;
        walked = h.walked;
        here = h.here;
        behind = h.behind;
        guards = rw t (guards_more rules used watched (λ v. Has h.rest v → ⊥) (take (at + 1) lits) lits (lits ++ x ∷ []) (λ l k. list_any-append (int_eq l) lits (x ∷ []) ∙ or_left (is_fact lits l) (is_fact (x ∷ []) l) k) h.guards);
        choices = λ k m. let g = h.choices k m in
            let e : take (get_or marks k 0) (lits ++ x ∷ []) ≡ take (get_or marks k 0) lits = take-append-le (get_or marks k 0) lits (x ∷ []) g.0 in
            (let f : get_or marks k 0 ≤ length lits = g.0 in omega arith, rw e (g.1));
      }

  -- the literal at which it stands is false, and the other watched one stands besides it in the clause
  pub walk_beside : (last watch : ℕ) → IsWalk count rules used heads links watched lits marks at place last watch → watch ≢ no_link → (c : List ℤ) → slice_get rules (watch / 2) ≡ Some c → IsBesideFalse lits (literal_of watched (other watch)) c
  walk_beside last watch h n c found =
      let o = walk_at last watch h n in
      let e : o.1.clause ≡ c = the_one (slice_get rules (watch / 2)) o.1.clause c o.1.held found in
      let P : List ℤ → Type 0 = λ d. 2 ≤ length d in
      record {
        own = literal_of watched watch;
        two = h.pairs watch c found (subst P e o.1.wide);
        now_false = ap (is_refuted lits) (place_of-injective (literal_of watched watch) h.literal (o.2 ∙ h.placed)) ∙ h.now_false;
      }
    where
      the_one : (o : Option (List ℤ)) (c d : List ℤ) → o ≡ Some c → o ≡ Some d → c ≡ d
      the_one o c d e f = cc

  pub walk_last : (last watch : ℕ) → IsWalk count rules used heads links watched lits marks at place last watch → last < no_link → last < 2 * length rules
  walk_last last watch h small = go last h.front h.walked small (λ w k. let P : List ℕ → Type 0 = λ c. Has c w in (h.hung.own place w (subst P (sym h.here) (Has-left h.front h.rest w k))).0)
    where
      go : (v : ℕ) (front : List ℕ) → IsFront v front → v < no_link → ((w : ℕ) → Has front w → w < length links) → v < 2 * length rules
      go v front none m has = absurd (omega arith)
      go v front (upto u f less) m has = let k : v < length links = has v (Has-right f (v ∷ []) v (inl refl)) in omega (arith, h.linked)

-- the place is that of the literal that is false by the one at this place
abbrev pub IsPlaceAt : List ℤ → ℕ → ℕ → Type 0
IsPlaceAt lits at place = (l : ℤ) → place_of l ≡ place → get_or lits at (pos 0) ≡ neg_ℤ l

-- the heads of other false literals are as they were where a watch goes to one that is not false
pub heads_moved : (before lits : List ℤ) (at place last next watch : ℕ) (y : ℤ) (first heads : List ℕ) → ((l : ℤ) → is_fact before l ≡ true → is_fact lits l ≡ true) → IsPlaceAt before at place → is_refuted lits y ≡ false
    → AreHeadsKept before at first heads → AreHeadsKept before at first (set (heads_past heads place last next) (place_of y) watch)
heads_moved before lits at place last next watch y first heads kept here not_false h l refuted away =
    let other_place : place_of l ≢ place_of y = λ e. false≢true (sym not_false ∙ ap (is_refuted lits) (sym (place_of-injective l y e)) ∙ kept (neg_ℤ l) refuted) in
    let other_head : place_of l ≢ place = λ e. away (here l e) in
    get_or-set_other (heads_past heads place last next) (place_of y) (place_of l) watch 0 other_place ∙ past (eqb last no_link) other_head ∙ h l refuted away
  where
    past : (is_first : Bool) → place_of l ≢ place → get_or (if is_first then set heads place next else heads) (place_of l) 0 ≡ get_or heads (place_of l) 0
    past true n = get_or-set_other heads place (place_of l) next 0 n
    past false n = refl

-- what a look found
pub visited_stays : {rules : List (List ℤ)} {used : ℕ → Bool} {lits : List ℤ} {rule : ℕ} {b : ℤ} → Visited rules used lits rule b Stays → used rule ≡ true → is_fact lits b ≡ true
visited_stays (stays h) = h

pub visited_false : {rules : List (List ℤ)} {used : ℕ → Bool} {lits : List ℤ} {rule : ℕ} {b : ℤ} → Visited rules used lits rule b Falsified → (c : List ℤ) × IsUsed rules used rule c × (is_falsified lits c ≡ true)
visited_false (falsified c u f) = (c, u, f)

pub visited_forces : {rules : List (List ℤ)} {used : ℕ → Bool} {lits : List ℤ} {rule : ℕ} {b : ℤ} → Visited rules used lits rule b Forces → (c : List ℤ) × IsUsed rules used rule c × (forced lits c ≡ Some b)
visited_forces (forces c u f) = (c, u, f)

pub visited_moves : {rules : List (List ℤ)} {used : ℕ → Bool} {lits : List ℤ} {rule : ℕ} {b y : ℤ} → Visited rules used lits rule b (Moves y) → (c : List ℤ) × IsUsed rules used rule c × AreTwoOf y b c × (is_refuted lits y ≡ false)
visited_moves (moves y c u t f) = (c, u, t, f)

-- a rule in use among these is one among all
pub used_among : (all : List (List ℤ)) (inuse : ℕ → Bool) (base : ℕ) (rules : List (List ℤ)) (own : ℕ → Bool) → IsPart all inuse base rules own → (r : ℕ) (c : List ℤ) → IsUsed rules own r c → IsUsed all inuse (base + r) c
used_among all inuse base rules own part r c u = record { found = part.clause r c u.found; on = part.in_use r u.on }

-- the numbers of watches
pub beside_few : (n w : ℕ) → w < 2 * n → n ≤ 2 ^ 28 → w < 536870912
beside_few n w h k = omega arith

pub beside_within : (n w : ℕ) → w < 2 * n → other w < 2 * n
beside_within n w h = omega arith

pub rule_within : (n w : ℕ) → w < 2 * n → w / 2 < n
rule_within n w h = omega arith

pub pushed_known : (T : List ℤ) (x : ℤ) → is_fact (T ++ x ∷ []) x ≡ true
pushed_known T x = list_any-append (int_eq x) T (x ∷ []) ∙ or_right (is_fact T x) (is_fact (x ∷ []) x) (known_here x [])

pub still_known : (T : List ℤ) (x y : ℤ) → is_fact T y ≡ true → is_fact (T ++ x ∷ []) y ≡ true
still_known T x y h = list_any-append (int_eq y) T (x ∷ []) ∙ or_left (is_fact T y) (is_fact (x ∷ []) y) h
