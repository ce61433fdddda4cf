-- One rule after another is hung at two of its literals.
use Rattle.std.proofs.Common.{◌≡◌, ◌≢◌, ℕ, zero, suc, ◌+◌, ◌*◌, ◌/◌, ◌^◌, ◌<◌, ◌≤◌, true, false, List, [], ◌∷◌, ◌++◌, length, take, get_or, set, Some, inl, inr, refl, sym, ap, ◌∙◌, subst, arith, length-append, take_all, length-take-le, eqb, eq-eqb, ne_eqb, if◌then◌else◌}
use Rattle.std.specs.Prelude.{ℤ, pos, slice_get}
use Rattle.std.proofs.lemmas.Bool.{cases_lt, cases_eq, cases_Bool}
use Rattle.std.proofs.lemmas.List.{length-set, length_push, get_or_append_left, get_or_push, take_at}
use Rattle.std.proofs.lemmas.Option.{slice_get_within}
use Rattle.solv_pack.specs.Inner.Literals.{place_of}
use Rattle.solv_watch.specs.Inner.Chains.{no_link, Has, IsChain, AreHung, AreAllHung, other}
use Rattle.solv_watch.specs.Inner.Spares.{AreTwoOf}
use Rattle.solv_watch.specs.Inner.Watching.{literal_of, place_at, IsWatch, ArePairs, AreChained, AreChainedTo, AreNarrow}
use Rattle.std.specs.Ordering.{int_eq}
use Rattle.solv_pool.specs.Prelude.{is_fact}
use Rattle.solv_derive.proofs.Facts.{known_later, known_same}
use Rattle.solv_watch.specs.Inner.Spares.{without}
use Rattle.solv_watch.proofs.Pairs.{two_flip, without_here, without_later}
use Rattle.solv_watch.proofs.Hanging.{put, put_is, put_same, hung_somewhere}
use Rattle.solv_watch.proofs.Adding.{entry_first, entry_second, entry_before}
use Rattle.solv_list.proofs.Answers.{one_clause}
use Rattle.solv_list.proofs.Numbers.{same_integer}

-- the first rules
get_taken : (xs : List (List ℤ)) (r k : ℕ) (c : List ℤ) → slice_get (take r xs) k ≡ Some c → (slice_get xs k ≡ Some c) × (k < r)
get_taken [] zero k c h = absurd (cc)
get_taken [] (suc r) k c h = absurd (cc)
get_taken (x ∷ xs) zero k c h = absurd (cc)
get_taken (x ∷ xs) (suc r) zero c h = (h, omega arith)
get_taken (x ∷ xs) (suc r) (suc k) c h = let m = get_taken xs r k c h in (m.0, let n : k < r = m.1 in omega arith)

take_get : (xs : List (List ℤ)) (r k : ℕ) (c : List ℤ) → k < r → slice_get xs k ≡ Some c → slice_get (take r xs) k ≡ Some c
take_get [] r k c h e = absurd (cc)
take_get (x ∷ xs) zero k c h e = absurd (omega arith)
take_get (x ∷ xs) (suc r) zero c h e = e
take_get (x ∷ xs) (suc r) (suc k) c h e = take_get xs r k c (omega arith) e

is_more : (rules : List (List ℤ)) (r v : ℕ) → IsWatch (take r rules) v → IsWatch (take (r + 1) rules) v
is_more rules r v is =
    let m = get_taken rules r (v / 2) is.clause is.held in
    record { clause = is.clause; held = take_get rules (r + 1) (v / 2) is.clause (let n : v / 2 < r = m.1 in omega arith) m.0; wide = is.wide }

is_less : (rules : List (List ℤ)) (r v : ℕ) → v / 2 < r → IsWatch (take (r + 1) rules) v → IsWatch (take r rules) v
is_less rules r v h is =
    let m = get_taken rules (r + 1) (v / 2) is.clause is.held in
    record { clause = is.clause; held = take_get rules r (v / 2) is.clause h m.0; wide = is.wide }

is_below : (rules : List (List ℤ)) (r v : ℕ) → IsWatch (take r rules) v → v / 2 < r
is_below rules r v is = (get_taken rules r (v / 2) is.clause is.held).1

module _ (count r : ℕ) (rules : List (List ℤ)) (heads links : List ℕ) (watched : List ℤ) (chained : AreChainedTo count r rules heads links watched) (c : List ℤ) (found : slice_get rules r ≡ Some c) where
  below : r < length rules
  below = slice_get_within rules r c found

  -- the entries of earlier watches are as they were
  entry_old : (a b : ℤ) (v : ℕ) → v / 2 < r → literal_of (watched ++ a ∷ b ∷ []) v ≡ literal_of watched v
  entry_old a b v h = entry_before watched a b v (omega (arith, chained.two))

  pairs_old : (a b : ℤ) (v : ℕ) (d : List ℤ) → v / 2 < r → slice_get (take (r + 1) rules) (v / 2) ≡ Some d → 2 ≤ length d → AreTwoOf (literal_of (watched ++ a ∷ b ∷ []) v) (literal_of (watched ++ a ∷ b ∷ []) (other v)) d
  pairs_old a b v d h held wide =
      let m = get_taken rules (r + 1) (v / 2) d held in
      rw (entry_old a b v h, entry_old a b (other v) (omega arith)) (chained.pairs v d (take_get rules r (v / 2) d h m.0) wide)

  last_clause : (v : ℕ) (d : List ℤ) → v / 2 ≡ r → slice_get (take (r + 1) rules) (v / 2) ≡ Some d → c ≡ d
  last_clause v d e held = one_clause (slice_get rules r) c d found (ap (slice_get rules) (sym e) ∙ (get_taken rules (r + 1) (v / 2) d held).0)

  -- a rule with fewer than two literals is passed
  pub passed : (a b : ℤ) → length c < 2 → AreChainedTo count (r + 1) rules heads links (watched ++ a ∷ b ∷ [])
  passed a b short =
      let small : (v : ℕ) → IsWatch (take (r + 1) rules) v → v / 2 < r = λ v is.
      let n : v / 2 < r + 1 = is_below rules (r + 1) v is in
      elim (cases_lt (v / 2) r) [
        | inl h ↦ h
        | inr h ↦
            let e : c ≡ is.clause = last_clause v is.clause (omega arith) is.held in
            let P : List ℤ → Type 0 = λ d. length d < 2 in
            let s : length is.clause < 2 = subst P e short in
            let w : 2 ≤ length is.clause = is.wide in
            absurd (omega arith)
      ] in
      record {
        two = length-append watched (a ∷ b ∷ []) ∙ (omega (arith, chained.two));
        upto = let h : r < length rules = below in omega arith;
        linked = chained.linked;
        few = chained.few;
        room = chained.room;
        pairs = λ v d held wide.
            pairs_old a b v d (small v (record { clause = d; held = held; wide = wide })) held wide;
        chain = chained.chain;
        hung = record {
          linked = chained.hung.linked;
          once = chained.hung.once;
          own = λ p v h. let o = chained.hung.own p v h in (o.0, is_more rules r v o.1, ap place_of (entry_old a b v (is_below rules r v o.1)) ∙ o.2);
        };
        all = λ v is.
            let h = small v is in
            let P : ℕ → Type 0 = λ q. Has (chained.chain q) v in
            subst P (ap place_of (sym (entry_old a b v h))) (chained.all v (is_less rules r v h is));
      }

  -- another is hung at two places of it
  pub added : (a b : ℤ) → 2 ≤ length c → AreTwoOf a b c → place_of a < length heads → place_of b < length heads
      → AreChainedTo count (r + 1) rules (set (set heads (place_of a) (2 * r)) (place_of b) (2 * r + 1))
      (set (set links (2 * r) (get_or heads (place_of a) 0)) (2 * r + 1) (get_or (set heads (place_of a) (2 * r)) (place_of b) 0)) (watched ++ a ∷ b ∷ [])
  added a b wide two near_a near_b =
      let w0 : ℕ = 2 * r in
      let w1 : ℕ = 2 * r + 1 in
      let pa : ℕ = place_of a in
      let pb : ℕ = place_of b in
      let is : ℕ → Type 0 = IsWatch (take (r + 1) rules) in
      let final : List ℤ = watched ++ a ∷ b ∷ [] in
      let within : r < length rules = below in
      let at1 : ℕ → ℕ = λ v. if eqb v w0 then pa else place_at watched v in
      let start : AreHung heads links is (place_at watched) chained.chain = record {
        linked = chained.hung.linked;
        once = chained.hung.once;
        own = λ p v h. let o = chained.hung.own p v h in (o.0, is_more rules r v o.1, o.2);
      } in
      let earlier : (q v : ℕ) → Has (chained.chain q) v → v / 2 < r = λ q v h. is_below rules r v (chained.hung.own q v h).1 in
      let is0 : is w0 = record { clause = c; held = take_get rules (r + 1) (w0 / 2) c (omega arith) (ap (slice_get rules) (let e : w0 / 2 ≡ r = omega arith in e) ∙ found); wide = wide } in
      let is1 : is w1 = record { clause = c; held = take_get rules (r + 1) (w1 / 2) c (omega arith) (ap (slice_get rules) (let e : w1 / 2 ≡ r = omega arith in e) ∙ found); wide = wide } in
      let heads1 : List ℕ = set heads pa w0 in
      let links1 : List ℕ = set links w0 (get_or heads pa 0) in
      let chain1 : ℕ → List ℕ = put chained.chain pa (w0 ∷ chained.chain pa) in
      let here0 : at1 w0 ≡ pa = (let e : eqb w0 w0 ≡ true = eq-eqb w0 w0 refl in rw e refl) in
      let same0 : (v : ℕ) → v ≢ w0 → at1 v ≡ place_at watched v = λ v n. (let e : eqb v w0 ≡ false = ne_eqb v w0 n in rw e refl) in
      let one : AreHung heads1 links1 is at1 chain1 = hung_somewhere heads links is (place_at watched) chained.chain start pa w0 at1 near_a (omega (arith, chained.linked)) is0
      (λ q h. let m : w0 / 2 < r = earlier q w0 h in omega arith) here0 same0 in
      let gone1 : (q : ℕ) → Has (chain1 q) w1 → ⊥ = λ q. put_is (λ ws. Has ws w1 → ⊥) chained.chain pa (w0 ∷ chained.chain pa) q
      (λ e h. elim h [ inl f ↦ (let g : w0 ≡ w1 = f in omega arith) | inr k ↦ (let m : w1 / 2 < r = earlier pa w1 k in omega arith) ])
      (λ n h. let m : w1 / 2 < r = earlier q w1 h in omega arith) in
      let at2_first : place_at final w0 ≡ pa = ap place_of (entry_first watched a b r w0 chained.two refl) in
      let at2_second : place_at final w1 ≡ pb = ap place_of (entry_second watched a b r w1 chained.two refl) in
      -- between the two steps each watch has the place that it has in the end
      let at2 : ℕ → ℕ = λ v. if eqb v w1 then pb else at1 v in
      let here1 : at2 w1 ≡ pb = (let e : eqb w1 w1 ≡ true = eq-eqb w1 w1 refl in rw e refl) in
      let same1 : (v : ℕ) → v ≢ w1 → at2 v ≡ at1 v = λ v n. (let e : eqb v w1 ≡ false = ne_eqb v w1 n in rw e refl) in
      let near_b1 : pb < length heads1 = omega (arith, length-set heads pa w0) in
      let fits1 : w1 < length links1 = omega (arith, length-set links w0 (get_or heads pa 0), chained.linked) in
      let both : AreHung (set heads1 pb w1) (set links1 w1 (get_or heads1 pb 0)) is at2 (put chain1 pb (w1 ∷ chain1 pb)) = hung_somewhere heads1 links1 is at1 chain1 one pb w1 at2 near_b1 fits1 is1 gone1 here1 same1 in
      let agree : (v : ℕ) → is v → at2 v ≡ place_at final v = λ v good.
      let n : v / 2 < r + 1 = is_below rules (r + 1) v good in
      elim (cases_eq v w1) [
        | inl e ↦ ap at2 e ∙ here1 ∙ sym at2_second ∙ ap (place_at final) (sym e)
        | inr m ↦ elim (cases_eq v w0) [
          | inl e ↦ same1 v m ∙ ap at1 e ∙ here0 ∙ sym at2_first ∙ ap (place_at final) (sym e)
          | inr k ↦ same1 v m ∙ same0 v k ∙ ap place_of (sym (entry_old a b v (omega arith)))
        ]
      ] in
      let stays : (chain : ℕ → List ℕ) (x w q v : ℕ) → Has (chain q) v → Has (put chain x (w ∷ chain x) q) v = λ chain x w q v h.
      put_is (λ ws. Has ws v) chain x (w ∷ chain x) q (λ e. inr (let P : ℕ → Type 0 = λ u. Has (chain u) v in subst P e h)) (λ n. h) in
      let top : (chain : ℕ → List ℕ) (x w : ℕ) → Has (put chain x (w ∷ chain x) x) w = λ chain x w.
      (let P : List ℕ → Type 0 = λ ws. Has ws w in subst P (sym (put_same chain x (w ∷ chain x))) (inl refl)) in
      record {
        two = length-append watched (a ∷ b ∷ []) ∙ (omega (arith, chained.two));
        upto = omega arith;
        linked = length-set links1 w1 (get_or heads1 pb 0) ∙ length-set links w0 (get_or heads pa 0) ∙ chained.linked;
        few = chained.few;
        room = length-set heads1 pb w1 ∙ length-set heads pa w0 ∙ chained.room;
        pairs = λ v d held long. elim (cases_lt (v / 2) r) [
          | inl h ↦ pairs_old a b v d h held long
          | inr h ↦
              let n : v / 2 < r + 1 = is_below rules (r + 1) v (record { clause = d; held = held; wide = long }) in
              let e : c ≡ d = last_clause v d (omega arith) held in
              let P : List ℤ → Type 0 = λ x. AreTwoOf (literal_of final v) (literal_of final (other v)) x in
              subst P e (elim (cases_eq v w0) [
                | inl f ↦ rw (entry_first watched a b r v chained.two f, entry_second watched a b r (other v) chained.two (omega arith)) two
                | inr f ↦ rw (entry_second watched a b r v chained.two (omega arith), entry_first watched a b r (other v) chained.two (omega arith)) (two_flip a b c two)
              ])
        ];
        chain = put chain1 pb (w1 ∷ chain1 pb);
        hung = record {
          linked = both.linked;
          once = both.once;
          own = λ p v h. let o = both.own p v h in (o.0, o.1, sym (agree v o.1) ∙ o.2);
        };
        all = λ v good.
            let n : v / 2 < r + 1 = is_below rules (r + 1) v good in
            let P : ℕ → Type 0 = λ q. Has (put chain1 pb (w1 ∷ chain1 pb) q) v in
            elim (cases_eq v w1) [
              | inl e ↦
                  let Q : ℕ → Type 0 = λ u. Has (put chain1 pb (w1 ∷ chain1 pb) (place_at final u)) u in
                  let S : ℕ → Type 0 = λ q. Has (put chain1 pb (w1 ∷ chain1 pb) q) w1 in
                  subst Q (sym e) (subst S (sym at2_second) (top chain1 pb w1))
              | inr m ↦ elim (cases_eq v w0) [
                | inl e ↦
                    let Q : ℕ → Type 0 = λ u. Has (put chain1 pb (w1 ∷ chain1 pb) (place_at final u)) u in
                    let S : ℕ → Type 0 = λ q. Has (put chain1 pb (w1 ∷ chain1 pb) q) w0 in
                    subst Q (sym e) (subst S (sym at2_first) (stays chain1 pb w1 pa w0 (top chained.chain pa w0)))
                | inr k ↦
                    let small : v / 2 < r = omega arith in
                    subst P (ap place_of (sym (entry_old a b v small))) (stays chain1 pb w1 (place_at watched v) v (stays chained.chain pa w0 (place_at watched v) v (chained.all v (is_less rules r v small good))))
              ]
            ];
      }

-- all rules are chained
pub all_chained : (count : ℕ) (rules : List (List ℤ)) (heads links : List ℕ) (watched : List ℤ) → AreChainedTo count (length rules) rules heads links watched → AreChained count rules heads links watched
all_chained count rules heads links watched h =
    let e : take (length rules) rules ≡ rules = take_all (length rules) rules (omega arith) in
    let P : List (List ℤ) → Type 0 = λ rs. ArePairs rs watched in
    let Q : List (List ℤ) → Type 0 = λ rs. AreHung heads links (IsWatch rs) (place_at watched) h.chain in
    let S : List (List ℤ) → Type 0 = λ rs. AreAllHung (IsWatch rs) (place_at watched) h.chain in
    record { two = h.two; linked = h.linked; few = h.few; room = h.room; pairs = subst P e h.pairs; chain = h.chain; hung = subst Q e h.hung; all = subst S e h.all }

-- nothing is chained yet
pub none_chained : (count : ℕ) (rules : List (List ℤ)) (heads links : List ℕ) → length heads ≡ 2 * count + 2 → ((p : ℕ) → p < length heads → get_or heads p 0 ≡ no_link) → length links ≡ 2 * length rules → length rules ≤ 2 ^ 28
    → AreChainedTo count 0 rules heads links []
none_chained count rules heads links room each linked few = record {
  two = refl;
  upto = omega arith;
  linked = linked;
  few = few;
  room = room;
  pairs = λ w c held wide. absurd (let m = (get_taken rules 0 (w / 2) c held).1 in omega arith);
  chain = λ p. [];
  hung = record { linked = each; once = λ p. tt; own = λ p w h. elim h [ ] };
  all = λ w is. absurd (let m : w / 2 < 0 = is_below rules 0 w is in omega arith);
}

pub none_at_all : (count : ℕ) (heads links : List ℕ) → length heads ≡ 2 * count + 2 → ((p : ℕ) → p < length heads → get_or heads p 0 ≡ no_link) → length links ≡ 0 → AreChained count [] heads links []
none_at_all count heads links room each none = all_chained count [] heads links [] (none_chained count [] heads links room each none (omega arith))

-- the first two literals stand at two places
pub first_two : (c : List ℤ) (a b : ℤ) → 2 ≤ length c → a ≡ get_or c 0 (pos 0) → b ≡ get_or c 1 (pos 0) → AreTwoOf a b c
first_two [] a b h e f = absurd (omega arith)
first_two (x ∷ []) a b h e f = absurd (omega arith)
first_two (x ∷ y ∷ c) a b h e f = record {
  second = known_later x b (y ∷ c) (known_same y b c f);
  first = elim (cases_Bool (int_eq x b)) [
    | inl t ↦ let q : x ≡ b = same_integer x b t in ap (λ l. is_fact l a) (without_here b x (y ∷ c) t) ∙ known_same y a c (e ∙ q ∙ f)
    | inr n ↦ ap (λ l. is_fact l a) (without_later b x (y ∷ c) n) ∙ known_same x a (without b (y ∷ c)) e
  ];
}

-- the rules with fewer than two literals, one rule on
pub narrow_one : (rules : List (List ℤ)) (r : ℕ) (c : List ℤ) (numbers : List ℕ) → slice_get rules r ≡ Some c → length c < 2 → AreNarrow (take r rules) numbers → AreNarrow (take (r + 1) rules) (numbers ++ r ∷ [])
narrow_one rules r c numbers found short h =
    let within : r < length rules = slice_get_within rules r c found in
    let few : length (take r rules) ≡ r = length-take-le r rules (omega arith) in
    let more : length (take (r + 1) rules) ≡ r + 1 = length-take-le (r + 1) rules (omega arith) in
    let long : length (numbers ++ r ∷ []) ≡ length numbers + 1 = length_push numbers r in
    let old : (k : ℕ) → k < length numbers → get_or (numbers ++ r ∷ []) k 0 ≡ get_or numbers k 0 = λ k m. get_or_append_left numbers (r ∷ []) 0 k m in
    let new : (k : ℕ) → length numbers ≡ k → get_or (numbers ++ r ∷ []) k 0 ≡ r = λ k e. get_or_push numbers r 0 k e in
    record {
      rule = λ k m. elim (cases_lt k (length numbers)) [
        | inl small ↦ let b : get_or numbers k 0 < length (take r rules) = h.rule k small in omega (arith, old k small)
        | inr large ↦ omega (arith, new k (let e : length numbers ≡ k = omega arith in e))
      ];
      narrow = λ k d m held. elim (cases_lt k (length numbers)) [
        | inl small ↦
            let b : get_or numbers k 0 < length (take r rules) = h.rule k small in
            let g : slice_get (take (r + 1) rules) (get_or numbers k 0) ≡ Some d = ap (slice_get (take (r + 1) rules)) (sym (old k small)) ∙ held in
            h.narrow k d small (take_get rules r (get_or numbers k 0) d (omega arith) (get_taken rules (r + 1) (get_or numbers k 0) d g).0)
        | inr large ↦
            let g : slice_get (take (r + 1) rules) r ≡ Some d = ap (slice_get (take (r + 1) rules)) (sym (new k (let e : length numbers ≡ k = omega arith in e))) ∙ held in
            let e : c ≡ d = one_clause (slice_get rules r) c d found (get_taken rules (r + 1) r d g).0 in
            let P : List ℤ → Type 0 = λ x. length x < 2 in
            subst P e short
      ];
      all = λ k d held small. let m = get_taken rules (r + 1) k d held in
          elim (cases_lt k r) [
            | inl less ↦ let i = h.all k d (take_get rules r k d less m.0) small in (i.0, (let n : i.0 < length numbers = i.1 in omega arith), old i.0 i.1 ∙ i.2)
            | inr large ↦ (length numbers, omega arith, new (length numbers) refl ∙ (let n : k < r + 1 = m.1 in omega arith))
          ];
    }

pub narrow_none : (rules : List (List ℤ)) (r : ℕ) (c : List ℤ) (numbers : List ℕ) → slice_get rules r ≡ Some c → 2 ≤ length c → AreNarrow (take r rules) numbers → AreNarrow (take (r + 1) rules) numbers
narrow_none rules r c numbers found wide h =
    let within : r < length rules = slice_get_within rules r c found in
    let few : length (take r rules) ≡ r = length-take-le r rules (omega arith) in
    let more : length (take (r + 1) rules) ≡ r + 1 = length-take-le (r + 1) rules (omega arith) in
    record {
      rule = λ k m. let b : get_or numbers k 0 < length (take r rules) = h.rule k m in omega arith;
      narrow = λ k d m held.
          let b : get_or numbers k 0 < length (take r rules) = h.rule k m in
          h.narrow k d m (take_get rules r (get_or numbers k 0) d (omega arith) (get_taken rules (r + 1) (get_or numbers k 0) d held).0);
      all = λ k d held small. let m = get_taken rules (r + 1) k d held in
          elim (cases_lt k r) [
            | inl less ↦ h.all k d (take_get rules r k d less m.0) small
            | inr large ↦
                let e : k ≡ r = (let n : k < r + 1 = m.1 in omega arith) in
                let q : c ≡ d = one_clause (slice_get rules r) c d found (ap (slice_get rules) (sym e) ∙ m.0) in
                let P : List ℤ → Type 0 = λ x. 2 ≤ length x in
                let w : 2 ≤ length d = subst P q wide in
                absurd (omega arith)
          ];
    }

-- further links change no chain
chain_more : (links more : List ℕ) (from : ℕ) (ws : List ℕ) → ((w : ℕ) → Has ws w → w < length links) → IsChain links from ws → IsChain (links ++ more) from ws
chain_more links more from [] within h = h
chain_more links more from (w ∷ ws) within h =
    let e : get_or (links ++ more) w 0 ≡ get_or links w 0 = get_or_append_left links more 0 w (within w (inl refl)) in
    let P : ℕ → Type 0 = λ n. IsChain (links ++ more) n ws in
    (h.0, subst P (sym e) (chain_more links more (get_or links w 0) ws (λ v k. within v (inr k)) h.1))

-- a rule was appended to those that are chained, with two links
pub chained_more : (count : ℕ) (rules : List (List ℤ)) (heads links : List ℕ) (watched : List ℤ) (d : List ℤ) (one two : ℕ) → length rules < 2 ^ 28 → AreChained count rules heads links watched
    → AreChainedTo count (length rules) (rules ++ d ∷ []) heads (links ++ one ∷ two ∷ []) watched
chained_more count rules heads links watched d one two small h =
    let long : length (rules ++ d ∷ []) ≡ length rules + 1 = length_push rules d in
    let e : take (length rules) (rules ++ d ∷ []) ≡ rules = take_at rules (d ∷ []) (length rules) refl in
    let P : List (List ℤ) → Type 0 = λ rs. ArePairs rs watched in
    let Q : List (List ℤ) → Type 0 = λ rs. AreHung heads (links ++ one ∷ two ∷ []) (IsWatch rs) (place_at watched) h.chain in
    let S : List (List ℤ) → Type 0 = λ rs. AreAllHung (IsWatch rs) (place_at watched) h.chain in
    let more : length (links ++ one ∷ two ∷ []) ≡ length links + 2 = length-append links (one ∷ two ∷ []) in
    record {
      two = h.two;
      upto = omega arith;
      linked = omega (arith, h.linked);
      few = omega arith;
      room = h.room;
      pairs = subst P (sym e) h.pairs;
      chain = h.chain;
      hung = subst Q (sym e) (record {
        linked = λ p k. chain_more links (one ∷ two ∷ []) (get_or heads p 0) (h.chain p) (λ w m. (h.hung.own p w m).0) (h.hung.linked p k);
        once = h.hung.once;
        own = λ p w m. let o = h.hung.own p w m in (let n : w < length links = o.0 in omega arith, o.1, o.2);
      });
      all = subst S (sym e) h.all;
    }
