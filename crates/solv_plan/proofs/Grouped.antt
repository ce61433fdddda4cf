-- Groups of entries that are kept, one after the other.
use Rattle.std.proofs.Common.{◌≡◌, ◌+◌, ◌<◌, ◌≤◌, ℕ, Bool, true, false, not, ◌&&◌, ◌||◌, List, [], ◌∷◌, ◌++◌, length, take, drop, set, get_or, eqb, arith, refl, sym, ap, ◌∙◌}
use Rattle.std.specs.List.{list_any, list_all}
use Rattle.std.proofs.lemmas.Bool.{and_parts, and_from}
use Rattle.std.proofs.lemmas.List.{take-append-le, take-take, take_all, length_push, drop_more, take_more, take_more_set, drop-set-lt, take-set-le}
use Rattle.std.proofs.lemmas.List.Folds.{list_all-append}
use Rattle.solv_plan.specs.declared.settled.Entry.{Entry}
use Rattle.solv_plan.specs.declared.settled.Entry.TheVariants.{Rests, Settles}
use Rattle.solv_plan.specs.Inner.Entries.{is_held, group_after, is_settled, each_after, is_right, are_right}
use Rattle.solv_plan.proofs.Resting.{each_push, each_last, group_rests, group_settles, settled_push, settled_front, right_front}

-- xs: all entries; ins: what is in; had, now: what was and is done
module _ (xs : List Entry) (ins had : ℕ → Bool) where
  -- of the entries up to a place these are kept, of which the first so many are whole groups; lost: a package of the open group is out
  pub record IsKept (now : ℕ → Bool) (kept : List Entry) (group place : ℕ) (lost : Bool) : Type 0 where
    pub right : (by : (ℕ → Bool) → ℕ → Bool) → are_right by xs ≡ true → are_right by kept ≡ true
    pub same : group_after [] kept ≡ group_after [] (take place xs)
    pub closed : group_after [] (take group kept) ≡ []
    pub held : list_all (is_held ins) (take group kept) ≡ true
    pub fits : lost ≡ false → list_all (is_held ins) kept ≡ true
    pub done : ((k : ℕ) → had k ≡ true → is_settled xs k ≡ true) → (k : ℕ) → now k ≡ true → (is_settled (take group kept) k || is_settled (drop place xs) k) ≡ true

held_push : (ins : ℕ → Bool) (xs : List Entry) (e : Entry) → list_all (is_held ins) xs ≡ true → is_held ins e ≡ true → list_all (is_held ins) (xs ++ e ∷ []) ≡ true
held_push ins xs e h k = list_all-append (is_held ins) xs (e ∷ []) ∙ and_from (list_all (is_held ins) xs) (is_held ins e && true) h (and_from (is_held ins e) true k refl)

module _ (xs : List Entry) (ins had now : ℕ → Bool) (kept : List Entry) (group place : ℕ) (lost : Bool) (is : IsKept xs ins had now kept group place lost) where
  -- one more package
  pub kept_rests : (q : ℕ) (after : Bool) → group ≤ length kept → take (place + 1) xs ≡ take place xs ++ Rests q ∷ [] → drop place xs ≡ Rests q ∷ drop (place + 1) xs
      → (after ≡ false → (lost ≡ false) × (ins q ≡ true)) → IsKept xs ins had now (kept ++ Rests q ∷ []) group (place + 1) after
  kept_rests q after low front behind why =
      let same_front : take group (kept ++ Rests q ∷ []) ≡ take group kept = take-append-le group kept (Rests q ∷ []) low in
      record {
        right = λ by h. each_push (is_right by) [] kept (Rests q) (is.right by h) refl;
        same = group_rests [] kept q ∙ ap (λ g. q ∷ g) is.same ∙ sym (ap (group_after []) front ∙ group_rests [] (take place xs) q);
        closed = ap (group_after []) same_front ∙ is.closed;
        held = ap (list_all (is_held ins)) same_front ∙ is.held;
        fits = λ e. held_push ins kept (Rests q) (is.fits (why e).0) (why e).1;
        done = λ h k d. ap (λ l. is_settled l k || is_settled (drop (place + 1) xs) k) same_front ∙ sym (ap (λ l. is_settled (take group kept) k || is_settled l k) behind) ∙ is.done h k d;
      }

  -- a group is whole
  pub kept_whole : (i : ℕ) → lost ≡ false → take (place + 1) xs ≡ take place xs ++ Settles i ∷ [] → drop place xs ≡ Settles i ∷ drop (place + 1) xs
      → IsKept xs ins had now (kept ++ Settles i ∷ []) (length kept + 1) (place + 1) false
  kept_whole i in_all front behind =
      let whole : take (length kept + 1) (kept ++ Settles i ∷ []) ≡ kept ++ Settles i ∷ [] = take_all (length kept + 1) (kept ++ Settles i ∷ []) (omega (arith, length_push kept (Settles i))) in
      let none : group_after [] (kept ++ Settles i ∷ []) ≡ [] = group_settles [] kept i in
      let all_held : list_all (is_held ins) (kept ++ Settles i ∷ []) ≡ true = held_push ins kept (Settles i) (is.fits in_all) refl in
      record {
        right = λ by h.
            each_push (is_right by) [] kept (Settles i) (is.right by h)
            (ap (λ g. by (λ p. list_any (λ q. eqb p q) g) i) is.same
            ∙ each_last (is_right by) [] (take place xs) (Settles i) (ap (each_after (is_right by) []) (sym front) ∙ right_front (place + 1) xs by h));
        same = none ∙ sym (ap (group_after []) front ∙ group_settles [] (take place xs) i);
        closed = ap (group_after []) whole ∙ none;
        held = ap (list_all (is_held ins)) whole ∙ all_held;
        fits = λ e. all_held;
        done = λ h k d.
            ap (λ l. is_settled l k || is_settled (drop (place + 1) xs) k) whole ∙ ap (λ b. b || is_settled (drop (place + 1) xs) k) (settled_push kept (Settles i) k)
            ∙ one_more (is_settled (take group kept) k) (is_settled kept k) (eqb k i) (is_settled (drop (place + 1) xs) k) (settled_front group kept k)
            (sym (ap (λ l. is_settled (take group kept) k || is_settled l k) behind) ∙ is.done h k d);
      }
    where
      one_more : (a b c d : Bool) → (a ≡ true → b ≡ true) → (a || (c || d)) ≡ true → ((b || c) || d) ≡ true
      one_more true b c d f h = ap (λ x. (x || c) || d) (f refl)
      one_more false true c d f h = refl
      one_more false false c d f h = h

  -- a group goes
  pub kept_without : (i : ℕ) (after : ℕ → Bool) → ((k : ℕ) → after k ≡ (not (eqb k i) && now k)) → take (place + 1) xs ≡ take place xs ++ Settles i ∷ [] → drop place xs ≡ Settles i ∷ drop (place + 1) xs
      → IsKept xs ins had after (take group kept) group (place + 1) false
  kept_without i after less front behind =
      let again : take group (take group kept) ≡ take group kept = take-take group group kept (omega arith) in
      record {
        right = λ by h. right_front group kept by (is.right by h);
        same = is.closed ∙ sym (ap (group_after []) front ∙ group_settles [] (take place xs) i);
        closed = ap (group_after []) again ∙ is.closed;
        held = ap (list_all (is_held ins)) again ∙ is.held;
        fits = λ e. is.held;
        done = λ h k d.
            let both = and_parts (not (eqb k i)) (now k) (sym (less k) ∙ d) in
            ap (λ l. is_settled l k || is_settled (drop (place + 1) xs) k) again
            ∙ one_less (is_settled (take group kept) k) (eqb k i) (is_settled (drop (place + 1) xs) k) both.0 (sym (ap (λ l. is_settled (take group kept) k || is_settled l k) behind) ∙ is.done h k both.1);
      }
    where
      one_less : (a c d : Bool) → not c ≡ true → (a || (c || d)) ≡ true → (a || d) ≡ true
      one_less a true d n h = cc
      one_less a false d n h = h

-- an entry that is written to the front, of a list that is as it was from a place on
module _ (xs ys : List Entry) (place end : ℕ) (d : Entry) (low : end ≤ place) (short : place < length ys) (size : length ys ≡ length xs) (same : drop place ys ≡ drop place xs) where
  abbrev entry : Entry
  entry = get_or ys place d

  here : (drop place xs ≡ entry ∷ drop (place + 1) xs) × (drop (place + 1) ys ≡ drop (place + 1) xs) × (get_or xs place d ≡ entry)
  here =
      let a : drop place xs ≡ get_or xs place d ∷ drop (place + 1) xs = drop_more xs place d (omega arith) in
      let b : drop place ys ≡ get_or ys place d ∷ drop (place + 1) ys = drop_more ys place d short in
      (cc, cc, cc)

  pub front_of : (e : Entry) → get_or ys place d ≡ e → take (place + 1) xs ≡ take place xs ++ e ∷ []
  front_of e is = take_more xs place d (omega arith) ∙ ap (λ x. take place xs ++ x ∷ []) (here.2 ∙ is)

  pub behind_of : (e : Entry) → get_or ys place d ≡ e → drop place xs ≡ e ∷ drop (place + 1) xs
  behind_of e is = here.0 ∙ ap (λ x. x ∷ drop (place + 1) xs) is

  pub still_behind : drop (place + 1) (set ys end (get_or ys place d)) ≡ drop (place + 1) xs
  still_behind = drop-set-lt (place + 1) ys end (get_or ys place d) (omega arith) ∙ here.1

  pub one_kept : (e : Entry) → get_or ys place d ≡ e → take end ys ++ e ∷ [] ≡ take (end + 1) (set ys end (get_or ys place d))
  one_kept e is = sym (take_more_set ys end (get_or ys place d) (omega arith) ∙ ap (λ x. take end ys ++ x ∷ []) is)

  pub front_kept : (group : ℕ) → group ≤ end → take group (take end ys) ≡ take group (set ys end (get_or ys place d))
  front_kept group less = take-take group end ys less ∙ sym (take-set-le group ys end (get_or ys place d) less)
