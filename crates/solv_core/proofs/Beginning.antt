-- What is kept when a run begins.
use Rattle.std.proofs.Common.{◌≡◌, ℕ, ◌+◌, ◌-◌, ◌<◌, ◌≤◌, Bool, true, List, ◌++◌, length, map, filter, Some, refl, sym, ap, ◌∙◌, subst, arith}
use Rattle.std.specs.Prelude.{ℤ, slice_get}
use Rattle.std.specs.List.{list_all, range_with_len}
use Rattle.std.proofs.lemmas.List.{length-map}
use Rattle.solv_derive.specs.Inner.Leaves.{rules_of}
use Rattle.solv_derive.specs.declared.logs.Step.{Step}
use Rattle.solv_pack.specs.Inner.Packing.{kept}
use Rattle.solv_derive.specs.Inner.Trimming.{in_use_from, rank_from, renumbered, used_alone, is_on, hints_at}
use Rattle.solv_core.specs.Ledgers.{is_book_in_use, rests_on_enabled}
use Rattle.solv_core.specs.Inner.Ledgers.{entry_leaves, leaves_of_hints}
use Rattle.solv_core.specs.Inner.Holding.{entry_of, AreEntries, AreDerived, IsBegun, numbers_on}
use Rattle.solv_core.specs.declared.ledger.Entry.{Entry}
use Rattle.solv_core.proofs.Closing.{entries_left, derived_left, left_many, kept_is, named_still, numbers_are, numbers_filtered, numbers_from}
use Rattle.solv_core.proofs.EntryLeaves.{leaves_at, rests_rules, rests_steps}
use Rattle.solv_core.proofs.Holding.{named_earlier, hint_after, rules_same}
use Rattle.solv_list.proofs.Lists.{place_there}

module _ (book : List (List ℤ)) (owners : List ℕ) (packages : ℕ) (enabled : List Bool) (entries : List Entry) (before : List ℕ) (start : ℕ) (learnt : List (List ℤ)) (steps : List Step) (flags : List Bool)
    (each : length owners ≡ length book) (derived : AreDerived book packages learnt steps) (held : AreEntries entries (entry_of before start) steps) (few : length before ≤ length learnt)
    (size : length flags ≡ length learnt) (flagged : (rule : ℕ) → rule < length learnt → is_on flags rule ≡ rests_on_enabled book owners enabled entries (entry_of before start rule)) where
  abbrev number : ℕ → ℕ
  number = entry_of before start

  abbrev on : ℕ → Bool
  on = is_on flags

  many : length learnt ≡ length steps
  many = ap length derived.are ∙ length-map steps (λ s. s.clause)

  -- what an entry that stays rests on
  leaves_on : (n : ℕ) (s : Step) → slice_get steps n ≡ Some s → on n ≡ true → list_all (is_book_in_use book owners enabled) (leaves_of_hints (entry_leaves entries) (map (renumbered number) s.hints)) ≡ true
  leaves_on n s at y =
      let a = held.held n s at in
      let less : n < length learnt = let l : n < length steps = place_there steps n s at in omega (arith, l, many) in
      let earlier : (m : ℕ) → hints_at m a.0.hints ≡ true → m < number n = λ m k.
      let q = named_earlier entries number steps held n s at m (ap (hints_at m) (sym a.1.1.1) ∙ k) in
      let up : number q.0 < number n = q.1.1.1 in
      let same : number q.0 ≡ m = q.1.1.0 in
      omega (arith, up, same) in
      ap (λ v. list_all (is_book_in_use book owners enabled) (leaves_of_hints (entry_leaves entries) v)) (sym a.1.1.1)
      ∙ ap (list_all (is_book_in_use book owners enabled)) (sym (leaves_at entries (number n) a.0 a.1.0 earlier))
      ∙ sym (flagged n less) ∙ y

  closed : (n : ℕ) (s : Step) → slice_get steps n ≡ Some s → on n ≡ true → (m : ℕ) → hints_at m s.hints ≡ true → on m ≡ true
  closed n s at y m k =
      let b : m < n = held.earlier n m s at k in
      let l : n < length steps = place_there steps n s at in
      flagged m (omega (arith, b, l, many)) ∙ rests_steps book owners enabled entries each (number m) (map (renumbered number) s.hints) (leaves_on n s at y) (hint_after number m s.hints k)

  rules_on : (n : ℕ) (s : Step) → slice_get steps n ≡ Some s → on n ≡ true → list_all (is_book_in_use book owners enabled) (rules_of s.hints) ≡ true
  rules_on n s at y =
      ap (list_all (is_book_in_use book owners enabled)) (sym (rules_same number s.hints)) ∙ rests_rules book owners enabled entries each (map (renumbered number) s.hints) (leaves_on n s at y)

  -- the numbers that are kept
  pub numbers_kept : numbers_on on number 0 (length flags) ≡ filter (rests_on_enabled book owners enabled entries) (before ++ range_with_len start (length learnt - length before))
  numbers_kept =
      let z : length before + (length learnt - length before) ≡ length flags = omega (arith, few, size) in
      numbers_filtered on (rests_on_enabled book owners enabled entries) number 0 (length flags) (λ i l. let y : 0 + i ≡ i = omega arith in ap on y ∙ flagged i (omega (arith, l, size)) ∙ ap (λ v. rests_on_enabled book owners enabled entries (number v)) (sym y))
      ∙ ap (filter (rests_on_enabled book owners enabled entries)) (ap (numbers_from number 0) (sym z) ∙ sym (numbers_are before start (length learnt - length before)))

  pub begun : IsBegun book owners packages enabled entries (filter (rests_on_enabled book owners enabled entries) (before ++ range_with_len start (length learnt - length before))) (numbers_on on number 0 (length flags)) (length entries) (kept flags learnt)
  begun =
      let total : length flags ≡ length steps = size ∙ many in
      let left : kept flags learnt ≡ in_use_from on 0 learnt = kept_is on flags learnt 0 size (λ n l. let y : 0 + n ≡ n = omega arith in ap on y) in
      let P : List (List ℤ) → Type 0 = λ v. AreDerived book packages v (used_alone on (rank_from on 0) steps) in
      let Q : ℕ → Type 0 = λ v. AreEntries entries (entry_of (numbers_on on number 0 v) (length entries)) (used_alone on (rank_from on 0) steps) in
      let d : AreDerived book packages (kept flags learnt) (used_alone on (rank_from on 0) steps) = subst P (sym left) (derived_left on entries number steps held (length entries) closed book learnt packages derived) in
      record {
        steps = used_alone on (rank_from on 0) steps;
        derived = d;
        held = subst Q (sym total) (entries_left on entries number steps held (length entries) closed);
        many = ap (λ v. length (numbers_on on number 0 v)) total ∙ left_many on entries number steps held (length entries) closed ∙ sym (ap length d.are ∙ length-map (used_alone on (rank_from on 0) steps) (λ s. s.clause));
        rests = named_still on (is_book_in_use book owners enabled) 0 steps (λ n s at y. let z : 0 + n ≡ n = omega arith in rules_on n s at (ap on (sym z) ∙ y));
        behind = refl;
        same = numbers_kept;
      }
