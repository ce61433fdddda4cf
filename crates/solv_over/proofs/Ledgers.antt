-- A good ledger over the clauses that are made is one over all, where nothing that it holds speaks of what is left out.
use Rattle.std.proofs.Common.{◌≡◌, ℕ, zero, suc, ◌+◌, ◌<◌, ◌≤◌, Bool, true, false, ◌&&◌, ◌||◌, not, List, [], ◌∷◌, ◌++◌, length, map, Option, Some, None, ◌⊎◌, inl, inr, refl, sym, ap, ◌∙◌, subst, arith, if◌then◌else◌}
use Rattle.std.specs.Prelude.{ℤ, neg_ℤ, slice_get, option_map, flat_map, unwrap_or, nat_lt, nat_le, ◌==◌}
use Rattle.std.specs.List.{list_all, list_any}
use Rattle.std.proofs.lemmas.Bool.{and_parts, and_from, cases_Bool, false≢true, lt-ltb, ltb-true}
use Rattle.std.proofs.lemmas.List.{length-map}
use Rattle.std.proofs.lemmas.Option.{slice_get-map, slice_get_within, slice_get-get_or}
use Rattle.solv_pool.specs.Prelude.{is_fact, names_package, is_over, are_over}
use Rattle.solv_derive.proofs.Facts.{all_member, all_from, known_here, known_later}
use Rattle.solv_derive.specs.Leaves.{is_one_of}
use Rattle.solv_derive.specs.Logs.{is_good_step}
use Rattle.solv_derive.specs.declared.logs.Hint.{Hint}
use Rattle.solv_derive.specs.declared.logs.Hint.TheVariants as hint
use Rattle.solv_derive.specs.declared.logs.Step.{Step}
use Rattle.solv_trail.specs.Inner.Derivation.{Among, here, there}
use Rattle.solv_trail.specs.Asked.{is_enabled, enabled_clauses}
use Rattle.solv_trail.specs.Propagated.{in_use}
use Rattle.solv_trail.specs.Descends.{asked_pack}
use Rattle.solv_trail.specs.Walk.{met_by_choices}
use Rattle.solv_trail.specs.declared.questions.Ask.{Ask}
use Rattle.solv_learn.specs.Collecting.{is_plain}
use Rattle.solv_core.specs.Ledgers.{is_entry_in_use, entries_in_use, is_book_in_use, is_hint_in_use, leaves_of_hint, leaves_after, rests_on_enabled, IsGoodRun, IsGoodEntry, AreGoodEntries, IsGoodLedger}
use Rattle.solv_core.specs.declared.ledger.Entry.{Entry}
use Rattle.solv_core.specs.declared.ledger.Ledger.{Ledger}
use Rattle.solv_core.specs.declared.ledger.Run.{Run}
use Rattle.solv_over.specs.Inner.Widened.{says_out, says_neither, AreBeside, AreInside, AreWidened, AskAlike}
use Rattle.solv_over.specs.Inner.Trails.{GuideAlike}
use Rattle.solv_over.specs.Inner.Places.{StandAt, hint_at, step_at, entry_at, run_at, ledger_at, is_of_inside, RunAlike, LedgersWiden}
use Rattle.solv_over.proofs.Choices.{choices_widen}
use Rattle.solv_over.proofs.Logged.{step_good}
use Rattle.solv_over.proofs.Widened.{over_at, over_by}

-- of clauses that stand before others, and behind
among_front : {c : List ℤ} {F : List (List ℤ)} → Among c F → (G : List (List ℤ)) → Among c (F ++ G)
among_front here G = here
among_front (there a) G = there (among_front a G)

among_back : (F : List (List ℤ)) {c : List ℤ} {G : List (List ℤ)} → Among c G → Among c (F ++ G)
among_back [] a = a
among_back (d ∷ F) a = there (among_back F a)

among_parts : (F G : List (List ℤ)) (c : List ℤ) → Among c (F ++ G) → Among c F ⊎ Among c G
among_parts [] G c a = inr a
among_parts (d ∷ F) G c here = inl here
among_parts (d ∷ F) G c (there a) = elim (among_parts F G c a) [ inl b ↦ inl (there b) | inr b ↦ inr b ]

-- with clauses after both that say nothing of what is left out
beside_more : (left : ℕ → Bool) (C D X : List (List ℤ)) → AreBeside left C D → ((c : List ℤ) → Among c X → list_all (says_neither left) c ≡ true) → AreBeside left (C ++ X) (D ++ X)
beside_more left C D X beside own = record {
  wider = λ c a. elim (among_parts C X c a) [ inl b ↦ among_front (beside.wider c b) X | inr b ↦ among_back D b ];
  each = λ c a. elim (among_parts D X c a) [
    | inl b ↦ elim (beside.each c b) [ inl o ↦ inl o | inr k ↦ inr (among_front k.0 X, k.1) ]
    | inr b ↦ inr (among_back C b, own c b)
  ];
}

among_cases : {c d : List ℤ} {F : List (List ℤ)} → Among c (d ∷ F) → (c ≡ d) ⊎ Among c F
among_cases here = inl refl
among_cases (there a) = inr a

among_first : {c d : List ℤ} {F : List (List ℤ)} → c ≡ d → Among c (d ∷ F)
among_first {c} {d} {F} e = subst (λ (v : List ℤ). Among v (d ∷ F)) (sym e) here

-- the clauses of enabled rules are clauses
enabled_among : (on : List Bool) (F : List (List ℤ)) (owners : List ℕ) (c : List ℤ) → Among c (enabled_clauses on F owners) → Among c F
enabled_among on [] owners c a = a
enabled_among on (d ∷ F) [] c a = absurd (nothing a)
  where
    nothing : Among c [] → ⊥
    nothing x = elim x [ ]
enabled_among on (d ∷ F) (o ∷ owners) c a = by (is_enabled on o) a (enabled_among on F owners c)
  where
    by : (b : Bool) → Among c (if b then d ∷ enabled_clauses on F owners else enabled_clauses on F owners) → (Among c (enabled_clauses on F owners) → Among c F) → Among c (d ∷ F)
    by true x f = elim (among_cases x) [ inl e ↦ among_first e | inr y ↦ there (f y) ]
    by false x f = there (f x)

-- two tests of a list at once
both_all : (p q : ℤ → Bool) (c : List ℤ) → list_all (λ l. p l && q l) c ≡ true → (list_all p c ≡ true) × (list_all q c ≡ true)
both_all p q [] h = (refl, refl)
both_all p q (l ∷ c) h =
    let both = and_parts (p l && q l) (list_all (λ m. p m && q m) c) h in
    let own = and_parts (p l) (q l) both.0 in
    let rest = both_all p q c both.1 in
    (and_from (p l) (list_all p c) own.0 rest.0, and_from (q l) (list_all q c) own.1 rest.1)

asked_there : (left : ℕ → Bool) (o : Option Ask) (p : ℕ) → option_map (λ (a : Ask). a.pack) o ≡ Some p → ((a : Ask) → o ≡ Some a → left a.pack ≡ false) → left p ≡ false
asked_there left None p s h = absurd (cc)
asked_there left (Some a) p s h = ap left (ap (λ o. unwrap_or o p) (sym s)) ∙ h a refl

module _ (n : ℕ) (left : ℕ → Bool) (clauses : List (List ℤ)) (owners : List ℕ) (all : List (List ℤ)) (owners_all : List ℕ) (at rule : ℕ → ℕ) (asks asks_all : (ℤ → Bool) → List Bool → Option Ask) (flags : List Bool → List Bool)
    (stand : StandAt clauses owners all owners_all at rule) (over : are_over n all ≡ true)
  where
    abbrev whole : List Entry → List Entry
    whole entries = map (entry_at at) entries

    -- an entry in use is in use
    used_same : (kept : List ℕ) (run number : ℕ) (entries : List Entry) → entries_in_use kept run number (whole entries) ≡ entries_in_use kept run number entries
    used_same kept run number [] = refl
    used_same kept run number (e ∷ entries) = ap (λ zs. if is_entry_in_use kept run number e then e.clause ∷ zs else zs) (used_same kept run (suc number) entries)

    -- of entries whose clauses say nothing of what is left out
    used_inside : (kept : List ℕ) (run number : ℕ) (entries : List Entry) → list_all (is_of_inside n left) entries ≡ true → (c : List ℤ) → Among c (entries_in_use kept run number entries)
        → list_all (λ l. names_package n l && says_neither left l) c ≡ true
    used_inside kept run number [] h c a = absurd (nothing a)
      where
        nothing : Among c [] → ⊥
        nothing x = elim x [ ]
    used_inside kept run number (e ∷ entries) h c a =
        let both = and_parts (is_of_inside n left e) (list_all (is_of_inside n left) entries) h in
        by (is_entry_in_use kept run number e) both.0 (used_inside kept run (suc number) entries both.1 c) a
      where
        by : (b : Bool) → is_of_inside n left e ≡ true → (Among c (entries_in_use kept run (suc number) entries) → list_all (λ l. names_package n l && says_neither left l) c ≡ true)
            → Among c (if b then e.clause ∷ entries_in_use kept run (suc number) entries else entries_in_use kept run (suc number) entries) → list_all (λ l. names_package n l && says_neither left l) c ≡ true
        by true own rest x = elim (among_cases x) [ inl s ↦ ap (λ v. list_all (λ l. names_package n l && says_neither left l) v) s ∙ own | inr y ↦ rest y ]
        by false own rest x = rest x

    module _ (on : List Bool) (alike : RunAlike left clauses owners all owners_all rule asks asks_all on (flags on)) where
      -- a clause in use is in use at its place
      book_same : (k : ℕ) → is_book_in_use clauses owners on k ≡ true → is_book_in_use all owners_all (flags on) (at k) ≡ true
      book_same k h =
          let both = and_parts (nat_lt k (length clauses)) (in_use owners on k) h in
          let inside : k < length clauses = ltb-true k (length clauses) both.0 in
          let inside_owners : k < length owners = omega (arith, inside, stand.each) in
          let c = slice_get-get_or clauses k [] inside in
          let o = slice_get-get_or owners k 0 inside_owners in
          let in_all : at k < length all = slice_get_within all (at k) _ (stand.clause k _ c) in
          let U : List Bool → Option ℕ → Bool = λ flags_ x. elim x [ None ↦ true | Some owner ↦ is_enabled flags_ owner ] in
          let used : is_enabled on _ ≡ true = sym (ap (U on) o) ∙ both.1 in
          and_from (nat_lt (at k) (length all)) (in_use owners_all (flags on) (at k)) (lt-ltb (at k) (length all) in_all)
          (ap (U (flags on)) (stand.owner k _ o) ∙ alike.same k _ o ∙ used)

      pub books_same : (ks : List ℕ) → list_all (is_book_in_use clauses owners on) ks ≡ true → list_all (is_book_in_use all owners_all (flags on)) (map at ks) ≡ true
      books_same [] h = refl
      books_same (k ∷ ks) h =
          let both = and_parts (is_book_in_use clauses owners on k) (list_all (is_book_in_use clauses owners on) ks) h in
          and_from (is_book_in_use all owners_all (flags on) (at k)) (list_all (is_book_in_use all owners_all (flags on)) (map at ks)) (book_same k both.0) (books_same ks both.1)

      module _ (kept : List ℕ) (number : ℕ) (earlier : List Entry) where
        abbrev run : Run
        run = record { enabled = on; kept = kept }

        abbrev E : ℕ → Option Entry → Bool
        E step o = elim o [ None ↦ false | Some e ↦ is_entry_in_use kept number step e ]

        entry_used : (step : ℕ) → E step (slice_get (whole earlier) step) ≡ E step (slice_get earlier step)
        entry_used step = ap (E step) (slice_get-map (entry_at at) earlier step) ∙ by (slice_get earlier step)
          where
            by : (o : Option Entry) → E step (option_map (entry_at at) o) ≡ E step o
            by None = refl
            by (Some e) = refl

        hint_same : (h : Hint) → is_hint_in_use clauses owners run number earlier h ≡ true → is_hint_in_use all owners_all (run_at flags run) number (whole earlier) (hint_at at h) ≡ true
        hint_same (hint.Book k) h = book_same k h
        hint_same (hint.Step step) h = entry_used step ∙ h

        hints_same : (hs : List Hint) → list_all (is_hint_in_use clauses owners run number earlier) hs ≡ true → list_all (is_hint_in_use all owners_all (run_at flags run) number (whole earlier)) (map (hint_at at) hs) ≡ true
        hints_same [] h = refl
        hints_same (x ∷ hs) h =
            let both = and_parts (is_hint_in_use clauses owners run number earlier x) (list_all (is_hint_in_use clauses owners run number earlier) hs) h in
            and_from (is_hint_in_use all owners_all (run_at flags run) number (whole earlier) (hint_at at x)) _ (hint_same x both.0) (hints_same hs both.1)

    -- the leaves of entries are at their places
    hint_leaves : (before : List (List ℕ)) (h : Hint) → leaves_of_hint (map (map at) before) (hint_at at h) ≡ map at (leaves_of_hint before h)
    hint_leaves before (hint.Book k) = refl
    hint_leaves before (hint.Step s) = ap (λ o. unwrap_or o []) (slice_get-map (map at) before s) ∙ by (slice_get before s)
      where
        by : (o : Option (List ℕ)) → unwrap_or (option_map (map at) o) [] ≡ map at (unwrap_or o [])
        by None = refl
        by (Some x) = refl

    map_append : (xs ys : List ℕ) → map at (xs ++ ys) ≡ map at xs ++ map at ys
    map_append [] ys = refl
    map_append (x ∷ xs) ys = ap (λ zs. at x ∷ zs) (map_append xs ys)

    maps_append : (xs ys : List (List ℕ)) → map (map at) (xs ++ ys) ≡ map (map at) xs ++ map (map at) ys
    maps_append [] ys = refl
    maps_append (x ∷ xs) ys = ap (λ zs. map at x ∷ zs) (maps_append xs ys)

    hints_leaves : (before : List (List ℕ)) (hs : List Hint) → flat_map (leaves_of_hint (map (map at) before)) (map (hint_at at) hs) ≡ map at (flat_map (leaves_of_hint before) hs)
    hints_leaves before [] = refl
    hints_leaves before (h ∷ hs) =
        ap (λ xs. xs ++ flat_map (leaves_of_hint (map (map at) before)) (map (hint_at at) hs)) (hint_leaves before h)
        ∙ ap (λ ys. map at (leaves_of_hint before h) ++ ys) (hints_leaves before hs)
        ∙ sym (map_append (leaves_of_hint before h) (flat_map (leaves_of_hint before) hs))

    leaves_same : (before : List (List ℕ)) (entries : List Entry) → leaves_after (map (map at) before) (whole entries) ≡ map (map at) (leaves_after before entries)
    leaves_same before [] = refl
    leaves_same before (e ∷ entries) =
        let own : List ℕ = flat_map (leaves_of_hint before) e.hints in
        ap (λ (x : List ℕ). leaves_after (map (map at) before ++ x ∷ []) (whole entries)) (hints_leaves before e.hints)
        ∙ ap (λ zs. leaves_after zs (whole entries)) (sym (maps_append before (own ∷ [])))
        ∙ leaves_same (before ++ own ∷ []) entries

    module _ (ledger : Ledger) (runs : (number : ℕ) (run : Run) → slice_get ledger.runs number ≡ Some run → RunAlike left clauses owners all owners_all rule asks asks_all run.enabled (flags run.enabled)) where
      rests_same : (on : List Bool) → RunAlike left clauses owners all owners_all rule asks asks_all on (flags on) → (entries : List Entry) (k : ℕ) → rests_on_enabled clauses owners on entries k ≡ true → rests_on_enabled all owners_all (flags on) (whole entries) k ≡ true
      rests_same on alike entries k h =
          ap (λ zs. list_all (is_book_in_use all owners_all (flags on)) (unwrap_or (slice_get zs k) [])) (leaves_same [] entries)
          ∙ ap (λ o. list_all (is_book_in_use all owners_all (flags on)) (unwrap_or o [])) (slice_get-map (map at) (leaves_after [] entries) k)
          ∙ by (slice_get (leaves_after [] entries) k) h
        where
          by : (o : Option (List ℕ)) → list_all (is_book_in_use clauses owners on) (unwrap_or o []) ≡ true → list_all (is_book_in_use all owners_all (flags on)) (unwrap_or (option_map (map at) o) []) ≡ true
          by None g = refl
          by (Some x) g = books_same on alike x g

      entry_there : (entries : List Entry) (k : ℕ) (e : Entry) → slice_get entries k ≡ Some e → slice_get (whole entries) k ≡ Some (entry_at at e)
      entry_there entries k e h = slice_get-map (entry_at at) entries k ∙ ap (option_map (entry_at at)) h

      run_there : (rs : List Run) (k : ℕ) (r : Run) → slice_get rs k ≡ Some r → slice_get (map (run_at flags) rs) k ≡ Some (run_at flags r)
      run_there rs k r h = slice_get-map (run_at flags) rs k ∙ ap (option_map (run_at flags)) h

      run_from : (rs : List Run) (k : ℕ) (r : Run) → slice_get (map (run_at flags) rs) k ≡ Some r → (s : Run) × ((slice_get rs k ≡ Some s) × (run_at flags s ≡ r))
      run_from rs k r h = by (slice_get rs k) refl (sym (slice_get-map (run_at flags) rs k) ∙ h)
        where
          by : (o : Option Run) → slice_get rs k ≡ o → option_map (run_at flags) o ≡ Some r → (s : Run) × ((slice_get rs k ≡ Some s) × (run_at flags s ≡ r))
          by None e g = absurd (cc)
          by (Some s) e g = (s, (e, ap (λ o. unwrap_or o (run_at flags s)) g))

      good_run : (number : ℕ) (s : Run) → slice_get ledger.runs number ≡ Some s → IsGoodRun clauses owners ledger.entries number s → IsGoodRun all owners_all (whole ledger.entries) number (run_at flags s)
      good_run number s there_ good k kept =
          let g = good k kept in
          (entry_at at g.0, (entry_there ledger.entries k g.0 g.1.0, (g.1.1.0, rests_same s.enabled (runs number s there_) ledger.entries k g.1.1.1)))

      in_order_same : (m : ℕ) (entries : List Entry) → list_all (λ d. nat_le d.run m) (whole entries) ≡ list_all (λ d. nat_le d.run m) entries
      in_order_same m [] = refl
      in_order_same m (e ∷ entries) = ap (λ b. nat_le e.run m && b) (in_order_same m entries)

      clauses_same : (entries : List Entry) → map (λ d. d.clause) (whole entries) ≡ map (λ d. d.clause) entries
      clauses_same [] = refl
      clauses_same (e ∷ entries) = ap (λ zs. e.clause ∷ zs) (clauses_same entries)

      good_entry : (earlier : List Entry) (e : Entry) → list_all (is_of_inside n left) earlier ≡ true → is_of_inside n left e ≡ true
          → IsGoodEntry clauses owners n asks ledger.runs earlier e → IsGoodEntry all owners_all n asks_all (map (run_at flags) ledger.runs) (whole earlier) (entry_at at e)
      good_entry earlier e before own good =
          let run : Run = good.run in
          let alike = runs e.run run good.of_run in
          let used : List (List ℤ) = entries_in_use run.kept e.run 0 earlier in
          let made : List (List ℤ) = enabled_clauses run.enabled clauses owners in
          let every : List (List ℤ) = enabled_clauses (flags run.enabled) all owners_all in
          let inside = used_inside run.kept e.run 0 earlier before in
          let beside : AreBeside left (made ++ used) (every ++ used) = beside_more left made every used alike.beside (λ c a. (both_all (names_package n) (says_neither left) c (inside c a)).1) in
          let over_both : are_over n (every ++ used) ≡ true = over_by n (every ++ used) (λ c a. elim (among_parts every used c a) [
            | inl b ↦ over_at n (enabled_among (flags run.enabled) all owners_all c b) over
            | inr b ↦ (both_all (names_package n) (says_neither left) c (inside c b)).0
          ]) in
          let ask : AskAlike left (asked_pack (λ facts. asks facts run.enabled)) (asked_pack (λ facts. asks_all facts (flags run.enabled))) = record {
            same = λ facts more w. ap (λ o. option_map (λ (a : Ask). a.pack) o) (alike.guide.same facts more w);
            inside = λ facts w p s. asked_there left (asks (is_fact facts) run.enabled) p s (alike.guide.inside facts w);
          } in
          let chosen = choices_widen n left (made ++ used) (every ++ used) (asked_pack (λ facts. asks facts run.enabled)) (asked_pack (λ facts. asks_all facts (flags run.enabled))) beside over_both ask in
          record {
            run = run_at flags run;
            of_run = run_there ledger.runs e.run run good.of_run;
            in_order = in_order_same e.run earlier ∙ good.in_order;
            plain = good.plain;
            hints = hints_same run.enabled alike run.kept e.run earlier e.hints good.hints;
            good = ap (λ (zs : List (List ℤ)). is_good_step all zs (record { clause = e.clause; hints = map (hint_at at) e.hints })) (clauses_same earlier)
                ∙ step_good clauses owners all owners_all at rule stand (map (λ d. d.clause) earlier) (record { clause = e.clause; hints = e.hints }) good.good;
            met = ap (λ (zs : List (List ℤ)). met_by_choices n (every ++ zs) (asked_pack (λ facts. asks_all facts (flags run.enabled))) e.clause) (used_same run.kept e.run 0 earlier)
                ∙ chosen.met e.clause (both_all (names_package n) (says_neither left) e.clause own).1 ∙ good.met;
          }

      good_entries : (earlier entries : List Entry) → list_all (is_of_inside n left) earlier ≡ true → list_all (is_of_inside n left) entries ≡ true
          → AreGoodEntries clauses owners n asks ledger.runs earlier entries → AreGoodEntries all owners_all n asks_all (map (run_at flags) ledger.runs) (whole earlier) (whole entries)
      good_entries earlier [] before h good = tt
      good_entries earlier (e ∷ entries) before h good =
          let both = and_parts (is_of_inside n left e) (list_all (is_of_inside n left) entries) h in
          let R : List Entry → Type 0 = λ zs. AreGoodEntries all owners_all n asks_all (map (run_at flags) ledger.runs) zs (whole entries) in
          (good_entry earlier e before both.0 good.0, subst R (whole_more earlier e) (good_entries (earlier ++ e ∷ []) entries (all_more earlier e before both.0) both.1 good.1))
        where
          whole_more : (xs : List Entry) (x : Entry) → whole (xs ++ x ∷ []) ≡ whole xs ++ entry_at at x ∷ []
          whole_more [] x = refl
          whole_more (y ∷ xs) x = ap (λ zs. entry_at at y ∷ zs) (whole_more xs x)

          all_more : (xs : List Entry) (x : Entry) → list_all (is_of_inside n left) xs ≡ true → is_of_inside n left x ≡ true → list_all (is_of_inside n left) (xs ++ x ∷ []) ≡ true
          all_more [] x h k = and_from (is_of_inside n left x) true k refl
          all_more (y ∷ xs) x h k = let both = and_parts (is_of_inside n left y) (list_all (is_of_inside n left) xs) h in and_from (is_of_inside n left y) (list_all (is_of_inside n left) (xs ++ x ∷ [])) both.0 (all_more xs x both.1 k)

      pub ledger_good : list_all (is_of_inside n left) ledger.entries ≡ true → IsGoodLedger clauses owners n asks ledger → IsGoodLedger all owners_all n asks_all (ledger_at at flags ledger)
      ledger_good inside good = record {
        few = let same = length-map ledger.entries (entry_at at) in omega (arith, same, good.few);
        runs = λ number run there_.
            let s = run_from ledger.runs number run there_ in
            let R : Run → Type 0 = λ r. IsGoodRun all owners_all (whole ledger.entries) number r in
            subst R s.1.1 (good_run number s.0 s.1.0 (good.runs number s.0 s.1.0));
        entries = good_entries [] ledger.entries refl inside good.entries;
      }

pub ledgers_widen : LedgersWiden
ledgers_widen n left clauses owners all owners_all at rule asks asks_all flags stand over ledger runs inside good = ledger_good n left clauses owners all owners_all at rule asks asks_all flags stand over ledger runs inside good
