-- What is good over the made rules of a task is good over all its hard rules.
use Rattle.std.proofs.Common.{◌≡◌, ◌⊎◌, ℕ, zero, suc, ◌+◌, Bool, true, false, ◌&&◌, ◌||◌, List, [], ◌∷◌, ◌++◌, map, Option, Some, None, inl, inr, refl, sym, ◌∙◌, ap, subst, length}
use Rattle.std.specs.Prelude.{ℤ, pos, flat_map, fold, slice_get, option_to_list, nat_lt, ◌==◌}
use Rattle.std.specs.Ordering.{nat_cmp}
use Rattle.std.specs.BTreeSet.{insert_key}
use Rattle.std.specs.List.{list_any, list_all}
use Rattle.std.proofs.lemmas.Bool.{and_parts, and_from, or_cases, eqb-true}
use Rattle.solv_pool.specs.Prelude.{Catalog, dependency, fits_place, marked, holds, rule_clauses, is_fact, are_over, HardRule, meets_rule, shape_of}
use Rattle.solv_pool.specs.RuleMeaning.{Shape, requirement, conflict}
use Rattle.solv_pool.specs.Laws.{ClausesNamePackages, IsWellPlaced, names_packages, shape_fits}
use Rattle.solv_pool.specs.declared.jobs.Job.{Job}
use Rattle.solv_pool.specs.declared.job_marks.Marks.{Marks}
use Rattle.solv_pool.specs.declared.tasks.Flags.{Flags}
use Rattle.solv_pool.proofs.Members.{Has, all_at, all_by}
use Rattle.solv_rules.specs.Books.{is_bookable, has_form, owners_from}
use Rattle.solv_rules.proofs.InRange.{clauses_over}
use Rattle.solv_trail.specs.Asked.{is_enabled, enabled_clauses, set_of}
use Rattle.solv_core.specs.Cores.{CoreOf}
use Rattle.solv_core.specs.GoodTrails.{facts_of}
use Rattle.solv_core.specs.Ledgers.{is_book_in_use, IsGoodLedger}
use Rattle.solv_core.specs.declared.ledger.Ledger.{Ledger}
use Rattle.solv_core.specs.declared.ledger.Run.{Run}
use Rattle.solv_core.specs.declared.verdicts.Trail.{Trail}
use Rattle.solv_questions.specs.Questions.{Request, rules_of, enabled_from, asks}
use Rattle.solv_questions.proofs.Origins.{of_enabled}
use Rattle.solv_decide.specs.Deciding.{IsSolution, IsRefuted, rules_on}
use Rattle.solv_derive.specs.Leaves.{leaves}
use Rattle.solv_derive.specs.declared.logs.Log.{Log}
use Rattle.solv_derive.specs.declared.logs.Step.{Step}
use Rattle.solv_remedy.specs.Problems.{owning, rested_on}
use Rattle.solv_decide.proofs.Enabling.{clauses_are}
use Rattle.solv_leaving.proofs.Made.{IsUnmade}
use Rattle.solv_over.specs.Inner.Widened.{AreBeside, AreInside}
use Rattle.solv_over.specs.Inner.Trails.{of_inside, GuideAlike, IsWider}
use Rattle.solv_over.specs.Inner.Places.{RunAlike, ledger_at, log_at, steps_at, is_of_inside}
use Rattle.solv_leaving.specs.Inner.Leaving.{LeavesOut}
use Rattle.solv_over.specs.Inner.Thinned.{IsRequirementOf, Thinned, end, same, more}
use Rattle.solv_over.proofs.Without.{set_same}
use Rattle.solv_over.proofs.Trails.{trails_widen}
use Rattle.solv_over.proofs.Ledgers.{books_same, ledgers_widen}
use Rattle.solv_over.proofs.Logged.{log_good, over_same}
use Rattle.solv_over.proofs.Unmade.{made_or_not, unmade_met}
use Rattle.solv_over.proofs.Refuted.{leaves_at, sorted_at, map_append}
use Rattle.solv_over.proofs.Taking.{ap_two}
use Rattle.solv_over.proofs.Standing.{asked_with, stand_beside}
use Rattle.solv_over.proofs.Alike.{request_all, guide_alike}
use Rattle.solv_over.proofs.Placing.{place, place_rises, thin_like, clause_at, clause_rises, owner_none, stand}
use Rattle.solv_over.proofs.Thinning.{made_among}

-- members of made rules, and of all
pub thin_has : {left : List Bool} {made all : List HardRule} → Thinned left made all → (x : HardRule) → Has made x → Has all x
thin_has end x h = h
thin_has (same y t) x (inl e) = inl e
thin_has (same y t) x (inr k) = inr (thin_has t x k)
thin_has (more y own t) x h = inr (thin_has t x h)

pub thin_from : {left : List Bool} {made all : List HardRule} → Thinned left made all → (x : HardRule) → Has all x → Has made x ⊎ IsUnmade left x
thin_from end x h = absurd h
thin_from (same y t) x (inl e) = inl (inl e)
thin_from (same y t) x (inr k) = elim (thin_from t x k) [ inl m ↦ inl (inr m) | inr u ↦ inr u ]
thin_from (more y own t) x (inl e) = inr (record { pack = own.pack; dep = own.dep; is = own.is ∙ e; out = own.out })
thin_from (more y own t) x (inr k) = thin_from t x k

module _ (catalog : Catalog) (flags : Flags) (jobs : List Job) (marks : Marks) (left : List Bool) (out : LeavesOut catalog flags jobs marks left) where
  abbrev made_ : Request
  made_ = asked_with catalog flags jobs marks left out

  abbrev all_ : Request
  all_ = request_all catalog flags jobs marks left out

  abbrev thin : Thinned left (rules_of made_) (rules_of all_)
  thin = made_among catalog flags jobs marks left

  module _ (names : ClausesNamePackages) (bookable : list_all (is_bookable catalog) (rules_of all_) ≡ true) where
    pub well : (x : HardRule) → Has (rules_of made_) x → IsWellPlaced catalog x
    well x h = fits (shape_of x) (and_parts (names_packages catalog x) (has_form catalog (shape_of x)) (all_at (is_bookable catalog) (rules_of all_) x bookable (thin_has thin x h))).1
      where
        fits : (s : Shape) → has_form catalog s ≡ true → shape_fits catalog s ≡ true
        fits (requirement p d) k = (and_parts (nat_lt d (length catalog.pool.nodes)) (fits_place true (dependency catalog d)) k).1
        fits (conflict p d) k = (and_parts (nat_lt d (length catalog.pool.nodes)) (fits_place false (dependency catalog d)) k).1
        fits _ k = refl

    over : are_over (length catalog.universe.packages) (flat_map (rule_clauses catalog) (rules_of all_)) ≡ true
    over = clauses_over catalog names (rules_of all_) bookable

    -- a run over the made rules, and one over all in which each of these is enabled as it was
    module _ (on on_all : List Bool) (like : (k : ℕ) → is_enabled on_all (place thin k) ≡ is_enabled on k) where
      abbrev thin_on : Thinned left (enabled_from on 0 (rules_of made_)) (enabled_from on_all 0 (rules_of all_))
      thin_on = thin_like thin on on_all like

      pub beside_on : AreBeside (marked left) (flat_map (rule_clauses catalog) (rules_on made_ on)) (flat_map (rule_clauses catalog) (rules_on all_ on_all))
      beside_on = stand_beside catalog flags jobs marks left out well (rules_on made_ on) (rules_on all_ on_all) (λ x h. of_enabled on 0 (rules_of made_) x h) (thin_has thin_on) (thin_from thin_on)

      over_on : are_over (length catalog.universe.packages) (flat_map (rule_clauses catalog) (rules_on all_ on_all)) ≡ true
      over_on = clauses_over catalog names (rules_on all_ on_all) (all_by (is_bookable catalog) (rules_on all_ on_all) (λ x h. all_at (is_bookable catalog) (rules_of all_) x bookable (of_enabled on_all 0 (rules_of all_) x h)))

      pub guide_on : GuideAlike (marked left) (λ known. asks made_ known on) (λ known. asks all_ known on_all)
      guide_on = guide_alike catalog flags jobs marks left out on on_all thin_on

      -- the set of a solution holds nothing that is left out
      pub nothing_out : (trail : Trail) → IsSolution made_ on trail → (p : ℕ) → set_of (is_fact (facts_of trail.events)) p ≡ true → marked left p ≡ false
      nothing_out trail found p h =
          let inside : AreInside (marked left) (facts_of trail.events) = (trails_widen (length catalog.universe.packages) (marked left) (flat_map (rule_clauses catalog) (rules_on made_ on)) (flat_map (rule_clauses catalog) (rules_on all_ on_all)) (λ known. asks made_ known on) (λ known. asks all_ known on_all) beside_on over_on guide_on out.system trail.events found.good).0 in
          elim (or_cases (p == 0) (is_fact (facts_of trail.events) (pos p)) h) [
            | inl z ↦ ap (marked left) (eqb-true p 0 z) ∙ out.system
            | inr k ↦ inside.none (pos p) k
          ]

      -- a solution, with the trail that all rules give
      pub solution_of_all : (trail : Trail) → IsSolution made_ on trail → (whole : Trail) × (IsSolution all_ on_all whole × IsWider (marked left) trail.events whole.events)
      solution_of_all trail found =
          let w = trails_widen (length catalog.universe.packages) (marked left) (flat_map (rule_clauses catalog) (rules_on made_ on)) (flat_map (rule_clauses catalog) (rules_on all_ on_all)) (λ known. asks made_ known on) (λ known. asks all_ known on_all) beside_on over_on guide_on out.system trail.events found.good in
          let set_is : set_of (is_fact (facts_of w.1.0)) ≡ set_of (is_fact (facts_of trail.events)) = set_same (marked left) trail.events w.1.0 w.1.1.1.same in
          let meets : list_all (λ x. meets_rule catalog x (set_of (is_fact (facts_of trail.events)))) (rules_on all_ on_all) ≡ true =
          all_by (λ x. meets_rule catalog x (set_of (is_fact (facts_of trail.events)))) (rules_on all_ on_all) (λ x h. elim (made_or_not thin_on x h) [
            | inl m ↦ all_at (λ z. meets_rule catalog z (set_of (is_fact (facts_of trail.events)))) (rules_on made_ on) x found.meets m
            | inr u ↦ unmade_met catalog left (set_of (is_fact (facts_of trail.events))) (nothing_out trail found) x u
          ]) in (
            record { events = w.1.0 },
            (
              record {
                good = w.1.1.0;
                meets = ap (λ s. list_all (λ x. meets_rule catalog x s) (rules_on all_ on_all)) set_is ∙ meets;
              },
              w.1.1.1,
            ),
          )

    -- the clauses with their rules
    abbrev clauses_made : List (List ℤ)
    clauses_made = flat_map (rule_clauses catalog) (rules_of made_)

    abbrev clauses_all : List (List ℤ)
    clauses_all = flat_map (rule_clauses catalog) (rules_of all_)

    abbrev owners_made : List ℕ
    owners_made = owners_from catalog 0 (rules_of made_)

    abbrev owners_all : List ℕ
    owners_all = owners_from catalog 0 (rules_of all_)

    run_alike : (on on_all : List Bool) → ((k : ℕ) → is_enabled on_all (place thin k) ≡ is_enabled on k) → RunAlike (marked left) clauses_made owners_made clauses_all owners_all (place thin) (asks made_) (asks all_) on on_all
    run_alike on on_all like =
        let B : List (List ℤ) → Type 0 = λ v. AreBeside (marked left) v (enabled_clauses on_all clauses_all owners_all) in
        let A : List (List ℤ) → Type 0 = λ v. AreBeside (marked left) (flat_map (rule_clauses catalog) (rules_on made_ on)) v in
        record {
          beside = subst B (sym (clauses_are catalog on 0 (rules_of made_))) (subst A (sym (clauses_are catalog on_all 0 (rules_of all_))) (beside_on on on_all like));
          guide = guide_on on on_all like;
          same = λ k o h. like o;
        }

    abbrev core_made : CoreOf
    core_made = record { clauses = clauses_made; owners = owners_made; packages = length catalog.universe.packages }

    abbrev core_all : CoreOf
    core_all = record { clauses = clauses_all; owners = owners_all; packages = length catalog.universe.packages }

    -- a refutation, with its hints at the places among all
    pub refuted_of_all : (on on_all : List Bool) → ((k : ℕ) → is_enabled on_all (place thin k) ≡ is_enabled on k) → (log : Log) → IsRefuted made_ on core_made log → IsRefuted all_ on_all core_all (log_at (clause_at catalog thin) log)
    refuted_of_all on on_all like log refuted =
        let at : ℕ → ℕ = clause_at catalog thin in
        let n : ℕ = length catalog.universe.packages in
        record {
          good = log_good clauses_made owners_made clauses_all owners_all (clause_at catalog thin) (place thin) (stand catalog thin) log.steps refuted.good;
          over = over_same (clause_at catalog thin) n log.steps ∙ refuted.over;
          rests = ap (list_all (is_book_in_use clauses_all owners_all on_all)) (leaves_at (clause_at catalog thin) (clause_rises catalog thin) log.steps)
              ∙ books_same n (marked left) clauses_made owners_made clauses_all owners_all (clause_at catalog thin) (place thin) (asks made_) (asks all_) (λ b. on_all) (stand catalog thin) over on (run_alike on on_all like) (leaves log.steps) refuted.rests;
          none = λ set zero_in h. refuted.none set zero_in (all_by (λ x. meets_rule catalog x set) (rules_on made_ on) (λ x m. all_at (λ z. meets_rule catalog z set) (rules_on all_ on_all) x h (thin_has (thin_on on on_all like) x m)));
        }

    owned_at : (k : ℕ) → option_to_list (slice_get owners_all (clause_at catalog thin k)) ≡ map (place thin) (option_to_list (slice_get owners_made k))
    owned_at k = by (slice_get owners_made k) refl
      where
        by : (o : Option ℕ) → slice_get owners_made k ≡ o → option_to_list (slice_get owners_all (clause_at catalog thin k)) ≡ map (place thin) (option_to_list o)
        by None e = ap option_to_list (owner_none catalog thin 0 0 k e)
        by (Some o) e = ap option_to_list ((stand catalog thin).owner k o e)

    owned_each : (ks : List ℕ) → flat_map (λ clause. option_to_list (slice_get owners_all clause)) (map (clause_at catalog thin) ks) ≡ map (place thin) (flat_map (λ clause. option_to_list (slice_get owners_made clause)) ks)
    owned_each [] = refl
    owned_each (k ∷ ks) =
        ap_two (λ a b. a ++ b) (owned_at k) (owned_each ks)
        ∙ sym (map_append (place thin) (place_rises thin) (option_to_list (slice_get owners_made k)) (flat_map (λ clause. option_to_list (slice_get owners_made clause)) ks))

    -- the rules that a moved log rests on are those of the log, moved
    pub rested_of_all : (steps : List Step) → rested_on catalog (rules_of all_) (steps_at (clause_at catalog thin) steps) ≡ map (place thin) (rested_on catalog (rules_of made_) steps)
    rested_of_all steps =
        ap (owning owners_all) (leaves_at (clause_at catalog thin) (clause_rises catalog thin) steps)
        ∙ ap (fold (insert_key nat_cmp) []) (owned_each (leaves steps))
        ∙ sorted_at (place thin) (place_rises thin) [] (flat_map (λ clause. option_to_list (slice_get owners_made clause)) (leaves steps))

    -- a ledger, with its hints at their places among all, where each run enables each made rule among all as it did, and no clause that it holds speaks of what is left out
    pub ledger_of_all : (on_all : List Bool → List Bool) (ledger : Ledger) → ((number : ℕ) (run : Run) → slice_get ledger.runs number ≡ Some run → (k : ℕ) → is_enabled (on_all run.enabled) (place thin k) ≡ is_enabled run.enabled k)
        → list_all (is_of_inside (length catalog.universe.packages) (marked left)) ledger.entries ≡ true
        → IsGoodLedger clauses_made (owners_from catalog 0 (rules_of made_)) (length catalog.universe.packages) (asks made_) ledger
        → IsGoodLedger clauses_all (owners_from catalog 0 (rules_of all_)) (length catalog.universe.packages) (asks all_) (ledger_at (clause_at catalog thin) on_all ledger)
    ledger_of_all on_all ledger like inside good =
        ledgers_widen (length catalog.universe.packages) (marked left) clauses_made (owners_from catalog 0 (rules_of made_)) clauses_all (owners_from catalog 0 (rules_of all_)) (clause_at catalog thin) (place thin) (asks made_) (asks all_) on_all
        (stand catalog thin) over ledger (λ number run there. run_alike run.enabled (on_all run.enabled) (like number run there)) inside good
