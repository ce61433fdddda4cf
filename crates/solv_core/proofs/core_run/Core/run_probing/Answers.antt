use Rattle.std.proofs.Common.{◌≡◌, ◌∙◌, ◌++◌, ◌-◌, ◌∷◌, [], ℕ, List, inr, filter, length, sym, refl, ap, subst, arith, rules}
use Rattle.std.specs.Prelude.{ℤ, OnErr, Result, Ok, Err}
use Rattle.std.specs.declared.alloc.AllocError.{AllocError}
use Rattle.solv_core.specs.Inner.Cores.{numbers_in_use}
use Rattle.solv_core.specs.Ledgers.{rests_on_enabled}
use Rattle.solv_core.specs.Inner.Holding.{IsHeldBy, entry_of}
use Rattle.std.specs.List.{range_with_len}
use Rattle.solv_core.specs.Inner.Ledgers.{in_use_after, run_of}
use Rattle.solv_core.specs.Inner.Probing.{verdict_in}
use Rattle.solv_core.specs.Inner.Settling.{HasLearnt}
use Rattle.solv_core.specs.declared.ledger.Entry.{Entry}
use Rattle.solv_core.specs.declared.parts.Numbers.{Numbers}
use Rattle.solv_core.specs.declared.verdicts.Verdict.{Verdict}
use Rattle.solv_trail.specs.Propagated.{in_use}
use Rattle.solv_list.proofs.Answers.{where_done}
use Rattle.solv_core.proofs.Answering.{good_ended, held_is, kept_alone, kept_in_front, nothing_learnt, numbers_at_end, own_ended, own_none}
use Rattle.solv_core.proofs.core_run.Core.run_probing.Goals as goal
use Rattle.solv_core.proofs.core_run.Core.run_probing.Given.{Over}
use Rattle.solv_core.proofs.core_run.Core.run_probing.Goals.{After-run_over, In_ok-begin}

where_refused : {P : Type 0} (o : Result Verdict AllocError) → P → OnErr o P
where_refused (Ok v) p = tt
where_refused (Err e) p = p

-- what the run has learnt, over the parts that were there before
learnt_then : (g : Over) (c : After-run_over g) → HasLearnt c.self.inside.book.now.rules c.begin.new.parts.learnt.rules (in_use c.self.inside.owners.now c.args.enabled.now) (λ facts. g.G.Guide.asks c.args.guide.now facts c.args.enabled.now) (entry_of c.begin.new.parts.numbers.kept.items c.begin.new.parts.numbers.first) c.self.inside.parts.known.count c.len-run.result c.args.ledger.now.entries c.run_over.new.ledger.entries c.run_over.new.parts.learnt.rules c.run_over.ensures.learnt.0
learnt_then g c =
    let P : List (List ℤ) → ℕ → List Entry → Type 0 = λ b n e. HasLearnt b c.begin.new.parts.learnt.rules (in_use c.self.inside.owners.now c.args.enabled.now) (λ facts. g.G.Guide.asks c.args.guide.now facts c.args.enabled.now) (entry_of c.begin.new.parts.numbers.kept.items c.begin.new.parts.numbers.first) n c.len-run.result e c.run_over.new.ledger.entries c.run_over.new.parts.learnt.rules c.run_over.ensures.learnt.0 in
    (subst (λ n. P c.self.inside.book.now.rules n c.args.ledger.now.entries) (ap (λ k. k.count) c.begin.ensures.known)
    (subst (λ e. P c.self.inside.book.now.rules c.begin.new.parts.known.count e) c.begin.ensures.entries c.run_over.ensures.learnt.1))

-- the ledger has the run
run_then : (g : Over) (c : After-run_over g) → c.run_over.new.ledger.runs ≡ c.args.ledger.now.runs ++ run_of c.args.self.now c.args.enabled.now c.args.ledger.now.entries ∷ []
run_then g c = c.run_over.ensures.runs ∙ c.in_ok-begin.ensures.added ∙ ap (λ v. c.args.ledger.now.runs ++ run_of v c.args.enabled.now c.args.ledger.now.entries ∷ []) (c.self.view_is)

-- and what the run kept and learnt is in use
in_use_then : (g : Over) (c : After-run_over g) → numbers_in_use (record { kept = c.run_over.new.parts.numbers.kept.items; first = c.run_over.new.parts.numbers.first; clauses = c.run_over.new.parts.learnt.rules }) ≡ in_use_after (run_of c.args.self.now c.args.enabled.now c.args.ledger.now.entries) c.args.ledger.now.entries c.run_over.new.ledger.entries
in_use_then g c =
    let own : List ℕ = c.self.inside.owners.now in
    let noted : List ℕ = filter (rests_on_enabled c.self.inside.book.now.rules own c.args.enabled.now c.args.ledger.now.entries) (numbers_in_use (record { kept = c.self.inside.parts.numbers.kept.items; first = c.self.inside.parts.numbers.first; clauses = c.self.inside.parts.learnt.rules })) in
    let more : List ℕ = range_with_len (length c.args.ledger.now.entries) (length c.run_over.new.ledger.entries - length c.args.ledger.now.entries) in
    ap (λ (n : Numbers). numbers_in_use (record { kept = n.kept.items; first = n.first; clauses = c.run_over.new.parts.learnt.rules })) c.run_over.ensures.numbers
    ∙ numbers_at_end c.self.inside.parts.known.count c.self.inside.book.now.rules own c.args.enabled.now (λ facts. g.G.Guide.asks c.args.guide.now facts c.args.enabled.now) noted c.begin.new.parts.numbers.kept.items c.begin.new.parts.numbers.first c.self.inside.parts.known.count c.len-run.result c.args.ledger.now.entries c.run_over.new.ledger.entries c.begin.new.parts.learnt.rules c.run_over.new.parts.learnt.rules c.run_over.ensures.learnt.0 c.in_ok-begin.ensures.begun (learnt_then g c)
    ∙ ap (λ v. (run_of v c.args.enabled.now c.args.ledger.now.entries).kept ++ more) c.self.view_is

each_owned : (g : Over) (c : In_ok-begin g) → length c.args.self.now.made.owners ≡ length c.args.self.now.made.clauses
each_owned g c = sym (ap (λ v. length v.made.owners) c.self.view_is) ∙ c.self.invariant.each ∙ ap (λ v. length v.made.clauses) c.self.view_is

pub returns-in_err-begin-clause-run : goal.returns-in_err-begin-clause-run
returns-in_err-begin-clause-run g c = record {
  core = search rules;
  held = search rules;
  ledger = record {
    budget = c.begin.ensures.budget;
    few = search rules;
    earlier_runs = kept_alone c.args.ledger.now.runs c.begin.new.ledger.runs (ap (λ l. l.runs) c.in_err-begin.ensures.refused);
    earlier_entries = kept_alone c.args.ledger.now.entries c.begin.new.ledger.entries c.begin.ensures.entries;
    own_entries = own_none (length c.args.ledger.now.runs) c.args.ledger.now.entries c.begin.new.ledger.entries c.begin.ensures.entries;
  };
  run = search rules;
  in_use = search rules;
  refused = search rules;
  good = search rules;
  answered = search rules;
}

pub returns-then-spent-clause-run : goal.returns-then-spent-clause-run
returns-then-spent-clause-run g c = record {
  core = search rules;
  held = search rules;
  ledger = record {
    budget = c.begin.ensures.budget;
    few = search rules;
    earlier_runs = kept_in_front c.args.ledger.now.runs c.args.ledger.now.runs c.begin.new.ledger.runs _ refl c.in_ok-begin.ensures.added;
    earlier_entries = kept_alone c.args.ledger.now.entries c.begin.new.ledger.entries c.begin.ensures.entries;
    own_entries = own_none (length c.args.ledger.now.runs) c.args.ledger.now.entries c.begin.new.ledger.entries c.begin.ensures.entries;
  };
  run = search rules;
  in_use = search rules;
  refused = tt;
  good = λ good.
      let b = (goal.at.returns-then-spent-clause-run g c).In_ok-begin in
      let same : length c.begin.new.ledger.entries ≡ length c.args.ledger.now.entries = ap length c.begin.ensures.entries in
      let own : List ℕ = c.self.inside.owners.now in
      let noted : List ℕ = filter (rests_on_enabled c.self.inside.book.now.rules own c.args.enabled.now c.args.ledger.now.entries) (numbers_in_use (record { kept = c.self.inside.parts.numbers.kept.items; first = c.self.inside.parts.numbers.first; clauses = c.self.inside.parts.learnt.rules })) in
      let P : List Entry → Type 0 = λ e. HasLearnt c.self.inside.book.now.rules c.begin.new.parts.learnt.rules (in_use c.self.inside.owners.now c.args.enabled.now) (λ facts. g.G.Guide.asks c.args.guide.now facts c.args.enabled.now) (entry_of c.begin.new.parts.numbers.kept.items c.begin.new.parts.numbers.first) c.self.inside.parts.known.count c.len-run.result c.args.ledger.now.entries e c.begin.new.parts.learnt.rules [] in
      good_ended c.args.self.now.made.clauses c.args.self.now.made.owners c.args.self.now.made.packages (g.G.Guide.asks c.args.guide.now) c.args.enabled.now (numbers_in_use (record { kept = c.self.inside.parts.numbers.kept.items; first = c.self.inside.parts.numbers.first; clauses = c.self.inside.parts.learnt.rules })) noted c.begin.new.parts.numbers.kept.items c.begin.new.parts.numbers.first c.args.ledger.now c.begin.new.ledger
      c.self.inside.book.now.rules own c.self.inside.parts.known.count c.len-run.result [] c.begin.new.parts.learnt.rules c.begin.new.parts.learnt.rules
      (each_owned g b) (ap (λ v. v.made.clauses) c.self.view_is) (ap (λ v. v.made.owners) c.self.view_is) (c.self.invariant.known ∙ ap (λ v. v.made.packages) c.self.view_is) c.len-run.ensures
      c.in_ok-begin.ensures.added (omega (arith, same, c.begin.ensures.budget, c.requires.few)) refl c.in_ok-begin.ensures.begun
      (subst P (sym c.begin.ensures.entries) (nothing_learnt c.self.inside.book.now.rules c.begin.new.parts.learnt.rules (in_use c.self.inside.owners.now c.args.enabled.now) (λ facts. g.G.Guide.asks c.args.guide.now facts c.args.enabled.now) (entry_of c.begin.new.parts.numbers.kept.items c.begin.new.parts.numbers.first) c.self.inside.parts.known.count c.len-run.result c.args.ledger.now.entries)) good;
  answered = search rules;
}

pub returns-clause-run : goal.returns-clause-run
returns-clause-run g c = record {
  core = search rules;
  held =
      let e = (goal.at.returns-clause-run g c).After-run_over in
      let own : List ℕ = c.self.inside.owners.now in
      let noted : List ℕ = filter (rests_on_enabled c.self.inside.book.now.rules own c.args.enabled.now c.args.ledger.now.entries) (numbers_in_use (record { kept = c.self.inside.parts.numbers.kept.items; first = c.self.inside.parts.numbers.first; clauses = c.self.inside.parts.learnt.rules })) in
      let P : List (List ℤ) → List ℕ → ℕ → Numbers → Type 0 = λ b o p n. IsHeldBy (record { made = record { clauses = b; owners = o; packages = p }; in_use = record { kept = n.kept.items; first = n.first; clauses = c.run_over.new.parts.learnt.rules } }) c.run_over.new.ledger in
      let held = held_is c.self.inside.parts.known.count c.self.inside.book.now.rules own c.args.enabled.now (λ facts. g.G.Guide.asks c.args.guide.now facts c.args.enabled.now) noted c.begin.new.parts.numbers.kept.items c.begin.new.parts.numbers.first c.self.inside.parts.known.count c.len-run.result c.args.ledger.now.entries c.run_over.new.ledger.entries c.begin.new.parts.learnt.rules c.run_over.new.parts.learnt.rules c.run_over.ensures.learnt.0
      c.in_ok-begin.ensures.begun (learnt_then g e) c.run_over.new.ledger refl in
      subst (λ p. P c.self.inside.book.now.rules own p c.run_over.new.parts.numbers) c.self.invariant.known
      (subst (λ n. P c.self.inside.book.now.rules own c.self.inside.parts.known.count n) (sym c.run_over.ensures.numbers) held);
  ledger = record {
    budget = search rules;
    few = c.run_over.ensures.few;
    earlier_runs = kept_in_front c.args.ledger.now.runs c.args.ledger.now.runs c.run_over.new.ledger.runs _ refl (c.run_over.ensures.runs ∙ c.in_ok-begin.ensures.added);
    earlier_entries = let e = (goal.at.returns-clause-run g c).After-run_over in kept_in_front c.args.ledger.now.entries c.args.ledger.now.entries c.run_over.new.ledger.entries _ refl (learnt_then g e).added;
    own_entries =
        let e = (goal.at.returns-clause-run g c).After-run_over in
        own_ended c.self.inside.book.now.rules c.begin.new.parts.learnt.rules (in_use c.self.inside.owners.now c.args.enabled.now) (λ facts. g.G.Guide.asks c.args.guide.now facts c.args.enabled.now) (entry_of c.begin.new.parts.numbers.kept.items c.begin.new.parts.numbers.first) c.self.inside.parts.known.count c.len-run.result (length c.args.ledger.now.runs)
        c.args.ledger.now.entries c.args.ledger.now.entries c.run_over.new.ledger.entries c.run_over.new.parts.learnt.rules c.run_over.ensures.learnt.0 c.len-run.ensures refl (learnt_then g e);
  };
  run = let e = (goal.at.returns-clause-run g c).After-run_over in where_done (verdict_in c.run_over.result) _ (run_then g e);
  in_use = let e = (goal.at.returns-clause-run g c).After-run_over in where_done (verdict_in c.run_over.result) _ (in_use_then g e);
  refused = let e = (goal.at.returns-clause-run g c).After-run_over in where_refused (verdict_in c.run_over.result) (inr (run_then g e, in_use_then g e));
  good = λ good.
      let b = (goal.at.returns-clause-run g c).In_ok-begin in
      let e = (goal.at.returns-clause-run g c).After-run_over in
      let own : List ℕ = c.self.inside.owners.now in
      let noted : List ℕ = filter (rests_on_enabled c.self.inside.book.now.rules own c.args.enabled.now c.args.ledger.now.entries) (numbers_in_use (record { kept = c.self.inside.parts.numbers.kept.items; first = c.self.inside.parts.numbers.first; clauses = c.self.inside.parts.learnt.rules })) in
      good_ended c.args.self.now.made.clauses c.args.self.now.made.owners c.args.self.now.made.packages (g.G.Guide.asks c.args.guide.now) c.args.enabled.now (numbers_in_use (record { kept = c.self.inside.parts.numbers.kept.items; first = c.self.inside.parts.numbers.first; clauses = c.self.inside.parts.learnt.rules })) noted c.begin.new.parts.numbers.kept.items c.begin.new.parts.numbers.first c.args.ledger.now c.run_over.new.ledger
      c.self.inside.book.now.rules own c.self.inside.parts.known.count c.len-run.result c.run_over.ensures.learnt.0 c.begin.new.parts.learnt.rules c.run_over.new.parts.learnt.rules
      (each_owned g b) (ap (λ v. v.made.clauses) c.self.view_is) (ap (λ v. v.made.owners) c.self.view_is) (c.self.invariant.known ∙ ap (λ v. v.made.packages) c.self.view_is) c.len-run.ensures
      (c.run_over.ensures.runs ∙ c.in_ok-begin.ensures.added) c.run_over.ensures.few refl c.in_ok-begin.ensures.begun (learnt_then g e) good;
  answered = search rules;
}
