use Rattle.std.proofs.Common.{◌≡◌, ℕ, ◌+◌, Bool, true, List, [], ◌∷◌, Some, refl, sym, ap, ◌∙◌, subst, arith}
use Rattle.std.specs.Prelude.{ℤ}
use Rattle.solv_pool.specs.Prelude.{is_fact}
use Rattle.solv_plan.specs.declared.settled.Entry.{Entry}
use Rattle.solv_plan.specs.declared.plans.Named.{Named}
use Rattle.solv_plan.specs.Inner.Plans.{named_query}
use Rattle.solv_plan.specs.declared.plans.Relations.{Relations}
use Rattle.solv_questions.specs.Questions.{Query}
use Rattle.solv_plan.specs.Inner.Entries.{are_right}
use Rattle.solv_plan.specs.Inner.Settling.{names_settled, Fits}
use Rattle.std.proofs.lemmas.Option.{slice_get-get_or}
use Rattle.solv_plan.proofs.Joining.{loop_found, loop_goes_on}
use Rattle.solv_plan.proofs.Recalled.{next_left, named_at}
use Rattle.solv_plan.proofs.remembering.recall_names.Goals as goal

abbrev one : (ℤ → Bool) → Relations → Named → List Query
one known relations named = named_query known relations named ∷ []

pub loop-place-init : goal.loop-place-init
loop-place-init c =
    let known : ℤ → Bool = is_fact c.args.known.now.lits in
    let xs : List Named = c.args.names.now in
    let E : List Entry = c.first_unsettled-place.new.self in
    let right : are_right (names_settled xs) E ≡ true = ap (are_right (names_settled xs)) c.first_unsettled-place.ensures.same ∙ c.requires.right in
    let fits : Fits known E = subst (Fits known) (sym c.first_unsettled-place.ensures.same) c.requires.fits in
    record {
      right = right;
      fits = fits;
      left = next_left known (one known c.args.relations.now) xs (names_settled xs) c.first_unsettled-place.new.self right fits (λ r inside i x e s. named_at known c.args.relations.now xs r inside i x e s)
          0 c.first_unsettled-place.result (omega arith) c.first_unsettled-place.ensures.settled refl;
    }

pub returns-then-is_some-clause-asked : goal.returns-then-is_some-clause-asked
returns-then-is_some-clause-asked c =
    let known : ℤ → Bool = is_fact c.args.known.now.lits in
    loop_found known (one known c.args.relations.now) c.args.names.now c.loop-place.place c.index-names-place.result c.recall_named-ask.result c.loop-place-test.true c.index-names-place.is c.loop-place.invariant.left c.recall_named-ask.ensures.asked (sym c.is_some.ensures ∙ c.if-is_some.true)

pub returns-then-is_some-clause-right : goal.returns-then-is_some-clause-right
returns-then-is_some-clause-right c =
    let xs : List Named = c.args.names.now in
    c.recall_named-ask.ensures.right xs (slice_get-get_or xs c.loop-place.place c.index-names-place.result c.loop-place-test.true ∙ ap Some (sym c.index-names-place.is)) c.loop-place.invariant.right

pub loop-place-preserved : goal.loop-place-preserved
loop-place-preserved c =
    let known : ℤ → Bool = is_fact c.args.known.now.lits in
    let xs : List Named = c.args.names.now in
    let at : ℕ = c.loop-place.place in
    let x : Named = c.index-names-place.result in
    let entries : List Entry = c.recall_named-ask.new.settled in
    let right : are_right (names_settled xs) entries ≡ true = c.recall_named-ask.ensures.right xs (slice_get-get_or xs at x c.loop-place-test.true ∙ ap Some (sym c.index-names-place.is)) c.loop-place.invariant.right in
    record {
      right = right;
      fits = c.recall_named-ask.ensures.fits;
      left = next_left known (one known c.args.relations.now) xs (names_settled xs) entries right c.recall_named-ask.ensures.fits (λ r inside i y e s. named_at known c.args.relations.now xs r inside i y e s)
          (at + 1) c.first_open-place.result c.first_open-place.ensures.forward c.first_open-place.ensures.settled
          (loop_goes_on known (one known c.args.relations.now) xs at x c.recall_named-ask.result c.loop-place-test.true c.index-names-place.is c.loop-place.invariant.left c.recall_named-ask.ensures.asked (sym c.is_some.ensures ∙ c.if-is_some.false));
    }
