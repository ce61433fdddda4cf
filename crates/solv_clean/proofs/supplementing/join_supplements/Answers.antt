use Rattle.std.proofs.Common.{◌≡◌, ◌<◌, ◌∷◌, ◌∙◌, [], ap, sym, take, length, arith, inl, inr, eqb}
use Rattle.std.proofs.lemmas.Bool.{ltb-true, false≢true, eqb-true}
use Rattle.std.proofs.lemmas.List.Folds.{list_any-append}
use Rattle.solv_list.proofs.Booleans.{or_cases, or_false}
use Rattle.solv_pool.specs.Prelude.{is_among, Catalog, catalog_of}
use Rattle.solv_clean.specs.Inner.Readiness.{dep_below}
use Rattle.solv_clean.proofs.Joined.{grows_none, grows_more, by_more}
use Rattle.solv_clean.proofs.Lists.{among_get}
use Rattle.solv_clean.proofs.supplementing.join_supplements.Goals as goal
use Rattle.solv_list.proofs.Lists.{all_get, take_next}

pub loop-dep-init : goal.loop-dep-init
loop-dep-init c = (c.requires.known, grows_none c.args.graph.now, c.requires.joined, λ id h. absurd (false≢true h))

pub join_supplement-requires-clause-held : goal.join_supplement-requires-clause-held
join_supplement-requires-clause-held c =
    let lt : c.loop-dep.dep-index < length c.args.deps.now = omega arith in
    ltb-true c.dep-item.result (length c.args.members.now.task.now.pool.nodes) (all_get (dep_below (length c.args.members.now.task.now.pool.nodes)) c.args.deps.now c.loop-dep.dep-index c.dep-item.result c.requires.held lt c.dep-item.is)

pub join_supplement-requires-clause-of : goal.join_supplement-requires-clause-of
join_supplement-requires-clause-of c =
    let lt : c.loop-dep.dep-index < length c.args.deps.now = omega arith in
    c.requires.of c.dep-item.result (among_get c.args.deps.now c.loop-dep.dep-index c.dep-item.result lt c.dep-item.is)

pub loop-dep-preserved : goal.loop-dep-preserved
loop-dep-preserved c =
    let catalog : Catalog = catalog_of c.args.members.now.task.now in
    let lt : c.loop-dep.dep-index < length c.args.deps.now = omega arith in (
      c.in_ok-join_supplement.ensures.known,
      grows_more c.args.graph.now c.loop-dep.graph c.join_supplement.new.graph c.loop-dep.invariant.1 c.in_ok-join_supplement.ensures.grows,
      c.in_ok-join_supplement.ensures.joined,
      λ id h.
          elim (or_cases (is_among (take c.loop-dep.dep-index c.args.deps.now) id) (is_among (c.dep-item.result ∷ []) id)
          (sym (list_any-append (λ x. eqb x id) (take c.loop-dep.dep-index c.args.deps.now) (c.dep-item.result ∷ [])) ∙ ap (λ xs. is_among xs id) (sym (take_next c.args.deps.now c.loop-dep.dep-index c.dep-item.result lt c.dep-item.is)) ∙ h)) [
            | inl e ↦ by_more catalog c.args.members.now.in_set.now c.loop-dep.graph c.join_supplement.new.graph c.in_ok-join_supplement.ensures.grows c.args.pack id (c.loop-dep.invariant.3 id e)
            | inr e ↦ let same : c.dep-item.result ≡ id = eqb-true c.dep-item.result id (sym (or_false (eqb c.dep-item.result id)) ∙ e) in
                rw (sym same) c.in_ok-join_supplement.ensures.by
          ],
    )
