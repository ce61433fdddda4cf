use Rattle.std.proofs.Common.{◌≡◌, ◌==◌, ◌<◌, ◌++◌, length, rules, arith, sym, ap, ◌∙◌}
use Rattle.solv_script.specs.Inner.Namespaces.{with_packages}
use Rattle.solv_draft.proofs.NamespacePlaces.{found_at, same_there}
use Rattle.solv_draft.proofs.namespaces.put_packages.Goals as goal

pub returns-then-eq-clause-ok : goal.returns-then-eq-clause-ok
returns-then-eq-clause-ok c =
    let ns = c.loop-place.namespaces.items in
    let here = c.index_mut.result.now in
    let below : c.loop-place.place < length ns = search (rules, arith) in
    let same : here ≡ c.index.result.now = c.index_mut.ensures.value ∙ same_there ns c.loop-place.place here c.index.result.now below ∙ sym c.index.ensures in
    let again : here ≡ c.index-then-eq.result.now = c.index_mut.ensures.value ∙ same_there ns c.loop-place.place here c.index-then-eq.result.now below ∙ sym c.index-then-eq.ensures in
    found_at c.args.name c.args.packs.now ns c.loop-place.place here (here.0, c.in_ok-all.all) below c.index_mut.ensures.value (ap (λ n. n.0 == c.args.name) same ∙ sym c.eq.ensures ∙ c.if-eq.true)
    (ap (λ ps. (here.0, ps)) (c.in_ok-all.ensures ∙ ap (λ ps. ps ++ c.args.packs.now) (c.held.ensures ∙ sym (ap (λ n. n.1) again))))
    ∙ c.loop-place.invariant.same ∙ ap (with_packages c.args.name c.args.packs.now) c.loop-place.invariant.kept
