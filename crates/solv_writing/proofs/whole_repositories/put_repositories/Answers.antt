use Rattle.std.proofs.Common.{◌≡◌, ◌<◌, ◌∙◌, map, length, subst}
use Rattle.std.proofs.lemmas.Option.{slice_get_read}
use Rattle.solv_pool.specs.Prelude.{written_package}
use Rattle.solv_writing.proofs.RepositoryLines.{repository_turn}
use Rattle.solv_writing.proofs.whole_repositories.put_repositories.Goals as goal

pub put_repository-requires-clause-span : goal.put_repository-requires-clause-span
put_repository-requires-clause-span c =
    c.in_ok-spans.ensures.spans c.loop-place.place c.index.result.now
    (slice_get_read c.in_ok-spans.spans.items c.len-place-end.result c.loop-place.place c.index.result.now (c.len-place-end.ensures ∙ c.in_ok-spans.spans.ok.0) c.loop-place-test.true c.index.ensures)

pub loop-place-preserved : goal.loop-place-preserved
loop-place-preserved c =
    let each : c.len-place-end.result ≡ length c.args.universe.now.repos = c.len-place-end.ensures ∙ c.in_ok-spans.spans.ok.0 ∙ c.in_ok-spans.ensures.each in
    repository_turn c.args.pool.now c.args.universe.now.repos (map (written_package c.args.pool.now) c.args.universe.now.packages) c.loop-place.place c.loop-place.into.items c.put_repository.new.into.items _
    (subst (λ n. c.loop-place.place < n) each c.loop-place-test.true) c.in_ok-put_repository.ensures c.loop-place.invariant
