use Rattle.std.proofs.Common.{◌≡◌, ◌+◌, inl, inr, length, arith}
use Rattle.solv_pool.specs.Prelude.{Catalog, catalog_of}
use Rattle.solv_clean.proofs.Joined.{to_more}
use Rattle.solv_clean.proofs.supplementing.join_packages.Goals as goal
use Rattle.std.proofs.lemmas.Bool.{cases_lt}

pub loop-before-init : goal.loop-before-init
loop-before-init c = (c.requires.known, c.requires.joined, λ q low high. absurd (omega (arith, low, high)))

pub loop-before-preserved : goal.loop-before-preserved
loop-before-preserved c =
    let catalog : Catalog = catalog_of c.args.members.now.task.now in (
      c.in_ok-join_to.ensures.known,
      c.in_ok-join_to.ensures.joined,
      λ q low high. elim (cases_lt q (c.loop-before.before + 1)) [
        | inl lt ↦ to_more catalog c.args.members.now.in_set.now c.loop-before.graph c.join_to.new.graph c.in_ok-join_to.ensures.grows q (c.loop-before.invariant.2 q low lt)
        | inr le ↦ let same : q ≡ c.loop-before.before + 1 = omega (arith, le, high) in
            rw same c.in_ok-join_to.ensures.to
      ],
    )

pub returns-clause-to : goal.returns-clause-to
returns-clause-to c q low high =
    let whole : c.loop-before.before ≡ length c.args.members.now.task.now.universe.packages = omega (arith, c.count-before-end.ensures) in
    c.loop-before.invariant.2 q low (omega (arith, high, whole))
