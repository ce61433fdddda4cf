use Rattle.std.proofs.Common.{◌++◌, ap, ◌∙◌, sym, append-nil}
use Rattle.solv_io.specs.Lines.{ended_lines}
use Rattle.solv_writing.specs.ScriptTexts.{inlined}
use Rattle.solv_writing.specs.Inner.TagParts.{tag_lines}
use Rattle.solv_writing.proofs.RepositoryLines.{block_turn}
use Rattle.solv_writing.proofs.RepositorySpans.{span_begins, span_ends}
use Rattle.solv_writing.proofs.whole_repositories.put_packages.Goals as goal

pub loop-number-init : goal.loop-number-init
loop-number-init c = ap (λ ps. c.args.into.now.items ++ ended_lines (inlined (tag_lines ps))) (span_begins c.args.pool.now c.args.repo c.args.universe.now.packages c.args.span c.requires.span)

pub loop-number-preserved : goal.loop-number-preserved
loop-number-preserved c =
    block_turn c.args.pool.now c.args.repo c.args.universe.now.packages c.loop-number.number c.package_there.result c.loop-number.into.items c.put_if_own.new.into.items _
    c.package_there.ensures.is c.in_ok-put_if_own.ensures c.loop-number.invariant

pub returns : goal.returns
returns c =
    sym (append-nil c.loop-number.into.items)
    ∙ ap (λ ps. c.loop-number.into.items ++ ended_lines (inlined (tag_lines ps))) (sym (span_ends c.args.pool.now c.args.repo c.args.universe.now.packages c.args.span c.requires.span c.loop-number.number c.loop-number-test.false))
    ∙ c.loop-number.invariant
