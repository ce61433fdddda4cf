use Rattle.std.proofs.Common.{◌≡◌, ◌∙◌, ap, sym, arith, length, ◌++◌, ◌∷◌, [], true}
use Rattle.std.specs.Prelude.{slice_index_or}
use Rattle.solv_pool.specs.Prelude.{tree, package_wise}
use Rattle.solv_clean.specs.Inner.Tables.{table_of}
use Rattle.solv_clean.proofs.Told.{table_more}
use Rattle.solv_leaving.proofs.NoConditions.{entry_at}
use Rattle.solv_leaving.proofs.wise.wise_table.Goals as goal

pub loop-number-preserved : goal.loop-number-preserved
loop-number-preserved c =
    rw c.in_ok-push.ensures.items
    (ap (λ t. t ++ c.package_wise.result ∷ []) c.loop-number.invariant
    ∙ sym (table_more (λ d. package_wise (tree c.args.pool.now.nodes d)) c.loop-number.number c.package_wise.result c.package_wise.ensures))

pub returns : goal.returns
returns c d lt =
    let nodes = c.args.pool.now.nodes in
    let whole : c.loop-number.number ≡ length nodes = omega arith in
    let table : c.loop-number.made.items ≡ table_of (length nodes) (λ d. package_wise (tree nodes d)) = rw whole at c.loop-number.invariant in
    ap (λ t. slice_index_or t d true) table ∙ entry_at (λ d. package_wise (tree nodes d)) (length nodes) d lt
