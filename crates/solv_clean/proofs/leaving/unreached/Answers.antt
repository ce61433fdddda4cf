use Rattle.std.proofs.Common.{◌≡◌, ◌+◌, ◌∷◌, ◌∙◌, true, replicate, filter, length, ap, sym}
use Rattle.std.specs.List.{range_with_len}
use Rattle.solv_pool.specs.Prelude.{catalog_of, is_among}
use Rattle.solv_clean.specs.Inner.Tables.{is_marked, table_of, but_not}
use Rattle.solv_clean.proofs.Reached.{all_entries, begun, begun_inside, IsUnreached, unreached_is}
use Rattle.solv_clean.proofs.leaving.unreached.Goals as goal
use Rattle.solv_clean.proofs.leaving.unreached.Goals.{After-drop-all-2}

pub needed_from-requires-clause-each : goal.needed_from-requires-clause-each
needed_from-requires-clause-each c =
    ap length (c.deref-2.ensures.value ∙ c.in_ok-all.ensures.items_if_clones_equal (λ y h. cc) ∙ ap (λ m. replicate (m + 1) true) c.count-count.ensures)
    ∙ all_entries (length c.args.task.now.universe.packages + 1)

pub needed_from-requires-clause-inside : goal.needed_from-requires-clause-inside
needed_from-requires-clause-inside c q i =
    let marks : c.deref-2.result.now ≡ replicate (length c.args.task.now.universe.packages + 1) true =
    c.deref-2.ensures.value ∙ c.in_ok-all.ensures.items_if_clones_equal (λ y h. cc) ∙ ap (λ m. replicate (m + 1) true) c.count-count.ensures in
    let from : c.deref-3.result.now ≡ begun (catalog_of c.args.task.now) c.args.starts.now =
    c.deref-3.ensures.value ∙ c.in_ok-from.ensures
    ∙ ap (λ xs. 0 ∷ xs) (c.deref.ensures.value ∙ c.in_ok-packs.ensures ∙ ap (λ m. filter (is_marked c.args.starts.now) (range_with_len 1 m)) c.count.ensures) in
    ap (λ t. is_marked t q) marks ∙ begun_inside (catalog_of c.args.task.now) c.args.starts.now q (ap (λ xs. is_among xs q) (sym from) ∙ i)

found : (c : After-drop-all-2) → IsUnreached (catalog_of c.args.task.now) c.args.starts.now c.in_ok-table.table.items
found c =
    let marks : c.deref-2.result.now ≡ replicate (length c.args.task.now.universe.packages + 1) true =
    c.deref-2.ensures.value ∙ c.in_ok-all.ensures.items_if_clones_equal (λ y h. cc) ∙ ap (λ m. replicate (m + 1) true) c.count-count.ensures in
    let from : c.deref-3.result.now ≡ begun (catalog_of c.args.task.now) c.args.starts.now =
    c.deref-3.ensures.value ∙ c.in_ok-from.ensures
    ∙ ap (λ xs. 0 ∷ xs) (c.deref.ensures.value ∙ c.in_ok-packs.ensures ∙ ap (λ m. filter (is_marked c.args.starts.now) (range_with_len 1 m)) c.count.ensures) in
    let made : c.in_ok-table.table.items ≡ table_of (length c.args.task.now.universe.packages + 1) (but_not c.deref-2.result.now c.deref-5.result.now) =
    c.in_ok-table.ensures ∙ ap (λ m. table_of (m + 1) (but_not c.deref-4.result.now c.deref-5.result.now)) c.count-count.ensures
    ∙ ap (λ t. table_of (length c.args.task.now.universe.packages + 1) (but_not t c.deref-5.result.now)) (c.deref-4.ensures.value ∙ sym c.deref-2.ensures.value) in
    unreached_is (catalog_of c.args.task.now) c.args.starts.now c.deref-2.result.now c.deref-5.result.now c.in_ok-table.table.items c.deref-3.result.now c.reached_is_where_walks_lead.ensures
    marks from (λ q. ap (λ t. is_marked t q) c.deref-5.ensures.value ∙ c.in_ok-reached.ensures q) made

pub returns-clause-size : goal.returns-clause-size
returns-clause-size c = (found c).size

pub returns-clause-system : goal.returns-clause-system
returns-clause-system c = (found c).system

pub returns-clause-starts : goal.returns-clause-starts
returns-clause-starts c = (found c).starts_out

pub returns-clause-needed : goal.returns-clause-needed
returns-clause-needed c = (found c).needed
