use Rattle.std.proofs.Common.{◌≡◌, ◌<◌, ◌∷◌, ◌++◌, [], ℕ, List, length, filter, true, sym, subst}
use Rattle.std.specs.Prelude.{nat_lt}
use Rattle.std.specs.List.{list_all}
use Rattle.solv_pool.specs.Prelude.{Catalog, catalog_of, dependency, members, package_meets}
use Rattle.solv_pool.specs.Parts.{parts}
use Rattle.solv_trans.specs.Inner.Joining.{is_marked, Joins, from_one, to_coming, unsettled}
use Rattle.solv_trans.proofs.Joined.{joins_same}
use Rattle.solv_trans.proofs.Asking.{comes_pack}
use Rattle.solv_trans.proofs.Owned.{providers_below, coming_same, coming_operand, coming_both}
use Rattle.solv_trans.proofs.edges.+join_need_coming.Goals as goal

pub join_brought-requires-clause-held : goal.join_brought-requires-clause-held
join_brought-requires-clause-held t c =
    let catalog : Catalog = catalog_of c.args.task.now in
    let exact = c.of.ensures.exact catalog c.requires.index in
    subst (λ (qs : List ℕ). list_all (λ q. nat_lt q (length c.args.turns.now)) qs ≡ true) (sym exact)
    (providers_below catalog (is_marked c.args.in_set.now) (package_meets catalog (dependency catalog c.args.need.dep)) (length c.args.turns.now) c.requires.turns.size)

pub returns-in_ok-join_brought-in-Itself : goal.returns-in_ok-join_brought-in-Itself
returns-in_ok-join_brought-in-Itself t c =
    let catalog : Catalog = catalog_of c.args.task.now in
    let set = is_marked c.args.in_set.now in
    let exact = c.of.ensures.exact catalog c.requires.index in
    let itself : parts (dependency catalog c.args.need.dep) ≡ dependency catalog c.args.need.dep ∷ [] = rw c.in-Itself.is at c.parts_of.ensures in
    let step : Joins (from_one c.args.turns.now c.args.pack c.args.need) (unsettled catalog set c.args.pack (filter (package_meets catalog (dependency catalog c.args.need.dep)) (members catalog))) c.args.links.now.items c.join_brought.new.links.items =
    rw exact at c.in_ok-join_brought-in-Itself.ensures in
    joins_same (from_one c.args.turns.now c.args.pack c.args.need) (to_coming catalog set c.args.pack)
    (unsettled catalog set c.args.pack (filter (package_meets catalog (dependency catalog c.args.need.dep)) (members catalog))) (c.args.need ∷ []) c.args.links.now.items c.join_brought.new.links.items
    (λ these a b. coming_same catalog set c.args.turns.now c.requires.turns c.args.need itself these a b c.args.pack (comes_pack catalog set c.args.pack c.requires.comes)) step

pub returns-in_ok-join_need_coming-in-Of : goal.returns-in_ok-join_need_coming-in-Of
returns-in_ok-join_need_coming-in-Of t c =
    let catalog : Catalog = catalog_of c.args.task.now in
    let set = is_marked c.args.in_set.now in
    let same : (c.in-Of.operand < c.args.need.dep) × (parts (dependency catalog c.args.need.dep) ≡ parts (dependency catalog c.in-Of.operand)) = rw c.in-Of.is at c.parts_of.ensures in
    let put : Joins (to_coming catalog set c.args.pack) (record c.args.need { dep = c.in-Of.operand } ∷ []) c.args.links.now.items c.join_need_coming.new.links.items = rw c.by.ensures at c.in_ok-join_need_coming-in-Of.ensures in
    coming_operand catalog set c.args.need c.args.pack c.args.links.now.items c.args.links.now.items c.join_need_coming.new.links.items c.in-Of.operand same.1 put

pub returns-in_ok-join_need_coming-in-OfBoth-2 : goal.returns-in_ok-join_need_coming-in-OfBoth-2
returns-in_ok-join_need_coming-in-OfBoth-2 t c =
    let catalog : Catalog = catalog_of c.args.task.now in
    let set = is_marked c.args.in_set.now in
    let same : (c.in-OfBoth.first < c.args.need.dep) × ((c.in-OfBoth.second < c.args.need.dep) × (parts (dependency catalog c.args.need.dep) ≡ parts (dependency catalog c.in-OfBoth.first) ++ parts (dependency catalog c.in-OfBoth.second))) = rw c.in-OfBoth.is at c.parts_of.ensures in
    let own : Joins (to_coming catalog set c.args.pack) (record c.args.need { dep = c.in-OfBoth.first } ∷ []) c.args.links.now.items c.join_need_coming-in-OfBoth.new.links.items = rw c.by-in-OfBoth.ensures at c.in_ok-join_need_coming-in-OfBoth.ensures in
    let other : Joins (to_coming catalog set c.args.pack) (record c.args.need { dep = c.in-OfBoth.second } ∷ []) c.join_need_coming-in-OfBoth.new.links.items c.join_need_coming-in-OfBoth-2.new.links.items = rw c.by-in-OfBoth-2.ensures at c.in_ok-join_need_coming-in-OfBoth-2.ensures in
    coming_both catalog set c.args.need c.args.pack c.args.links.now.items c.join_need_coming-in-OfBoth.new.links.items c.join_need_coming-in-OfBoth-2.new.links.items c.in-OfBoth.first c.in-OfBoth.second same.1.1 own other
