use Rattle.std.proofs.Common.{◌≡◌, ◌∙◌, true, List, map, subst}
use Rattle.std.specs.List.{list_all}
use Rattle.std.proofs.lemmas.List.{drop-map}
use Rattle.solv_pool.specs.Prelude.{catalog_of, HardRule, rule_with}
use Rattle.solv_rules.specs.Books.{is_bookable}
use Rattle.solv_rules.proofs.Fronts.{begun_left}
use Rattle.solv_rules.proofs.making_book.add_rules.Goals as goal
use Rattle.solv_list.proofs.Lists.{all_dropped}

pub loop-owner-init : goal.loop-owner-init
loop-owner-init c =
    let catalog = catalog_of c.args.task.now in
    let f = rule_with c.args.sets.now in
    let n = c.len-owner.result in
    let P : List HardRule → Type 0 = λ rules. list_all (is_bookable catalog) rules ≡ true in
    record {
      each = subst P (drop-map f n c.args.list.now) (all_dropped (is_bookable catalog) n (map f c.args.list.now) c.requires.bookable);
      left = begun_left catalog c.args.list.now f n c.args.draft.now c.requires.begun (c.len-owner.ensures ∙ c.args.draft.now.spans.ok.0);
    }
