use Rattle.std.proofs.Common.{◌∙◌, ◌||◌, ap, true}
use Rattle.std.specs.List.{list_any}
use Rattle.solv_pool.specs.Prelude.{catalog_of, packages}
use Rattle.solv_trans.specs.Inner.Joining.{is_marked, linked, pre_linked, owned_by}
use Rattle.solv_trans.proofs.Owned.{all_owned}
use Rattle.solv_trans.proofs.edges.links_of.Goals as goal

pub returns : goal.returns
returns c = record {
  all = λ a b.
      c.in_ok-join_packages.ensures.all a b
      ∙ ap (λ l. linked l a b || list_any (λ x. owned_by (catalog_of c.args.task.now) (is_marked c.args.in_set.now) (λ need. true) x a b) (packages (catalog_of c.args.task.now))) c.new-links.ensures.items
      ∙ all_owned (catalog_of c.args.task.now) (is_marked c.args.in_set.now) (λ need. true) a b;
  pre = λ a b.
      c.in_ok-join_packages.ensures.pre a b
      ∙ ap (λ l. pre_linked l a b || list_any (λ x. owned_by (catalog_of c.args.task.now) (is_marked c.args.in_set.now) (λ need. need.pre) x a b) (packages (catalog_of c.args.task.now))) c.new-links.ensures.items
      ∙ all_owned (catalog_of c.args.task.now) (is_marked c.args.in_set.now) (λ need. need.pre) a b;
}
