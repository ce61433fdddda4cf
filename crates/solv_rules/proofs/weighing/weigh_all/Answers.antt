use Rattle.std.proofs.Common.{◌≡◌, ◌+◌, ◌-◌, ◌++◌, ◌∙◌, true, length, List, Option, ap, sym, subst, arith}
use Rattle.std.specs.Prelude.{flat_map}
use Rattle.std.specs.List.{list_all, range_with_len}
use Rattle.solv_list.proofs.Lists.{all_left, all_right}
use Rattle.solv_pool.specs.Prelude.{catalog_of, package_rules, words_of_all, HardRule}
use Rattle.solv_pool.specs.Inner.HardRules.{rules_of_package}
use Rattle.solv_rules.specs.Books.{first_fault, is_bookable, IsDue}
use Rattle.solv_rules.specs.Inner.Drafting.{HasWeighed}
use Rattle.solv_rules.specs.declared.fault.BookFault.{BookFault}
use Rattle.solv_rules.proofs.Bookkeeping.{added}
use Rattle.solv_rules.proofs.Packages.{next_package}
use Rattle.solv_rules.proofs.Taking.{counted}
use Rattle.solv_rules.proofs.Weighed.{packages_bookable, part_refused, part_weighed}
use Rattle.solv_rules.proofs.weighing.weigh_all.Goals as goal

pub loop-before-init : goal.loop-before-init
loop-before-init c =
    let task = c.args.task.now in
    let catalog = catalog_of task in
    let marks = c.args.marks.now in
    let is_count = c.count-count.ensures in
    let many : c.count-count.result - 0 ≡ length task.universe.packages = omega (arith, is_count) in
    let all : flat_map (rules_of_package catalog marks) (range_with_len 1 (c.count-count.result - 0)) ≡ package_rules catalog marks = ap (λ n. flat_map (rules_of_package catalog marks) (range_with_len 1 n)) many in
    record {
      draft = counted c.empty-draft.result c.empty-draft.ensures.draft;
      each = subst (λ (l : List HardRule). list_all (is_bookable catalog) l ≡ true) (sym all)
          (packages_bookable catalog task.flags task.jobs marks (c.hard_rules_are_bookable.ensures task c.args.prov.now marks c.requires));
      due = ap (λ l. first_fault catalog c.empty-draft.result.words l) all
          ∙ ap (λ n. first_fault catalog n (package_rules catalog marks)) (c.empty-draft.ensures.draft.exact ∙ ap words_of_all c.empty-draft.ensures.rules);
    }

pub weigh_package-requires-clause-bookable : goal.weigh_package-requires-clause-bookable
weigh_package-requires-clause-bookable c =
    let catalog = catalog_of c.args.task.now in
    let marks = c.args.marks.now in
    let k = c.loop-before.before in
    let split = next_package catalog marks k c.count-count.result (omega arith) in
    all_left (is_bookable catalog) (rules_of_package catalog marks (k + 1)) (flat_map (rules_of_package catalog marks) (range_with_len (k + 1 + 1) (c.count-count.result - (k + 1))))
    (subst (λ (l : List HardRule). list_all (is_bookable catalog) l ≡ true) split c.loop-before.invariant.each)

pub returns-in-Err-clause-fault : goal.returns-in-Err-clause-fault
returns-in-Err-clause-fault c =
    let catalog = catalog_of c.args.task.now in
    let marks = c.args.marks.now in
    let k = c.loop-before.before in
    let mid = c.loop-before.draft in
    let rest : List HardRule = flat_map (rules_of_package catalog marks) (range_with_len (k + 1 + 1) (c.count-count.result - (k + 1))) in
    let split = next_package catalog marks k c.count-count.result (omega arith) in
    subst (λ (o : Option BookFault). IsDue o c.in-Err.fault) (ap (λ l. first_fault catalog mid.words l) (sym split) ∙ c.loop-before.invariant.due)
    (part_refused catalog (rules_of_package catalog marks (k + 1)) rest c.weigh_package.result c.in-Err.fault mid c.weigh_package.new.draft c.in-Err.is c.weigh_package.ensures)

pub loop-before-preserved : goal.loop-before-preserved
loop-before-preserved c =
    let catalog = catalog_of c.args.task.now in
    let marks = c.args.marks.now in
    let k = c.loop-before.before in
    let mid = c.loop-before.draft in
    let new = c.weigh_package.new.draft in
    let part : List HardRule = rules_of_package catalog marks (k + 1) in
    let rest : List HardRule = flat_map (rules_of_package catalog marks) (range_with_len (k + 1 + 1) (c.count-count.result - (k + 1))) in
    let split = next_package catalog marks k c.count-count.result (omega arith) in
    let h : HasWeighed catalog part mid new = added c.weigh_package.result c.in-Ok.field-0 (HasWeighed catalog part mid new) c.in-Ok.is c.weigh_package.ensures.ok in
    record {
      draft = h.draft;
      each = all_right (is_bookable catalog) part rest (subst (λ (l : List HardRule). list_all (is_bookable catalog) l ≡ true) split c.loop-before.invariant.each);
      due = sym (part_weighed catalog part rest c.weigh_package.result c.in-Ok.field-0 mid new c.in-Ok.is c.weigh_package.ensures)
          ∙ ap (λ l. first_fault catalog mid.words l) (sym split) ∙ c.loop-before.invariant.due;
    }
