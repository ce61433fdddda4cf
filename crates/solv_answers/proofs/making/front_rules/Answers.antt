use Rattle.std.proofs.Common.{◌++◌, ◌∙◌, ap}
use Rattle.solv_pool.specs.Prelude.{catalog_of, package_rules, infarch_rules}
use Rattle.solv_answers.proofs.Reading.{first_reads, put_reads}
use Rattle.solv_answers.proofs.making.front_rules.Goals as goal

pub package_rules-requires : goal.package_rules-requires
package_rules-requires c = record {
  over = c.requires.closed.universe;
  of_task = c.requires.index;
  marks_each = record { verify = c.requires.marks.verify; multiversion = c.requires.marks.multiversion };
  formed = c.requires.formed;
}

pub returns : goal.returns
returns c =
    let catalog = catalog_of c.args.task.now in
    let first = c.in-Ok.ensures.list in
    put_reads (package_rules catalog c.args.marks.now) (infarch_rules catalog c.args.task.now.flags) c.package_rules.new.rules c.infarch_rules.new.rules
    (λ more. first_reads (package_rules catalog c.args.marks.now) first.rest first.more c.package_rules.new.rules.list (first.behind ∙ ap (λ l. l ++ first.more) (c.wrap.ensures ∙ c.new.ensures.items)) first.all first.read (c.package_rules.new.rules.sets ++ more))
    c.in-Ok-infarch_rules.ensures
