use Rattle.solv_pool.specs.Prelude.{catalog_of}
use Rattle.solv_lines.proofs.Joining.{pair_behind}
use Rattle.solv_lines.proofs.writing.write_pair.Goals as goal

pub returns : goal.returns
returns c =
    pair_behind (catalog_of c.args.task.now) c.write_package.result c.args.into.now.items c.write_single.new.into.items c.write_package.new.into.items c.args.word.now c.args.pack c.args.other
    c.in_ok-write_single.ensures c.write_package.ensures
