use Rattle.solv_pool.specs.Prelude.{catalog_of}
use Rattle.solv_lines.proofs.Joining.{single_behind}
use Rattle.solv_lines.proofs.writing.write_single.Goals as goal

pub returns : goal.returns
returns c =
    single_behind (catalog_of c.args.task.now) c.write_package.result c.args.into.now.items c.extend_from_slice.new.self.items c.write_package.new.into.items c.args.word.now c.args.pack
    c.in_ok-extend_from_slice.ensures.items c.write_package.ensures
