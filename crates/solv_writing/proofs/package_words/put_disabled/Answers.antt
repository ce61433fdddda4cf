use Rattle.std.specs.Prelude.{codes}
use Rattle.solv_pool.specs.PackageText.{package_text}
use Rattle.solv_writing.proofs.PutLines.{line_put}
use Rattle.solv_writing.proofs.package_words.put_disabled.Goals as goal

pub returns : goal.returns
returns c =
    line_put c.args.into.now.items c.extend_from_slice.new.self.items c.add_package.new.line.items c.push.new.self.items (codes "disable pkg") (package_text c.args.pool.now c.args.universe.now c.args.pack)
    c.in_ok-extend_from_slice.ensures.items c.in_ok-add_package.ensures c.in_ok-push.ensures.items
