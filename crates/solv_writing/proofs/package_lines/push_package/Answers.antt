use Rattle.std.proofs.Common.{rules}
use Rattle.solv_writing.proofs.PackageById.{package_is}
use Rattle.solv_writing.proofs.package_lines.push_package.Goals as goal

pub returns : goal.returns
returns c =
    package_is c.args.pool.now c.args.pack.now c.args.lines.now c.push_first.new.lines c.push_vendor.new.lines c.push_strong.new.lines c.push_weak.new.lines c.push_names.new.lines
    (search rules) (search rules) (search rules) (search rules) (search rules)
