use Rattle.solv_io.proofs.Pieces.{AppendsUpTo-prefix}
use Rattle.solv_io.proofs.adapters.RealFilesFiles.fetch.Goals as goal

pub returns-in_default-clause-appends : goal.returns-in_default-clause-appends
returns-in_default-clause-appends g c =
    AppendsUpTo-prefix c.args.most c.args.into.now.items c.append_file.new.into.items c.append_file.ensures.front c.in_default.ensures.bound
