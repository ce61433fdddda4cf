use Rattle.std.proofs.Common.{[]}
use Rattle.solv_clean.specs.Inner.Finding.{Finds, itself}
use Rattle.solv_clean.proofs.Walked.{has_begun}
use Rattle.solv_clean.proofs.searching.begin.Goals as goal

pub returns : goal.returns
returns c =
    let f : Finds c.args.may.now itself c.args.starts.now c.args.marks.now [] c.mark_all.new.marks c.mark_all.new.found.items = rw c.clear.ensures.items at c.in_ok-mark_all.ensures in
    has_begun c.args.may.now c.args.starts.now c.args.marks.now c.mark_all.new.marks c.mark_all.new.found.items c.requires.size c.requires.none c.requires.inside f
