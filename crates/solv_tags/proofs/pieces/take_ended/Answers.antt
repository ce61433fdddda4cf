use Rattle.std.proofs.Common.{◌≡◌, ◌∙◌, ◌+◌, ◌∷◌, length, subst, sym, ap, arith, length-append, rules}
use Rattle.solv_tags.specs.Inner.RepositoryReading.{IsTagRefusal}
use Rattle.solv_tags.specs.Inner.TagReading.{tagged_of}
use Rattle.solv_tags.proofs.PieceLines.{line_taken, line_refused}
use Rattle.solv_tags.proofs.ReaderLines.{more_more}
use Rattle.solv_tags.proofs.pieces.take_ended.Goals as goal

pub returns-in-Err-clause-refused : goal.returns-in-Err-clause-refused
returns-in-Err-clause-refused c = λ more.
    let l = c.loop-line in
    subst (IsTagRefusal (record { line = l.number + 1; cause = c.in-Err.cause })) (sym (l.invariant.same more))
    (line_refused l.number (tagged_of l.reader l.pool l.universe) l.rest.now c.in-Some.line.now c.in-Some.behind.now c.in-Some.ensures.cut c.in-Some.ensures.line more c.in-Err.cause c.in-Err.ensures.refused)

pub returns-in-Err-clause-more : goal.returns-in-Err-clause-more
returns-in-Err-clause-more c = more_more c.args.universe.now c.loop-line.universe c.line.new.universe c.loop-line.invariant.more c.line.ensures.more

pub loop-line-preserved : goal.loop-line-preserved
loop-line-preserved c =
    let l = c.loop-line in
    let long : length l.rest.now ≡ length c.in-Some.line.now + length (10 ∷ c.in-Some.behind.now) = ap length c.in-Some.ensures.cut ∙ length-append c.in-Some.line.now (10 ∷ c.in-Some.behind.now) in
    let before = l.invariant.count in
    record {
      reading = c.in-Ok.ensures.ok.reading;
      repo = c.in-Ok.ensures.ok.repo ∙ l.invariant.repo;
      before = c.in-Ok.ensures.ok.before ∙ l.invariant.before;
      more = more_more c.args.universe.now l.universe c.line.new.universe l.invariant.more c.line.ensures.more;
      grows = search rules;
      count = omega arith;
      same = λ more. l.invariant.same more ∙ line_taken l.number (tagged_of l.reader l.pool l.universe) l.rest.now c.in-Some.line.now c.in-Some.behind.now c.in-Some.ensures.cut c.in-Some.ensures.line more (tagged_of c.line.new.self c.line.new.pool c.line.new.universe) c.in-Ok.ensures.ok.is;
    }
