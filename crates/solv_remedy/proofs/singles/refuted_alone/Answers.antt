use Rattle.std.proofs.lemmas.Option.{IfSome_then}
use Rattle.solv_remedy.proofs.Ran.{ran_not}
use Rattle.solv_remedy.proofs.singles.refuted_alone.Goals as goal

pub returns-in_err-clauses-clause-has_run : goal.returns-in_err-clauses-clause-has_run
returns-in_err-clauses-clause-has_run c = ran_not c.requires.may_run

pub returns-clause-refuted : goal.returns-clause-refuted
returns-clause-refuted c = IfSome_then c.in_ok-found.found c.in_ok-found.ensures.refuted (λ x h. (c.deref.result.now, h))
