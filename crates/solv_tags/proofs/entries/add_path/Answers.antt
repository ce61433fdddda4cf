use Rattle.solv_list.proofs.Answers.{on_ok}
use Rattle.solv_tags.proofs.entries.add_path.Goals as goal

pub returns-clause-tails : goal.returns-clause-tails
returns-clause-tails c = on_ok c.add_name.result (λ tail. record { provides = c.requires.provides; requires_ = c.requires.requires_; conflicts = c.requires.conflicts; obsoletes = c.requires.obsoletes; recommends = c.requires.recommends; suggests = c.requires.suggests; supplements = c.requires.supplements; enhances = c.requires.enhances; files = tail }) c.add_name.ensures.tail
