use Rattle.solv_list.proofs.Answers.{on_ok}
use Rattle.solv_tags.proofs.Noted.{on_both}
use Rattle.solv_tags.proofs.entries.add_entry.Goals as goal

pub returns-in-Prv-clause-tails : goal.returns-in-Prv-clause-tails
returns-in-Prv-clause-tails c = on_ok c.add_dep.result (λ tail. record { provides = tail; requires_ = c.requires.requires_; conflicts = c.requires.conflicts; obsoletes = c.requires.obsoletes; recommends = c.requires.recommends; suggests = c.requires.suggests; supplements = c.requires.supplements; enhances = c.requires.enhances; files = c.requires.files }) c.add_dep.ensures.tail

pub returns-in-Con-clause-tails : goal.returns-in-Con-clause-tails
returns-in-Con-clause-tails c = on_ok c.add_dep-in-Con.result (λ tail. record { provides = c.requires.provides; requires_ = c.requires.requires_; conflicts = tail; obsoletes = c.requires.obsoletes; recommends = c.requires.recommends; suggests = c.requires.suggests; supplements = c.requires.supplements; enhances = c.requires.enhances; files = c.requires.files }) c.add_dep-in-Con.ensures.tail

pub returns-in-Obs-clause-tails : goal.returns-in-Obs-clause-tails
returns-in-Obs-clause-tails c = on_ok c.add_dep-in-Obs.result (λ tail. record { provides = c.requires.provides; requires_ = c.requires.requires_; conflicts = c.requires.conflicts; obsoletes = tail; recommends = c.requires.recommends; suggests = c.requires.suggests; supplements = c.requires.supplements; enhances = c.requires.enhances; files = c.requires.files }) c.add_dep-in-Obs.ensures.tail

pub returns-in-Rec-clause-tails : goal.returns-in-Rec-clause-tails
returns-in-Rec-clause-tails c = on_ok c.add_dep-in-Rec.result (λ tail. record { provides = c.requires.provides; requires_ = c.requires.requires_; conflicts = c.requires.conflicts; obsoletes = c.requires.obsoletes; recommends = tail; suggests = c.requires.suggests; supplements = c.requires.supplements; enhances = c.requires.enhances; files = c.requires.files }) c.add_dep-in-Rec.ensures.tail

pub returns-in-Sug-clause-tails : goal.returns-in-Sug-clause-tails
returns-in-Sug-clause-tails c = on_ok c.add_dep-in-Sug.result (λ tail. record { provides = c.requires.provides; requires_ = c.requires.requires_; conflicts = c.requires.conflicts; obsoletes = c.requires.obsoletes; recommends = c.requires.recommends; suggests = tail; supplements = c.requires.supplements; enhances = c.requires.enhances; files = c.requires.files }) c.add_dep-in-Sug.ensures.tail

pub returns-in-Sup-clause-tails : goal.returns-in-Sup-clause-tails
returns-in-Sup-clause-tails c = on_ok c.add_dep-in-Sup.result (λ tail. record { provides = c.requires.provides; requires_ = c.requires.requires_; conflicts = c.requires.conflicts; obsoletes = c.requires.obsoletes; recommends = c.requires.recommends; suggests = c.requires.suggests; supplements = tail; enhances = c.requires.enhances; files = c.requires.files }) c.add_dep-in-Sup.ensures.tail

pub returns-in-Enh-clause-tails : goal.returns-in-Enh-clause-tails
returns-in-Enh-clause-tails c = on_ok c.add_dep-in-Enh.result (λ tail. record { provides = c.requires.provides; requires_ = c.requires.requires_; conflicts = c.requires.conflicts; obsoletes = c.requires.obsoletes; recommends = c.requires.recommends; suggests = c.requires.suggests; supplements = c.requires.supplements; enhances = tail; files = c.requires.files }) c.add_dep-in-Enh.ensures.tail

pub returns-in-Req-clause-tails : goal.returns-in-Req-clause-tails
returns-in-Req-clause-tails c = on_both c.require.result (λ is tail. rw is (record { provides = c.requires.provides; requires_ = rw is at tail; conflicts = c.requires.conflicts; obsoletes = c.requires.obsoletes; recommends = c.requires.recommends; suggests = c.requires.suggests; supplements = c.requires.supplements; enhances = c.requires.enhances; files = c.requires.files })) c.require.ensures.added c.require.ensures.tail

pub returns-in-Prq-clause-tails : goal.returns-in-Prq-clause-tails
returns-in-Prq-clause-tails c = on_both c.require-in-Prq.result (λ is tail. rw is (record { provides = c.requires.provides; requires_ = rw is at tail; conflicts = c.requires.conflicts; obsoletes = c.requires.obsoletes; recommends = c.requires.recommends; suggests = c.requires.suggests; supplements = c.requires.supplements; enhances = c.requires.enhances; files = c.requires.files })) c.require-in-Prq.ensures.added c.require-in-Prq.ensures.tail
