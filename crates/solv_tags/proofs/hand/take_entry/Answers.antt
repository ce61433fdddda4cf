use Rattle.solv_deps.proofs.Recents.{read_before}
use Rattle.solv_tags.proofs.HandLines.{other_read, other_ended}
use Rattle.solv_tags.proofs.Noted.{always_ok}
use Rattle.solv_tags.proofs.hand.take_entry.Goals as goal
use Rattle.solv_list.proofs.Answers.{if_err, on_ok}

pub returns-in_default : goal.returns-in_default
returns-in_default c =
    let d = c.in_default in
    let e = c.take_dependency.ensures in
    record {
      ok = on_ok c.take_dependency.result (λ h. other_read c.args.tag d.not-Vnd d.not-Fls c.args.pool.now c.take_dependency.new.pool c.args.hand.now c.take_dependency.new.hand c.args.text.now h) e.ok;
      refused = if_err c.take_dependency.result (λ f h. other_ended c.args.tag d.not-Vnd d.not-Fls c.args.pool.now c.args.hand.now c.args.text.now f h) e.refused;
      form = e.form;
      grows = e.grows;
      recent = e.recent;
      tails = e.tails;
    }

pub returns-in-Vnd-clause-tails : goal.returns-in-Vnd-clause-tails
returns-in-Vnd-clause-tails c = always_ok c.take_vendor.result (c.take_vendor.ensures.tails c.args.tails.now c.requires.tails)

pub returns-in-Vnd-clause-recent : goal.returns-in-Vnd-clause-recent
returns-in-Vnd-clause-recent c = read_before c.args.pool.now c.take_vendor.new.pool c.args.recent.now c.take_vendor.ensures.grows c.requires.recent

pub returns-in-Fls-clause-recent : goal.returns-in-Fls-clause-recent
returns-in-Fls-clause-recent c = read_before c.args.pool.now c.take_path.new.pool c.args.recent.now c.take_path.ensures.grows c.requires.recent
