use Rattle.solv_list.proofs.Answers.{if_err, on_ok}
use Rattle.solv_script.proofs.whole.reader.Reader.fetched_row.Goals as goal

pub returns-clause-ok : goal.returns-clause-ok
returns-clause-ok c = on_ok c.expect_lines.result (λ h. rw c.in-Ok.ensures.ok.is (h c.args.file.now)) c.expect_lines.ensures.ok

pub returns-clause-refused : goal.returns-clause-refused
returns-clause-refused c = if_err c.expect_lines.result (λ fault h. rw c.in-Ok.ensures.ok.is (h c.args.file.now)) c.expect_lines.ensures.refused
