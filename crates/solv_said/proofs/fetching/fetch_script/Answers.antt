use Rattle.std.proofs.Common.{refl}
use Rattle.solv_said.proofs.Fetched.{fetched_is, fetched_not, read_not}
use Rattle.solv_said.proofs.fetching.fetch_script.Goals as goal
use Rattle.solv_list.proofs.Answers.{if_err, ok_map}

pub returns-in-Ok-clause-read : goal.returns-in-Ok-clause-read
returns-in-Ok-clause-read g c =
    let got = rw c.new-bytes.ensures.items at c.in-Ok.ensures.got in
    ok_map _ _ c.read_fetched.result (fetched_is _ _ c.args.file.now c.fetch.new.into.items c.in-Ok.ensures.contents c.in-Ok.ensures.asked c.in-Ok.ensures.faults refl refl got) c.read_fetched.ensures.read

pub returns-in-Ok-clause-ended : goal.returns-in-Ok-clause-ended
returns-in-Ok-clause-ended g c =
    let got = rw c.new-bytes.ensures.items at c.in-Ok.ensures.got in
    if_err c.read_fetched.result (fetched_not _ _ c.args.file.now c.fetch.new.into.items c.in-Ok.ensures.contents c.in-Ok.ensures.asked c.in-Ok.ensures.faults refl refl got) c.read_fetched.ensures.ended

pub returns-in-Err-Failed-clause-ended : goal.returns-in-Err-Failed-clause-ended
returns-in-Err-Failed-clause-ended g c =
    let asked = rw c.in-Err-Failed.field-0-is at c.in-Err-Failed.ensures.asked in
    let rose = rw c.in-Err-Failed.field-0-is at c.in-Err-Failed.ensures.faults in
    read_not _ c.args.file.now c.read_fault.result c.read_fault.ensures asked rose
