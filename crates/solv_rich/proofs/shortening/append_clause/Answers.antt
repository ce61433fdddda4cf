use Rattle.std.proofs.Common.{◌≡◌, ◌∙◌, sym, map, length, false, [], rules}
use Rattle.solv_pool.specs.Prelude.{is_always_true, number_of}
use Rattle.solv_rich.specs.Inner.Expansions.{literal_of}
use Rattle.solv_rich.specs.Inner.Shortening.{each_first}
use Rattle.solv_rich.proofs.Appended.{kept_one, one_appended}
use Rattle.solv_rich.proofs.shortening.append_clause.Goals as goal

pub returns-clause-appended : goal.returns-clause-appended
returns-clause-appended c =
    let not_always : is_always_true (map literal_of c.args.said.now) ≡ false = sym c.in_ok-is_always_true.ensures ∙ c.if-branch.false in
    let size : c.len.result ≡ length c.put_firsts.new.lits.items = search rules in
    rw (kept_one (map literal_of c.args.said.now) not_always)
    (one_appended (map number_of (each_first [] (map literal_of c.args.said.now))) c.args.lits.now.items c.put_firsts.new.lits.items c.args.ends.now.items c.push.new.self.items c.len.result c.in_ok-put_firsts.ensures.appended size c.in_ok-push.ensures.items)
