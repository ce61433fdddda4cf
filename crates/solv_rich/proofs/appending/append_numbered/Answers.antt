use Rattle.std.proofs.Common.{◌≡◌, ◌∙◌, ◌++◌, ap, map}
use Rattle.std.specs.List.{list_all}
use Rattle.solv_rich.specs.Inner.Expansions.{clauses_in, literal_of}
use Rattle.solv_rich.specs.Inner.Shortening.{has_number}
use Rattle.solv_rich.proofs.Numbered.{there_is}
use Rattle.solv_rich.proofs.Appended.{all_at}
use Rattle.solv_rich.proofs.appending.append_numbered.Goals as goal

pub append_clause-requires : goal.append_clause-requires
append_clause-requires c =
    let there = there_is (clauses_in c.args.expansion.now) c.args.number c.requires.there in
    let said : map literal_of c.put_clause.new.said.items ≡ there.0 = c.in_ok-put_clause.ensures there.0 there.1 ∙ ap (λ t. map literal_of t ++ there.0) c.clear.ensures.items in
    record { numbers = ap (λ t. list_all has_number (map literal_of t)) c.deref.ensures ∙ ap (list_all has_number) said ∙ all_at (list_all has_number) (clauses_in c.args.expansion.now) c.args.number there.0 c.requires.numbers there.1 }
