use Rattle.std.proofs.Common.{◌≡◌, ◌+◌, ◌++◌, ℕ, Bool, true, List, ap, sym, ◌∙◌, arith}
use Rattle.std.specs.Prelude.{replicate}
use Rattle.std.proofs.lemmas.List.{append_assoc, replicate-append-replicate}
use Rattle.solv_core.specs.Inner.Turns.{flags_by}
use Rattle.solv_core.proofs.flags.Flags.put_before.Goals as goal

pub returns : goal.returns
returns c =
    let flags : List Bool = flags_by c.self.inside.len c.self.inside.turns.items in
    let turned : c.in-Some.before ≡ c.args.more + c.self.inside.before = omega (arith, c.in-Some.ensures.1) in
    ap (λ n. replicate n true ++ flags) turned
    ∙ ap (λ l. l ++ flags) (sym (replicate-append-replicate c.args.more c.self.inside.before true))
    ∙ append_assoc (replicate c.args.more true) (replicate c.self.inside.before true) flags
    ∙ ap (λ l. replicate c.args.more true ++ l) c.self.view_is
