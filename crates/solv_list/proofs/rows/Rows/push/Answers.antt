use Rattle.std.proofs.Common.{◌≡◌, ◌∙◌, ◌++◌, ◌∷◌, [], length, ap}
use Rattle.std.specs.Prelude.{is_ok}
use Rattle.std.proofs.lemmas.Bool.{cond-true}
use Rattle.solv_list.proofs.Layouts.{row_more}
use Rattle.solv_list.proofs.rows.Rows.push.Goals as goal

pub invariant_of-self-else-is_err : goal.invariant_of-self-else-is_err
invariant_of-self-else-is_err g c =
    let items : c.extend.new.items.items ≡ c.self.inside.items.items ++ c.args.row.now = c.in_ok-end.ensures.ok in
    let size : c.in_ok-end.end ≡ length (c.self.inside.items.items ++ c.args.row.now) = c.in_ok-end.ensures.end ∙ ap length items in
    let ends : c.push.new.self.items ≡ c.self.inside.ends.items ++ length (c.self.inside.items.items ++ c.args.row.now) ∷ [] =
    c.push.ensures.items ∙ cond-true (is_ok c.push.result) (c.self.inside.ends.items ++ c.in_ok-end.end ∷ []) c.self.inside.ends.items c.if-is_err.ensures.negation
    ∙ ap (λ n. c.self.inside.ends.items ++ n ∷ []) size in
    rw (items, ends) (row_more c.self.inside.items.items c.args.row.now c.self.inside.ends.items c.self.invariant).1

pub returns-clause-ok : goal.returns-clause-ok
returns-clause-ok g c =
    let items : c.extend.new.items.items ≡ c.self.inside.items.items ++ c.args.row.now = c.in_ok-end.ensures.ok in
    let size : c.in_ok-end.end ≡ length (c.self.inside.items.items ++ c.args.row.now) = c.in_ok-end.ensures.end ∙ ap length items in
    let ends : c.push.new.self.items ≡ c.self.inside.ends.items ++ length (c.self.inside.items.items ++ c.args.row.now) ∷ [] =
    c.push.ensures.items ∙ cond-true (is_ok c.push.result) (c.self.inside.ends.items ++ c.in_ok-end.end ∷ []) c.self.inside.ends.items c.if-is_err.ensures.negation
    ∙ ap (λ n. c.self.inside.ends.items ++ n ∷ []) size in
    rw (items, ends, ← c.self.view_is) (row_more c.self.inside.items.items c.args.row.now c.self.inside.ends.items c.self.invariant).0
