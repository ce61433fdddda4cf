use Rattle.std.proofs.Common.{◌≡◌, ◌-◌, ◌∙◌, sym, ap, arith, get_or}
use Rattle.std.specs.Prelude.{◌==◌}
use Rattle.solv_pool.specs.Prelude.{is_among}
use Rattle.solv_remedy.specs.Inner.Conflicts.{first_of, place_in}
use Rattle.solv_remedy.proofs.ByHalves.{listed_are, none_at, one_at}
use Rattle.solv_remedy.proofs.conflicts.has_single.Goals as goal

pub returns-then-place-eq0 : goal.returns-then-place-eq0
returns-then-place-eq0 c =
    let ds = c.args.conflicts.now in
    sym (ap (λ l. is_among l c.args.rule) (listed_are ds c.requires.singles) ∙ none_at 0 c.args.rule ds c.requires.in_order (sym c.place_for-place.ensures.place ∙ c.if-place-eq0.true))

pub returns : goal.returns
returns c =
    let ds = c.args.conflicts.now in
    let one = c.index-conflicts-place.result in
    let some = c.if-place-eq0.false in
    let here : c.place_for-place.result ≡ place_in c.args.rule ds = c.place_for-place.ensures.place in
    let before = c.place_for-place.result - 1 in
    let its : c.first_of.result ≡ first_of (get_or ds before one).rules = c.first_of.ensures ∙ ap first_of c.held.ensures in
    ap (λ n. n == c.args.rule) its ∙ one_at 0 c.args.rule ds before one c.requires.in_order (omega (arith, here, some)) ∙ ap (λ l. is_among l c.args.rule) (sym (listed_are ds c.requires.singles))
