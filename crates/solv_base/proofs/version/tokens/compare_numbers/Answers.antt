use Rattle.std.proofs.Common.{◌≡◌, sym, ◌∙◌, length, arith}
use Rattle.std.proofs.lemmas.Bool.Decides.{nat_tests}
use Rattle.solv_base.proofs.DigitsValue.{cmp_from_digits, cmp_from_lengths}
use Rattle.solv_base.proofs.version.tokens.compare_numbers.Goals as goal

pub returns-in-Equal : goal.returns-in-Equal
returns-in-Equal c =
    let a = c.skip_zeros-a in
    let b = c.skip_zeros-b in
    let same : length a.result.now ≡ length b.result.now = grind (arith, nat_tests, c.cmp.ensures, c.in-Equal.is) in
    rw (← a.ensures.same, ← b.ensures.same)
    (c.cmp-in-Equal.ensures ∙ sym (cmp_from_digits a.result.now b.result.now same (a.ensures.digits c.requires.a_digits) (b.ensures.digits c.requires.b_digits)))

pub returns-in_default : goal.returns-in_default
returns-in_default c =
    let a = c.skip_zeros-a in
    let b = c.skip_zeros-b in
    rw (← a.ensures.same, ← b.ensures.same)
    (c.cmp.ensures ∙ cmp_from_lengths a.result.now b.result.now (a.ensures.digits c.requires.a_digits) (b.ensures.digits c.requires.b_digits)
    a.ensures.no_zero b.ensures.no_zero (λ e. c.in_default.not-Equal (c.cmp.ensures ∙ e)))
