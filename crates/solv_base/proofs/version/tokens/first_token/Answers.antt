use Rattle.std.proofs.Common.{get_or, arith}
use Rattle.std.proofs.lemmas.List.{take_rest}
use Rattle.solv_base.proofs.TokenRuns.{digits_cut, letters_cut, digits_all, letter_left}
use Rattle.solv_base.proofs.version.tokens.first_token.Goals as goal

pub returns-then-is_ascii_digit-clause-first : goal.returns-then-is_ascii_digit-clause-first
returns-then-is_ascii_digit-clause-first c =
    let text = c.skip_separators-text.result.now in
    rw (← c.skip_separators-text.ensures.same, take_rest text c.digits_len-n.result)
    (digits_cut text c.digits_len-n.result (cc) c.digits_len-n.ensures.length)

pub returns-then-is_ascii_digit-clause-digits : goal.returns-then-is_ascii_digit-clause-digits
returns-then-is_ascii_digit-clause-digits c = rw c.digits_len-n.ensures.length (digits_all c.skip_separators-text.result.now)

pub returns-else-is_ascii_digit-clause-first : goal.returns-else-is_ascii_digit-clause-first
returns-else-is_ascii_digit-clause-first c =
    let text = c.skip_separators-text.result.now in
    let letter = letter_left (get_or text 0 0) (c.skip_separators-text.ensures.at_token (omega arith)) (grind arith) (grind arith) (cc) in
    rw (← c.skip_separators-text.ensures.same, take_rest text c.letters_len-n.result)
    (letters_cut text c.letters_len-n.result letter c.letters_len-n.ensures.length)
