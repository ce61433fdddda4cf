use Rattle.std.proofs.Common.{◌≡◌, drop}
use Rattle.std.specs.Str.Parse.{digits_value, AllDigits}
use Rattle.solv_base.proofs.version.tokens.skip_zeros.Given as goal

abbrev pub invariant-loop-i : goal.invariant-loop-i
invariant-loop-i l = (digits_value 10 (drop l.i l.digits) ≡ digits_value 10 l.digits) × (AllDigits 10 l.digits → AllDigits 10 (drop l.i l.digits))
