-- What is asked for, by tests.
use Rattle.std.proofs.Common.{◌≡◌, true, false, refl}
use Rattle.solv_words.specs.declared.command_line.Output.{Output}
use Rattle.solv_words.specs.declared.command_line.Output.TheVariants.{Lines, Proofs, Script}
use Rattle.solv_run.specs.Inner.ByOutput.{asks_answers}
use Rattle.solv_run.specs.Inner.Rounds.{prints_lines}

pub lines_are_asked : (o : Output) → prints_lines o ≡ true → o ≡ Lines
lines_are_asked Lines h = refl
lines_are_asked Proofs h = absurd (cc)
lines_are_asked Script h = absurd (cc)

pub proofs_are_asked : (o : Output) → asks_answers o ≡ true → prints_lines o ≡ false → o ≡ Proofs
proofs_are_asked Lines h k = absurd (cc)
proofs_are_asked Proofs h k = refl
proofs_are_asked Script h k = absurd (cc)

pub script_is_asked : (o : Output) → asks_answers o ≡ false → o ≡ Script
script_is_asked Lines h = absurd (cc)
script_is_asked Proofs h = absurd (cc)
script_is_asked Script h = refl

-- lines are no proofs
pub lines_print : (o : Output) → o ≡ Lines → prints_lines o ≡ true
lines_print o h = rw h refl
