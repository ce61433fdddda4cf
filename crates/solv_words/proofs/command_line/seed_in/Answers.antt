use Rattle.std.proofs.Common.{◌≡◌, ◌∙◌, ap, refl, arith, codes, List, ℕ, Option, Some, None}
use Rattle.std.specs.Prelude.{option_map}
use Rattle.clap.specs.Lexer.{without_minus}
use Rattle.clap.specs.Matches.{found_of, one_text}
use Rattle.clap.specs.Walk.{one_of}
use Rattle.clap.proofs.WalkLemmas.{one_text-rows}
use Rattle.std.specs.Str.Parse.{ExplainsUnsignedError, HasUnsignedDigitsIfOk, ParsesUnsigned}
use Rattle.solv_words.specs.CommandLine.{number_of}
use Rattle.solv_words.specs.Inner.ByKinds.{seed, value_of}
use Rattle.solv_words.proofs.ClapForm.{in_range, one_is}
use Rattle.solv_words.proofs.ClapNumbers.{number_read}
use Rattle.solv_words.proofs.command_line.seed_in.Goals as goal

pub returns : goal.returns
returns c arguments rows ranges =
    let text : one_text (found_of c.args.matches.now) (codes "grow") ≡ option_map without_minus (value_of seed arguments) =
    one_text-rows (found_of c.args.matches.now) (codes "grow") ∙ ap (one_of (codes "grow")) rows ∙ one_is seed refl arguments in
    by (value_of seed arguments) refl text
  where
    by : (o : Option (List ℕ)) → value_of seed arguments ≡ o → one_text (found_of c.args.matches.now) (codes "grow") ≡ option_map without_minus o → c.get_one.result ≡ option_map number_of o
    by None is e = c.get_one.ensures.none e
    by (Some v) is e =
        number_read _ (λ bs r. ParsesUnsigned 32 10 bs r × ExplainsUnsignedError 10 bs r × HasUnsignedDigitsIfOk bs r) 32 4294967295 v c.get_one.result
        (c.get_one.ensures.value (without_minus v) e) (λ u x g. g.0) (omega arith) (omega arith) (in_range seed arguments v ranges is)
