use Rattle.std.proofs.Common.{◌≡◌, ◌∙◌, ap, Bool, true, false, codes, Some}
use Rattle.std.specs.Prelude.{if◌then◌else◌}
use Rattle.clap.specs.Matches.{found_of, one_text}
use Rattle.clap.specs.Walk.{one_of}
use Rattle.clap.proofs.WalkLemmas.{one_text-rows}
use Rattle.solv_words.specs.Inner.ByKinds.{is_given, proofs}
use Rattle.solv_words.proofs.ClapForm.{proofs_flag_is}
use Rattle.solv_words.proofs.command_line.proves_in.Goals as goal

pub returns : goal.returns
returns c arguments rows =
    let text : one_text (found_of c.args.matches.now) (codes "proof") ≡ Some (if is_given proofs arguments then codes "true" else codes "false") =
    one_text-rows (found_of c.args.matches.now) (codes "proof") ∙ ap (one_of (codes "proof")) rows ∙ proofs_flag_is arguments in
    by (is_given proofs arguments) text
  where
    by : (b : Bool) → one_text (found_of c.args.matches.now) (codes "proof") ≡ Some (if b then codes "true" else codes "false") → c.get_flag.result ≡ b
    by true e = c.get_flag.ensures.value e
    by false e = c.get_flag.ensures.other e
