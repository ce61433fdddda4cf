use Rattle.std.proofs.Common.{◌∙◌, ap, refl, codes}
use Rattle.clap.specs.Matches.{found_of}
use Rattle.clap.specs.Walk.{first_of}
use Rattle.clap.proofs.WalkLemmas.{first_value-rows}
use Rattle.solv_words.specs.Inner.ByKinds.{file}
use Rattle.solv_words.proofs.ClapForm.{first_is}
use Rattle.solv_words.proofs.command_line.file_in.Goals as goal

pub returns : goal.returns
returns c arguments rows = c.get_str.ensures ∙ first_value-rows (found_of c.args.matches.now) (codes "FILE") ∙ ap (first_of (codes "FILE")) rows ∙ first_is file refl arguments
