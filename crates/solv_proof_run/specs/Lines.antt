-- What is written for proofs: a line each.
use Rattle.std.specs.Prelude.{ℕ, Bool, true, false, List, [], ◌++◌, codes, map, if◌then◌else◌}
use Rattle.std.specs.Fmt.{decimal}
use Rattle.std.specs.List.{list_all}
use Rattle.solv_io.specs.Lines.{ended_lines}
use Rattle.solv_io.specs.declared.status.Status.TheVariants as status
use Rattle.solv_pool.specs.declared.tasks.Task.{Task}
use Rattle.solv_proof.specs.declared.kinds.Proof.{Proof}
use Rattle.solv_said.specs.declared.dues.Due.{Due}
use Rattle.solv_verdicts.specs.Verdicts.{verdict_of}
use Rattle.solv_verdicts.specs.declared.verdicts.Verdict.{Verdict}
use Rattle.solv_verdicts.specs.declared.verdicts.Verdict.TheVariants.{Yes, NoRound, NoRules, NoStep}

abbrev pub verdict_words : Verdict → List ℕ
verdict_words Yes = codes "yes"
verdict_words NoRound = codes "no, round"
verdict_words NoRules = codes "no, rules"
verdict_words (NoStep n) = codes "no, step " ++ decimal n

abbrev pub is_yes : Verdict → Bool
is_yes Yes = true
is_yes NoRound = false
is_yes NoRules = false
is_yes (NoStep n) = false

module _ (tasks : List Task) where
  -- the line of a proof: the problem that it names, and what is said of it against the task of its round
  abbrev pub proof_line : Proof → List ℕ
  proof_line p = codes "problem " ++ (decimal p.round ++ (codes " " ++ (decimal p.number ++ (codes ": " ++ verdict_words (verdict_of tasks p)))))

  -- the lines of proofs, in their order
  abbrev pub lines_due : List Proof → List ℕ
  lines_due proofs = ended_lines (map proof_line proofs)

  -- yes is said of each
  abbrev pub all_yes : List Proof → Bool
  all_yes proofs = list_all (λ p. is_yes (verdict_of tasks p)) proofs

  -- what is due for proofs that were read
  abbrev pub verdicts_due : List Proof → Due
  verdicts_due proofs = record { status = if all_yes proofs then status.Done else status.Differs; out = lines_due proofs; err = [] }
