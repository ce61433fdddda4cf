-- What a run over lent files comes to, by the clauses of the call.
use Rattle.std.proofs.Common.{ℕ, ◌≡◌, ◌<◌, true, List, Some, None, sym, subst, ap, ◌∙◌, inl, inr, arith}
use Rattle.solv_io.specs.Counters.{Rose}
use Rattle.solv_lent.specs.Inner.Asked.{last_is_missing}
use Rattle.solv_lent.specs.declared.lent_file.LentFile.{LentFile}
use Rattle.solv_lent.proofs.HeldFiles.{last_behind}
use Rattle.solv_said.specs.Explained.{IsReadFault}
use Rattle.solv_run.specs.Dues.{program}
use Rattle.solv_embed.specs.Runs.{IsMissingFile, lent_run, text_run}

some_rose : (faults : ℕ) → Rose 0 faults → 0 < faults
some_rose faults (inl less) = less
some_rose faults (inr at_last) = absurd (omega (arith, at_last.0))

some_is : {A : Type 0} → (x y : A) → Some x ≡ Some y → x ≡ y
some_is x y is = ap (λ o. elim o [ Some z ↦ z | None ↦ x ]) is

-- the name that is reported is the one asked for last, which no file has
pub missing_file : (files : List LentFile) (names : List (List ℕ)) (faults : ℕ) (err : List ℕ) → (0 < faults → last_is_missing files names ≡ true)
    → IsReadFault program (lent_run files names faults) (text_run err) → IsMissingFile files err
missing_file files names faults err missing unread = record {
  name = unread.name;
  missing = sym (last_behind files unread.before unread.name)
      ∙ subst (λ (asked : List (List ℕ)). last_is_missing files asked ≡ true) (some_is _ _ unread.asked) (missing (some_rose faults unread.rose));
  told = some_is _ _ unread.line.text_written;
}
