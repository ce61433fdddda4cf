-- What is held by the clauses of the calls.
use Rattle.std.proofs.Common.{◌≡◌, ◌<◌, ◌∙◌, ◌∷◌, ◌++◌, ℕ, true, List, [], Some, inl, inr, refl, sym, subst, arith}
use Rattle.solv_io.specs.Counters.{Rose}
use Rattle.solv_pool.specs.Prelude.{catalog_of, hard_rules}
use Rattle.solv_rules.specs.Books.{first_fault}
use Rattle.solv_rules.specs.declared.fault.BookFault.{BookFault}
use Rattle.solv_lent.specs.Inner.Asked.{last_is_missing}
use Rattle.solv_lent.specs.Lent.{is_missing, lent_bytes}
use Rattle.solv_lent.proofs.HeldFiles.{last_behind}
use Rattle.solv_lent.specs.declared.lent_file.LentFile.{LentFile}
use Rattle.solv_script.specs.FileRuns.{FilesRun}
use Rattle.solv_script.specs.declared.scripts.Script.{Script}
use Rattle.solv_script.specs.declared.scripts.ScriptFault.{ScriptFault}
use Rattle.solv_said.specs.Dues.{limit_due}
use Rattle.solv_said.specs.Fetches.{not_read, refused, stopped}
use Rattle.solv_said.specs.Inner.Faults.{HasNoScript}
use Rattle.solv_said.specs.declared.dues.Due.{Due}
use Rattle.solv_solved.specs.Inner.Answering.{IsRefusalOf}
use Rattle.solv_solved.specs.Solvings.{IsHeldFor, IsHeldOf, IsHeldOfLent, NamesTheMissing, answered, lent_files, passes, program, unread, was_read}
use Rattle.solv_solved.specs.declared.outcomes.Held.{Held}
use Rattle.solv_solved.specs.declared.outcomes.Held.TheVariants.{Answered, Refused, Open}

pub passes_by : (budget : ℕ) (script : Script) (fault : BookFault) (due : Due) → first_fault (catalog_of script.task) 0 (hard_rules script.task) ≡ Some fault → due ≡ limit_due program script.task fault → IsHeldFor budget script (Refused due)
passes_by budget script fault due passed is = subst (λ (d : Due). IsHeldFor budget script (Refused d)) (sym is) (passes fault passed)

pub unread_by : (name : List ℕ) (files : FilesRun) (budget : ℕ) (fault : ScriptFault) (held : Held) → HasNoScript (Some name) files fault → IsRefusalOf fault held → IsHeldOf name files budget held
unread_by name files budget fault (Answered solved) none is = absurd is
unread_by name files budget fault (Open opened) none is = absurd is
unread_by name files budget fault (Refused due) none is = unread due (none.due program due is)

module _ (files : List LentFile) (names : List (List ℕ)) (faults : ℕ) (missing : 0 < faults → last_is_missing files names ≡ true) where
  -- the name that was asked for last is missing where a fault was counted
  last_missing : (before : List (List ℕ)) (name : List ℕ) → Some names ≡ Some (before ++ name ∷ []) → Rose 0 faults → is_missing files name ≡ true
  last_missing before name asked rose =
      let same : names ≡ before ++ name ∷ [] = cc in
      let some : 0 < faults = elim rose [ inl less ↦ less | inr at_last ↦ absurd (omega (arith, at_last.0)) ] in
      sym (last_behind files before name) ∙ subst (λ (all : List (List ℕ)). last_is_missing files all ≡ true) same (missing some)

  pub names_the_missing : (name : List ℕ) (budget : ℕ) (held : Held) → IsHeldOf name (lent_files files names faults) budget held → NamesTheMissing files held
  names_the_missing name budget _ (was_read script held fetched (answered solved is)) = tt
  names_the_missing name budget _ (was_read script held fetched (passes fault passed)) = λ status. absurd (cc)
  names_the_missing name budget _ (unread due (not_read file named asked rose)) = λ status. record { name = file; missing = last_missing [] file asked rose; told = refl }
  names_the_missing name budget _ (unread due (stopped file bytes other is_named stop)) = λ status. record { name = other; missing = last_missing (file ∷ stop.before) other stop.asked stop.rose; told = refl }
  names_the_missing name budget _ (unread due (refused file bytes fetched bad is_named asked first)) = λ status. absurd (cc)

pub of_lent : (files : List LentFile) (name : List ℕ) (budget : ℕ) (before names : List (List ℕ)) (start faults : ℕ) (named : List ℕ) (held : Held) → (0 < faults → last_is_missing files names ≡ true)
    → named ≡ name → before ≡ [] → start ≡ 0
    → IsHeldOf named (record { contents = Some (lent_bytes files); asked_before = Some before; asked_after = Some names; faults_before = start; faults_after = faults }) budget held → IsHeldOfLent files name budget held
of_lent files name budget before names start faults named held missing same none zero_faults is =
    let P : List ℕ → List (List ℕ) → ℕ → Type 0 = λ n b s. IsHeldOf n (record { contents = Some (lent_bytes files); asked_before = Some b; asked_after = Some names; faults_before = s; faults_after = faults }) budget held in
    let all : P name [] 0 = subst (λ n. P n [] 0) same (subst (λ s. P named [] s) zero_faults (subst (λ b. P named b start) none is)) in
    record { names = names; faults = faults; is_held = all; read_fault = names_the_missing files names faults missing name budget held all }
