-- A script that was fetched, or was not.
use Rattle.std.proofs.Common.{ℕ, ◌≡◌, ◌<◌, ◌≤◌, ◌+◌, List, [], ◌∷◌, ◌++◌, length, map, take, Bool, true, false, nat_lt, Option, Some, None, refl, sym, ap, ◌∙◌, arith, subst, append_assoc}
use Rattle.std.specs.Prelude.{Result, Ok, Err, IfSome, IfErr, IsSomeAnd, IsOkAnd, unwrap_or}
use Rattle.std.specs.Option.{option_map}
use Rattle.std.proofs.lemmas.Bool.{ltb-true, ltb-false, lt-ltb}
use Rattle.std.proofs.lemmas.Grind.{common_steps}
use Rattle.std.proofs.lemmas.List.{append-nil, take_all, length-take-le}
use Rattle.solv_io.specs.Counters.{Rose}
use Rattle.solv_io.specs.Writes.{then_bytes}
use Rattle.solv_script.specs.FileRuns.{FilesRun, AskedBesides, AreFetched, IsFront, bytes_in}
use Rattle.solv_script.specs.Inner.FileRuns.{Piece, HasFetched, IsRead, HasEnded, script_piece}
use Rattle.solv_script.specs.Grammar.{Bad, most_file, script_due, script_read}
use Rattle.solv_script.specs.ScriptsOf.{IsScriptOf}
use Rattle.solv_script.specs.States.{State}
use Rattle.solv_script.specs.declared.scripts.Script.{Script}
use Rattle.solv_script.specs.declared.scripts.ScriptFault.{ScriptFault}
use Rattle.solv_script.specs.declared.scripts.ScriptFault.TheVariants as fault
use Rattle.solv_script.proofs.Fetches.{fetches_same}
use Rattle.solv_said.specs.Dues.{read_fault_due}
use Rattle.solv_said.specs.Explained.{HoldScript}
use Rattle.solv_said.specs.Fetches.{IsNamed, HasAskedAll, HasAskedFront, IsUnreadDue, WasFetched, asked_script, asked_more, not_read, refused, stopped}
use Rattle.solv_said.specs.Inner.Faults.{HasNoScript, IsFaultDue, IsReadFaultOf}
use Rattle.solv_said.specs.Runs.{SinkRun, WroteAll}
use Rattle.solv_said.specs.declared.dues.Due.{Due}

-- what is read of a file: all of it, or so much that it is seen to be too long
data IsTaken (all : List ℕ) : Type 0 where
  all_taken : take 67108865 all ≡ all → IsTaken all
  too_long : nat_lt most_file (length all) ≡ true → nat_lt most_file (length (take 67108865 all)) ≡ true → IsTaken all

taken : (all : List ℕ) → IsTaken all
taken all = by (nat_lt most_file (length all)) refl
  where
    by : (b : Bool) → nat_lt most_file (length all) ≡ b → IsTaken all
    by true e =
        let long : 67108864 < length all = ltb-true most_file (length all) e in
        too_long e (lt-ltb most_file (length (take 67108865 all)) (rw (length-take-le 67108865 all (omega arith)) (omega arith)))
    by false e =
        let short : length all ≤ 67108864 = ltb-false most_file (length all) e in
        all_taken (take_all 67108865 all (omega arith))

-- a script whose first bytes pass the limit is too long however it goes on
module _ (file : List ℕ) (fetched : List (List ℕ)) (all : List ℕ) where
  read_alike : script_read file fetched (take 67108865 all) ≡ script_read file fetched all
  read_alike = elim (taken all) [
    | all_taken e ↦ ap (script_read file fetched) e
    | too_long e cut ↦ rw (cut, e) refl
  ]

  due_alike : script_due file fetched (take 67108865 all) ≡ script_due file fetched all
  due_alike = elim (taken all) [
    | all_taken e ↦ ap (script_due file fetched) e
    | too_long e cut ↦ rw (cut, e) refl
  ]

-- the bytes of the script where its file was read up to here
record IsThere (named : Option (List ℕ)) (files : FilesRun) (file got : List ℕ) : Type 0 where
  bytes : List ℕ
  is : IsNamed named files file bytes
  same_read : (fetched : List (List ℕ)) → script_read file fetched got ≡ script_read file fetched bytes
  same_due : (fetched : List (List ℕ)) → script_due file fetched got ≡ script_due file fetched bytes

abbrev Held : Type 0
Held = List ℕ → Option (List ℕ)

there : (named : Option (List ℕ)) (files : FilesRun) (file got : List ℕ) → named ≡ Some file → IfSome files.contents (λ held. IsSomeAnd (held file) (λ all. got ≡ take 67108865 all)) → IsThere named files file got
there named files file got is h = by files.contents refl h
  where
    by : (o : Option Held) → files.contents ≡ o → IfSome o (λ held. IsSomeAnd (held file) (λ all. got ≡ take 67108865 all)) → IsThere named files file got
    by None e g = record { bytes = got; is = record { is_named = is; holds = rw e tt }; same_read = λ fetched. refl; same_due = λ fetched. refl }
    by (Some held) e g = told (held file) refl g
      where
        told : (p : Option (List ℕ)) → held file ≡ p → IsSomeAnd p (λ all. got ≡ take 67108865 all) → IsThere named files file got
        told None q k = absurd k
        told (Some all) q k = record {
          bytes = all;
          is = record { is_named = is; holds = rw e q };
          same_read = λ fetched. ap (script_read file fetched) k ∙ read_alike file fetched all;
          same_due = λ fetched. ap (script_due file fetched) k ∙ due_alike file fetched all;
        }

-- the names asked for by both calls
asked_both : (before : Option (List (List ℕ))) (file : List ℕ) (names : List (List ℕ))
    → option_map (λ b. b ++ names) (option_map (λ b. b ++ file ∷ []) before) ≡ option_map (λ b. b ++ file ∷ names) before
asked_both None file names = refl
asked_both (Some b) file names = ap Some (append_assoc b (file ∷ []) names)

-- The names asked for by a piece are at the front of those that are due by what was fetched: all but the last, at most, gave these bytes.
record HasAskedFrontOf (piece : Piece) (files : FilesRun) : Type 0 where
  names : List (List ℕ)
  fetched : List (List ℕ)
  asked : AskedBesides files names
  are : AreFetched files (take (length fetched) names) fetched
  few : length names ≤ length fetched + 1
  due : IsFront names (piece.due fetched)

-- the second call goes on where the first one ended
record GoesOn (whole phase : FilesRun) (file : List ℕ) : Type 0 where
  contents : phase.contents ≡ whole.contents
  asked : phase.asked_before ≡ option_map (λ b. b ++ file ∷ []) whole.asked_before
  faults : phase.faults_before ≡ whole.faults_before
  asked_after : phase.asked_after ≡ whole.asked_after
  faults_after : phase.faults_after ≡ whole.faults_after

module _ (named : Option (List ℕ)) (whole phase : FilesRun) (file got : List ℕ) (on : GoesOn whole phase file) (here : IsThere named whole file got) where
  asked_whole : (names : List (List ℕ)) → AskedBesides phase names → AskedBesides whole (file ∷ names)
  asked_whole names h = sym on.asked_after ∙ h ∙ ap (option_map (λ b. b ++ names)) on.asked ∙ asked_both whole.asked_before file names

  are_whole : (names fetched : List (List ℕ)) → AreFetched phase names fetched → AreFetched whole names fetched
  are_whole names fetched h = record { each = h.each; held = let Q : Option Held → Type 0 = λ o. IfSome o (λ held. fetched ≡ map (bytes_in held) names) in subst Q on.contents h.held }

  calm_whole : phase.faults_after ≡ phase.faults_before → whole.faults_after ≡ whole.faults_before
  calm_whole h = sym on.faults_after ∙ h ∙ on.faults

  rose_whole : Rose phase.faults_before phase.faults_after → Rose whole.faults_before whole.faults_after
  rose_whole h = let P : ℕ → Type 0 = λ n. Rose n whole.faults_after in let Q : ℕ → Type 0 = λ n. Rose phase.faults_before n in subst P on.faults (subst Q on.faults_after h)

  asked_all : (fetched : List (List ℕ)) → HasFetched (script_piece file got) phase fetched → HasAskedAll named whole file here.bytes fetched
  asked_all fetched h = record {
    names = h.names;
    asked = asked_whole h.names h.asked;
    are = are_whole h.names fetched h.are;
    all_due = h.all_due ∙ here.same_due fetched;
    no_fault = calm_whole h.no_fault;
  }

  front_whole : (names fetched : List (List ℕ)) → IsFront names (script_due file fetched got) → IsFront names (script_due file fetched here.bytes)
  front_whole names fetched h = record { behind = h.behind; is = h.is ∙ here.same_due fetched }

  front_asked : HasAskedFrontOf (script_piece file got) phase → HasAskedFront named whole
  front_asked h = asked_more file here.bytes h.names h.fetched here.is (asked_whole h.names h.asked) (are_whole (take (length h.fetched) h.names) h.fetched h.are) h.few (front_whole h.names h.fetched h.due)

  script_whole : (script : Script) (fetched : List (List ℕ)) → IsOkAnd (script_read file fetched got) (λ s. IsScriptOf s script) → IsOkAnd (script_read file fetched here.bytes) (λ s. IsScriptOf s script)
  script_whole script fetched h = let P : Result State Bad → Type 0 = λ given. IsOkAnd given (λ s. IsScriptOf s script) in subst P (here.same_read fetched) h

-- what was asked for by a script that was read, or whose reading ended
all_fetched : (fetched names : List (List ℕ)) → length fetched ≡ length names → take (length fetched) names ≡ names
all_fetched fetched names h = grind (arith, common_steps)

front_fetched : (fetched before : List (List ℕ)) (name : List ℕ) → length fetched ≡ length before → take (length fetched) (before ++ name ∷ []) ≡ before
front_fetched fetched before name h = grind (arith, common_steps)

few_all : (fetched names : List (List ℕ)) → length fetched ≡ length names → length names ≤ length fetched + 1
few_all fetched names h = omega (arith, h)

few_front : (fetched before : List (List ℕ)) (name : List ℕ) → length fetched ≡ length before → length (before ++ name ∷ []) ≤ length fetched + 1
few_front fetched before name h = grind (arith, common_steps)

front_all : (piece : Piece) (files : FilesRun) (fetched : List (List ℕ)) → HasFetched piece files fetched → HasAskedFrontOf piece files
front_all piece files fetched h = record {
  names = h.names;
  fetched = fetched;
  asked = h.asked;
  are = subst (λ (l : List (List ℕ)). AreFetched files l fetched) (sym (all_fetched fetched h.names h.are.each)) h.are;
  few = few_all fetched h.names h.are.each;
  due = record { behind = []; is = append-nil h.names ∙ h.all_due };
}

front_ended : (piece : Piece) (files : FilesRun) (f : ScriptFault) → HasEnded piece files f → HasAskedFrontOf piece files
front_ended piece files (fault.Refused where_ line cause) h = front_all piece files h.fetched h.has
front_ended piece files (fault.ReadFault name) h = record {
  names = h.before ++ name ∷ [];
  fetched = h.fetched;
  asked = h.asked;
  are = subst (λ (l : List (List ℕ)). AreFetched files l h.fetched) (sym (front_fetched h.fetched h.before name h.are.each)) h.are;
  few = few_front h.fetched h.before name h.are.each;
  due = h.due;
}
front_ended piece files fault.Memory h = record {
  names = h.names;
  fetched = h.fetched;
  asked = h.asked;
  are = subst (λ (l : List (List ℕ)). AreFetched files l h.fetched) (sym (all_fetched h.fetched h.names h.are.each)) h.are;
  few = few_all h.fetched h.names h.are.each;
  due = h.due;
}

-- what was read of the file's bytes was read of the file
module _ (whole phase : FilesRun) (file got : List ℕ) (on : GoesOn whole phase file) (here : IsThere (Some file) whole file got) where
  abbrev the_name : Option (List ℕ)
  the_name = Some file

  was_fetched : (script : Script) → IsRead (script_piece file got) phase script → WasFetched the_name whole script
  was_fetched script h = record {
    file = file;
    bytes = here.bytes;
    fetched = h.fetched;
    is_named = here.is;
    asked = asked_all the_name whole phase file got on here h.fetched h.has;
    read = script_whole the_name whole phase file got on here script h.fetched h.given;
  }

  of_fault : (f : ScriptFault) → HasEnded (script_piece file got) phase f → (program : List ℕ) (due : Due) → IsFaultDue program f due → IsUnreadDue the_name whole program due
  of_fault (fault.Refused where_ line cause) h program due is =
      let b : Bad = record { file = where_; line = line; cause = cause } in
      let P : Due → Type 0 = λ d. IsUnreadDue the_name whole program d in
      subst P (sym is)
      (refused file here.bytes h.fetched b here.is (asked_all the_name whole phase file got on here h.fetched h.has) (sym (here.same_read h.fetched) ∙ h.first_bad))
  of_fault (fault.ReadFault name) h program due is =
      let P : Due → Type 0 = λ d. IsUnreadDue the_name whole program d in
      subst P (sym is) (stopped file here.bytes name here.is (record {
        before = h.before;
        fetched = h.fetched;
        asked = asked_whole the_name whole phase file got on here (h.before ++ name ∷ []) h.asked;
        are = are_whole the_name whole phase file got on here h.before h.fetched h.are;
        due = front_whole the_name whole phase file got on here (h.before ++ name ∷ []) h.fetched h.due;
        rose = rose_whole the_name whole phase file got on here h.rose;
      }))
  of_fault fault.Memory h program due is = absurd is

  no_script : (f : ScriptFault) → HasEnded (script_piece file got) phase f → HasNoScript the_name whole f
  no_script f h = record { due = of_fault f h; front = front_asked the_name whole phase file got on here (front_ended (script_piece file got) phase f h) }

-- the calls that read a script
module _ (whole phase : FilesRun) (file got : List ℕ) (contents : phase.contents ≡ whole.contents) (asked : phase.asked_before ≡ option_map (λ b. b ++ file ∷ []) whole.asked_before)
    (faults : phase.faults_before ≡ whole.faults_before) (asked_after : phase.asked_after ≡ whole.asked_after) (faults_after : phase.faults_after ≡ whole.faults_after)
    (h : IfSome whole.contents (λ held. IsSomeAnd (held file) (λ all. got ≡ take 67108865 all))) where
  goes_on : GoesOn whole phase file
  goes_on = record { contents = contents; asked = asked; faults = faults; asked_after = asked_after; faults_after = faults_after }

  pub fetched_is : (script : Script) → IsRead (script_piece file got) phase script → WasFetched (Some file) whole script
  fetched_is = was_fetched whole phase file got goes_on (there (Some file) whole file got refl h)

  pub fetched_not : (f : ScriptFault) → HasEnded (script_piece file got) phase f → HasNoScript (Some file) whole f
  fetched_not = no_script whole phase file got goes_on (there (Some file) whole file got refl h)

-- the script's own file could not be read
pub read_not : (files : FilesRun) (file : List ℕ) (f : ScriptFault) → IsReadFaultOf file f → AskedBesides files (file ∷ []) → Rose files.faults_before files.faults_after → HasNoScript (Some file) files f
read_not files file (fault.Refused where_ line cause) is asked rose = absurd is
read_not files file (fault.ReadFault name) is asked rose = record {
  due = λ program due same. (let P : Due → Type 0 = λ d. IsUnreadDue (Some file) files program d in subst P (sym (same ∙ ap (read_fault_due program) is)) (not_read file refl asked rose));
  front = asked_script file refl asked;
}
read_not files file fault.Memory is asked rose = record { due = λ program due same. absurd same; front = asked_script file refl asked }

nothing : (o : Option (List (List ℕ))) → o ≡ option_map (λ b. b ++ []) o
nothing None = refl
nothing (Some b) = ap Some (sym (append-nil b))

-- nothing was asked for
pub none_asked : (files : FilesRun) → files.asked_after ≡ files.asked_before → AskedBesides files []
none_asked files h = h ∙ nothing files.asked_before

-- nor written
pub none_written : (sink : SinkRun) → sink.after ≡ sink.before → sink.faults_after ≡ sink.faults_before → WroteAll sink []
none_written sink written calm = record { text_written = written ∙ as_before sink.before; no_fault = calm }
  where
    as_before : (o : Option (List ℕ)) → o ≡ then_bytes o []
    as_before None = refl
    as_before (Some bytes) = ap Some (sym (append-nil bytes))

pub if_wanting : {T E : Type 0} (P : Type 0) (r : Result T E) → P → IfErr r (λ e. P)
if_wanting P (Ok x) h = tt
if_wanting P (Err e) h = h

all_asked : (named : Option (List ℕ)) (files : FilesRun) (file bytes : List ℕ) (fetched : List (List ℕ)) → IsNamed named files file bytes → HasAskedAll named files file bytes fetched → HasAskedFront named files
all_asked named files file bytes fetched is h =
    asked_more file bytes h.names fetched is h.asked
    (let P : List (List ℕ) → Type 0 = λ names. AreFetched files names fetched in subst P (sym (all_fetched fetched h.names h.are.each)) h.are)
    (few_all fetched h.names h.are.each)
    (record { behind = []; is = append-nil h.names ∙ h.all_due })

-- what was asked for where a script was read, or something is due because none was
pub asked_by_fetched : (named : Option (List ℕ)) (files : FilesRun) (script : Script) → WasFetched named files script → HasAskedFront named files
asked_by_fetched named files script h = all_asked named files h.file h.bytes h.fetched h.is_named h.asked

pub asked_by_unread : (named : Option (List ℕ)) (files : FilesRun) (program : List ℕ) (due : Due) → IsUnreadDue named files program due → HasAskedFront named files
asked_by_unread named files program due (not_read file is asked rose) = asked_script file is asked
asked_by_unread named files program due (stopped file bytes name is h) =
    asked_more file bytes (h.before ++ name ∷ []) h.fetched is h.asked
    (let P : List (List ℕ) → Type 0 = λ names. AreFetched files names h.fetched in subst P (sym (front_fetched h.fetched h.before name h.are.each)) h.are) (few_front h.fetched h.before name h.are.each) h.due
asked_by_unread named files program due (refused file bytes fetched b is h bad) = all_asked named files file bytes fetched is h

-- where the files expose their contents, that is what was fetched
pub told_alike : (named : Option (List ℕ)) (files : FilesRun) (file bytes c : List ℕ) (fetched f : List (List ℕ)) (held : List ℕ → Option (List ℕ)) → files.contents ≡ Some held
    → IsNamed named files file bytes → HasAskedAll named files file bytes f → HoldScript held file c fetched → script_read file f bytes ≡ script_read file fetched c
told_alike named files file bytes c fetched f held told is all holds =
    let told_of : (P : (List ℕ → Option (List ℕ)) → Type 0) → IfSome files.contents P → P held = λ P x. (let Q : Option (List ℕ → Option (List ℕ)) → Type 0 = λ o. IfSome o P in subst Q told x) in
    let same_bytes : bytes ≡ c = ap (λ o. unwrap_or o c) (sym (told_of (λ g. g file ≡ Some bytes) is.holds) ∙ holds.script) in
    let own : f ≡ map (bytes_in held) (script_due file f c)
    = told_of (λ g. f ≡ map (bytes_in g) all.names) all.are.held ∙ ap (map (bytes_in held)) (all.all_due ∙ ap (λ b. script_due file f b) same_bytes) in
    let same : f ≡ fetched = fetches_same file c held f fetched own holds.others in
    ap (script_read file f) same_bytes ∙ ap (λ g. script_read file g c) same
