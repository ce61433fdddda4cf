-- Lines of a written script are read one after the other, and no file is asked for.
use Rattle.std.proofs.Common.{◌≡◌, ℕ, ◌+◌, Bool, true, false, List, [], ◌∷◌, ◌++◌, map, take, Option, Some, None, Result, Ok, Err, refl, sym, ap, subst, ◌∙◌}
use Rattle.std.specs.Prelude.{◌&&◌, nat_lt, length, codes, flat_map, option_and_then, IsOkAnd, if◌then◌else◌}
use Rattle.std.specs.List.{list_all, enumerate_from}
use Rattle.std.specs.Str.{bytes_eq}
use Rattle.std.proofs.lemmas.Bool.{and_from}
use Rattle.solv_io.specs.Words.{words_of}
use Rattle.solv_base.specs.Pool.{Held, IsPool}
use Rattle.solv_deps.specs.Canonical.{comparison_text}
use Rattle.solv_deps.specs.Entering.{dependency_entered}
use Rattle.solv_deps.specs.Laws.{HeldIsEntered}
use Rattle.solv_pool.specs.Prelude.{WrittenTask, WrittenJob, WrittenChoice}
use Rattle.solv_pool.specs.declared.tasks.Flags.{Flags}
use Rattle.solv_commands.specs.Commas.{between_commas}
use Rattle.solv_io.specs.JoinedWords.{joined, is_word}
use Rattle.solv_commands.specs.Commands.{Command, Asked, solverflags, evrcmp, job, next_round, pkg, by_name, by_provides, one_of, all, nothing, command}
use Rattle.solv_commands.specs.declared.flags_of_jobs.JobFlags.{JobFlags}
use Rattle.solv_commands.specs.SolverFlags.{with_settings}
use Rattle.solv_commands.specs.Inner.FlagWords.{with_words}
use Rattle.solv_commands.specs.declared.causes.Cause.{Cause}
use Rattle.solv_script.specs.Inner.LineRows.{done, Named, file_named, row, words_row, said_row, command_row, lines_row, lines_given, lines_due}
use Rattle.solv_script.specs.Reads.{WrittenCheck, WrittenRound, default_kinds}
use Rattle.solv_script.specs.Rows.{plain_row, chosen, is_too_late}
use Rattle.solv_script.specs.Inner.LineParts.{is_of_packages}
use Rattle.solv_script.specs.ScriptLines.{ScriptLine, inline_lines, script_lines, own_words}
use Rattle.solv_script.specs.States.{State}
use Rattle.solv_script.specs.declared.scripts.Kinds.{Kinds}
use Rattle.solv_deps.specs.Parts.{HoldsTree, IsPart, IsEnteredTree}
use Rattle.solv_writing.specs.Inner.ReadScripts.{Chooses, IsReadJob, HoldsChoice, IsReadCheck}
use Rattle.solv_writing.specs.ScriptTexts.{inlined}
use Rattle.solv_writing.specs.Inner.ScriptParts.{flag_word, flag_words}
use Rattle.solv_writing.specs.Inner.LineNames.{check_line, job_line}
use Rattle.solv_deps.proofs.PartEntered.{trees_entered}
use Rattle.solv_io.proofs.WordsAgain.{words_again}
use Rattle.solv_commands.proofs.SettingLists.{settings_behind}
use Rattle.solv_script.proofs.GrownScripts.{texts_then, rows_then}

-- what lines so far gave: the packages with the flags and jobs of the round in hand, the comparisons, what is expected of that round, and the rounds before it
pub record SoFar : Type 0 where
  pub task : WrittenTask
  pub kinds : Kinds
  pub wanted : Option (List (List ℕ))
  pub checks : List WrittenCheck
  pub earlier : List WrittenRound

abbrev pub so_far : State → SoFar
so_far s = record { task = s.task; kinds = s.kinds; wanted = s.wanted; checks = s.checks; earlier = s.earlier }

-- the round in hand
abbrev pub hand_of : SoFar → WrittenRound
hand_of w = record { flags = w.task.flags; jobs = w.task.jobs; kinds = w.kinds; wanted = w.wanted }

-- the lines of a block are numbered as its lines
pub block_is : (lines others : List (List ℕ)) → ((k : ℕ) → inline_lines k others ≡ []) → (n : ℕ) → inline_lines n (inlined lines ++ others) ≡ enumerate_from n lines
block_is [] others none n = none n
block_is (line ∷ lines) others none n = ap (λ more. (n, line) ∷ more) (block_is lines others none (n + 1))

pub second_of_each : (n : ℕ) (lines : List (List ℕ)) → map (λ line. line.1) (enumerate_from n lines) ≡ lines
second_of_each n [] = refl
second_of_each n (line ∷ lines) = ap (λ more. line ∷ more) (second_of_each (n + 1) lines)

module _ (whole : Held) (p : IsPool whole) (again : HeldIsEntered) (script : List ℕ) where
  -- the lines so far gave this, and the pool holds a part of the whole
  pub record Reads (w : SoFar) (t : State) : Type 0 where
    pub part : IsPart t.held whole
    pub is : so_far t ≡ w

  -- lines from a state on give this, and ask for no file
  pub record Goes (s : State) (lines : List ScriptLine) (end : SoFar) : Type 0 where
    pub given : (fetched : List (List ℕ)) → IsOkAnd (lines_given script s lines fetched) (Reads end)
    pub due : (fetched : List (List ℕ)) → lines_due script s lines fetched ≡ []

  -- lines after what was given before; they do not begin with the lines of a block
  pub record Leads (w : SoFar) (lines : List (List ℕ)) (end : SoFar) : Type 0 where
    pub goes : (s : State) → Reads w s → (n : ℕ) → Goes s (script_lines n lines) end
    pub closed : (k : ℕ) → inline_lines k lines ≡ []

  pub at_end : (w : SoFar) → Leads w [] w
  at_end w = record { goes = λ s r n. record { given = λ fetched. r; due = λ fetched. refl }; closed = λ k. refl }

  pub one_row : (s : State) (line : ScriptLine) (others : List ScriptLine) (t : State) (end : SoFar) → row script s line ≡ done (Ok t) → Goes t others end → Goes s (line ∷ others) end
  one_row s line others t end e g = record { given = λ fetched. rw e (g.given fetched); due = λ fetched. rw e (g.due fetched) }

  -- the words of a line that does not come too late say this command
  pub row_said : (s : State) (line : ScriptLine) (first : List ℕ) (others : List (List ℕ)) (c : Command) → bytes_eq (take 1 line.text) (codes "#") ≡ false → words_of line.text ≡ first ∷ others → is_too_late s first ≡ false
      → command first others ≡ Ok c → row script s line ≡ command_row script s line c
  row_said s line first others c h k early l =
      let own : own_words line.text ≡ first ∷ others = ap (λ b. if b then [] else words_of line.text) h ∙ k in
      ap (words_row script s line) own ∙ (rw early refl) ∙ ap (said_row script s line) l

  -- where no round is done, no line comes too late
  pub in_first_round : (w : SoFar) (first : List ℕ) → w.earlier ≡ [] → (s : State) → Reads w s → is_too_late s first ≡ false
  in_first_round w first none s r =
      let no_round : nat_lt 0 (length s.earlier) ≡ false = ap (λ (x : SoFar). nat_lt 0 (length x.earlier)) r.is ∙ ap (λ l. nat_lt 0 (length l)) none in
      ap (λ b. is_of_packages first && b) no_round ∙ and_false (is_of_packages first)
    where
      and_false : (b : Bool) → (b && false) ≡ false
      and_false true = refl
      and_false false = refl

  pub command_then : (s : State) (line : ScriptLine) (c : Command) (t : State) (named : Option Named) → plain_row s c ≡ Ok t → file_named c ≡ named → command_row script s line c ≡ lines_row script t line named
  command_then s line c t named h k = rw (h, k) refl

  -- a line that names no file
  pub plain_leads : (w x end : SoFar) (line : List ℕ) (others : List (List ℕ)) (first : List ℕ) (words : List (List ℕ)) (c : Command)
      → bytes_eq (take 1 line) (codes "#") ≡ false → ((k : ℕ) → inline_lines k (line ∷ others) ≡ []) → words_of line ≡ first ∷ words → ((s : State) → Reads w s → is_too_late s first ≡ false)
      → command first words ≡ Ok c → file_named c ≡ None
      → ((s : State) → Reads w s → IsOkAnd (plain_row s c) (Reads x)) → Leads x others end → Leads w (line ∷ others) end
  plain_leads w x end line others first words c hash closed is early said none reads behind = record {
    goes = λ s r n.
        let l : ScriptLine = record { number = n; text = line; block = inline_lines (n + 1) others } in
        on s l (script_lines (n + 1) others) (plain_row s c) refl (row_said s l first words c hash is (early s r) said) (reads s r) (λ t rt. behind.goes t rt (n + 1));
    closed = closed;
  }
    where
      on : (s : State) (l : ScriptLine) (later : List ScriptLine) (r : Result State Cause) → plain_row s c ≡ r → row script s l ≡ command_row script s l c → IsOkAnd r (Reads x)
          → ((t : State) → Reads x t → Goes t later end) → Goes s (l ∷ later) end
      on s l later (Ok t) e rs h k = one_row s l later t end (rs ∙ command_then s l c t None e none) (k t h)
      on s l later (Err e) f rs h k = absurd h

  -- the lines of a block, where they are passed over
  pub comments : (lines others : List (List ℕ)) (s : State) (end : SoFar) → ((k : ℕ) → Goes s (script_lines k others) end) → (n : ℕ) → Goes s (script_lines n (inlined lines ++ others)) end
  comments [] others s end g n = g n
  comments (line ∷ lines) others s end g n =
      one_row s (record { number = n; text = codes "#>" ++ line; block = inline_lines (n + 1) (inlined lines ++ others) }) (script_lines (n + 1) (inlined lines ++ others)) s end refl (comments lines others s end g (n + 1))

  -- an `evrcmp` line
  pub check_leads : (w end : SoFar) (c : WrittenCheck) (others : List (List ℕ)) → IsReadCheck c → Leads (record w { checks = w.checks ++ c ∷ [] }) others end → Leads w (check_line c ∷ others) end
  check_leads w end c others is behind =
      plain_leads w (record w { checks = w.checks ++ c ∷ [] }) end (check_line c) others (codes "evrcmp") (c.left ∷ comparison_text c.op ∷ c.right ∷ []) (evrcmp c.left c.op c.right) refl (λ k. refl)
      (words_again (codes "evrcmp" ∷ c.left ∷ comparison_text c.op ∷ c.right ∷ []) (and_from (is_word c.left) _ is.left (and_from (is_word (comparison_text c.op)) _ is.op_word (and_from (is_word c.right) true is.right refl)))) (λ s r. refl)
      (rw is.op refl) refl
      (λ s r. record { part = r.part; is = ap (λ (x : SoFar). record x { checks = x.checks ++ c ∷ [] }) r.is }) behind

  -- the `solverflags` line
  pub flag_set : (on : Bool) (f : Flags) → with_settings (between_commas (flag_word on (codes "allowdowngrade"))) f ≡ Some (record f { allow_downgrade = on })
  flag_set true f = refl
  flag_set false f = refl

  pub flags_set : (f g : Flags) → with_words (flag_words f) g ≡ Some f
  flags_set f g =
      let g1 : Flags = record g { allow_downgrade = f.allow_downgrade } in
      let g2 : Flags = record g1 { allow_name_change = f.allow_name_change } in
      let g3 : Flags = record g2 { allow_arch_change = f.allow_arch_change } in
      let g4 : Flags = record g3 { allow_vendor_change = f.allow_vendor_change } in
      let g5 : Flags = record g4 { allow_uninstall = f.allow_uninstall } in
      let g6 : Flags = record g5 { ignore_recommended = f.ignore_recommended } in
      let g7 : Flags = record g6 { no_infarch_check = f.no_infarch_check } in
      let downgrade_word : List ℕ = flag_word f.allow_downgrade (codes "allowdowngrade") in
      let name_word : List ℕ = flag_word f.allow_name_change (codes "allownamechange") in
      let arch_word : List ℕ = flag_word f.allow_arch_change (codes "allowarchchange") in
      let vendor_word : List ℕ = flag_word f.allow_vendor_change (codes "allowvendorchange") in
      let uninstall_word : List ℕ = flag_word f.allow_uninstall (codes "allowuninstall") in
      let recommended_word : List ℕ = flag_word f.ignore_recommended (codes "ignorerecommended") in
      let infarch_word : List ℕ = flag_word f.no_infarch_check (codes "noinfarchcheck") in
      word_set downgrade_word (name_word ∷ arch_word ∷ vendor_word ∷ uninstall_word ∷ recommended_word ∷ infarch_word ∷ []) g g1 (Some f) (flag_set f.allow_downgrade g)
      (word_set name_word (arch_word ∷ vendor_word ∷ uninstall_word ∷ recommended_word ∷ infarch_word ∷ []) g1 g2 (Some f) (name_change f.allow_name_change g1)
      (word_set arch_word (vendor_word ∷ uninstall_word ∷ recommended_word ∷ infarch_word ∷ []) g2 g3 (Some f) (arch_change f.allow_arch_change g2)
      (word_set vendor_word (uninstall_word ∷ recommended_word ∷ infarch_word ∷ []) g3 g4 (Some f) (vendor_change f.allow_vendor_change g3)
      (word_set uninstall_word (recommended_word ∷ infarch_word ∷ []) g4 g5 (Some f) (uninstall f.allow_uninstall g4)
      (word_set recommended_word (infarch_word ∷ []) g5 g6 (Some f) (recommended f.ignore_recommended g5)
      (word_set infarch_word [] g6 g7 (Some f) (infarch f.no_infarch_check g6) refl))))))
    where
      word_set : (word : List ℕ) (words : List (List ℕ)) (f g : Flags) (r : Option Flags) → with_settings (between_commas word) f ≡ Some g → with_words words g ≡ r → with_words (word ∷ words) f ≡ r
      word_set word words f g r h k = settings_behind (between_commas word) (flat_map between_commas words) f ∙ ap (option_and_then (with_words words)) h ∙ k

      name_change : (on : Bool) (f : Flags) → with_settings (between_commas (flag_word on (codes "allownamechange"))) f ≡ Some (record f { allow_name_change = on })
      name_change true f = refl
      name_change false f = refl

      arch_change : (on : Bool) (f : Flags) → with_settings (between_commas (flag_word on (codes "allowarchchange"))) f ≡ Some (record f { allow_arch_change = on })
      arch_change true f = refl
      arch_change false f = refl

      vendor_change : (on : Bool) (f : Flags) → with_settings (between_commas (flag_word on (codes "allowvendorchange"))) f ≡ Some (record f { allow_vendor_change = on })
      vendor_change true f = refl
      vendor_change false f = refl

      uninstall : (on : Bool) (f : Flags) → with_settings (between_commas (flag_word on (codes "allowuninstall"))) f ≡ Some (record f { allow_uninstall = on })
      uninstall true f = refl
      uninstall false f = refl

      recommended : (on : Bool) (f : Flags) → with_settings (between_commas (flag_word on (codes "ignorerecommended"))) f ≡ Some (record f { ignore_recommended = on })
      recommended true f = refl
      recommended false f = refl

      infarch : (on : Bool) (f : Flags) → with_settings (between_commas (flag_word on (codes "noinfarchcheck"))) f ≡ Some (record f { no_infarch_check = on })
      infarch true f = refl
      infarch false f = refl

  -- a job's line
  choice_made : (task : WrittenTask) (held : Held) (asked : Asked) (c : WrittenChoice) → IsPart held whole → Chooses task asked c → HoldsChoice whole c
      → IsOkAnd (chosen task held asked) (λ x. (x.choice ≡ c) × IsPart x.held whole)
  choice_made task held (pkg w) c part h k = rw h.1 (sym h.2, part)
  choice_made task held (by_name ws) c part h k =
      let is : HoldsTree whole h.0 = subst (HoldsChoice whole) h.2 k in
      rw h.1 (texts_then (IsEnteredTree whole held h.0) (λ x. (x.choice ≡ c) × IsPart x.held whole) (dependency_entered h.0 held) _ (trees_entered again whole held h.0 p part is) (λ e ie. (sym h.2, ie.part)))
  choice_made task held (by_provides ws) c part h k =
      let is : HoldsTree whole h.0 = subst (HoldsChoice whole) h.2 k in
      rw h.1 (texts_then (IsEnteredTree whole held h.0) (λ x. (x.choice ≡ c) × IsPart x.held whole) (dependency_entered h.0 held) _ (trees_entered again whole held h.0 p part is) (λ e ie. (sym h.2, ie.part)))
  choice_made task held (one_of ws) c part h k = rw (h.1, h.2) (sym h.3, part)
  choice_made task held all c part h k = (sym h, part)
  choice_made task held nothing c part h k = (sym h, part)

  abbrev with_job : SoFar → WrittenJob → SoFar
  with_job w j = record w { task = record w.task { jobs = w.task.jobs ++ j ∷ [] } }

  pub job_leads : (w end : SoFar) (j : WrittenJob) (others : List (List ℕ)) → IsReadJob w.task j → HoldsChoice whole j.choice → Leads (with_job w j) others end → Leads w (job_line j ∷ others) end
  job_leads w end j others is holds behind =
      let flags : JobFlags = record { forcebest = j.forcebest; cleandeps = j.cleandeps } in
      subst (λ t. Leads w ((codes "job " ++ t) ∷ others) end) (sym is.text)
      (plain_leads w (with_job w j) end (codes "job " ++ joined (is.first ∷ is.others)) others (codes "job") (is.first ∷ is.others) (job j.action is.asked flags (joined (is.first ∷ is.others))) refl (λ k. refl)
      (words_again (codes "job" ∷ is.first ∷ is.others) is.words) (λ s r. refl) is.said refl
      (λ s r.
      let task : s.task ≡ w.task = ap (λ x. x.task) r.is in
      rows_then (λ x. (x.choice ≡ j.choice) × IsPart x.held whole) (Reads (with_job w j)) (chosen s.task s.held is.asked) _
      (choice_made s.task s.held is.asked j.choice r.part (subst (λ t. Chooses t is.asked j.choice) (sym task) is.chooses) holds)
      (λ x h. record {
        part = h.1;
        is = ap (λ (y : SoFar). record y { task = record y.task { jobs = y.task.jobs ++ record { action = j.action; choice = x.choice; forcebest = j.forcebest; cleandeps = j.cleandeps; text = joined (is.first ∷ is.others) } ∷ [] } }) r.is
            ∙ ap (λ c. with_job w (record { action = j.action; choice = c; forcebest = j.forcebest; cleandeps = j.cleandeps; text = joined (is.first ∷ is.others) })) h.0
            ∙ ap (λ t. with_job w (record { action = j.action; choice = j.choice; forcebest = j.forcebest; cleandeps = j.cleandeps; text = t })) (sym is.text);
      }))
      behind)

  -- the `solverflags` line
  abbrev pub with_flags : SoFar → Flags → SoFar
  with_flags w f = record w { task = record w.task { flags = f } }

  flag_words_are : (f : Flags) → list_all is_word (flag_words f) ≡ true
  flag_words_are f =
      and_from (is_word (flag_word f.allow_downgrade (codes "allowdowngrade"))) _ (word (codes "llowdowngrade") 97 f.allow_downgrade refl)
      (and_from (is_word (flag_word f.allow_name_change (codes "allownamechange"))) _ (word (codes "llownamechange") 97 f.allow_name_change refl)
      (and_from (is_word (flag_word f.allow_arch_change (codes "allowarchchange"))) _ (word (codes "llowarchchange") 97 f.allow_arch_change refl)
      (and_from (is_word (flag_word f.allow_vendor_change (codes "allowvendorchange"))) _ (word (codes "llowvendorchange") 97 f.allow_vendor_change refl)
      (and_from (is_word (flag_word f.allow_uninstall (codes "allowuninstall"))) _ (word (codes "llowuninstall") 97 f.allow_uninstall refl)
      (and_from (is_word (flag_word f.ignore_recommended (codes "ignorerecommended"))) _ (word (codes "gnorerecommended") 105 f.ignore_recommended refl)
      (and_from (is_word (flag_word f.no_infarch_check (codes "noinfarchcheck"))) true (word (codes "oinfarchcheck") 110 f.no_infarch_check refl) refl))))))
    where
      word : (rest : List ℕ) (c : ℕ) (on : Bool) → is_word (c ∷ rest) ≡ true → is_word (flag_word on (c ∷ rest)) ≡ true
      word rest c true h = h
      word rest c false h = h

  pub flags_leads : (w end : SoFar) (f : Flags) (others : List (List ℕ)) → Leads (with_flags w f) others end → Leads w (joined (codes "solverflags" ∷ flag_words f) ∷ others) end
  flags_leads w end f others behind =
      plain_leads w (with_flags w f) end (joined (codes "solverflags" ∷ flag_words f)) others (codes "solverflags") (flag_words f) (solverflags (flag_words f)) refl (λ k. refl)
      (words_again (codes "solverflags" ∷ flag_words f) (flag_words_are f)) (λ s r. refl) refl refl
      (λ s r. rw (flags_set f s.task.flags) (record { part = r.part; is = ap (λ (x : SoFar). with_flags x f) r.is })) behind

  -- a `nextjob` line
  abbrev pub with_next : SoFar → SoFar
  with_next w = record { task = record w.task { jobs = [] }; kinds = default_kinds; wanted = None; checks = w.checks; earlier = w.earlier ++ hand_of w ∷ [] }

  pub nextjob_leads : (w end : SoFar) (others : List (List ℕ)) → Leads (with_next w) others end → Leads w (codes "nextjob" ∷ others) end
  nextjob_leads w end others behind =
      plain_leads w (with_next w) end (codes "nextjob") others (codes "nextjob") [] next_round refl (λ k. refl) refl (λ s r. refl) refl refl
      (λ s r. record { part = r.part; is = ap with_next r.is }) behind
