-- What a whole script gives can be written again.
use Rattle.std.proofs.Common.{◌≡◌, ℕ, ◌+◌, ◌-◌, ◌==◌, ◌≤◌, Bool, true, false, not, List, [], ◌∷◌, ◌++◌, map, filter, take, drop, length, Option, Some, None, Result, Ok, Err, refl, sym, ap, subst, ◌∙◌, arith, append-nil, nat_lt, All}
use Rattle.std.specs.Prelude.{ℤ, codes, position, is_some, IfOk, if◌then◌else◌}
use Rattle.std.specs.List.{list_all, list_any, position_or_len, enumerate_from}
use Rattle.std.specs.Str.{bytes_eq, is_utf8}
use Rattle.std.proofs.lemmas.Bool.{and_from, lt-ltb}
use Rattle.std.proofs.lemmas.List.{length-append}
use Rattle.std.proofs.lemmas.List.Elements.{All-nil, All-cons}
use Rattle.solv_io.specs.Lines.{lines_of, begun_with, numbered_lines}
use Rattle.solv_io.specs.Words.{words_of}
use Rattle.solv_base.specs.Pool.{Held}
use Rattle.solv_deps.specs.Entering.{text_entered}
use Rattle.solv_deps.specs.Laws.{PrintedIsReadAgain, ReadIsWritten}
use Rattle.solv_pool.specs.Contents.{most_packages}
use Rattle.solv_pool.specs.Prelude.{WrittenRepo, WrittenPackage}
use Rattle.solv_tags.specs.Headings.{trimmed}
use Rattle.solv_tags.specs.Testtags.{Repository, testtags}
use Rattle.solv_tags.specs.declared.tag_fault.TagFault.{TagFault}
use Rattle.solv_commands.specs.Commands.{Command, repo, system, solverflags, namespace, disable, evrcmp, results, job, next_round, command}
use Rattle.solv_commands.specs.declared.causes.Cause.{Cause}
use Rattle.solv_commands.specs.declared.causes.Cause.TheVariants.{AfterNextjob, DuplicateRepo, Compressed, BadFileName, FileTooLong, ScriptTooLong}
use Rattle.solv_script.specs.FileNames.{is_compressed, fetched_name}
use Rattle.solv_script.specs.Grammar.{Bad, counted, repository_given, inline, most_file, most_script, script_read}
use Rattle.solv_script.specs.Inner.LineRows.{Row, done, asks, Named, Purpose, of_packages, of_result, with_lines, file_named, next_bytes, answered, fetched_behind, then_row, at_line, fetched_given, file_row, lines_row, said_row, words_row, row, lines_given}
use Rattle.solv_script.specs.Results.{expected}
use Rattle.solv_script.specs.Rows.{is_too_late, plain_row, with_repo}
use Rattle.solv_commands.specs.Commands.{and_then}
use Rattle.solv_script.specs.ScriptLines.{ScriptLine, inline_lines, script_lines, own_words}
use Rattle.solv_script.specs.Inner.LineParts.{is_inline}
use Rattle.solv_script.specs.States.{State, no_line, repo_place}
use Rattle.solv_list.proofs.Booleans.{first_of_both, second_of_both}
use Rattle.solv_io.specs.JoinedWords.{is_inner, is_word, is_line}
use Rattle.solv_writing.specs.Inner.ReadPackages.{IsKept, IsReadPackage}
use Rattle.solv_writing.specs.Inner.ReadScripts.{IsReadJob, IsReadRepo, IsReadCheck, IsReadNamespace, IsReadRound, view}
use Rattle.solv_writing.proofs.CommandWords.{IsOfWords, command_of, either_if}
use Rattle.solv_writing.proofs.GoodStates.{IsGood, counted_good}
use Rattle.solv_writing.proofs.Growing.{with_repository as grown_by, grown}
use Rattle.solv_writing.proofs.KeptRows.{HasKinds, system_kept, namespace_kept, disable_kept, evrcmp_kept, flags_kept, job_kept, next_kept, result_kept}
use Rattle.solv_writing.proofs.ReadTags.{all_drop, IsGiven, IsReadRepository, tags_given}
use Rattle.solv_writing.proofs.Trimmed.{trimmed_kept}
use Rattle.solv_io.proofs.WordsAgain.{line_words}
use Rattle.solv_list.proofs.Lists.{place_within, list_any_map}
use Rattle.solv_script.proofs.RowForms.{text_then}
use Rattle.solv_script.proofs.RowsInTurn.{given_in_turn}

-- numbered lines that are lines
abbrev are_lined : List (ℕ × List ℕ) → Bool
are_lined lines = list_all (λ line. is_line line.1) lines

lengthened_lined : (c : ℕ) (lines : List (List ℕ)) → is_inner c ≡ true → list_all is_line lines ≡ true → list_all is_line (begun_with c lines) ≡ true
lengthened_lined c [] h k = and_from (is_line (c ∷ [])) true (and_from (is_inner c) true h refl) refl
lengthened_lined c (line ∷ lines) h k = and_from (is_line (c ∷ line)) (list_all is_line lines) (and_from (is_inner c) (is_line line) h (first_of_both (is_line line) (list_all is_line lines) k)) (second_of_both (is_line line) (list_all is_line lines) k)

lines_lined : (text : List ℕ) → list_all is_line (lines_of text) ≡ true
lines_lined [] = refl
lines_lined (c ∷ cs) =
    (elim (c == 10) as (λ b. (c == 10) ≡ b → list_all is_line (if b then [] ∷ lines_of cs else begun_with c (lines_of cs)) ≡ true) [
      | true ↦ λ e. lines_lined cs
      | false ↦ λ e. lengthened_lined c (lines_of cs) (ap not e) (lines_lined cs)
    ]) refl

numbered_lined : (n : ℕ) (lines : List (List ℕ)) → list_all is_line lines ≡ true → are_lined (enumerate_from n lines) ≡ true
numbered_lined n [] h = refl
numbered_lined n (line ∷ lines) h = and_from (is_line line) _ (first_of_both (is_line line) (list_all is_line lines) h) (numbered_lined (n + 1) lines (second_of_both (is_line line) (list_all is_line lines) h))

block_lined : (n : ℕ) (lines : List (List ℕ)) → list_all is_line lines ≡ true → are_lined (inline_lines n lines) ≡ true
block_lined n [] h = refl
block_lined n (line ∷ lines) h =
    elim (is_inline line) as (λ b. are_lined (if b then (n, drop 2 line) ∷ inline_lines (n + 1) lines else []) ≡ true) [
      | true ↦ and_from (is_line (drop 2 line)) _ (all_drop is_inner 2 line (first_of_both (is_line line) (list_all is_line lines) h)) (block_lined (n + 1) lines (second_of_both (is_line line) (list_all is_line lines) h))
      | false ↦ refl
    ]

-- what is expected is kept
expected_kept : (lines : List (ℕ × List ℕ)) → are_lined lines ≡ true → All IsKept (expected (map (λ line. line.1) lines))
expected_kept [] h = All-nil IsKept
expected_kept (line ∷ lines) h = on (trimmed line.1) refl (expected_kept lines (second_of_both (is_line line.1) (are_lined lines) h))
  where
    on : (t : List ℕ) → trimmed line.1 ≡ t → All IsKept (expected (map (λ l. l.1) lines)) → All IsKept (filter (λ x. not (length x == 0)) (t ∷ map trimmed (map (λ l. l.1) lines)))
    on [] e rest = rest
    on (c ∷ cs) e rest =
        elim (not (length (c ∷ cs) == 0)) as (λ b. All IsKept (if b then (c ∷ cs) ∷ expected (map (λ l. l.1) lines) else expected (map (λ l. l.1) lines))) [
          | true ↦ All-cons IsKept (c ∷ cs) (expected (map (λ l. l.1) lines)) (trimmed_kept line.1 c cs (first_of_both (is_line line.1) (are_lined lines) h) e) rest
          | false ↦ rest
        ]

-- a repository's name was entered; its packages are to come
record IsNamed (t : State) : Type 0 where
  before : List WrittenRepo
  r : WrittenRepo
  is : t.task.repos ≡ before ++ r ∷ []
  good : IsGood (record t { task = record t.task { repos = before } })
  right : IsReadRepo r
  free : list_any (bytes_eq r.name) (map (λ q. q.name) before) ≡ false

-- bytes that were counted don't matter
named_counted : (t : State) (bytes : ℕ) → IsNamed t → IsNamed (record t { bytes = bytes })
named_counted t bytes n = record { before = n.before; r = n.r; is = n.is; good = counted_good (record t { task = record t.task { repos = n.before } }) bytes t.held n.good; right = n.right; free = n.free }

none_there : {X : Type 0} (f : X → Bool) (xs : List X) → is_some (position f xs) ≡ false → list_any f xs ≡ false
none_there f xs h =
    (elim (list_any f xs) as (λ b. list_any f xs ≡ b → b ≡ false) [
      | true ↦ λ e. let l : nat_lt (position_or_len f xs) (length xs) ≡ true = lt-ltb (position_or_len f xs) (length xs) (place_within f xs e) in
          let some : is_some (position f xs) ≡ true = rw l refl in absurd (let bad : true ≡ false = sym some ∙ h in cc)
      | false ↦ λ e. refl
    ]) refl

name_entered : (s : State) (text : List ℕ) (p : ℤ) → IsReadRepo (record { name = text; priority = p }) → IsGood s → IfOk (with_repo s text p) IsNamed
name_entered s text p right g =
    either_if IsNamed (is_some (repo_place s.task text)) (Err DuplicateRepo) _ (λ e. tt) (λ e. text_then IsNamed (text_entered text s.held) _ (λ x f. record {
      before = s.task.repos;
      r = record { name = text; priority = p };
      is = refl;
      good = counted_good s s.bytes x.held g;
      right = right;
      free = list_any_map (bytes_eq text) (λ (q : WrittenRepo). q.name) s.task.repos ∙ none_there (λ (q : WrittenRepo). bytes_eq text q.name) s.task.repos e;
    }))

module _ (again : PrintedIsReadAgain) (written : ReadIsWritten) (script : List ℕ) where
  -- its packages come after the others
  repository_more : (t : State) (n : IsNamed t) (held : Held) (ps : List WrittenPackage) → All (IsGiven (length n.before)) ps → length t.task.packages + length ps ≤ most_packages
      → IsGood (record t { held = held; task = record t.task { packages = t.task.packages ++ ps; disabled = t.task.disabled ++ map (λ a. false) ps } })
  repository_more t n held ps given few =
      let front : State = record t { task = record t.task { repos = n.before } } in
      let all : IsGood (grown_by front n.r ps) = grown front n.good n.r ps given n.right n.free few in
      subst (λ (l : List WrittenRepo). IsGood (record t { held = held; task = record t.task { repos = l; packages = t.task.packages ++ ps; disabled = t.task.disabled ++ map (λ a. false) ps } })) (sym n.is)
      (counted_good (grown_by front n.r ps) t.bytes held all)

  -- the repository is empty
  no_packages : (t : State) → IsNamed t → IsGood t
  no_packages t n =
      let few = n.good.universe.few in
      subst IsGood (λ i. record t { task = record t.task { packages = append-nil t.task.packages i; disabled = append-nil t.task.disabled i } })
      (repository_more t n t.held [] (All-nil (IsGiven (length n.before))) (omega (arith, few)))

  -- its packages were read
  packages_come : (t : State) (file : List ℕ) (lines : List (ℕ × List ℕ)) → are_lined lines ≡ true → IsNamed t → IfOk (with_lines of_packages t file lines) IsGood
  packages_come t file lines lined n =
      let place : length t.task.repos - 1 ≡ length n.before = let l = length-append n.before (n.r ∷ []) in let m : length t.task.repos ≡ length (n.before ++ n.r ∷ []) = ap length n.is in omega (arith, l, m) in
      on (testtags t.held (length t.task.packages) (length t.task.repos - 1) lines)
      (subst (λ k. IfOk (testtags t.held (length t.task.packages) k lines) (IsReadRepository again written (length n.before) (length t.task.packages))) (sym place)
      (tags_given again written (length n.before) (length t.task.packages) lines t.held lined n.good.universe.few))
    where
      on : (q : Result Repository TagFault) → IfOk q (IsReadRepository again written (length n.before) (length t.task.packages)) → IfOk (repository_given t file q) IsGood
      on (Ok q) h = repository_more t n q.held q.packages h.packages h.few
      on (Err f) h = tt

  -- what is expected was read
  expected_come : (t : State) (file : List ℕ) (lines : List (ℕ × List ℕ)) → are_lined lines ≡ true → IsGood t → HasKinds t → IfOk (with_lines of_result t file lines) IsGood
  expected_come t file lines lined g k = record { universe = g.universe; checks = g.checks; earlier = g.earlier; jobs = g.jobs; kinds = (k.it.0, k.it.1, expected_kept lines lined); own = g.own }

  abbrev IsBeforePurpose : Purpose → State → Type 0
  IsBeforePurpose of_packages t = IsNamed t
  IsBeforePurpose of_result t = IsGood t × HasKinds t

  lines_come : (purpose : Purpose) (t : State) (file : List ℕ) (lines : List (ℕ × List ℕ)) → are_lined lines ≡ true → IsBeforePurpose purpose t → IfOk (with_lines purpose t file lines) IsGood
  lines_come of_packages t file lines lined h = packages_come t file lines lined h
  lines_come of_result t file lines lined h = expected_come t file lines lined h.0 h.1

  -- before the lines of the file that a command names, if any
  abbrev IsBefore : Option Named → State → Type 0
  IsBefore None t = IsGood t
  IsBefore (Some named) t = IsBeforePurpose named.purpose t

  -- what a command gives before the lines of its file
  plain_kept : (s : State) (c : Command) → IsOfWords c → IsGood s → IfOk (plain_row s c) (IsBefore (file_named c))
  plain_kept s (repo text p None) of g = named_kept (with_repo s text p) (name_entered s text p (record { name = of.0; number = of.1.word; priority = of.1.again }) g)
    where
      named_kept : (r : Result State Cause) → IfOk r IsNamed → IfOk r IsGood
      named_kept (Ok t) n = no_packages t n
      named_kept (Err c) n = tt
  plain_kept s (repo text p (Some file)) of g = name_entered s text p (record { name = of.0; number = of.1.word; priority = of.1.again }) g
  plain_kept s (system arch type installed) of g = system_kept s arch type installed of g
  plain_kept s (solverflags words) of g = flags_kept s words g
  plain_kept s (namespace text words) of g = namespace_kept s text words of.0 of.2 of.3 (record { it = of.1 }) g
  plain_kept s (disable word) of g = disable_kept s word of g
  plain_kept s (evrcmp left op right) of g = evrcmp_kept s left right op (record { left = of.0; right = of.1; op = of.2; op_word = of.3 }) g
  plain_kept s (results kinds file) of g = result_kept s kinds g
  plain_kept s (job a asked flags text) of g = job_kept s a asked flags text of g
  plain_kept s next_round of g = next_kept s g

  -- what a line gives, or what it gives by the bytes of a file
  RowKept : Row → Type 0
  RowKept (done r) = IfOk r IsGood
  RowKept (asks name next) = (bytes : List ℕ) → IfOk (next bytes) IsGood

  row_either : (b : Bool) (q r : Row) → RowKept q → RowKept r → RowKept (if b then q else r)
  row_either true q r h k = h
  row_either false q r h k = k

  counted_before : (purpose : Purpose) (t : State) (size : ℕ) → IsBeforePurpose purpose t → IfOk (counted t size) (IsBeforePurpose purpose)
  counted_before purpose t size h =
      either_if (IsBeforePurpose purpose) (nat_lt most_file size) (Err FileTooLong) _ (λ e. tt) (λ e. either_if (IsBeforePurpose purpose) (nat_lt most_script (t.bytes + size)) (Err ScriptTooLong) _ (λ e. tt) (λ e. same purpose h))
    where
      same : (purpose : Purpose) → IsBeforePurpose purpose t → IsBeforePurpose purpose (record t { bytes = t.bytes + size })
      same of_packages n = named_counted t (t.bytes + size) n
      same of_result h = (counted_good t (t.bytes + size) t.held h.0, record { it = h.1.it })

  file_kept : (purpose : Purpose) (t : State) (n : ℕ) (file : List ℕ) → IsBeforePurpose purpose t → RowKept (file_row script purpose t n file)
  unfolding RowKept
  file_kept purpose t n file h =
      row_either (is_compressed file) (done (at_line script n (Err Compressed))) _ tt
      (row_either (is_utf8 file) (asks (fetched_name script file) (fetched_given script purpose t n (fetched_name script file))) (done (at_line script n (Err BadFileName)))
      (λ bytes. given bytes (counted t (length bytes)) (counted_before purpose t (length bytes) h)) tt)
    where
      given : (bytes : List ℕ) (r : Result State Cause) → IfOk r (IsBeforePurpose purpose) → IfOk (and_then (at_line script n r) (λ u. with_lines purpose u (fetched_name script file) (numbered_lines bytes))) IsGood
      given bytes (Ok u) g = lines_come purpose u (fetched_name script file) (numbered_lines bytes) (numbered_lined 1 (lines_of bytes) (lines_lined bytes)) g
      given bytes (Err c) g = tt

  -- a line of a script
  record IsLineOfScript (line : ScriptLine) : Type 0 where
    text : is_line line.text ≡ true
    block : are_lined line.block ≡ true

  lines_row_kept : (t : State) (line : ScriptLine) (named : Option Named) → are_lined line.block ≡ true → IsBefore named t → RowKept (lines_row script t line named)
  unfolding RowKept
  lines_row_kept t line None b h = h
  lines_row_kept t line (Some named) b h =
      row_either (bytes_eq named.file inline) (done (with_lines named.purpose t script line.block)) (file_row script named.purpose t line.number named.file)
      (lines_come named.purpose t script line.block b h) (file_kept named.purpose t line.number named.file h)

  row_kept : (s : State) (line : ScriptLine) → IsLineOfScript line → IsGood s → RowKept (row script s line)
  unfolding RowKept
  row_kept s line is g = words_kept (own_words line.text) own
    where
      own : list_all is_word (own_words line.text) ≡ true
      own = elim (bytes_eq (take 1 line.text) (codes "#")) as (λ b. list_all is_word (if b then [] else words_of line.text) ≡ true) [ true ↦ refl | false ↦ line_words line.text is.text ]

      then_kept : (c : Command) (r : Result State Cause) → IfOk r (IsBefore (file_named c)) → RowKept (then_row (at_line script line.number r) (λ t. lines_row script t line (file_named c)))
      then_kept c (Ok t) h = lines_row_kept t line (file_named c) is.block h
      then_kept c (Err x) h = tt

      said_kept : (r : Result Command Cause) → IfOk r IsOfWords → RowKept (said_row script s line r)
      said_kept (Ok c) of = then_kept c (plain_row s c) (plain_kept s c of g)
      said_kept (Err x) of = tt

      words_kept : (ws : List (List ℕ)) → list_all is_word ws ≡ true → RowKept (words_row script s line ws)
      words_kept [] h = g
      words_kept (first ∷ words) h =
          row_either (is_too_late s first) (done (at_line script line.number (Err AfterNextjob))) (said_row script s line (command first words)) tt
          (said_kept (command first words) (command_of first words (second_of_both (is_word first) (list_all is_word words) h)))

  answered_kept : (fetched : List (List ℕ)) (r : Row) → RowKept r → IfOk (answered fetched r) IsGood
  unfolding RowKept
  answered_kept fetched (done q) h = h
  answered_kept fetched (asks name next) h = h (next_bytes fetched)

  lines_kept : (n : ℕ) (lines : List (List ℕ)) (fetched : List (List ℕ)) (s : State) → list_all is_line lines ≡ true → IsGood s → IfOk (lines_given script s (script_lines n lines) fetched) IsGood
  lines_kept n [] fetched s h g = g
  lines_kept n (line ∷ others) fetched s h g =
      let l : ScriptLine = record { number = n; text = line; block = inline_lines (n + 1) others } in
      let later = second_of_both (is_line line) (list_all is_line others) h in
      on (answered fetched (row script s l)) (answered_kept fetched (row script s l) (row_kept s l (record { text = first_of_both (is_line line) (list_all is_line others) h; block = block_lined (n + 1) others later }) g))
      (λ t k. lines_kept (n + 1) others (fetched_behind fetched (row script s l)) t later k)
    where
      on : (r : Result State Bad) → IfOk r IsGood → ((t : State) → IsGood t → IfOk (lines_given script t (script_lines (n + 1) others) (fetched_behind fetched (row script s (record { number = n; text = line; block = inline_lines (n + 1) others })))) IsGood)
          → IfOk (and_then r (λ t. lines_given script t (script_lines (n + 1) others) (fetched_behind fetched (row script s (record { number = n; text = line; block = inline_lines (n + 1) others }))))) IsGood
      on (Ok t) k more = more t k
      on (Err b) k more = tt

  start_kept : (n : ℕ) → IsGood (record no_line { bytes = n })
  start_kept n = record {
    universe = record {
      repos = All-nil IsReadRepo;
      names_once = refl;
      packages = All-nil IsReadPackage;
      in_order = refl;
      few = omega arith;
      system = refl;
      disabled = tt;
      namespaces = All-nil (IsReadNamespace (view [] []));
      namespaces_once = refl;
    };
    checks = All-nil IsReadCheck;
    earlier = All-nil (IsReadRound (view [] []));
    jobs = All-nil (IsReadJob (view [] []));
    kinds = refl;
    own = refl;
  }

  -- what a script gives
  pub script_kept : (fetched : List (List ℕ)) (bytes : List ℕ) → IfOk (script_read script fetched bytes) IsGood
  script_kept fetched bytes =
      subst (λ (r : Result State Bad). IfOk r IsGood) (sym (given_in_turn script bytes fetched))
      (on (counted no_line (length bytes)) (either_if IsGood (nat_lt most_file (length bytes)) (Err FileTooLong) _ (λ e. tt) (λ e. either_if IsGood (nat_lt most_script (0 + length bytes)) (Err ScriptTooLong) _ (λ e. tt) (λ e. start_kept (0 + length bytes)))))
    where
      on : (r : Result State Cause) → IfOk r IsGood → IfOk (and_then (at_line script 1 r) (λ s. lines_given script s (script_lines 1 (lines_of bytes)) fetched)) IsGood
      on (Ok s) g = lines_kept 1 (lines_of bytes) fetched s (lines_lined bytes) g
      on (Err c) g = tt
