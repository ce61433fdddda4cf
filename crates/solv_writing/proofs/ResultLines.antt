-- A `result` line with what is expected is read again.
use Rattle.std.proofs.Common.{◌≡◌, ℕ, ◌+◌, ◌==◌, Bool, true, false, not, List, [], ◌∷◌, ◌++◌, map, filter, take, length, Option, Some, None, Result, Ok, Err, refl, ap, ◌∙◌, All}
use Rattle.std.specs.Prelude.{codes, is_some, IsOkAnd}
use Rattle.std.specs.List.{enumerate_from}
use Rattle.std.specs.Str.{bytes_eq}
use Rattle.std.proofs.lemmas.Bool.{and_from}
use Rattle.std.proofs.lemmas.List.Elements.{All-head, All-tail}
use Rattle.solv_io.specs.Words.{words_of}
use Rattle.solv_base.specs.Pool.{Held, IsPool}
use Rattle.solv_deps.specs.Laws.{HeldIsEntered}
use Rattle.solv_tags.specs.Headings.{trimmed}
use Rattle.solv_commands.specs.Commands.{Command, results, command}
use Rattle.solv_commands.specs.declared.causes.Cause.{Cause}
use Rattle.solv_script.specs.Grammar.{Bad, inline}
use Rattle.solv_script.specs.Inner.LineRows.{done, Purpose, of_result, file_named, row, command_row, with_lines}
use Rattle.solv_script.specs.Results.{expected}
use Rattle.solv_script.specs.Rows.{is_too_late, plain_row}
use Rattle.solv_script.specs.ScriptLines.{ScriptLine, inline_lines, script_lines}
use Rattle.solv_script.specs.States.{State}
use Rattle.solv_script.specs.declared.scripts.Kinds.{Kinds}
use Rattle.solv_list.proofs.Numbers.{successor_not_zero}
use Rattle.solv_io.specs.JoinedWords.{is_word, joined}
use Rattle.solv_writing.specs.Inner.ReadPackages.{IsKept}
use Rattle.solv_writing.specs.Inner.ReadScripts.{AreReadKinds}
use Rattle.solv_writing.specs.ScriptTexts.{inlined}
use Rattle.solv_writing.specs.Inner.ScriptParts.{kind_names, with_commas}
use Rattle.solv_writing.proofs.ScriptLines.{SoFar, Reads, Goes, Leads, comments, one_row, row_said, command_then, block_is, second_of_each}
use Rattle.solv_io.proofs.WordsAgain.{words_again}

kept : (f : List ℕ → Bool) (x : List ℕ) (xs : List (List ℕ)) → f x ≡ true → filter f (x ∷ xs) ≡ x ∷ filter f xs
kept f x xs h = rw h refl

some_bytes : (c : ℕ) (cs : List ℕ) → not (length (c ∷ cs) == 0) ≡ true
some_bytes c cs = ap not (successor_not_zero (length cs))

-- lines that are kept are expected as they are
expected_again : (lines : List (List ℕ)) → All IsKept lines → expected lines ≡ lines
expected_again [] are = refl
expected_again (line ∷ lines) are =
    let k : IsKept line = All-head IsKept line lines are in
    let f : List ℕ → Bool = λ x. not (length x == 0) in
    let rest : expected lines ≡ lines = expected_again lines (All-tail IsKept line lines are) in
    let some : f line ≡ true = ap f k.is ∙ some_bytes k.first k.rest in
    let first : expected (line ∷ lines) ≡ filter f (line ∷ map trimmed lines) = ap (λ t. filter f (t ∷ map trimmed lines)) k.trim in
    first ∙ kept f line (map trimmed lines) some ∙ ap (λ ls. line ∷ ls) rest

module _ (whole : Held) (p : IsPool whole) (again : HeldIsEntered) (script : List ℕ) where
  -- a line that is followed by a block
  pub block_leads : (w x end : SoFar) (line : List ℕ) (block others : List (List ℕ)) (first : List ℕ) (words : List (List ℕ)) (c : Command) (purpose : Purpose)
      → bytes_eq (take 1 line) (codes "#") ≡ false → ((k : ℕ) → inline_lines k (line ∷ (inlined block ++ others)) ≡ []) → words_of line ≡ first ∷ words
      → ((s : State) → Reads whole p again script w s → is_too_late s first ≡ false) → command first words ≡ Ok c → file_named c ≡ Some (record { purpose = purpose; file = inline })
      → ((s : State) → Reads whole p again script w s → IsOkAnd (plain_row s c) (λ t. (n : ℕ) → IsOkAnd (with_lines purpose t script (enumerate_from n block)) (Reads whole p again script x)))
      → Leads whole p again script x others end → Leads whole p again script w (line ∷ (inlined block ++ others)) end
  block_leads w x end line block others first words c purpose hash closed is early said named reads behind = record {
    goes = λ s r n.
        let l : ScriptLine = record { number = n; text = line; block = inline_lines (n + 1) (inlined block ++ others) } in
        on s l n (plain_row s c) refl (row_said whole p again script s l first words c hash is (early s r) said) (block_is block others behind.closed (n + 1)) (reads s r);
    closed = closed;
  }
    where
      given : (s : State) (l : ScriptLine) (n : ℕ) (t : State) → row script s l ≡ done (with_lines purpose t script (enumerate_from (n + 1) block)) → (q : Result State Bad) → with_lines purpose t script (enumerate_from (n + 1) block) ≡ q
          → IsOkAnd q (Reads whole p again script x) → Goes whole p again script s (l ∷ script_lines (n + 1) (inlined block ++ others)) end
      given s l n t rs (Ok u) e h =
          one_row whole p again script s l (script_lines (n + 1) (inlined block ++ others)) u end (rs ∙ ap done e)
          (comments whole p again script block others u end (λ k. behind.goes u h k) (n + 1))
      given s l n t rs (Err f) e h = absurd h

      on : (s : State) (l : ScriptLine) (n : ℕ) (r : Result State Cause) → plain_row s c ≡ r → row script s l ≡ command_row script s l c → l.block ≡ enumerate_from (n + 1) block
          → IsOkAnd r (λ t. (m : ℕ) → IsOkAnd (with_lines purpose t script (enumerate_from m block)) (Reads whole p again script x))
          → Goes whole p again script s (l ∷ script_lines (n + 1) (inlined block ++ others)) end
      on s l n (Ok t) e rs b h =
          let line_is : row script s l ≡ done (with_lines purpose t script (enumerate_from (n + 1) block))
          = rs ∙ command_then whole p again script s l c t (Some (record { purpose = purpose; file = inline })) e named ∙ ap (λ ls. done (with_lines purpose t script ls)) b in
          given s l n t line_is (with_lines purpose t script (enumerate_from (n + 1) block)) refl (h (n + 1))
      on s l n (Err f) e rs b h = absurd h

  abbrev pub with_result : SoFar → Kinds → Option (List (List ℕ)) → SoFar
  with_result w k lines = record w { kinds = k; wanted = lines }

  -- what is expected, if anything; the kinds were the default before
  pub result_leads : (w end : SoFar) (k : Kinds) (lines : List (List ℕ)) (others : List (List ℕ)) → AreReadKinds k (Some lines) → w.wanted ≡ None
      → Leads whole p again script (with_result w k (Some lines)) others end → Leads whole p again script w (joined (codes "result" ∷ with_commas (kind_names k) ∷ inline ∷ []) ∷ (inlined lines ++ others)) end
  result_leads w end k lines others are none behind =
      block_leads w (with_result w k (Some lines)) end (joined (codes "result" ∷ with_commas (kind_names k) ∷ inline ∷ [])) lines others (codes "result") (with_commas (kind_names k) ∷ inline ∷ [])
      (results (with_commas (kind_names k)) inline) of_result refl (λ i. refl)
      (words_again (codes "result" ∷ with_commas (kind_names k) ∷ inline ∷ []) (and_from (is_word (with_commas (kind_names k))) true are.1 refl)) (λ s r. refl) refl refl
      (λ s r.
      let empty : is_some s.wanted ≡ false = ap (λ (x : SoFar). is_some x.wanted) r.is ∙ ap is_some none in
      rw (empty, are.0) (λ n. record {
        part = r.part;
        is = ap (λ (x : SoFar). with_result x k (Some (expected (map (λ (line : ℕ × List ℕ). line.1) (enumerate_from n lines))))) r.is
            ∙ ap (λ ls. with_result w k (Some (expected ls))) (second_of_each n lines)
            ∙ ap (λ ls. with_result w k (Some ls)) (expected_again lines are.2);
      }))
      behind
