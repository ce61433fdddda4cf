-- A script put part by part.
use Rattle.std.proofs.Common.{◌≡◌, ℕ, List, [], ◌∷◌, ◌++◌, map, length, sym, ap, ◌∙◌, append_assoc}
use Rattle.std.specs.Prelude.{codes}
use Rattle.solv_io.specs.JoinedWords.{joined}
use Rattle.solv_io.specs.Lines.{ended_lines}
use Rattle.solv_deps.specs.Canonical.{comparison_text}
use Rattle.solv_pool.specs.Prelude.{written_package, written_repo, written_task}
use Rattle.solv_pool.specs.declared.tasks.Task.{Task}
use Rattle.solv_script.specs.Reads.{written_script}
use Rattle.solv_script.specs.Rounds as rounds
use Rattle.solv_script.specs.declared.scripts.EvrCheck.{EvrCheck}
use Rattle.solv_script.specs.declared.scripts.Script.{Script}
use Rattle.solv_writing.specs.Inner.ByIds.{disabled_texts, namespace_text, system_text}
use Rattle.solv_writing.specs.Inner.RoundTexts.{later_text, round_text}
use Rattle.solv_writing.specs.Inner.ScriptParts.{first_round, repositories_from, round_lines, text_in_parts, universe_lines}
use Rattle.solv_writing.specs.Inner.LineNames.{check_line, later_lines}
use Rattle.solv_writing.proofs.ByTexts.{checks_are, disabled_are, later_are, namespaces_are, round_is, system_is}
use Rattle.solv_io.proofs.WrittenLines.{ended_lines-append}

-- four parts one after another
four_put : (p1 p2 p3 p4 : List (List ℕ)) (l0 l1 l2 l3 l4 : List ℕ) → l1 ≡ l0 ++ ended_lines p1 → l2 ≡ l1 ++ ended_lines p2 → l3 ≡ l2 ++ ended_lines p3 → l4 ≡ l3 ++ ended_lines p4
    → l4 ≡ l0 ++ ended_lines (p1 ++ (p2 ++ (p3 ++ p4)))
four_put p1 p2 p3 p4 l0 l1 l2 l3 l4 e1 e2 e3 e4 =
    let a = ended_lines p1 in
    let b = ended_lines p2 in
    let c = ended_lines p3 in
    let d = ended_lines p4 in
    let whole : ended_lines (p1 ++ (p2 ++ (p3 ++ p4))) ≡ a ++ (b ++ (c ++ d)) =
    ended_lines-append p1 (p2 ++ (p3 ++ p4)) ∙ ap (λ l. a ++ l) (ended_lines-append p2 (p3 ++ p4) ∙ ap (λ l. b ++ l) (ended_lines-append p3 p4)) in
    e4 ∙ ap (λ l. l ++ d) (e3 ∙ ap (λ l. l ++ c) (e2 ∙ ap (λ l. l ++ b) e1))
    ∙ append_assoc ((l0 ++ a) ++ b) c d ∙ append_assoc (l0 ++ a) b (c ++ d) ∙ append_assoc l0 a (b ++ (c ++ d)) ∙ ap (λ l. l0 ++ l) (sym whole)

pub universe_put : (task : Task) (l0 l1 l2 l3 l4 : List ℕ) → length task.universe.disabled ≡ length task.universe.packages
    → l1 ≡ l0 ++ ended_lines (repositories_from 0 (map (written_repo task.pool) task.universe.repos) (map (written_package task.pool) task.universe.packages))
    → l2 ≡ l1 ++ ended_lines (system_text task.pool task.universe task.universe.arch)
    → l3 ≡ l2 ++ ended_lines (disabled_texts task.pool task.universe 1 task.universe.disabled)
    → l4 ≡ l3 ++ ended_lines (map (namespace_text task.pool task.universe) task.namespaces)
    → l4 ≡ l0 ++ ended_lines (universe_lines (written_task task))
universe_put task l0 l1 l2 l3 l4 marks e1 e2 e3 e4 =
    four_put _ _ _ _ l0 l1 l2 l3 l4 e1 (e2 ∙ ap (λ lines. l1 ++ ended_lines lines) (system_is task task.universe.arch)) (e3 ∙ ap (λ lines. l2 ++ ended_lines lines) (disabled_are task marks))
    (e4 ∙ ap (λ lines. l3 ++ ended_lines lines) (namespaces_are task task.namespaces))

pub script_put : (script : Script) (l0 l1 l2 l3 l4 : List ℕ) → l0 ≡ []
    → l1 ≡ l0 ++ ended_lines (universe_lines (written_task script.task))
    → l2 ≡ l1 ++ ended_lines (map (λ (check : EvrCheck). joined (codes "evrcmp" ∷ check.left ∷ comparison_text check.op ∷ check.right ∷ [])) script.checks)
    → l3 ≡ l2 ++ ended_lines (round_text (rounds.first_round script))
    → l4 ≡ l3 ++ ended_lines (later_text script.later)
    → l4 ≡ text_in_parts (written_script script)
script_put script l0 l1 l2 l3 l4 none e1 e2 e3 e4 =
    let w = written_script script in
    four_put (universe_lines w.task) (map check_line w.checks) (round_lines (first_round w)) (later_lines w.later) l0 l1 l2 l3 l4 e1 (e2 ∙ ap (λ lines. l1 ++ ended_lines lines) (checks_are script.checks))
    (e3 ∙ ap (λ lines. l2 ++ ended_lines lines) (round_is script.task.pool (rounds.first_round script)))
    (e4 ∙ ap (λ lines. l3 ++ ended_lines lines) (later_are script.task.pool script.later))
    ∙ ap (λ l. l ++ text_in_parts w) none
