-- Lines put piece by piece.
use Rattle.std.proofs.Common.{◌≡◌, ℕ, List, [], ◌∷◌, ◌++◌, sym, ap, ◌∙◌, append_assoc, append-nil}
use Rattle.std.specs.Prelude.{codes}
use Rattle.solv_io.specs.Lines.{ended_lines}
use Rattle.solv_script.specs.declared.scripts.Round.{Round}
use Rattle.solv_writing.specs.Inner.RoundTexts.{later_text, round_text}
use Rattle.solv_io.proofs.WrittenLines.{ended_lines-append}

-- a line put in three pieces
pub line_put : (l0 l1 l2 l3 front text : List ℕ) → l1 ≡ l0 ++ front → l2 ≡ l1 ++ 32 ∷ text → l3 ≡ l2 ++ 10 ∷ [] → l3 ≡ l0 ++ (front ++ 32 ∷ ((text ++ []) ++ 10 ∷ []))
line_put l0 l1 l2 l3 front text e1 e2 e3 =
    e3 ∙ ap (λ l. l ++ 10 ∷ []) (e2 ∙ ap (λ l. l ++ 32 ∷ text) e1)
    ∙ ap (λ l. l ++ 10 ∷ []) (append_assoc l0 front (32 ∷ text)) ∙ append_assoc l0 (front ++ 32 ∷ text) (10 ∷ [])
    ∙ ap (λ l. l0 ++ l) (append_assoc front (32 ∷ text) (10 ∷ []))
    ∙ ap (λ t. l0 ++ (front ++ 32 ∷ (t ++ 10 ∷ []))) (sym (append-nil text))

-- a line, and two blocks of lines
pub round_put : (line : List ℕ) (jobs results : List (List ℕ)) (l0 l1 l2 l3 : List ℕ) → l1 ≡ l0 ++ (line ++ 10 ∷ []) → l2 ≡ l1 ++ ended_lines jobs → l3 ≡ l2 ++ ended_lines results → l3 ≡ l0 ++ ended_lines (line ∷ (jobs ++ results))
round_put line jobs results l0 l1 l2 l3 e1 e2 e3 =
    e3 ∙ ap (λ l. l ++ ended_lines results) (e2 ∙ ap (λ l. l ++ ended_lines jobs) e1)
    ∙ append_assoc (l0 ++ (line ++ 10 ∷ [])) (ended_lines jobs) (ended_lines results) ∙ append_assoc l0 (line ++ 10 ∷ []) (ended_lines jobs ++ ended_lines results)
    ∙ ap (λ l. l0 ++ l) (append_assoc line (10 ∷ []) (ended_lines jobs ++ ended_lines results))
    ∙ ap (λ l. l0 ++ (line ++ 10 ∷ l)) (sym (ended_lines-append jobs results))

-- one round more
pub round_turn : (r : Round) (rounds rest : List Round) (old new whole : List ℕ) → rounds ≡ r ∷ rest → new ≡ old ++ ended_lines (codes "nextjob" ∷ round_text r) → old ++ ended_lines (later_text rounds) ≡ whole
    → new ++ ended_lines (later_text rest) ≡ whole
round_turn r rounds rest old new whole is put before =
    let first : List (List ℕ) = codes "nextjob" ∷ round_text r in
    let here : ended_lines (later_text rounds) ≡ ended_lines first ++ ended_lines (later_text rest) = ap (λ rs. ended_lines (later_text rs)) is ∙ ended_lines-append first (later_text rest) in
    ap (λ l. l ++ ended_lines (later_text rest)) put ∙ append_assoc old (ended_lines first) (ended_lines (later_text rest)) ∙ ap (λ l. old ++ l) (sym here) ∙ before
