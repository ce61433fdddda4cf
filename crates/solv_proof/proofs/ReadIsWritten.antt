-- A text that is read as some proofs is their text.
use Rattle.std.proofs.Common.{ℕ, ◌≡◌, ◌∙◌, ◌+◌, true, false, Bool, ◌&&◌, List, [], ◌∷◌, ◌++◌, Option, Some, None, refl, sym, ap, append_assoc, append-nil}
use Rattle.std.specs.Prelude.{Result, Ok, Err, codes, map, flat_map, nat_lt, if◌then◌else◌}
use Rattle.std.specs.Fmt.{decimal}
use Rattle.std.specs.List.{list_all}
use Rattle.std.specs.Str.{bytes_eq}
use Rattle.solv_io.specs.Lines.{lines_of, ended_lines}
use Rattle.solv_derive.specs.declared.logs.Step.{Step}
use Rattle.solv_proof.specs.Numbers.{place, count}
use Rattle.solv_proof.specs.Words.{words_between, is_some_word}
use Rattle.solv_io.specs.JoinedWords.{joined}
use Rattle.solv_proof.specs.Texts.{step_words, proof_lines, proof_text, header, rising, is_some_list, comes_after, may_follow, all_follow, are_listed}
use Rattle.solv_proof.specs.Inner.Texts.{rules_words, problem_words}
use Rattle.solv_proof.specs.Reading.{State, taken, named, listed, stepped, ended, all_of, step_of, read_on, read_lines, start, between_proofs, at_line, is_fed}
use Rattle.solv_proof.specs.Laws.{place_fits, step_fits, proof_fits, ReadIsWritten}
use Rattle.solv_proof.specs.declared.kinds.Proof.{Proof}
use Rattle.solv_proof.specs.declared.kinds.NextLine.{NextLine}
use Rattle.solv_proof.specs.declared.kinds.NextLine.TheVariants as due
use Rattle.solv_proof.specs.declared.faults.ProofCause.{ProofCause}
use Rattle.solv_proof.specs.declared.faults.ProofCause.TheVariants.{BadLine, BadOrder, BadHeader, Unfinished}
use Rattle.solv_proof.proofs.Bools.{both, joint}
use Rattle.solv_list.proofs.Lists.{same_bytes}
use Rattle.solv_proof.proofs.WordLaws.{joined_words, ended_of_fed}
use Rattle.solv_proof.proofs.NumberLaws.{place_is, count_is}
use Rattle.solv_proof.proofs.StepLaws.{all_read, step_read}
use Rattle.solv_proof.proofs.WrittenIsRead.{between, opened, stepping}

-- a cause at a line
abbrev bad_at : ℕ → ProofCause → ℕ × ProofCause
bad_at n cause = (n, cause)

-- the lines after one that was taken
abbrev went_on : ℕ → List (List ℕ) → Bool → Result State ProofCause → Result (List Proof) (ℕ × ProofCause)
went_on n lines fed (Ok t) = read_on t (n + 1) lines fed
went_on n lines fed (Err cause) = Err (bad_at (n + 1) cause)

-- lists with equal parts
cons_same : (a b : List ℕ) (ls ms : List (List ℕ)) → a ≡ b → ls ≡ ms → (a ∷ ls) ≡ (b ∷ ms)
cons_same a b ls ms e f = rw (e, f) refl

-- a `problem` line
abbrev IsName : List Proof → ℕ → ℕ → List (List ℕ) → State → Type 0
IsName d r k ws t = (r2 : ℕ) × (k2 : ℕ) × (t ≡ opened d r2 k2) × (ws ≡ problem_words r2 k2) × ((nat_lt 0 r2 && nat_lt 0 k2) ≡ true) × ((place_fits r2 && place_fits k2) ≡ true) × (comes_after r k r2 k2 ≡ true)

name_is : (d : List Proof) (r k : ℕ) (ws : List (List ℕ)) (t : State) → taken (between d r k) ws ≡ Ok t → IsName d r k ws t
name_is d r k [] t h = absurd (cc)
name_is d r k (w ∷ []) t h = absurd (cc)
name_is d r k (w ∷ a ∷ []) t h = absurd (cc)
name_is d r k (w ∷ a ∷ b ∷ c ∷ ws) t h = absurd (cc)
name_is d r k (w ∷ a ∷ b ∷ []) t h =
    elim (bytes_eq w (codes "problem") && (is_some_word a && is_some_word b)) as (λ x. (bytes_eq w (codes "problem") && (is_some_word a && is_some_word b)) ≡ x
    → (if x then named (between d r k) (count a) (count b) else Err BadLine) ≡ Ok t → IsName d r k (w ∷ a ∷ b ∷ []) t) [
      | true ↦ λ e f. of_counts (count a) (count b) refl refl (same_bytes w (codes "problem") (both (bytes_eq w (codes "problem")) (is_some_word a && is_some_word b) e).0) f
      | false ↦ λ e f. absurd (cc)
    ] refl h
  where
    of_order : (r2 k2 : ℕ) → count a ≡ Some r2 → count b ≡ Some k2 → w ≡ codes "problem" → (if comes_after r k r2 k2 then Ok (opened d r2 k2) else Err BadOrder) ≡ Ok t → IsName d r k (w ∷ a ∷ b ∷ []) t
    of_order r2 k2 e f m g = elim (comes_after r k r2 k2) as (λ x. comes_after r k r2 k2 ≡ x → (if x then Ok (opened d r2 k2) else Err BadOrder) ≡ Ok t → IsName d r k (w ∷ a ∷ b ∷ []) t) [
      | true ↦ λ after same.
          let ra = count_is r2 a e in
          let kb = count_is k2 b f in
          let is : opened d r2 k2 ≡ t = cc in
          (r2, k2, sym is, rw (m, ra.0, kb.0) refl, joint (nat_lt 0 r2) (nat_lt 0 k2) ra.2 kb.2, joint (place_fits r2) (place_fits k2) ra.1 kb.1, after)
      | false ↦ λ after same. absurd (cc)
    ] refl g

    of_counts : (x y : Option ℕ) → count a ≡ x → count b ≡ y → w ≡ codes "problem" → named (between d r k) x y ≡ Ok t → IsName d r k (w ∷ a ∷ b ∷ []) t
    of_counts None y e f m g = absurd (cc)
    of_counts (Some r2) None e f m g = absurd (cc)
    of_counts (Some r2) (Some k2) e f m g = of_order r2 k2 e f m g

-- a `rules` line
abbrev IsRules : List Proof → ℕ → ℕ → List (List ℕ) → State → Type 0
IsRules d r k ws t = (rs : List ℕ) × (t ≡ stepping d r k rs []) × (ws ≡ rules_words rs) × ((is_some_list rs && rising rs) ≡ true) × (list_all place_fits rs ≡ true)

rules_are : (d : List Proof) (r k : ℕ) (ws : List (List ℕ)) (t : State) → taken (opened d r k) ws ≡ Ok t → IsRules d r k ws t
rules_are d r k [] t h = absurd (cc)
rules_are d r k (w ∷ ws) t h =
    elim (bytes_eq w (codes "rules")) as (λ x. bytes_eq w (codes "rules") ≡ x → (if x then listed (opened d r k) ws (all_of place ws) else Err BadLine) ≡ Ok t → IsRules d r k (w ∷ ws) t) [
      | true ↦ λ e f. of_places (all_of place ws) refl (same_bytes w (codes "rules") e) f
      | false ↦ λ e f. absurd (cc)
    ] refl h
  where
    of_order : (n : ℕ) (ns : List ℕ) → all_of place ws ≡ Some (n ∷ ns) → w ≡ codes "rules" → (if rising (n ∷ ns) then Ok (stepping d r k (n ∷ ns) []) else Err BadOrder) ≡ Ok t → IsRules d r k (w ∷ ws) t
    of_order n ns e m g = elim (rising (n ∷ ns)) as (λ x. rising (n ∷ ns) ≡ x → (if x then Ok (stepping d r k (n ∷ ns) []) else Err BadOrder) ≡ Ok t → IsRules d r k (w ∷ ws) t) [
      | true ↦ λ up same.
          let is = all_read place decimal place_fits place_is ws (n ∷ ns) e in
          let so : stepping d r k (n ∷ ns) [] ≡ t = cc in
          (n ∷ ns, sym so, rw (m, is.0) refl, up, is.1)
      | false ↦ λ up same. absurd (cc)
    ] refl g

    of_places : (o : Option (List ℕ)) → all_of place ws ≡ o → w ≡ codes "rules" → listed (opened d r k) ws o ≡ Ok t → IsRules d r k (w ∷ ws) t
    of_places None e m g = absurd (cc)
    of_places (Some []) e m g = absurd (cc)
    of_places (Some (n ∷ ns)) e m g = of_order n ns e m g

-- the proof that ends
abbrev made : ℕ → ℕ → List ℕ → List Step → Proof
made r k rs ss = record { round = r; number = k; rules = rs; log = record { steps = ss } }

-- a `step` line or an `end` line
data IsBehind (d : List Proof) (r k : ℕ) (rs : List ℕ) (ss : List Step) (ws : List (List ℕ)) (t : State) : Type 0 where
  a_step : (s : Step) → t ≡ stepping d r k rs (ss ++ s ∷ []) → ws ≡ step_words s → step_fits s ≡ true → IsBehind d r k rs ss ws t
  an_end : t ≡ between (d ++ made r k rs ss ∷ []) r k → ws ≡ codes "end" ∷ [] → IsBehind d r k rs ss ws t

behind_is : (d : List Proof) (r k : ℕ) (rs : List ℕ) (ss : List Step) (ws : List (List ℕ)) (t : State) → taken (stepping d r k rs ss) ws ≡ Ok t → IsBehind d r k rs ss ws t
behind_is d r k rs ss [] t h = absurd (cc)
behind_is d r k rs ss (w ∷ ws) t h =
    elim (bytes_eq w (codes "step")) as (λ x. bytes_eq w (codes "step") ≡ x
    → (if x then stepped (stepping d r k rs ss) ws (step_of ws) else (if bytes_eq w (codes "end") then ended (stepping d r k rs ss) ws else Err BadLine)) ≡ Ok t → IsBehind d r k rs ss (w ∷ ws) t) [
      | true ↦ λ e f. of_step (step_of ws) refl (same_bytes w (codes "step") e) f
      | false ↦ λ e f. of_end f
    ] refl h
  where
    of_step : (o : Option Step) → step_of ws ≡ o → w ≡ codes "step" → stepped (stepping d r k rs ss) ws o ≡ Ok t → IsBehind d r k rs ss (w ∷ ws) t
    of_step None e m g = absurd (cc)
    of_step (Some s) e m g =
        let is = step_read ws s e in
        let so : stepping d r k rs (ss ++ s ∷ []) ≡ t = cc in
        a_step s (sym so) (rw (m, is.0) refl) is.1

    last : (vs : List (List ℕ)) → vs ≡ ws → w ≡ codes "end" → ended (stepping d r k rs ss) vs ≡ Ok t → IsBehind d r k rs ss (w ∷ ws) t
    last [] e m g = let so : between (d ++ made r k rs ss ∷ []) r k ≡ t = cc in an_end (sym so) (rw (m, ← e) refl)
    last (v ∷ vs) e m g = absurd (cc)

    of_end : (if bytes_eq w (codes "end") then ended (stepping d r k rs ss) ws else Err BadLine) ≡ Ok t → IsBehind d r k rs ss (w ∷ ws) t
    of_end f = elim (bytes_eq w (codes "end")) as (λ x. bytes_eq w (codes "end") ≡ x → (if x then ended (stepping d r k rs ss) ws else Err BadLine) ≡ Ok t → IsBehind d r k rs ss (w ∷ ws) t) [
      | true ↦ λ e g. last ws refl (same_bytes w (codes "end") e) g
      | false ↦ λ e g. absurd (cc)
    ] refl f

-- what is left of a text, by what is due
abbrev steps_lines : List Step → List (List ℕ)
steps_lines ss = map (λ s. joined (step_words s)) ss

abbrev LeftProofs : List Proof → ℕ → ℕ → List (List ℕ) → List Proof → Type 0
LeftProofs d r k lines ps = (qs : List Proof) × (ps ≡ d ++ qs) × (lines ≡ flat_map proof_lines qs) × (all_follow r k qs ≡ true) × (list_all proof_fits qs ≡ true)

abbrev LeftSteps : List Proof → ℕ → ℕ → List ℕ → List Step → List (List ℕ) → List Proof → Type 0
LeftSteps d r k rs ss lines ps = (ts : List Step) × (qs : List Proof) × (ps ≡ d ++ (made r k rs (ss ++ ts) ∷ qs)) × (lines ≡ steps_lines ts ++ (codes "end" ∷ flat_map proof_lines qs))
    × (list_all step_fits ts ≡ true) × (all_follow r k qs ≡ true) × (list_all proof_fits qs ≡ true)

abbrev LeftRules : List Proof → ℕ → ℕ → List (List ℕ) → List Proof → Type 0
LeftRules d r k lines ps = (rs : List ℕ) × (ts : List Step) × (qs : List Proof) × (ps ≡ d ++ (made r k rs ts ∷ qs)) × (lines ≡ joined (rules_words rs) ∷ steps_lines ts ++ (codes "end" ∷ flat_map proof_lines qs))
    × ((is_some_list rs && rising rs) ≡ true) × ((list_all place_fits rs && list_all step_fits ts) ≡ true) × (all_follow r k qs ≡ true) × (list_all proof_fits qs ≡ true)

abbrev state_at : NextLine → List Proof → ℕ → ℕ → List ℕ → List Step → State
state_at due.Problem d r k rs ss = between d r k
state_at due.Rules d r k rs ss = opened d r k
state_at due.Steps d r k rs ss = stepping d r k rs ss

abbrev Left : NextLine → List Proof → ℕ → ℕ → List ℕ → List Step → List (List ℕ) → List Proof → Type 0
Left due.Problem d r k rs ss lines ps = LeftProofs d r k lines ps
Left due.Rules d r k rs ss lines ps = LeftRules d r k lines ps
Left due.Steps d r k rs ss lines ps = LeftSteps d r k rs ss lines ps

-- a line is the words that it was taken as
line_is : (line : List ℕ) (ws : List (List ℕ)) → words_between line ≡ ws → line ≡ joined ws
line_is line ws e = sym (joined_words line) ∙ ap joined e

module _ (fed : Bool) (ps : List Proof) (line : List ℕ) (lines : List (List ℕ))
    (again : (u : NextLine) (d : List Proof) (r k : ℕ) (rs : List ℕ) (ss : List Step) (n : ℕ) → read_on (state_at u d r k rs ss) n lines fed ≡ Ok ps → Left u d r k rs ss lines ps) where
  name_left : (d : List Proof) (r k n : ℕ) (t : State) → IsName d r k (words_between line) t → read_on t n lines fed ≡ Ok ps → LeftProofs d r k (line ∷ lines) ps
  name_left d r k n t name h =
      let r2 = name.0 in
      let k2 = name.1 in
      let so : read_on (opened d r2 k2) n lines fed ≡ Ok ps = rw (← name.2) h in
      let left = again due.Rules d r2 k2 [] [] n so in
      let rs = left.0 in
      let ts = left.1 in
      let qs = left.2 in
      let order = joint (comes_after r k r2 k2) (is_some_list rs && rising rs) name.6 left.5 in
      let follow = joint (nat_lt 0 r2 && nat_lt 0 k2) (comes_after r k r2 k2 && (is_some_list rs && rising rs)) name.4 order in
      let fits = joint (place_fits r2 && place_fits k2) (list_all place_fits rs && list_all step_fits ts) name.5 left.6 in
      let text : (line ∷ lines) ≡ joined (problem_words r2 k2) ∷ joined (rules_words rs) ∷ steps_lines ts ++ (codes "end" ∷ flat_map proof_lines qs) = cons_same line (joined (problem_words r2 k2)) lines (joined (rules_words rs) ∷ steps_lines ts ++ (codes "end" ∷ flat_map proof_lines qs)) (line_is line (problem_words r2 k2) name.3) left.4 in (
        made r2 k2 rs ts ∷ qs,
        left.3,
        text ∙ ap (λ l. joined (problem_words r2 k2) ∷ joined (rules_words rs) ∷ l) (sym (append_assoc (steps_lines ts) (codes "end" ∷ []) (flat_map proof_lines qs))),
        joint (may_follow r k (made r2 k2 rs ts)) (all_follow r2 k2 qs) follow left.7,
        joint (proof_fits (made r2 k2 rs ts)) (list_all proof_fits qs) fits left.8,
      )

  rules_left : (d : List Proof) (r k n : ℕ) (t : State) → IsRules d r k (words_between line) t → read_on t n lines fed ≡ Ok ps → LeftRules d r k (line ∷ lines) ps
  rules_left d r k n t rules h =
      let rs = rules.0 in
      let so : read_on (stepping d r k rs []) n lines fed ≡ Ok ps = rw (← rules.1) h in
      let left = again due.Steps d r k rs [] n so in
      (rs, left.0, left.1, left.2, cons_same line (joined (rules_words rs)) lines (steps_lines left.0 ++ (codes "end" ∷ flat_map proof_lines left.1)) (line_is line (rules_words rs) rules.2) left.3, rules.3, joint (list_all place_fits rs) (list_all step_fits left.0) rules.4 left.4, left.5, left.6)

  steps_left : (d : List Proof) (r k : ℕ) (rs : List ℕ) (ss : List Step) (n : ℕ) (t : State) → IsBehind d r k rs ss (words_between line) t → read_on t n lines fed ≡ Ok ps → LeftSteps d r k rs ss (line ∷ lines) ps
  steps_left d r k rs ss n t (a_step s e w f) h =
      let so : read_on (stepping d r k rs (ss ++ s ∷ [])) n lines fed ≡ Ok ps = rw (← e) h in
      let left = again due.Steps d r k rs (ss ++ s ∷ []) n so in
      (s ∷ left.0, left.1, left.2 ∙ ap (λ l. d ++ (made r k rs l ∷ left.1)) (append_assoc ss (s ∷ []) left.0), cons_same line (joined (step_words s)) lines (steps_lines left.0 ++ (codes "end" ∷ flat_map proof_lines left.1)) (line_is line (step_words s) w) left.3, joint (step_fits s) (list_all step_fits left.0) f left.4, left.5, left.6)
  steps_left d r k rs ss n t (an_end e w) h =
      let so : read_on (between (d ++ made r k rs ss ∷ []) r k) n lines fed ≡ Ok ps = rw (← e) h in
      let left = again due.Problem (d ++ made r k rs ss ∷ []) r k [] [] n so in
      ([], left.0, left.1 ∙ append_assoc d (made r k rs ss ∷ []) left.0 ∙ ap (λ l. d ++ (made r k rs l ∷ left.0)) (sym (append-nil ss)), cons_same line (codes "end") lines (flat_map proof_lines left.0) (line_is line (codes "end" ∷ []) w) left.2, refl, left.3, left.4)

  one_left : (u : NextLine) (d : List Proof) (r k : ℕ) (rs : List ℕ) (ss : List Step) (n : ℕ) (o : Result State ProofCause) → taken (state_at u d r k rs ss) (words_between line) ≡ o
      → went_on n lines fed o ≡ Ok ps → Left u d r k rs ss (line ∷ lines) ps
  one_left u d r k rs ss n (Err cause) e h = absurd (cc)
  one_left due.Problem d r k rs ss n (Ok t) e h = name_left d r k (n + 1) t (name_is d r k (words_between line) t e) h
  one_left due.Rules d r k rs ss n (Ok t) e h = rules_left d r k (n + 1) t (rules_are d r k (words_between line) t e) h
  one_left due.Steps d r k rs ss n (Ok t) e h = steps_left d r k rs ss (n + 1) t (behind_is d r k rs ss (words_between line) t e) h

-- the end of the text
done_left : (d : List Proof) (r k n : ℕ) (fed : Bool) (ps : List Proof) → at_line n (between_proofs d fed) ≡ Ok ps → LeftProofs d r k [] ps
done_left [] r k n fed ps h = absurd (cc)
done_left (q ∷ d) r k n false ps h = absurd (cc)
done_left (q ∷ d) r k n true ps h = let so : q ∷ d ≡ ps = cc in ([], sym so ∙ sym (append-nil (q ∷ d)), refl, refl, refl)

left_is : (fed : Bool) (ps : List Proof) (lines : List (List ℕ)) (u : NextLine) (d : List Proof) (r k : ℕ) (rs : List ℕ) (ss : List Step) (n : ℕ) → read_on (state_at u d r k rs ss) n lines fed ≡ Ok ps
    → Left u d r k rs ss lines ps
left_is fed ps [] due.Problem d r k rs ss n h = done_left d r k n fed ps h
left_is fed ps [] due.Rules d r k rs ss n h = absurd (cc)
left_is fed ps [] due.Steps d r k rs ss n h = absurd (cc)
left_is fed ps (line ∷ lines) u d r k rs ss n h = one_left fed ps line lines (λ u2 d2 r2 k2 rs2 ss2 n2 g. left_is fed ps lines u2 d2 r2 k2 rs2 ss2 n2 g) u d r k rs ss n (taken (state_at u d r k rs ss) (words_between line)) refl h

-- the text ends with a line feed, and has a proof
end_fed : (d : List Proof) (n : ℕ) (fed : Bool) (ps : List Proof) → at_line n (between_proofs d fed) ≡ Ok ps → (fed ≡ true) × (is_some_list ps ≡ true)
end_fed [] n fed ps h = absurd (cc)
end_fed (q ∷ d) n false ps h = absurd (cc)
end_fed (q ∷ d) n true ps h = let so : q ∷ d ≡ ps = cc in (refl, rw (← so) refl)

ending_fed : (s : State) (u : NextLine) → s.due ≡ u → (n : ℕ) (fed : Bool) (ps : List Proof)
    → at_line n (elim u [ due.Problem ↦ between_proofs s.done fed | due.Rules ↦ Err Unfinished | due.Steps ↦ Err Unfinished ]) ≡ Ok ps → (fed ≡ true) × (is_some_list ps ≡ true)
ending_fed s due.Problem e n fed ps h = end_fed s.done n fed ps h
ending_fed s due.Rules e n fed ps h = absurd (cc)
ending_fed s due.Steps e n fed ps h = absurd (cc)

fed_is : (s : State) (n : ℕ) (lines : List (List ℕ)) (fed : Bool) (ps : List Proof) → read_on s n lines fed ≡ Ok ps → (fed ≡ true) × (is_some_list ps ≡ true)
fed_is s n [] fed ps h = ending_fed s s.due refl n fed ps h
fed_is s n (line ∷ lines) fed ps h = next (taken s (words_between line)) (λ t g. fed_is t (n + 1) lines fed ps g) h
  where
    next : (o : Result State ProofCause) → ((t : State) → read_on t (n + 1) lines fed ≡ Ok ps → (fed ≡ true) × (is_some_list ps ≡ true))
        → went_on n lines fed o ≡ Ok ps → (fed ≡ true) × (is_some_list ps ≡ true)
    next (Ok t) again g = again t g
    next (Err cause) again g = absurd (cc)

pub read_written : ReadIsWritten
read_written text ps h = of_lines (lines_of text) refl h
  where
    behind_header : (line : List ℕ) (lines : List (List ℕ)) → lines_of text ≡ line ∷ lines → line ≡ header → read_on start 1 lines (is_fed text) ≡ Ok ps
        → (text ≡ proof_text ps) × (are_listed ps ≡ true) × (list_all proof_fits ps ≡ true)
    behind_header line lines e m g =
        let ends = fed_is start 1 lines (is_fed text) ps g in
        let left = left_is (is_fed text) ps lines due.Problem [] 0 0 [] [] 1 g in
        let same : ps ≡ left.0 = left.1 in
        let all : lines_of text ≡ header ∷ flat_map proof_lines ps = e ∙ cons_same line header lines (flat_map proof_lines ps) m (left.2 ∙ ap (λ l. flat_map proof_lines l) (sym same)) in
        (sym (ended_of_fed text ends.0) ∙ ap ended_lines all, joint (is_some_list ps) (all_follow 0 0 ps) ends.1 (ap (all_follow 0 0) same ∙ left.3), ap (list_all proof_fits) same ∙ left.4)

    of_lines : (lines : List (List ℕ)) → lines_of text ≡ lines → read_lines lines (is_fed text) ≡ Ok ps → (text ≡ proof_text ps) × (are_listed ps ≡ true) × (list_all proof_fits ps ≡ true)
    of_lines [] e g = absurd (cc)
    of_lines (line ∷ lines) e g = elim (bytes_eq line header) as (λ x. bytes_eq line header ≡ x → (if x then read_on start 1 lines (is_fed text) else Err (1, BadHeader)) ≡ Ok ps
        → (text ≡ proof_text ps) × (are_listed ps ≡ true) × (list_all proof_fits ps ≡ true)) [
          | true ↦ λ m f. behind_header line lines e (same_bytes line header m) f
          | false ↦ λ m f. absurd (cc)
        ] refl g
