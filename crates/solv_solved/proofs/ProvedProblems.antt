-- The proofs of the problems of an answer.
use Rattle.std.proofs.Common.{ℕ, zero, suc, ◌≡◌, ◌<◌, ◌&&◌, true, nat_lt, None, Some, List, [], ◌∷◌, ◌+◌, length, map, refl, sym, ap, subst, arith}
use Rattle.std.specs.Prelude.{IsSomeAnd, slice_get}
use Rattle.std.specs.List.{enumerate_from, list_all}
use Rattle.std.proofs.lemmas.Bool.{and_parts, and_from}
use Rattle.std.proofs.lemmas.List.{append-nil}
use Rattle.solv_answers.specs.Answers.{IsAnswered, hard_core, request}
use Rattle.solv_answers.specs.declared.answers.Answer.{Answer}
use Rattle.solv_answers.specs.declared.answers.Answer.TheVariants.{Transaction, Problems, Spent}
use Rattle.solv_core.specs.declared.ledger.Ledger.{Ledger}
use Rattle.solv_pool.specs.Prelude.{catalog_of, hard_rules}
use Rattle.solv_pool.specs.declared.tasks.Task.{Task}
use Rattle.solv_proof.specs.Texts.{all_follow, are_listed, comes_after, is_some_list, may_follow, rising}
use Rattle.solv_proof.specs.declared.kinds.Proof.{Proof}
use Rattle.solv_questions.specs.Questions.{Request, rules_of}
use Rattle.solv_remedy.specs.Remedies.{IsGoodList}
use Rattle.solv_remedy.specs.declared.problems.Problem.{Problem}
use Rattle.solv_verdicts.specs.Laws.{AreGoodFor, AreOfRounds, ProblemsAreProved, ProblemsMayBeWritten, proof_of, proofs_of_rounds}
use Rattle.solv_verdicts.specs.Inner.Rounds.{proofs_of}
use Rattle.solv_verdicts.specs.Verdicts.{of_round, verdict_of, verdict_on}
use Rattle.solv_verdicts.specs.declared.verdicts.Verdict.TheVariants.{NoRound, NoRules, NoStep, Yes}
use Rattle.solv_solved.specs.Inner.Proving.{are_proved, is_proved, is_yes}
use Rattle.solv_solved.specs.Proofs.{problems_in}

-- a proof that may follow another may stand alone
alone : (round number : ℕ) (p : Proof) → may_follow round number p ≡ true → are_listed (p ∷ []) ≡ true
alone round number p may =
    let outer = and_parts (nat_lt 0 p.round && nat_lt 0 p.number) (comes_after round number p.round p.number && (is_some_list p.rules && rising p.rules)) may in
    let named = and_parts (nat_lt 0 p.round) (nat_lt 0 p.number) outer.0 in
    let inner = and_parts (comes_after round number p.round p.number) (is_some_list p.rules && rising p.rules) outer.1 in
    rw (named.0, named.1, inner.1) refl

each_alone : (round number : ℕ) (ps : List Proof) → all_follow round number ps ≡ true → list_all (λ p. are_listed (p ∷ [])) ps ≡ true
each_alone round number [] all = refl
each_alone round number (p ∷ ps) all =
    let parts = and_parts (may_follow round number p) (all_follow p.round p.number ps) all in
    and_from (are_listed (p ∷ [])) (list_all (λ q. are_listed (q ∷ [])) ps) (alone round number p parts.0) (each_alone p.round p.number ps parts.1)

each_proved : (task : Task) (ps : List Proof) → list_all (λ p. are_listed (p ∷ [])) ps ≡ true → ((i : ℕ) (p : Proof) → slice_get ps i ≡ Some p → verdict_of (task ∷ []) p ≡ Yes) → list_all (is_proved task) ps ≡ true
each_proved task [] listed said = refl
each_proved task (p ∷ ps) listed each =
    let parts = and_parts (are_listed (p ∷ [])) (list_all (λ q. are_listed (q ∷ [])) ps) listed in
    let said : is_yes (verdict_of (task ∷ []) p) ≡ true = ap is_yes (each 0 p refl) in
    let first : is_proved task p ≡ true = and_from (are_listed (p ∷ [])) (is_yes (verdict_of (task ∷ []) p)) parts.0 said in
    and_from (is_proved task p) (list_all (is_proved task) ps) first (each_proved task ps parts.1 (λ i q e. each (suc i) q e))

-- yes is said over the one task
at_round : (task : Task) (p : Proof) (n : ℕ) → IsSomeAnd (of_round (request task ∷ []) n) (λ r. verdict_on r.catalog (rules_of r) p ≡ Yes)
    → elim (of_round (task ∷ []) n) [ None ↦ NoRound | Some t ↦ verdict_on (catalog_of t) (hard_rules t) p ] ≡ Yes
at_round task p zero said = absurd said
at_round task p (suc zero) said = said
at_round task p (suc (suc n)) said = absurd said

-- good problems of a task are those of the one round
each_good : (task : Task) (problems : List Problem) → IsGoodList (request task) (hard_core task) problems → (i : ℕ) (r : Request) (ps : List Problem) → slice_get (request task ∷ []) i ≡ Some r
    → slice_get (problems ∷ []) i ≡ Some ps → 0 < length ps → AreGoodFor r ps
each_good task problems good zero r ps at there some =
    let here : AreGoodFor (request task) problems = record { core = hard_core task; clauses = refl; good = good } in
    let one : request task ≡ r = cc in
    let all : problems ≡ ps = cc in
    subst (λ (q : Request). AreGoodFor q ps) one (subst (λ (l : List Problem). AreGoodFor (request task) l) all here)
each_good task problems good (suc i) r ps at there some = absurd (cc)

good_proved : ProblemsMayBeWritten → ProblemsAreProved → (task : Task) (problems : List Problem) → IsGoodList (request task) (hard_core task) problems → are_proved task problems ≡ true
good_proved may law task [] good = refl
good_proved may law task (first ∷ others) good =
    let problems : List Problem = first ∷ others in
    let requests : List Request = request task ∷ [] in
    let rounds : List (List Problem) = problems ∷ [] in
    let ps : List Proof = proofs_of 1 problems in
    let of : AreOfRounds requests rounds = record { within = omega arith; each = each_good task problems good } in
    let same : proofs_of_rounds rounds ≡ ps = append-nil ps in
    let listed : are_listed ps ≡ true = subst (λ (l : List Proof). are_listed l ≡ true) same (may requests rounds of (omega arith)) in
    let follow = and_parts (is_some_list ps) (all_follow 0 0 ps) listed in
    each_proved task ps (each_alone 0 0 ps follow.1)
    (λ i p e. at_round task p p.round (law requests rounds of i p (subst (λ (l : List Proof). slice_get l i ≡ Some p) (sym same) e)))

-- the proofs of the problems of an answer, be it what it may
pub proved : ProblemsMayBeWritten → ProblemsAreProved → (task : Task) (budget : ℕ) (answer : Answer) (ledger : Ledger) → IsAnswered task budget answer ledger → are_proved task (problems_in answer) ≡ true
proved may law task budget (Transaction trail set made ordered) ledger is = refl
proved may law task budget (Problems problems) ledger is = good_proved may law task problems is.is.good
proved may law task budget Spent ledger is = refl

-- the proof of the problem at a place may be written, and yes is said of it
proved_at : (task : Task) (n i : ℕ) (problems : List Problem) (problem : Problem) → list_all (is_proved task) (map (λ x. proof_of 1 x.0 x.1) (enumerate_from n problems)) ≡ true → slice_get problems i ≡ Some problem
    → is_proved task (proof_of 1 (n + i) problem) ≡ true
proved_at task n i [] problem all at = absurd (cc)
proved_at task n zero (p ∷ ps) problem all at =
    let parts = and_parts (is_proved task (proof_of 1 n p)) (list_all (is_proved task) (map (λ x. proof_of 1 x.0 x.1) (enumerate_from (n + 1) ps))) all in
    let here : p ≡ problem = cc in
    subst (λ (q : Problem). is_proved task (proof_of 1 (n + 0) q) ≡ true) here (subst (λ (m : ℕ). is_proved task (proof_of 1 m p) ≡ true) (omega arith) parts.0)
proved_at task n (suc i) (p ∷ ps) problem all at =
    let parts = and_parts (is_proved task (proof_of 1 n p)) (list_all (is_proved task) (map (λ x. proof_of 1 x.0 x.1) (enumerate_from (n + 1) ps))) all in
    let next : n + 1 + i ≡ n + suc i = omega arith in
    subst (λ (m : ℕ). is_proved task (proof_of 1 m problem) ≡ true) next (proved_at task (n + 1) i ps problem parts.1 at)

module _ (task : Task) (problems : List Problem) (i : ℕ) (problem : Problem) (all : are_proved task problems ≡ true) (at : slice_get problems i ≡ Some problem) where
  both : (are_listed (proof_of 1 (i + 1) problem ∷ []) ≡ true) × (is_yes (verdict_of (task ∷ []) (proof_of 1 (i + 1) problem)) ≡ true)
  both = and_parts (are_listed (proof_of 1 (i + 1) problem ∷ [])) (is_yes (verdict_of (task ∷ []) (proof_of 1 (i + 1) problem))) (subst (λ (n : ℕ). is_proved task (proof_of 1 n problem) ≡ true) (omega arith) (proved_at task 1 i problems problem all at))

  pub may_be_written : are_listed (proof_of 1 (i + 1) problem ∷ []) ≡ true
  may_be_written = both.0

  pub gets_yes : verdict_of (task ∷ []) (proof_of 1 (i + 1) problem) ≡ Yes
  gets_yes =
      elim (verdict_of (task ∷ []) (proof_of 1 (i + 1) problem)) as (λ v. is_yes v ≡ true → v ≡ Yes) [
        | Yes ↦ λ said. refl
        | NoRound ↦ λ said. absurd (cc)
        | NoRules ↦ λ said. absurd (cc)
        | NoStep n ↦ λ said. absurd (cc)
      ] both.1
