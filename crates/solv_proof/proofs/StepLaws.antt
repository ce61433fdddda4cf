-- Lists of words, written and read.
use Rattle.std.proofs.Common.{ℕ, ◌≡◌, ◌∙◌, true, false, Bool, List, [], ◌∷◌, ◌++◌, Option, Some, None, refl, ap}
use Rattle.std.specs.Prelude.{ℤ, codes, map, if◌then◌else◌}
use Rattle.std.specs.Fmt.{signed_decimal}
use Rattle.std.specs.List.{list_all}
use Rattle.std.specs.Option.{option_map}
use Rattle.std.proofs.lemmas.List.Folds.{list_all-append}
use Rattle.solv_derive.specs.declared.logs.Hint.{Hint}
use Rattle.solv_derive.specs.declared.logs.Step.{Step}
use Rattle.solv_proof.specs.Numbers.{literal, hint_of, hint_word}
use Rattle.solv_proof.specs.Reading.{all_of, is_zero, clause_of, with_hints, step_of}
use Rattle.solv_proof.specs.Laws.{literal_fits, hint_fits, step_fits}
use Rattle.solv_proof.proofs.Bools.{both, joint}
use Rattle.solv_list.proofs.Lists.{same_bytes}
use Rattle.solv_proof.proofs.NumberLaws.{literal_decimal, literal_is, literal_not_zero, literal_word, hint_decimal, hint_is, hint_word_inside}
use Rattle.solv_proof.proofs.WordLaws.{is_unspaced}

module _ {T : Type 0} (read : List ℕ → Option T) (write : T → List ℕ) (fits : T → Bool) where
  -- what each element writes reads as the elements
  pub all_written : ((x : T) → fits x ≡ true → read (write x) ≡ Some x) → (xs : List T) → list_all fits xs ≡ true → all_of read (map write xs) ≡ Some xs
  all_written each [] h = refl
  all_written each (x ∷ xs) h = let cut = both (fits x) (list_all fits xs) h in rw (each x cut.0, all_written each xs cut.1) refl

  -- words that all read are what the elements write
  pub all_read : ((x : T) (w : List ℕ) → read w ≡ Some x → (w ≡ write x) × (fits x ≡ true)) → (ws : List (List ℕ)) (xs : List T) → all_of read ws ≡ Some xs
      → (ws ≡ map write xs) × (list_all fits xs ≡ true)
  all_read each [] [] h = (refl, refl)
  all_read each [] (x ∷ xs) h = absurd (cc)
  all_read each (w ∷ ws) xs h = first (λ ys g. all_read each ws ys g) (read w) refl h
    where
      others : (x : T) (ys : List T) → read w ≡ Some x → (ws ≡ map write ys) × (list_all fits ys ≡ true) → x ∷ ys ≡ xs → ((w ∷ ws) ≡ map write xs) × (list_all fits xs ≡ true)
      others x ys e rest same = let is = each x w e in rw (← same) (rw (is.0, rest.0) refl, joint (fits x) (list_all fits ys) is.1 rest.1)

      behind : (x : T) (o : Option (List T)) → ((ys : List T) → o ≡ Some ys → (ws ≡ map write ys) × (list_all fits ys ≡ true)) → read w ≡ Some x → option_map (λ ys. x ∷ ys) o ≡ Some xs
          → ((w ∷ ws) ≡ map write xs) × (list_all fits xs ≡ true)
      behind x None again e f = absurd (cc)
      behind x (Some ys) again e f = let same : x ∷ ys ≡ xs = cc in others x ys e (again ys refl) same

      first : ((ys : List T) → all_of read ws ≡ Some ys → (ws ≡ map write ys) × (list_all fits ys ≡ true)) → (o : Option T) → read w ≡ o
          → elim o [ None ↦ None | Some x ↦ option_map (λ ys. x ∷ ys) (all_of read ws) ] ≡ Some xs → ((w ∷ ws) ≡ map write xs) × (list_all fits xs ≡ true)
      first again None e f = absurd (cc)
      first again (Some x) e f = behind x (all_of read ws) again e f

-- words of elements have neither spaces nor line feeds
pub all_words : {T : Type 0} (write : T → List ℕ) (fits : T → Bool) → ((x : T) → fits x ≡ true → is_unspaced (write x) ≡ true) → (xs : List T) → list_all fits xs ≡ true
    → list_all is_unspaced (map write xs) ≡ true
all_words write fits each [] h = refl
all_words write fits each (x ∷ xs) h = let cut = both (fits x) (list_all fits xs) h in rw (each x cut.0, all_words write fits each xs cut.1) refl

-- literals and the words after them
abbrev cut_of : List ℤ → List (List ℕ) → List ℤ × List (List ℕ)
cut_of clause behind = (clause, behind)

-- the literals of a step's line
pub clause_written : (clause : List ℤ) (words : List (List ℕ)) → list_all literal_fits clause ≡ true → clause_of (map signed_decimal clause ++ (codes "0" ∷ words)) ≡ Some (cut_of clause words)
clause_written [] words h = refl
clause_written (l ∷ ls) words h =
    let cut = both (literal_fits l) (list_all literal_fits ls) h in
    let is = literal_decimal l cut.0 in
    rw (literal_not_zero (signed_decimal l) l is, is, clause_written ls words cut.1) refl

pub clause_read : (ws : List (List ℕ)) (clause : List ℤ) (behind : List (List ℕ)) → clause_of ws ≡ Some (cut_of clause behind)
    → (ws ≡ map signed_decimal clause ++ (codes "0" ∷ behind)) × (list_all literal_fits clause ≡ true)
clause_read [] clause behind h = absurd (cc)
clause_read (w ∷ ws) clause behind h = elim (is_zero w) as (λ b. is_zero w ≡ b
    → (if b then Some ([], ws) else elim (literal w) [ None ↦ None | Some l ↦ option_map (λ cut. cut_of (l ∷ cut.0) cut.1) (clause_of ws) ]) ≡ Some (cut_of clause behind)
    → ((w ∷ ws) ≡ map signed_decimal clause ++ (codes "0" ∷ behind)) × (list_all literal_fits clause ≡ true)) [
      | true ↦ λ e f. ended (same_bytes w (codes "0") e) (left ([], ws) (clause, behind) f)
      | false ↦ λ e f. first (λ ls rest g. clause_read ws ls rest g) (literal w) refl f
    ] refl h
  where
    left : (a b : List ℤ × List (List ℕ)) → Some a ≡ Some b → a ≡ b
    left a b e = cc

    ended : w ≡ codes "0" → cut_of [] ws ≡ cut_of clause behind → ((w ∷ ws) ≡ map signed_decimal clause ++ (codes "0" ∷ behind)) × (list_all literal_fits clause ≡ true)
    ended e f =
        let c : [] ≡ clause = ap (λ p. p.0) f in
        let b : ws ≡ behind = ap (λ p. p.1) f in
        rw (← c, ← b, e) (refl, refl)

    others : (l : ℤ) (ls : List ℤ) (rest : List (List ℕ)) → literal w ≡ Some l → (ws ≡ map signed_decimal ls ++ (codes "0" ∷ rest)) × (list_all literal_fits ls ≡ true) → cut_of (l ∷ ls) rest ≡ cut_of clause behind
        → ((w ∷ ws) ≡ map signed_decimal clause ++ (codes "0" ∷ behind)) × (list_all literal_fits clause ≡ true)
    others l ls rest e g f =
        let is = literal_is l w e in
        let c : l ∷ ls ≡ clause = ap (λ p. p.0) f in
        let b : rest ≡ behind = ap (λ p. p.1) f in
        rw (← c, ← b) (rw (is.0, g.0) refl, joint (literal_fits l) (list_all literal_fits ls) is.1 g.1)

    later : (l : ℤ) (o : Option (List ℤ × List (List ℕ)))
        → ((ls : List ℤ) (rest : List (List ℕ)) → o ≡ Some (cut_of ls rest) → (ws ≡ map signed_decimal ls ++ (codes "0" ∷ rest)) × (list_all literal_fits ls ≡ true))
        → literal w ≡ Some l → option_map (λ cut. cut_of (l ∷ cut.0) cut.1) o ≡ Some (cut_of clause behind)
        → ((w ∷ ws) ≡ map signed_decimal clause ++ (codes "0" ∷ behind)) × (list_all literal_fits clause ≡ true)
    later l None again e f = absurd (cc)
    later l (Some cut) again e f = others l cut.0 cut.1 e (again cut.0 cut.1 refl) (left (cut_of (l ∷ cut.0) cut.1) (cut_of clause behind) f)

    first : ((ls : List ℤ) (rest : List (List ℕ)) → clause_of ws ≡ Some (cut_of ls rest) → (ws ≡ map signed_decimal ls ++ (codes "0" ∷ rest)) × (list_all literal_fits ls ≡ true))
        → (o : Option ℤ) → literal w ≡ o → elim o [ None ↦ None | Some l ↦ option_map (λ cut. cut_of (l ∷ cut.0) cut.1) (clause_of ws) ] ≡ Some (cut_of clause behind)
        → ((w ∷ ws) ≡ map signed_decimal clause ++ (codes "0" ∷ behind)) × (list_all literal_fits clause ≡ true)
    first again None e f = absurd (cc)
    first again (Some l) e f = later l (clause_of ws) again e f

-- the words after `step`
abbrev pub behind_step : Step → List (List ℕ)
behind_step s = map signed_decimal s.clause ++ (codes "0" ∷ map hint_word s.hints)

pub step_written : (s : Step) → step_fits s ≡ true → step_of (behind_step s) ≡ Some s
step_written s h =
    let cut = both (list_all literal_fits s.clause) (list_all hint_fits s.hints) h in
    rw (clause_written s.clause (map hint_word s.hints) cut.0, all_written hint_of hint_word hint_fits hint_decimal s.hints cut.1) refl

pub step_read : (ws : List (List ℕ)) (s : Step) → step_of ws ≡ Some s → (ws ≡ behind_step s) × (step_fits s ≡ true)
step_read ws s h = of_clause (clause_of ws) refl h
  where
    of_hints : (clause : List ℤ) (behind : List (List ℕ)) (o : Option (List Hint)) → clause_of ws ≡ Some (cut_of clause behind) → all_of hint_of behind ≡ o
        → option_map (λ hints. record { clause = clause; hints = hints }) o ≡ Some s → (ws ≡ behind_step s) × (step_fits s ≡ true)
    of_hints clause behind None e f g = absurd (cc)
    of_hints clause behind (Some hints) e f g =
        let c = clause_read ws clause behind e in
        let hs = all_read hint_of hint_word hint_fits hint_is behind hints f in
        let same : record { clause = clause; hints = hints } ≡ s = cc in
        rw (← same) (c.0 ∙ ap (λ b. map signed_decimal clause ++ (codes "0" ∷ b)) hs.0, joint (list_all literal_fits clause) (list_all hint_fits hints) c.1 hs.1)

    of_clause : (o : Option (List ℤ × List (List ℕ))) → clause_of ws ≡ o → with_hints o ≡ Some s → (ws ≡ behind_step s) × (step_fits s ≡ true)
    of_clause None e f = absurd (cc)
    of_clause (Some cut) e f = of_hints cut.0 cut.1 (all_of hint_of cut.1) e refl f

pub step_line_words : (s : Step) → step_fits s ≡ true → list_all is_unspaced (behind_step s) ≡ true
step_line_words s h =
    let cut = both (list_all literal_fits s.clause) (list_all hint_fits s.hints) h in
    rw (
      list_all-append is_unspaced (map signed_decimal s.clause) (codes "0" ∷ map hint_word s.hints),
      all_words signed_decimal literal_fits literal_word s.clause cut.0,
      all_words hint_word hint_fits hint_word_inside s.hints cut.1,
    ) refl
