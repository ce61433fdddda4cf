-- The first rules of a list: their clauses, owners, spans and faults stand first.
use Rattle.std.proofs.Common.{◌≡◌, ◌+◌, ◌≤◌, inl, inr, ℕ, zero, suc, ℤ, List, [], ◌∷◌, ◌++◌, length, map, replicate, Option, Some, None, refl, sym, ap, subst, ◌∙◌, append_assoc, length-append, arith}
use Rattle.std.specs.Prelude.{flat_map, take, drop}
use Rattle.std.proofs.lemmas.List.{drop-map, length-replicate, length-take-le}
use Rattle.std.proofs.Math.Seq.{drop-append_seam}
use Rattle.solv_pool.specs.Prelude.{Catalog, rule_clauses, words_of_all, HardRule}
use Rattle.solv_pool.specs.declared.hard_rules.Rule.{Rule}
use Rattle.solv_rules.specs.Books.{first_fault, owners_from, spans_from, IsDue}
use Rattle.solv_rules.specs.Inner.Books.{or_else, rule_fault}
use Rattle.solv_rules.specs.Inner.Drafting.{HasRules, IsBegun, IsDraft, IsFront, clauses_before}
use Rattle.solv_rules.specs.declared.drafts.Draft.{Draft}
use Rattle.solv_rules.specs.declared.fault.BookFault.{BookFault}
use Rattle.solv_rules.proofs.Bookkeeping.{AreLeft}
use Rattle.solv_rules.proofs.Taking.{words_append}

pub take_front : {A : Type 0} (xs ys : List A) → take (length xs) (xs ++ ys) ≡ xs
take_front [] ys = refl
take_front (x ∷ xs) ys = ap (λ t. x ∷ t) (take_front xs ys)

pub both_parts : {A : Type 0} (n : ℕ) (xs : List A) → take n xs ++ drop n xs ≡ xs
both_parts zero xs = refl
both_parts (suc n) [] = refl
both_parts (suc n) (x ∷ xs) = ap (λ t. x ∷ t) (both_parts n xs)

-- the words of both parts
pub words_parts : (n : ℕ) (cs : List (List ℤ)) → words_of_all cs ≡ words_of_all (take n cs) + words_of_all (drop n cs)
words_parts n cs = ap words_of_all (sym (both_parts n cs)) ∙ words_append (take n cs) (drop n cs)

pub neither_fault : (a b : Option BookFault) → or_else a b ≡ None → (a ≡ None) × (b ≡ None)
neither_fault None b h = (refl, h)
neither_fault (Some fault) b h = absurd (cc)

-- a fault, or else one that others have too
this_or_later : (a b c : Option BookFault) (fault : BookFault) → or_else a b ≡ Some fault → (b ≡ Some fault → c ≡ Some fault) → or_else a c ≡ Some fault
this_or_later (Some x) b c fault h later = h
this_or_later None b c fault h later = later h

module _ (catalog : Catalog) where
  abbrev clauses_of : List HardRule → List (List ℤ)
  clauses_of rules = flat_map (rule_clauses catalog) rules

  pub clauses_join : (front rest : List HardRule) → clauses_of (front ++ rest) ≡ clauses_of front ++ clauses_of rest
  clauses_join [] rest = refl
  clauses_join (r ∷ front) rest = ap (λ t. rule_clauses catalog r ++ t) (clauses_join front rest) ∙ sym (append_assoc (rule_clauses catalog r) (clauses_of front) (clauses_of rest))

  pub owners_join : (k : ℕ) (front rest : List HardRule) → owners_from catalog k (front ++ rest) ≡ owners_from catalog k front ++ owners_from catalog (k + length front) rest
  owners_join k [] rest = let same : k ≡ k + 0 = omega arith in ap (λ n. owners_from catalog n rest) same
  owners_join k (r ∷ front) rest =
      let own : List ℕ = replicate (length (rule_clauses catalog r)) k in
      let same : suc k + length front ≡ k + suc (length front) = omega arith in
      ap (λ t. own ++ t) (owners_join (suc k) front rest ∙ ap (λ n. owners_from catalog (suc k) front ++ owners_from catalog n rest) same)
      ∙ sym (append_assoc own (owners_from catalog (suc k) front) (owners_from catalog (k + suc (length front)) rest))

  pub spans_join : (before : ℕ) (front rest : List HardRule) → spans_from catalog before (front ++ rest) ≡ spans_from catalog before front ++ spans_from catalog (before + length (clauses_of front)) rest
  spans_join before [] rest = let same : before ≡ before + 0 = omega arith in ap (λ n. spans_from catalog n rest) same
  spans_join before (r ∷ front) rest =
      let own : ℕ = length (rule_clauses catalog r) in
      let long : length (clauses_of (r ∷ front)) ≡ own + length (clauses_of front) = length-append (rule_clauses catalog r) (clauses_of front) in
      let same : before + own + length (clauses_of front) ≡ before + length (clauses_of (r ∷ front)) = omega (arith, long) in
      ap (λ t. (before, own) ∷ t) (spans_join (before + own) front rest ∙ ap (λ n. spans_from catalog (before + own) front ++ spans_from catalog n rest) same)

  pub fits_join : (before : ℕ) (front rest : List HardRule) → first_fault catalog before front ≡ None → first_fault catalog before (front ++ rest) ≡ first_fault catalog (before + words_of_all (clauses_of front)) rest
  fits_join before [] rest fits = let same : before ≡ before + 0 = omega arith in ap (λ n. first_fault catalog n rest) same
  fits_join before (r ∷ front) rest fits =
      let own : ℕ = words_of_all (rule_clauses catalog r) in
      let two = neither_fault (rule_fault catalog before r) (first_fault catalog (before + own) front) fits in
      let long : words_of_all (clauses_of (r ∷ front)) ≡ own + words_of_all (clauses_of front) = words_append (rule_clauses catalog r) (clauses_of front) in
      let same : before + own + words_of_all (clauses_of front) ≡ before + words_of_all (clauses_of (r ∷ front)) = omega (arith, long) in
      ap (λ o. or_else o (first_fault catalog (before + own) (front ++ rest))) two.0
      ∙ fits_join (before + own) front rest two.1
      ∙ ap (λ n. first_fault catalog n rest) same

  pub front_fits : (before : ℕ) (front rest : List HardRule) → first_fault catalog before (front ++ rest) ≡ None → first_fault catalog before front ≡ None
  front_fits before [] rest fits = refl
  front_fits before (r ∷ front) rest fits =
      let own : ℕ = words_of_all (rule_clauses catalog r) in
      let two = neither_fault (rule_fault catalog before r) (first_fault catalog (before + own) (front ++ rest)) fits in
      ap (λ o. or_else o (first_fault catalog (before + own) front)) two.0 ∙ front_fits (before + own) front rest two.1

  -- a fault of the first rules is that of all
  pub fault_first : (before : ℕ) (front rest : List HardRule) (fault : BookFault) → first_fault catalog before front ≡ Some fault → first_fault catalog before (front ++ rest) ≡ Some fault
  fault_first before [] rest fault h = absurd (cc)
  fault_first before (r ∷ front) rest fault h =
      let own : ℕ = words_of_all (rule_clauses catalog r) in
      this_or_later (rule_fault catalog before r) (first_fault catalog (before + own) front) (first_fault catalog (before + own) (front ++ rest)) fault h (fault_first (before + own) front rest fault)

  pub due_of_all : (before : ℕ) (front rest : List HardRule) (fault : BookFault) → IsDue (first_fault catalog before front) fault → IsDue (first_fault catalog before (front ++ rest)) fault
  due_of_all before front rest fault (inl memory) = inl memory
  due_of_all before front rest fault (inr due) = inr (fault_first before front rest fault due)

  -- what comes after the clauses of the first rules
  pub left_behind : (front rest all : List HardRule) (draft : Draft) → all ≡ front ++ rest → HasRules catalog front draft → IsDraft draft → AreLeft catalog rest all (length front) draft
  left_behind front rest all draft is has counted =
      let places : length front ≡ 0 + length front = omega arith in
      let long : length (clauses_of front) ≡ 0 + length (clauses_of front) = omega arith in
      let wide : words_of_all (clauses_of front) ≡ 0 + words_of_all (clauses_of front) = omega arith in
      record {
        clauses = ap (λ t. t ++ clauses_of rest) has.clauses ∙ sym (clauses_join front rest) ∙ ap clauses_of (sym is);
        owners =
            ap (λ t. t ++ owners_from catalog (length front) rest) has.owners ∙ ap (λ n. owners_from catalog 0 front ++ owners_from catalog n rest) places
            ∙ sym (owners_join 0 front rest) ∙ ap (owners_from catalog 0) (sym is);
        spans =
            ap (λ t. t ++ spans_from catalog (length draft.memory.rules) rest) has.spans ∙ ap (λ (t : List (List ℤ)). spans_from catalog 0 front ++ spans_from catalog (length t) rest) has.clauses
            ∙ ap (λ n. spans_from catalog 0 front ++ spans_from catalog n rest) long ∙ sym (spans_join 0 front rest) ∙ ap (spans_from catalog 0) (sym is);
        draft = counted;
        due =
            ap (λ (t : List (List ℤ)). first_fault catalog (words_of_all t) rest) has.clauses ∙ ap (λ n. first_fault catalog n rest) wide
            ∙ sym (fits_join 0 front rest has.fits) ∙ ap (first_fault catalog 0) (sym is);
      }

  -- what is left of rules, and their clauses, where they were cut
  spans_long : (before : ℕ) (rules : List HardRule) → length (spans_from catalog before rules) ≡ length rules
  spans_long before [] = refl
  spans_long before (r ∷ rules) = ap suc (spans_long (before + length (rule_clauses catalog r)) rules)

  -- what is left to be put where the first rules are there
  pub begun_left : (list : List Rule) (f : Rule → HardRule) (n : ℕ) (draft : Draft) → IsBegun catalog (map f list) draft → n ≡ length draft.spans.items → AreLeft catalog (map f (drop n list)) (map f list) n draft
  begun_left list f n draft begun at =
      let same : n ≡ length begun.front = at ∙ ap length begun.is.has.spans ∙ spans_long 0 begun.front in
      let rest : map f (drop n list) ≡ begun.rest = sym (drop-map f n list) ∙ ap (drop n) begun.are ∙ ap (λ k. drop k (begun.front ++ begun.rest)) same ∙ drop-append_seam begun.front begun.rest in
      subst (λ (l : List HardRule). AreLeft catalog l (map f list) n draft) (sym rest)
      (subst (λ (k : ℕ). AreLeft catalog begun.rest (map f list) k draft) (sym same) (left_behind begun.front begun.rest (map f list) draft begun.are begun.is.has begun.is.counted))

  -- so many clauses stand before those of a rule
  pub stand_before : (before n : ℕ) (rules : List HardRule) → n ≤ length rules
      → before + length (clauses_of (take n rules)) ≡ clauses_before (spans_from catalog before rules) n (before + length (clauses_of rules))
  stand_before before zero [] h = refl
  stand_before before (suc n) [] h = absurd (omega (arith, h))
  stand_before before zero (r ∷ rules) h = omega arith
  stand_before before (suc n) (r ∷ rules) h =
      let own : ℕ = length (rule_clauses catalog r) in
      let first : length (clauses_of (r ∷ take n rules)) ≡ own + length (clauses_of (take n rules)) = length-append (rule_clauses catalog r) (clauses_of (take n rules)) in
      let all : length (clauses_of (r ∷ rules)) ≡ own + length (clauses_of rules) = length-append (rule_clauses catalog r) (clauses_of rules) in
      let low : n ≤ length rules = omega (arith, h) in
      let one : before + length (clauses_of (r ∷ take n rules)) ≡ before + own + length (clauses_of (take n rules)) = omega (arith, first) in
      let end : before + own + length (clauses_of rules) ≡ before + length (clauses_of (r ∷ rules)) = omega (arith, all) in
      one ∙ stand_before (before + own) n rules low ∙ ap (λ m. clauses_before (spans_from catalog (before + own) rules) n m) end

  -- a book that was cut
  pub cut_front : (rules : List HardRule) (n : ℕ) (clauses : List (List ℤ)) (owners : List ℕ) (spans : List (ℕ × ℕ)) (draft : Draft) → n ≤ length rules
      → clauses ≡ clauses_of rules → owners ≡ owners_from catalog 0 rules → spans ≡ spans_from catalog 0 rules → first_fault catalog 0 rules ≡ None
      → draft.memory.rules ≡ take (clauses_before spans n (length clauses)) clauses → draft.owners.items ≡ take (clauses_before spans n (length clauses)) owners → draft.spans.items ≡ take n spans
      → IsDraft draft → IsFront catalog (take n rules) draft
  cut_front rules n clauses owners spans draft low of_clauses of_owners of_spans fits memory_is owners_is spans_is counted = record {
    has = record { clauses = kept_clauses; owners = kept_owners; spans = kept_spans; fits = kept_fits };
    counted = counted;
  }
    where
      front : List HardRule
      front = take n rules

      both : front ++ drop n rules ≡ rules
      both = both_parts n rules

      all_of : length (clauses_of rules) ≡ 0 + length (clauses_of rules)
      all_of = omega arith

      some_of : 0 + length (clauses_of front) ≡ length (clauses_of front)
      some_of = omega arith

      many : clauses_before spans n (length clauses) ≡ length (clauses_of front)
      many =
          ap (λ (s : List (ℕ × ℕ)). clauses_before s n (length clauses)) of_spans ∙ ap (λ (l : List (List ℤ)). clauses_before (spans_from catalog 0 rules) n (length l)) of_clauses
          ∙ ap (clauses_before (spans_from catalog 0 rules) n) all_of ∙ sym (stand_before 0 n rules low) ∙ some_of

      kept_clauses : draft.memory.rules ≡ clauses_of front
      kept_clauses =
          memory_is ∙ ap (λ k. take k clauses) many ∙ ap (λ (l : List (List ℤ)). take (length (clauses_of front)) l) (of_clauses ∙ ap clauses_of (sym both) ∙ clauses_join front (drop n rules))
          ∙ take_front (clauses_of front) (clauses_of (drop n rules))

      owners_long : (k : ℕ) (rs : List HardRule) → length (owners_from catalog k rs) ≡ length (clauses_of rs)
      owners_long k [] = refl
      owners_long k (r ∷ rs) =
          length-append (replicate (length (rule_clauses catalog r)) k) (owners_from catalog (suc k) rs)
          ∙ ap (λ m. length (replicate (length (rule_clauses catalog r)) k) + m) (owners_long (suc k) rs)
          ∙ ap (λ m. m + length (clauses_of rs)) (length-replicate (length (rule_clauses catalog r)) k)
          ∙ sym (length-append (rule_clauses catalog r) (clauses_of rs))

      kept_owners : draft.owners.items ≡ owners_from catalog 0 front
      kept_owners =
          owners_is ∙ ap (λ k. take k owners) (many ∙ sym (owners_long 0 front))
          ∙ ap (λ (l : List ℕ). take (length (owners_from catalog 0 front)) l) (of_owners ∙ ap (owners_from catalog 0) (sym both) ∙ owners_join 0 front (drop n rules))
          ∙ take_front (owners_from catalog 0 front) (owners_from catalog (0 + length front) (drop n rules))

      short : length front ≡ n
      short = length-take-le n rules low

      kept_spans : draft.spans.items ≡ spans_from catalog 0 front
      kept_spans =
          spans_is ∙ ap (λ k. take k spans) (sym (spans_long 0 front ∙ short))
          ∙ ap (λ (l : List (ℕ × ℕ)). take (length (spans_from catalog 0 front)) l) (of_spans ∙ ap (spans_from catalog 0) (sym both) ∙ spans_join 0 front (drop n rules))
          ∙ take_front (spans_from catalog 0 front) (spans_from catalog (0 + length (clauses_of front)) (drop n rules))

      kept_fits : first_fault catalog 0 front ≡ None
      kept_fits = front_fits 0 front (drop n rules) (ap (first_fault catalog 0) both ∙ fits)
