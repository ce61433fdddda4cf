-- What is written by the grammar is read as what it means.
use Rattle.std.proofs.Common.{◌≡◌, ℕ, ◌+◌, ◌<◌, ◌≤◌, Bool, true, false, ◌&&◌, List, [], ◌∷◌, ◌++◌, length, Option, Some, None, Ok, refl, sym, ap, ◌∙◌, arith, append_assoc, append-nil, add-zero, nat_le, not}
use Rattle.std.specs.Prelude.{max, is_some, unwrap_or, codes, if◌then◌else◌}
use Rattle.std.proofs.lemmas.Bool.Decides.{nat_tests}
use Rattle.solv_base.specs.declared.comparison.Cmp.{Cmp}
use Rattle.solv_base.specs.Dependency.{Dep, versioned, one, joined}
use Rattle.solv_deps.specs.declared.sign.Joint.{Joint}
use Rattle.solv_deps.specs.declared.sign.Joint.TheVariants.{Both, Either, Jointly}
use Rattle.solv_deps.specs.declared.sign.Operator.{Operator}
use Rattle.solv_deps.specs.declared.sign.Conditional.TheVariants.{If, Unless}
use Rattle.solv_deps.specs.declared.sign.Operator.TheVariants.{Link, Minus, Condition, Else}
use Rattle.solv_deps.specs.Inner.Signs.{operator, opens, written_by as spelled}
use Rattle.solv_deps.specs.Grammar.{comparison, is_plain, is_namespace, named}
use Rattle.solv_deps.specs.Expressions.{no_comparison, connective_of, Spelling, by_sign, by_word, Operand, Chain, Expr, name, compared, inside, two, more, alone, chain, less, provided, provided_else, provided_inside, operand_words, chain_words, expr_words, operand_sense, chain_sense, expr_sense, operand_right, chain_right, expr_right, operand_depth, chain_depth, expr_depth, operand_operators, chain_operators, expr_operators}
use Rattle.solv_deps.specs.Inner.Reading.{Hand, nothing, in_chain, in_difference, in_condition, in_else, in_inner_else, Due, operand_due, evr_due, operator_due, Point, whole, goes_on, reading_from, comparison_due, at_operator}
use Rattle.solv_deps.specs.Reading.{reading, and_then}
use Rattle.solv_deps.specs.Inner.Reading.{reading_by_rules}
use Rattle.solv_deps.proofs.SameReading.{same_reading}
use Rattle.solv_list.proofs.Booleans.{false_of_not, first_of_both, second_of_both}

abbrev pub point : List Hand → ℕ → Due → Point
point outer n due = record { outer = outer; operators = n; due = due }

pub not_full : (n : ℕ) → n < 64 → nat_le 64 n ≡ false
not_full n h = grind (arith, nat_tests)

same_ap : {A B : Type 0} (f : A → B) (x y : A) → x ≡ y → f x ≡ f y
same_ap f x y e = ap f e

-- an operator that the rule goes on with
pub sign_step : (s : Spelling) (o : Operator) (outer : List Hand) (n : ℕ) (h k : Hand) (nm : Option (List ℕ)) (d : Dep (List ℕ)) (rest : List (List ℕ))
    → goes_on outer h d o ≡ Some k → n < 64
    → reading_from (point outer n (operator_due h nm d)) (spelled s o ∷ rest) ≡ reading_from (point outer (n + 1) (operand_due k)) rest
sign_step by_sign (Link Both) outer n h k nm d rest e l = rw (e, not_full n l) refl
sign_step by_sign (Link Either) outer n h k nm d rest e l = rw (e, not_full n l) refl
sign_step by_sign (Link Jointly) outer n h k nm d rest e l = rw (e, not_full n l) refl
sign_step by_sign Minus outer n h k nm d rest e l = rw (e, not_full n l) refl
sign_step by_sign (Condition If) outer n h k nm d rest e l = rw (e, not_full n l) refl
sign_step by_sign (Condition Unless) outer n h k nm d rest e l = rw (e, not_full n l) refl
sign_step by_sign Else outer n h k nm d rest e l = rw (e, not_full n l) refl
sign_step by_word (Link Both) outer n h k nm d rest e l = rw (e, not_full n l) refl
sign_step by_word (Link Either) outer n h k nm d rest e l = rw (e, not_full n l) refl
sign_step by_word (Link Jointly) outer n h k nm d rest e l = rw (e, not_full n l) refl
sign_step by_word Minus outer n h k nm d rest e l = rw (e, not_full n l) refl
sign_step by_word (Condition If) outer n h k nm d rest e l = rw (e, not_full n l) refl
sign_step by_word (Condition Unless) outer n h k nm d rest e l = rw (e, not_full n l) refl
sign_step by_word Else outer n h k nm d rest e l = rw (e, not_full n l) refl

-- a parenthesis that opens where an operand is due
pub open_step : (outer : List Hand) (n : ℕ) (h : Hand) (rest : List (List ℕ)) → length outer < 64
    → reading_from (point outer n (operand_due h)) (codes "(" ∷ rest) ≡ reading_from (point (h ∷ outer) n (operand_due nothing)) rest
open_step outer n h rest l = rw (not_full (length outer) l) refl

pub choose_second : {X : Type 0} (o r : Bool) (x y z : X) → (not o && r) ≡ true → (if o then x else (if not o && r then y else z)) ≡ y
choose_second true r x y z h = cc
choose_second false r x y z h = rw h refl

plain_step : (outer : List Hand) (n : ℕ) (h : Hand) (w : List ℕ) (rest : List (List ℕ)) → is_plain w ≡ true
    → reading_from (point outer n (operand_due h)) (w ∷ rest) ≡ reading_from (point outer n (operator_due h (if is_namespace w then None else Some w) (named w))) rest
plain_step outer n h w rest p =
    ap (λ r. and_then r (λ q. reading_from q rest)) (choose_second (opens w) _ _ _ _ p)

evr_step : (outer : List Hand) (n : ℕ) (h : Hand) (w : List ℕ) (c : Cmp) (e : List ℕ) (rest : List (List ℕ)) → is_plain e ≡ true
    → reading_from (point outer n (evr_due h w c)) (e ∷ rest) ≡ reading_from (point outer n (operator_due h None (one (versioned w c e)))) rest
evr_step outer n h w c e rest p = rw p refl

abbrev pub bare : Operand → Option (List ℕ)
bare (name w) = if is_namespace w then None else Some w
bare (compared w c e) = None
bare (inside x) = None

abbrev pub chain_front : Joint → Chain → Dep (List ℕ)
chain_front j (two a s b) = operand_sense a
chain_front j (more c s b) = chain_sense j c

abbrev pub chain_last : Chain → Operand
chain_last (two a s b) = b
chain_last (more c s b) = b

abbrev pub hand_of : Expr → Hand
hand_of (alone a) = nothing
hand_of (chain j c) = in_chain j (chain_front j c)
hand_of (less a s b) = in_difference (operand_sense a)
hand_of (provided k a s b) = in_condition k (operand_sense a)
hand_of (provided_else k a s b t c) = in_else k (operand_sense a) (operand_sense b)
hand_of (provided_inside k a s b t c) = in_else k (operand_sense a) (operand_sense b)

abbrev pub last_of : Expr → Operand
last_of (alone a) = a
last_of (chain j c) = chain_last c
last_of (less a s b) = b
last_of (provided k a s b) = b
last_of (provided_else k a s b t c) = c
last_of (provided_inside k a s b t c) = c

abbrev pub bare_of : Expr → Option (List ℕ)
bare_of (provided_inside k a s b t c) = None
bare_of x = bare (last_of x)

-- what an operand's words do where an operand is due
abbrev Reads : Operand → Type 0
Reads a = (outer : List Hand) (n : ℕ) (h : Hand) (rest : List (List ℕ)) → n + operand_operators a ≤ 64 → length outer + operand_depth a ≤ 64
    → reading_from (point outer n (operand_due h)) (operand_words a ++ rest) ≡ reading_from (point outer (n + operand_operators a) (operator_due h (bare a) (operand_sense a))) rest

after_sign : (s : Spelling) (b : Operand) → Reads b → (outer : List Hand) (n : ℕ) (h k : Hand) (nm : Option (List ℕ)) (d : Dep (List ℕ)) (o : Operator) (rest : List (List ℕ))
    → goes_on outer h d o ≡ Some k → n + (operand_operators b + 1) ≤ 64 → length outer + operand_depth b ≤ 64
    → reading_from (point outer n (operator_due h nm d)) (spelled s o ∷ (operand_words b ++ rest)) ≡ reading_from (point outer (n + (operand_operators b + 1)) (operator_due k (bare b) (operand_sense b))) rest
after_sign s b reads outer n h k nm d o rest e lo ld =
    let m : n + 1 + operand_operators b ≡ n + (operand_operators b + 1) = omega arith in
    sign_step s o outer n h k nm d (operand_words b ++ rest) e (omega arith)
    ∙ reads outer (n + 1) k rest (omega arith) ld
    ∙ ap (λ i. reading_from (point outer i (operator_due k (bare b) (operand_sense b))) rest) m

joint_again : (outer : List Hand) (j : Joint) (a d : Dep (List ℕ)) → goes_on outer (in_chain j a) d (Link j) ≡ Some (in_chain j (joined (connective_of j) a d))
joint_again outer Both a d = refl
joint_again outer Either a d = refl
joint_again outer Jointly a d = refl

-- two operands with an operator between them
pair_reads : (a : Operand) (s : Spelling) (b : Operand) → Reads a → Reads b → (outer : List Hand) (n : ℕ) (h k : Hand) (o : Operator) (rest : List (List ℕ))
    → goes_on outer h (operand_sense a) o ≡ Some k → n + (operand_operators a + operand_operators b + 1) ≤ 64 → length outer + operand_depth a ≤ 64 → length outer + operand_depth b ≤ 64
    → reading_from (point outer n (operand_due h)) ((operand_words a ++ spelled s o ∷ operand_words b) ++ rest) ≡ reading_from (point outer (n + (operand_operators a + operand_operators b + 1)) (operator_due k (bare b) (operand_sense b))) rest
pair_reads a s b ra rb outer n h k o rest e lo la lb =
    let m : n + operand_operators a + (operand_operators b + 1) ≡ n + (operand_operators a + operand_operators b + 1) = omega arith in
    ap (reading_from (point outer n (operand_due h))) (append_assoc (operand_words a) (spelled s o ∷ operand_words b) rest)
    ∙ ra outer n h (spelled s o ∷ (operand_words b ++ rest)) (omega arith) la
    ∙ after_sign s b rb outer (n + operand_operators a) h k (bare a) (operand_sense a) o rest e (omega arith) lb
    ∙ ap (λ i. reading_from (point outer i (operator_due k (bare b) (operand_sense b))) rest) m

compared_step : (outer : List Hand) (n : ℕ) (h : Hand) (w c : List ℕ) (d : Dep (List ℕ)) (rest : List (List ℕ)) → is_some (comparison c) ≡ true
    → reading_from (point outer n (operator_due h (Some w) d)) (c ∷ rest) ≡ reading_from (point outer n (evr_due h w (unwrap_or (comparison c) no_comparison))) rest
compared_step outer n h w c d rest s = found (comparison c) s
  where
    found : (r : Option Cmp) → is_some r ≡ true → and_then (at_operator outer n h d c (comparison_due r (Some w)) (operator c)) (λ q. reading_from q rest) ≡ reading_from (point outer n (evr_due h w (unwrap_or r no_comparison))) rest
    found (Some x) s = refl
    found None s = cc

-- a parenthesis that closes round a whole
close_step : (o : Hand) (outer : List Hand) (n : ℕ) (x : Expr) (nm : Option (List ℕ)) (rest : List (List ℕ))
    → reading_from (point (o ∷ outer) n (operator_due (hand_of x) nm (operand_sense (last_of x)))) (codes ")" ∷ rest) ≡ reading_from (point outer n (operator_due o None (expr_sense x))) rest
close_step o outer n (alone a) nm rest = refl
close_step o outer n (chain j (two a s b)) nm rest = refl
close_step o outer n (chain j (more c s b)) nm rest = refl
close_step o outer n (less a s b) nm rest = refl
close_step o outer n (provided k a s b) nm rest = refl
close_step o outer n (provided_else k a s b t c) nm rest = refl
close_step o outer n (provided_inside k a s b t c) nm rest = refl

max_left : (a b c : ℕ) → c + max a b ≤ 64 → c + a ≤ 64
max_left a b c h = omega arith

max_right : (a b c : ℕ) → c + max a b ≤ 64 → c + b ≤ 64
max_right a b c h = omega arith

chain_whole : (j : Joint) (c : Chain) → joined (connective_of j) (chain_front j c) (operand_sense (chain_last c)) ≡ chain_sense j c
chain_whole j (two a s b) = refl
chain_whole j (more c s b) = refl

regroup : (a : List (List ℕ)) (g : List ℕ) (b : List (List ℕ)) (e : List ℕ) (c rest : List (List ℕ)) → (a ++ g ∷ (b ++ e ∷ c)) ++ rest ≡ a ++ g ∷ (b ++ e ∷ (c ++ rest))
regroup a g b e c rest = simp append_assoc

regroup_inside : (a : List (List ℕ)) (g : List ℕ) (b : List (List ℕ)) (e : List ℕ) (c rest : List (List ℕ)) → (a ++ g ∷ codes "(" ∷ (b ++ e ∷ (c ++ codes ")" ∷ []))) ++ rest ≡ a ++ g ∷ codes "(" ∷ (b ++ e ∷ (c ++ codes ")" ∷ rest))
regroup_inside a g b e c rest = simp append_assoc

mutual
  operand_reads : (a : Operand) → operand_right a ≡ true → Reads a
  operand_reads (name w) r outer n h rest lo ld = plain_step outer n h w rest r ∙ rw (add-zero) refl
  operand_reads (compared w c e) r outer n h rest lo ld =
      let r1 = second_of_both (is_plain w) (not (is_namespace w) && (is_some (comparison c) && is_plain e)) r in
      let r2 = second_of_both (not (is_namespace w)) (is_some (comparison c) && is_plain e) r1 in
      plain_step outer n h w (c ∷ e ∷ rest) (first_of_both (is_plain w) _ r)
      ∙ ap (λ b. reading_from (point outer n (operator_due h (if b then None else Some w) (named w))) (c ∷ e ∷ rest)) (false_of_not (is_namespace w) (first_of_both (not (is_namespace w)) _ r1))
      ∙ compared_step outer n h w c (named w) (e ∷ rest) (first_of_both (is_some (comparison c)) _ r2)
      ∙ evr_step outer n h w (unwrap_or (comparison c) no_comparison) e rest (second_of_both (is_some (comparison c)) _ r2)
      ∙ rw (add-zero) refl
  operand_reads (inside x) r outer n h rest lo ld =
      open_step outer n h ((expr_words x ++ codes ")" ∷ []) ++ rest) (omega arith)
      ∙ ap (reading_from (point (h ∷ outer) n (operand_due nothing))) (append_assoc (expr_words x) (codes ")" ∷ []) rest)
      ∙ expr_reads x r (h ∷ outer) n (codes ")" ∷ rest) lo (omega arith)
      ∙ close_step h outer (n + expr_operators x) x (bare_of x) rest

  chain_reads : (c : Chain) → chain_right c ≡ true → (j : Joint) (outer : List Hand) (n : ℕ) (rest : List (List ℕ)) → n + chain_operators c ≤ 64 → length outer + chain_depth c ≤ 64
      → reading_from (point outer n (operand_due nothing)) (chain_words j c ++ rest) ≡ reading_from (point outer (n + chain_operators c) (operator_due (in_chain j (chain_front j c)) (bare (chain_last c)) (operand_sense (chain_last c)))) rest
  chain_reads (two a s b) r j outer n rest lo ld =
      pair_reads a s b (operand_reads a (first_of_both (operand_right a) _ r)) (operand_reads b (second_of_both (operand_right a) _ r)) outer n nothing (in_chain j (operand_sense a)) (Link j) rest refl lo
      (max_left (operand_depth a) (operand_depth b) (length outer) ld) (max_right (operand_depth a) (operand_depth b) (length outer) ld)
  chain_reads (more c s b) r j outer n rest lo ld =
      let m : n + chain_operators c + (operand_operators b + 1) ≡ n + (chain_operators c + operand_operators b + 1) = omega arith in
      ap (reading_from (point outer n (operand_due nothing))) (append_assoc (chain_words j c) (spelled s (Link j) ∷ operand_words b) rest)
      ∙ chain_reads c (first_of_both (chain_right c) _ r) j outer n (spelled s (Link j) ∷ (operand_words b ++ rest)) (omega arith) (max_left (chain_depth c) (operand_depth b) (length outer) ld)
      ∙ after_sign s b (operand_reads b (second_of_both (chain_right c) _ r)) outer (n + chain_operators c) (in_chain j (chain_front j c)) (in_chain j (chain_sense j c)) (bare (chain_last c)) (operand_sense (chain_last c)) (Link j) rest
      (joint_again outer j (chain_front j c) (operand_sense (chain_last c)) ∙ ap (λ d. Some (in_chain j d)) (chain_whole j c)) (omega arith) (max_right (chain_depth c) (operand_depth b) (length outer) ld)
      ∙ ap (λ i. reading_from (point outer i (operator_due (in_chain j (chain_sense j c)) (bare b) (operand_sense b))) rest) m

  expr_reads : (x : Expr) → expr_right x ≡ true → (outer : List Hand) (n : ℕ) (rest : List (List ℕ)) → n + expr_operators x ≤ 64 → length outer + expr_depth x ≤ 64
      → reading_from (point outer n (operand_due nothing)) (expr_words x ++ rest) ≡ reading_from (point outer (n + expr_operators x) (operator_due (hand_of x) (bare_of x) (operand_sense (last_of x)))) rest
  expr_reads (alone a) r outer n rest lo ld = operand_reads a r outer n nothing rest lo ld
  expr_reads (chain j c) r outer n rest lo ld = chain_reads c r j outer n rest lo ld
  expr_reads (less a s b) r outer n rest lo ld =
      pair_reads a s b (operand_reads a (first_of_both (operand_right a) _ r)) (operand_reads b (second_of_both (operand_right a) _ r)) outer n nothing (in_difference (operand_sense a)) Minus rest refl lo
      (max_left (operand_depth a) (operand_depth b) (length outer) ld) (max_right (operand_depth a) (operand_depth b) (length outer) ld)
  expr_reads (provided k a s b) r outer n rest lo ld =
      pair_reads a s b (operand_reads a (first_of_both (operand_right a) _ r)) (operand_reads b (second_of_both (operand_right a) _ r)) outer n nothing (in_condition k (operand_sense a)) (Condition k) rest refl lo
      (max_left (operand_depth a) (operand_depth b) (length outer) ld) (max_right (operand_depth a) (operand_depth b) (length outer) ld)
  expr_reads (provided_else k a s b t c) r outer n rest lo ld =
      let r1 = second_of_both (operand_right a) (operand_right b && operand_right c) r in
      let oa = operand_operators a in
      let ob = operand_operators b in
      let oc = operand_operators c in
      let da = max_left (operand_depth a) (max (operand_depth b) (operand_depth c)) (length outer) ld in
      let dr = max_right (operand_depth a) (max (operand_depth b) (operand_depth c)) (length outer) ld in
      let m : n + oa + (ob + 1) + (oc + 1) ≡ n + (oa + ob + oc + 2) = omega arith in
      ap (reading_from (point outer n (operand_due nothing))) (regroup (operand_words a) (spelled s (Condition k)) (operand_words b) (spelled t Else) (operand_words c) rest)
      ∙ operand_reads a (first_of_both (operand_right a) _ r) outer n nothing (spelled s (Condition k) ∷ (operand_words b ++ spelled t Else ∷ (operand_words c ++ rest))) (omega arith) da
      ∙ after_sign s b (operand_reads b (first_of_both (operand_right b) _ r1)) outer (n + oa) nothing (in_condition k (operand_sense a)) (bare a) (operand_sense a) (Condition k) (spelled t Else ∷ (operand_words c ++ rest)) refl (omega arith)
      (max_left (operand_depth b) (operand_depth c) (length outer) dr)
      ∙ after_sign t c (operand_reads c (second_of_both (operand_right b) _ r1)) outer (n + oa + (ob + 1)) (in_condition k (operand_sense a)) (in_else k (operand_sense a) (operand_sense b)) (bare b) (operand_sense b) Else rest refl (omega arith)
      (max_right (operand_depth b) (operand_depth c) (length outer) dr)
      ∙ ap (λ i. reading_from (point outer i (operator_due (in_else k (operand_sense a) (operand_sense b)) (bare c) (operand_sense c))) rest) m
  expr_reads (provided_inside k a s b t c) r outer n rest lo ld =
      let r1 = second_of_both (operand_right a) (operand_right b && operand_right c) r in
      let oa = operand_operators a in
      let ob = operand_operators b in
      let oc = operand_operators c in
      let mx = max (operand_depth b) (operand_depth c) in
      let da = max_left (operand_depth a) (mx + 1) (length outer) ld in
      let dr = max_right (operand_depth a) (mx + 1) (length outer) ld in
      let inner : length (in_condition k (operand_sense a) ∷ outer) + mx ≤ 64 = omega arith in
      let m : n + oa + 1 + ob + (oc + 1) ≡ n + (oa + ob + oc + 2) = omega arith in
      ap (reading_from (point outer n (operand_due nothing))) (regroup_inside (operand_words a) (spelled s (Condition k)) (operand_words b) (spelled t Else) (operand_words c) rest)
      ∙ operand_reads a (first_of_both (operand_right a) _ r) outer n nothing (spelled s (Condition k) ∷ codes "(" ∷ (operand_words b ++ spelled t Else ∷ (operand_words c ++ codes ")" ∷ rest))) (omega arith) da
      ∙ sign_step s (Condition k) outer (n + oa) nothing (in_condition k (operand_sense a)) (bare a) (operand_sense a) (codes "(" ∷ (operand_words b ++ spelled t Else ∷ (operand_words c ++ codes ")" ∷ rest))) refl (omega arith)
      ∙ open_step outer (n + oa + 1) (in_condition k (operand_sense a)) (operand_words b ++ spelled t Else ∷ (operand_words c ++ codes ")" ∷ rest)) (omega arith)
      ∙ operand_reads b (first_of_both (operand_right b) _ r1) (in_condition k (operand_sense a) ∷ outer) (n + oa + 1) nothing (spelled t Else ∷ (operand_words c ++ codes ")" ∷ rest)) (omega arith)
      (max_left (operand_depth b) (operand_depth c) (length (in_condition k (operand_sense a) ∷ outer)) inner)
      ∙ after_sign t c (operand_reads c (second_of_both (operand_right b) _ r1)) (in_condition k (operand_sense a) ∷ outer) (n + oa + 1 + ob) nothing (in_inner_else k (operand_sense a) (operand_sense b)) (bare b) (operand_sense b) Else (codes ")" ∷ rest) refl (omega arith)
      (max_right (operand_depth b) (operand_depth c) (length (in_condition k (operand_sense a) ∷ outer)) inner)
      ∙ ap (λ i. reading_from (point outer i (operator_due (in_else k (operand_sense a) (operand_sense b)) None (operand_sense c))) rest) m

-- what the rule in hand makes at the end is what was written
whole_is : (x : Expr) → whole (hand_of x) (operand_sense (last_of x)) ≡ expr_sense x
whole_is (alone a) = refl
whole_is (chain j c) = chain_whole j c
whole_is (less a s b) = refl
whole_is (provided k a s b) = refl
whole_is (provided_else k a s b t c) = refl
whole_is (provided_inside k a s b t c) = refl

-- the words of what is written by the grammar, within the limits, are read as what it means
pub written_is_read : (x : Expr) → expr_right x ≡ true → expr_operators x ≤ 64 → expr_depth x ≤ 64 → reading (expr_words x) ≡ Ok (expr_sense x)
written_is_read x r lo ld =
    same_reading (expr_words x)
    ∙ ap reading_by_rules (sym (append-nil (expr_words x)))
    ∙ expr_reads x r [] 0 [] (omega arith) (omega arith)
    ∙ ap Ok (whole_is x)
