-- The canonical text of a dependency that stands on one line is one line.
use Rattle.std.proofs.Common.{◌≡◌, ℕ, zero, suc, Bool, true, false, not, ◌&&◌, ◌||◌, List, [], ◌∷◌, ◌++◌, take, Result, Ok, Err, refl, sym, subst}
use Rattle.std.specs.Prelude.{codes, if◌then◌else◌}
use Rattle.std.specs.List.{list_all}
use Rattle.std.proofs.lemmas.Bool.{and_from}
use Rattle.solv_io.specs.Words.{is_blank}
use Rattle.solv_base.specs.declared.comparison.Cmp.{Cmp}
use Rattle.solv_base.specs.Dependency.{Dep, plain, versioned, one, namespace, and, or, with, without, if_holds, unless_holds, joined, under, under_else, missing}
use Rattle.solv_deps.proofs.Printed.{parenthesised}
use Rattle.solv_deps.specs.Canonical.{comparison_text, is_rich, space_before_close, operand_text, spaced, text}
use Rattle.solv_deps.specs.Grammar.{Operator, joins, conditions, otherwise, is_chain}
use Rattle.solv_deps.specs.Grammar.{named, is_namespace}
use Rattle.solv_deps.specs.Inner.Signs.{written_by as spelled}
use Rattle.solv_deps.specs.Expressions.{Operand, Chain, Expr, name, compared, inside, two, more, alone, chain, less, provided, provided_else, provided_inside, operand_words, chain_words, expr_words, operand_sense, chain_sense, expr_sense}
use Rattle.solv_deps.specs.Laws.{PrintedIsOneLine, ReadIsWritten, Spells}
use Rattle.solv_deps.specs.Reading.{and_then, reading}
use Rattle.solv_deps.specs.Table.{stands_at}
use Rattle.solv_deps.specs.Inner.Words.{after_first}
use Rattle.solv_deps.specs.Words.{words_after, words}
use Rattle.solv_deps.specs.declared.fault.DepFault.{DepFault}
use Rattle.solv_deps.specs.declared.fault.DepFault.TheVariants.{OperatorNotHere}
use Rattle.solv_deps.specs.declared.sign.Joint.{Joint}
use Rattle.solv_deps.specs.declared.sign.Operator.TheVariants.{Link, Minus, Condition, Else}
use Rattle.solv_list.proofs.Booleans.{first_of_both, second_of_both}
use Rattle.solv_list.proofs.Lists.{list_all_join, all_left, all_right, all_taken}
use Rattle.solv_io.specs.JoinedWords.{is_inner, is_line}

-- all names and EVRs stand on one line
abbrev lined : Dep (List ℕ) → Bool
lined (one (plain w)) = is_line w
lined (one (versioned w c e)) = is_line w && is_line e
lined (namespace w) = is_line w
lined (joined j a b) = lined a && lined b
lined (under k a b) = lined a && lined b
lined (under_else k a b c) = lined a && (lined b && lined c)
lined missing = true

words_lined : (n : ℕ) (t : List ℕ) → is_line t ≡ true → list_all is_line (words_after n t) ≡ true
words_lined n [] h = refl
words_lined (suc n) (c ∷ cs) h = words_lined n cs (second_of_both (is_inner c) (list_all is_inner cs) h)
words_lined zero (c ∷ cs) h =
    let later = words_lined (after_first c cs) cs (second_of_both (is_inner c) (list_all is_inner cs) h) in
    elim (is_blank c) as (λ b. list_all is_line (if b then words_after (after_first c cs) cs else (c ∷ take (after_first c cs) cs) ∷ words_after (after_first c cs) cs) ≡ true) [
      | true ↦ later
      | false ↦ and_from (is_line (c ∷ take (after_first c cs) cs)) _
          (and_from (is_inner c) _ (first_of_both (is_inner c) (list_all is_inner cs) h) (all_taken is_inner (after_first c cs) cs (second_of_both (is_inner c) (list_all is_inner cs) h))) later
    ]

named_lined : (w : List ℕ) → is_line w ≡ true → lined (named w) ≡ true
named_lined w h = elim (is_namespace w) as (λ b. lined (if b then namespace w else one (plain w)) ≡ true) [ true ↦ h | false ↦ h ]

both_lined : (a b : Dep (List ℕ)) → lined a ≡ true → lined b ≡ true → (lined a && lined b) ≡ true
both_lined a b h k = and_from (lined a) (lined b) h k

three_lined : (a b c : Dep (List ℕ)) → lined a ≡ true → lined b ≡ true → lined c ≡ true → (lined a && (lined b && lined c)) ≡ true
three_lined a b c h k l = and_from (lined a) (lined b && lined c) h (and_from (lined b) (lined c) k l)

-- words before others, and after one word
front : (xs ys : List (List ℕ)) → list_all is_line (xs ++ ys) ≡ true → list_all is_line xs ≡ true
front xs ys h = all_left is_line xs ys h

back : (xs : List (List ℕ)) (w : List ℕ) (ys : List (List ℕ)) → list_all is_line (xs ++ w ∷ ys) ≡ true → list_all is_line ys ≡ true
back xs w ys h = second_of_both (is_line w) (list_all is_line ys) (all_right is_line xs (w ∷ ys) h)

-- what is written of lines has such names
mutual
  operand_lined : (o : Operand) → list_all is_line (operand_words o) ≡ true → lined (operand_sense o) ≡ true
  operand_lined (name w) h = named_lined w (first_of_both (is_line w) true h)
  operand_lined (compared w c e) h =
      let r = second_of_both (is_line w) (is_line c && (is_line e && true)) h in
      and_from (is_line w) (is_line e) (first_of_both (is_line w) (is_line c && (is_line e && true)) h) (first_of_both (is_line e) true (second_of_both (is_line c) (is_line e && true) r))
  operand_lined (inside x) h = expr_lined x (front (expr_words x) (codes ")" ∷ []) h)

  chain_lined : (j : Joint) (c : Chain) → list_all is_line (chain_words j c) ≡ true → lined (chain_sense j c) ≡ true
  chain_lined j (two a s b) h =
      both_lined (operand_sense a) (operand_sense b) (operand_lined a (front (operand_words a) (spelled s (Link j) ∷ operand_words b) h)) (operand_lined b (back (operand_words a) (spelled s (Link j)) (operand_words b) h))
  chain_lined j (more c s b) h =
      both_lined (chain_sense j c) (operand_sense b) (chain_lined j c (front (chain_words j c) (spelled s (Link j) ∷ operand_words b) h)) (operand_lined b (back (chain_words j c) (spelled s (Link j)) (operand_words b) h))

  expr_lined : (x : Expr) → list_all is_line (expr_words x) ≡ true → lined (expr_sense x) ≡ true
  expr_lined (alone a) h = operand_lined a h
  expr_lined (chain j c) h = chain_lined j c h
  expr_lined (less a s b) h =
      both_lined (operand_sense a) (operand_sense b) (operand_lined a (front (operand_words a) (spelled s Minus ∷ operand_words b) h)) (operand_lined b (back (operand_words a) (spelled s Minus) (operand_words b) h))
  expr_lined (provided k a s b) h =
      both_lined (operand_sense a) (operand_sense b) (operand_lined a (front (operand_words a) (spelled s (Condition k) ∷ operand_words b) h)) (operand_lined b (back (operand_words a) (spelled s (Condition k)) (operand_words b) h))
  expr_lined (provided_else k a s b t c) h =
      let r = back (operand_words a) (spelled s (Condition k)) (operand_words b ++ spelled t Else ∷ operand_words c) h in
      three_lined (operand_sense a) (operand_sense b) (operand_sense c) (operand_lined a (front (operand_words a) (spelled s (Condition k) ∷ (operand_words b ++ spelled t Else ∷ operand_words c)) h))
      (operand_lined b (front (operand_words b) (spelled t Else ∷ operand_words c) r)) (operand_lined c (back (operand_words b) (spelled t Else) (operand_words c) r))
  expr_lined (provided_inside k a s b t c) h =
      let r = second_of_both (is_line (codes "(")) _ (back (operand_words a) (spelled s (Condition k)) (codes "(" ∷ (operand_words b ++ spelled t Else ∷ (operand_words c ++ codes ")" ∷ []))) h) in
      three_lined (operand_sense a) (operand_sense b) (operand_sense c)
      (operand_lined a (front (operand_words a) (spelled s (Condition k) ∷ codes "(" ∷ (operand_words b ++ spelled t Else ∷ (operand_words c ++ codes ")" ∷ []))) h))
      (operand_lined b (front (operand_words b) (spelled t Else ∷ (operand_words c ++ codes ")" ∷ [])) r))
      (operand_lined c (front (operand_words c) (codes ")" ∷ []) (back (operand_words b) (spelled t Else) (operand_words c ++ codes ")" ∷ []) r)))

-- and its text is one line
pub join : (a b : List ℕ) → is_line a ≡ true → is_line b ≡ true → is_line (a ++ b) ≡ true
join a b h k = list_all_join is_inner a b h k

cmp_lined : (c : Cmp) → is_line (comparison_text c) ≡ true
cmp_lined c = of c.less c.greater c.equal
  where
    of : (l g e : Bool) → is_line ((if l then codes "<" else []) ++ ((if g then codes ">" else []) ++ (if e then codes "=" else []))) ≡ true
    of true true true = refl
    of true true false = refl
    of true false true = refl
    of true false false = refl
    of false true true = refl
    of false true false = refl
    of false false true = refl
    of false false false = refl

sign_lined : (o : Operator) → is_line (spaced o) ≡ true
sign_lined (joins and) = refl
sign_lined (joins or) = refl
sign_lined (joins with) = refl
sign_lined (joins without) = refl
sign_lined (conditions if_holds) = refl
sign_lined (conditions unless_holds) = refl
sign_lined otherwise = refl

inside_lined : (space : Bool) (t : List ℕ) → is_line t ≡ true → is_line (parenthesised space t) ≡ true
inside_lined true t h = join t (codes " )") h refl
inside_lined false t h = join t (codes ")") h refl

bare_lined : (bare : Bool) (d : Dep (List ℕ)) (t : List ℕ) → is_line t ≡ true → is_line (operand_text bare d t) ≡ true
bare_lined bare d t h = elim (bare || not (is_rich d)) as (λ b. is_line (if b then t else parenthesised (space_before_close d) t) ≡ true) [ true ↦ h | false ↦ inside_lined (space_before_close d) t h ]

pair_lined : (bare : Bool) (o : Operator) (a b : Dep (List ℕ)) (s t : List ℕ) → is_line s ≡ true → is_line t ≡ true → is_line (operand_text bare a s ++ (spaced o ++ operand_text false b t)) ≡ true
pair_lined bare o a b s t h k = join (operand_text bare a s) (spaced o ++ operand_text false b t) (bare_lined bare a s h) (join (spaced o) (operand_text false b t) (sign_lined o) (bare_lined false b t k))

triple_lined : (o : Operator) (a b c : Dep (List ℕ)) (s t u : List ℕ) → is_line s ≡ true → is_line t ≡ true → is_line u ≡ true
    → is_line (operand_text false a s ++ (spaced o ++ (operand_text false b t ++ (spaced otherwise ++ operand_text false c u)))) ≡ true
triple_lined o a b c s t u h k l =
    join (operand_text false a s) _ (bare_lined false a s h) (join (spaced o) _ (sign_lined o) (pair_lined false otherwise b c t u k l))

text_lined : (d : Dep (List ℕ)) → lined d ≡ true → is_line (text d) ≡ true
text_lined (one (plain w)) h = h
text_lined (one (versioned w c e)) h = join w (32 ∷ (comparison_text c ++ 32 ∷ e)) (first_of_both (is_line w) (is_line e) h) (join (comparison_text c) (32 ∷ e) (cmp_lined c) (second_of_both (is_line w) (is_line e) h))
text_lined (namespace w) h = h
text_lined (joined j a b) h = pair_lined (is_chain j a) (joins j) a b (text a) (text b) (text_lined a (first_of_both (lined a) (lined b) h)) (text_lined b (second_of_both (lined a) (lined b) h))
text_lined (under k a b) h = pair_lined false (conditions k) a b (text a) (text b) (text_lined a (first_of_both (lined a) (lined b) h)) (text_lined b (second_of_both (lined a) (lined b) h))
text_lined (under_else k a b c) h =
    let r = second_of_both (lined a) (lined b && lined c) h in
    triple_lined (conditions k) a b c (text a) (text b) (text c) (text_lined a (first_of_both (lined a) (lined b && lined c) h)) (text_lined b (first_of_both (lined b) (lined c) r)) (text_lined c (second_of_both (lined b) (lined c) r))
text_lined missing h = refl

read_is : (fits : Dep (List ℕ) → Bool) (r : Result (Dep (List ℕ)) DepFault) (d : Dep (List ℕ)) → and_then r (λ x. if fits x then Ok x else Err OperatorNotHere) ≡ Ok d → r ≡ Ok d
read_is fits (Ok x) d h = of (fits x) h
  where
    given : Dep (List ℕ) → Result (Dep (List ℕ)) DepFault
    given y = Ok y

    of : (b : Bool) → (let r : Result (Dep (List ℕ)) DepFault = if b then Ok x else Err OperatorNotHere in r) ≡ Ok d → given x ≡ given d
    of true e = e
    of false e = absurd (cc)
read_is fits (Err e) d h = absurd (cc)

pub printed_line : ReadIsWritten → PrintedIsOneLine
printed_line written place t d h e =
    let s : Spells (words t) d = written (words t) d (read_is (stands_at place) (reading (words t)) d e) in
    text_lined d (subst (λ x. lined x ≡ true) s.sense (expr_lined s.expr (subst (λ ws. list_all is_line ws ≡ true) (sym s.is) (words_lined 0 t h))))
