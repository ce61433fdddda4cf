-- The canonical text is read as the dependency that it is of.
use Rattle.std.proofs.Common.{◌≡◌, ℕ, zero, suc, ◌+◌, ◌≤◌, Bool, true, false, ◌&&◌, ◌||◌, List, [], ◌∷◌, ◌++◌, length, take, Ok, refl, sym, ap, ◌∙◌, arith, append_assoc, append-nil, not, nat_lt}
use Rattle.std.specs.Prelude.{codes, if◌then◌else◌, ◌==◌, max, is_some, unwrap_or}
use Rattle.std.proofs.lemmas.Bool.Decides.{nat_tests}
use Rattle.solv_base.specs.declared.comparison.Cmp.{Cmp}
use Rattle.solv_base.specs.Dependency.{Dep, Connective, plain, versioned, one, namespace, and, or, with, without, if_holds, unless_holds, joined, under, under_else, operators}
use Rattle.solv_base.specs.Dependency.{Condition as Under}
use Rattle.solv_deps.specs.declared.sign.Joint.{Joint}
use Rattle.solv_deps.specs.declared.sign.Joint.TheVariants.{Both, Either, Jointly}
use Rattle.solv_deps.specs.declared.sign.Conditional.{Conditional}
use Rattle.solv_deps.specs.declared.sign.Conditional.TheVariants.{If, Unless}
use Rattle.solv_io.specs.Words.{is_blank}
use Rattle.solv_deps.specs.Words.{is_open, is_close, ends_word, unpaired_after, unpaired_in, word_rest, words_after, words}
use Rattle.solv_deps.specs.Grammar.{Operator, joins, conditions, otherwise, spellings, comparison, is_plain, is_namespace}
use Rattle.solv_deps.specs.Expressions.{no_comparison, connective_of, condition_of, by_sign, Operand, Chain, Expr, name, compared, inside, two, more, alone, chain, less, provided, provided_else, provided_inside, operand_words, chain_words, expr_words, operand_sense, chain_sense, expr_sense, operand_right, chain_right, expr_right, operand_depth, chain_depth, expr_depth, operand_operators, chain_operators, expr_operators}
use Rattle.solv_deps.specs.Inner.Reading.{same_joint}
use Rattle.solv_deps.specs.Reading.{reading}
use Rattle.solv_deps.specs.Canonical.{comparison_text, is_rich, ends_unpaired, space_before_close, operand_text, spaced, text}
use Rattle.solv_deps.specs.Grammar.{is_chain}
use Rattle.solv_deps.proofs.Complete.{written_is_read}
use Rattle.solv_list.proofs.Booleans.{false_of_not, first_of_both, second_of_both}
use Rattle.solv_list.proofs.Lists.{take_front}
use Rattle.solv_list.proofs.Numbers.{same_number as equal}
use Rattle.std.proofs.lemmas.Bool.{and_from, or_parts}

-- an operator's sign
abbrev pub sign : Operator → List ℕ
sign o = (spellings o).0

-- a text in parentheses, with a space before the closing one where that is due
abbrev pub parenthesised : Bool → List ℕ → List ℕ
parenthesised space text = codes "(" ++ (text ++ ((if space then codes " " else []) ++ codes ")"))

-- the condition as it is written
abbrev pub conditional : Under → Conditional
conditional if_holds = If
conditional unless_holds = Unless

-- is it one word?
abbrev pub is_word : List ℕ → Bool
is_word [] = false
is_word (c ∷ cs) = not (is_blank c || (is_open c || is_close c)) && (word_rest 0 cs == length cs)

-- does a word with, or without, a `(` that has no partner end before this text?
abbrev pub stops : Bool → List ℕ → Bool
stops unpaired [] = true
stops unpaired (c ∷ cs) = is_blank c || (is_close c && not unpaired)

none_open : (u : ℕ) → not (nat_lt 0 u) ≡ (u == 0)
none_open zero = refl
none_open (suc u) =
    let a : nat_lt 0 (suc u) ≡ true = grind (arith, nat_tests) in
    let b : (suc u == 0) ≡ false = grind (arith, nat_tests) in
    ap not a ∙ sym b

rest_stops : (u : ℕ) (rest : List ℕ) → stops (nat_lt 0 u) rest ≡ true → word_rest u rest ≡ 0
rest_stops u [] h = refl
rest_stops u (c ∷ cs) h =
    let e : ends_word u c ≡ true = ap (λ b. is_blank c || (is_close c && b)) (sym (none_open u)) ∙ h in
    rw e refl

goes_on : (b : Bool) (m n : ℕ) → (if b then 0 else suc m) ≡ suc n → (b ≡ false) × (m ≡ n)
goes_on true m n h = absurd (omega arith)
goes_on false m n h = (refl, omega arith)

-- a word's rest is as long before what stops it
rest_before : (u : ℕ) (cs rest : List ℕ) → word_rest u cs ≡ length cs → stops (nat_lt 0 (unpaired_in u cs)) rest ≡ true → word_rest u (cs ++ rest) ≡ length cs
rest_before u [] rest e h = rest_stops u rest h
rest_before u (c ∷ cs) rest e h =
    let k = goes_on (ends_word u c) (word_rest (unpaired_after u c (is_close c)) cs) (length cs) e in
    rw (k.0) (ap suc (rest_before (unpaired_after u c (is_close c)) cs rest k.1 h))

behind_front : (cs rest : List ℕ) → words_after (length cs) (cs ++ rest) ≡ words rest
behind_front [] rest = refl
behind_front (c ∷ cs) rest = behind_front cs rest

-- a word before what stops it is the first word
pub word_front : (w rest : List ℕ) → is_word w ≡ true → stops (nat_lt 0 (unpaired_in 0 w)) rest ≡ true → words (w ++ rest) ≡ w ∷ words rest
word_front [] rest h s = cc
word_front (c ∷ cs) rest h s =
    let f = false_of_not (is_blank c || (is_open c || is_close c)) (first_of_both (not (is_blank c || (is_open c || is_close c))) (word_rest 0 cs == length cs) h) in
    let g = or_parts (is_blank c) (is_open c || is_close c) f in
    let k = or_parts (is_open c) (is_close c) g.1 in
    let l : word_rest 0 cs ≡ length cs = equal _ _ (second_of_both (not (is_blank c || (is_open c || is_close c))) (word_rest 0 cs == length cs) h) in
    let u : unpaired_after 0 c (is_close c) ≡ 0 = rw (k.0, k.1) refl in
    let s2 : stops (nat_lt 0 (unpaired_in 0 cs)) rest ≡ true = rw u at s in
    let m : word_rest 0 (cs ++ rest) ≡ length cs = rest_before 0 cs rest l s2 in
    rw (g.0, k.0, k.1) (ap (λ n. (c ∷ take n (cs ++ rest)) ∷ words_after n (cs ++ rest)) m ∙ ap (λ t. (c ∷ t) ∷ words_after (length cs) (cs ++ rest)) (take_front cs rest) ∙ ap (λ ws. (c ∷ cs) ∷ ws) (behind_front cs rest))

pub sign_words : (o : Operator) (rest : List ℕ) → words (spaced o ++ rest) ≡ sign o ∷ words rest
sign_words (joins and) rest = refl
sign_words (joins or) rest = refl
sign_words (joins with) rest = refl
sign_words (joins without) rest = refl
sign_words (conditions if_holds) rest = refl
sign_words (conditions unless_holds) rest = refl
sign_words otherwise rest = refl

-- the comparisons
abbrev pub right_cmp : Cmp → Bool
right_cmp c = is_some (comparison (comparison_text c))

cmp_parts : (l g e : Bool) (rest : List ℕ) → right_cmp (record { less = l; equal = e; greater = g }) ≡ true
    → words (codes " " ++ (comparison_text (record { less = l; equal = e; greater = g }) ++ (codes " " ++ rest))) ≡ comparison_text (record { less = l; equal = e; greater = g }) ∷ words rest
cmp_parts true true true rest h = cc
cmp_parts true true false rest h = refl
cmp_parts true false true rest h = refl
cmp_parts true false false rest h = refl
cmp_parts false true true rest h = refl
cmp_parts false true false rest h = refl
cmp_parts false false true rest h = refl
cmp_parts false false false rest h = cc

cmp_words : (c : Cmp) (rest : List ℕ) → right_cmp c ≡ true → words (codes " " ++ (comparison_text c ++ (codes " " ++ rest))) ≡ comparison_text c ∷ words rest
cmp_words c rest h = cmp_parts c.less c.greater c.equal rest h

cmp_back : (l g e : Bool) → right_cmp (record { less = l; equal = e; greater = g }) ≡ true
    → unwrap_or (comparison (comparison_text (record { less = l; equal = e; greater = g }))) no_comparison ≡ record { less = l; equal = e; greater = g }
cmp_back true true true h = cc
cmp_back true true false h = refl
cmp_back true false true h = refl
cmp_back true false false h = refl
cmp_back false true true h = refl
cmp_back false true false h = refl
cmp_back false false true h = refl
cmp_back false false false h = cc

-- the dependency as it is written canonically
abbrev pub as_operand : Expr → Operand
as_operand (alone a) = a
as_operand x = inside x

abbrev pub front : Joint → Expr → Operand → Chain
front j (chain i c) b = if same_joint i j then more c by_sign b else two (inside (chain i c)) by_sign b
front j x b = two (as_operand x) by_sign b

abbrev pub written_joined : Connective → Expr → Operand → Expr
written_joined and x b = chain Both (front Both x b)
written_joined or x b = chain Either (front Either x b)
written_joined with x b = chain Jointly (front Jointly x b)
written_joined without x b = less (as_operand x) by_sign b

abbrev pub canonical : Dep (List ℕ) → Expr
canonical (one (plain w)) = alone (name w)
canonical (one (versioned w c e)) = alone (compared w (comparison_text c) e)
canonical (namespace w) = alone (name w)
canonical (joined j a b) = written_joined j (canonical a) (as_operand (canonical b))
canonical (under k a b) = provided (conditional k) (as_operand (canonical a)) by_sign (as_operand (canonical b))
canonical (under_else k a b c) = provided_else (conditional k) (as_operand (canonical a)) by_sign (as_operand (canonical b)) by_sign (as_operand (canonical c))
canonical d = alone (name [])

-- are its names and EVRs such words, and its comparisons comparisons?
abbrev pub well : Dep (List ℕ) → Bool
well (one (plain w)) = is_word w && (is_plain w && not (is_namespace w))
well (one (versioned w c e)) = is_word w && (is_plain w && (not (is_namespace w) && (right_cmp c && (is_word e && is_plain e))))
well (namespace w) = is_word w && (is_plain w && is_namespace w)
well (joined j a b) = well a && well b
well (under k a b) = well a && well b
well (under_else k a b c) = well a && (well b && well c)
well d = false

-- what the text ends with
abbrev pub open_end : Dep (List ℕ) → Bool
open_end d = if is_rich d then space_before_close d else ends_unpaired d

abbrev Reads : Dep (List ℕ) → Type 0
Reads d = (rest : List ℕ) → stops (open_end d) rest ≡ true → words (text d ++ rest) ≡ expr_words (canonical d) ++ words rest

closing : (space : Bool) (rest : List ℕ) → stops space (((if space then codes " " else []) ++ codes ")") ++ rest) ≡ true
closing true rest = refl
closing false rest = refl

closing_words : (space : Bool) (rest : List ℕ) → words (((if space then codes " " else []) ++ codes ")") ++ rest) ≡ codes ")" ∷ words rest
closing_words true rest = refl
closing_words false rest = refl

paren_words : (t : List ℕ) (space : Bool) (ws : List (List ℕ)) → ((rest : List ℕ) → stops space rest ≡ true → words (t ++ rest) ≡ ws ++ words rest)
    → (rest : List ℕ) → words (parenthesised space t ++ rest) ≡ (codes "(" ∷ (ws ++ codes ")" ∷ [])) ++ words rest
paren_words t space ws ih rest =
    let tail = ((if space then codes " " else []) ++ codes ")") in
    let a : words ((t ++ tail) ++ rest) ≡ ws ++ codes ")" ∷ words rest =
    ap words (append_assoc t tail rest) ∙ ih (tail ++ rest) (closing space rest) ∙ ap (λ v. ws ++ v) (closing_words space rest) in
    ap (λ v. codes "(" ∷ v) (a ∙ sym (append_assoc ws (codes ")" ∷ []) (words rest)))

op_words : (d : Dep (List ℕ)) → well d ≡ true → Reads d → (rest : List ℕ) → stops (ends_unpaired d) rest ≡ true
    → words (operand_text false d (text d) ++ rest) ≡ operand_words (as_operand (canonical d)) ++ words rest
op_words (one (plain w)) h ih rest s = ih rest s
op_words (one (versioned w c e)) h ih rest s = ih rest s
op_words (namespace w) h ih rest s = ih rest s
op_words (joined and a b) h ih rest s = paren_words (text (joined and a b)) (ends_unpaired b) (expr_words (canonical (joined and a b))) ih rest
op_words (joined or a b) h ih rest s = paren_words (text (joined or a b)) (ends_unpaired b) (expr_words (canonical (joined or a b))) ih rest
op_words (joined with a b) h ih rest s = paren_words (text (joined with a b)) (ends_unpaired b) (expr_words (canonical (joined with a b))) ih rest
op_words (joined without a b) h ih rest s = paren_words (text (joined without a b)) (ends_unpaired b) (expr_words (canonical (joined without a b))) ih rest
op_words (under k a b) h ih rest s = paren_words (text (under k a b)) (ends_unpaired b) (expr_words (canonical (under k a b))) ih rest
op_words (under_else k a b c) h ih rest s = paren_words (text (under_else k a b c)) (ends_unpaired c) (expr_words (canonical (under_else k a b c))) ih rest
op_words d h ih rest s = cc

abbrev joint_side : Joint → Expr → List (List ℕ)
joint_side j (chain i c) = if same_joint i j then chain_words i c else operand_words (inside (chain i c))
joint_side j x = operand_words (as_operand x)

abbrev side : Connective → Expr → List (List ℕ)
side and x = joint_side Both x
side or x = joint_side Either x
side with x = joint_side Jointly x
side without x = operand_words (as_operand x)

front_words : (j : Joint) (x : Expr) (b : Operand) → chain_words j (front j x b) ≡ joint_side j x ++ sign (joins (connective_of j)) ∷ operand_words b
front_words Both (chain Both c) b = refl
front_words Either (chain Either c) b = refl
front_words Jointly (chain Jointly c) b = refl
front_words j x b = refl

joined_words : (j : Connective) (x : Expr) (b : Operand) → expr_words (written_joined j x b) ≡ side j x ++ sign (joins j) ∷ operand_words b
joined_words and x b = front_words Both x b
joined_words or x b = front_words Either x b
joined_words with x b = front_words Jointly x b
joined_words without x b = refl

side_words : (j : Connective) (a : Dep (List ℕ)) → well a ≡ true → Reads a → (rest : List ℕ) → ((u : Bool) → stops u rest ≡ true)
    → words (operand_text (is_chain j a) a (text a) ++ rest) ≡ side j (canonical a) ++ words rest
side_words without a h ih rest s = op_words a h ih rest (s (ends_unpaired a))
side_words and (joined and a b) h ih rest s = ih rest (s (ends_unpaired b))
side_words or (joined or a b) h ih rest s = ih rest (s (ends_unpaired b))
side_words with (joined with a b) h ih rest s = ih rest (s (ends_unpaired b))
side_words j (one (plain w)) h ih rest s = op_words (one (plain w)) h ih rest (s (ends_unpaired (one (plain w))))
side_words j (one (versioned w c e)) h ih rest s = op_words (one (versioned w c e)) h ih rest (s (ends_unpaired (one (versioned w c e))))
side_words j a h ih rest s = op_words a h ih rest (s (ends_unpaired a))

spaced_stops : (o : Operator) (rest : List ℕ) (u : Bool) → stops u (spaced o ++ rest) ≡ true
spaced_stops o rest u = refl

-- two operands with an operator between them
between : (l r : List ℕ) (o : Operator) (ls rs : List (List ℕ)) (rest : List ℕ)
    → words (l ++ (spaced o ++ (r ++ rest))) ≡ ls ++ words (spaced o ++ (r ++ rest)) → words (r ++ rest) ≡ rs ++ words rest
    → words ((l ++ (spaced o ++ r)) ++ rest) ≡ (ls ++ sign o ∷ rs) ++ words rest
between l r o ls rs rest a b =
    ap words (append_assoc l (spaced o ++ r) rest ∙ ap (λ t. l ++ t) (append_assoc (spaced o) r rest))
    ∙ a ∙ ap (λ v. ls ++ v) (sign_words o (r ++ rest) ∙ ap (λ v. sign o ∷ v) b) ∙ sym (append_assoc ls (sign o ∷ rs) (words rest))

joined_reads : (j : Connective) (a b : Dep (List ℕ)) → well a ≡ true → well b ≡ true → Reads a → Reads b → (rest : List ℕ) → stops (ends_unpaired b) rest ≡ true
    → words (text (joined j a b) ++ rest) ≡ expr_words (canonical (joined j a b)) ++ words rest
joined_reads j a b ha hb ra rb rest s =
    let r = operand_text false b (text b) in
    let o = joins j in
    between (operand_text (is_chain j a) a (text a)) r o (side j (canonical a)) (operand_words (as_operand (canonical b))) rest
    (side_words j a ha ra (spaced o ++ (r ++ rest)) (spaced_stops o (r ++ rest))) (op_words b hb rb rest s)
    ∙ ap (λ v. v ++ words rest) (sym (joined_words j (canonical a) (as_operand (canonical b))))

pair_reads : (o : Operator) (a b : Dep (List ℕ)) → well a ≡ true → well b ≡ true → Reads a → Reads b → (rest : List ℕ) → stops (ends_unpaired b) rest ≡ true
    → words ((operand_text false a (text a) ++ (spaced o ++ operand_text false b (text b))) ++ rest) ≡ (operand_words (as_operand (canonical a)) ++ sign o ∷ operand_words (as_operand (canonical b))) ++ words rest
pair_reads o a b ha hb ra rb rest s =
    let r = operand_text false b (text b) in
    between (operand_text false a (text a)) r o (operand_words (as_operand (canonical a))) (operand_words (as_operand (canonical b))) rest
    (op_words a ha ra (spaced o ++ (r ++ rest)) (spaced_stops o (r ++ rest) (ends_unpaired a))) (op_words b hb rb rest s)

-- an operand under a condition with another one
else_reads : (k : Under) (a b c : Dep (List ℕ)) → well a ≡ true → well b ≡ true → well c ≡ true → Reads a → Reads b → Reads c → (rest : List ℕ) → stops (ends_unpaired c) rest ≡ true
    → words ((operand_text false a (text a) ++ (spaced (conditions k) ++ (operand_text false b (text b) ++ (spaced otherwise ++ operand_text false c (text c))))) ++ rest)
    ≡ (operand_words (as_operand (canonical a)) ++ sign (conditions k) ∷ (operand_words (as_operand (canonical b)) ++ sign otherwise ∷ operand_words (as_operand (canonical c)))) ++ words rest
else_reads k a b c ha hb hc ra rb rc rest s =
    let r = operand_text false b (text b) ++ (spaced otherwise ++ operand_text false c (text c)) in
    let q = operand_text false b (text b) in
    let z = operand_text false c (text c) in
    between (operand_text false a (text a)) r (conditions k) (operand_words (as_operand (canonical a))) (operand_words (as_operand (canonical b)) ++ sign otherwise ∷ operand_words (as_operand (canonical c))) rest
    (op_words a ha ra (spaced (conditions k) ++ (r ++ rest)) (spaced_stops (conditions k) (r ++ rest) (ends_unpaired a)))
    (between q z otherwise (operand_words (as_operand (canonical b))) (operand_words (as_operand (canonical c))) rest
    (op_words b hb rb (spaced otherwise ++ (z ++ rest)) (spaced_stops otherwise (z ++ rest) (ends_unpaired b))) (op_words c hc rc rest s))

under_reads : (k : Under) (a b : Dep (List ℕ)) → well a ≡ true → well b ≡ true → Reads a → Reads b → (rest : List ℕ) → stops (ends_unpaired b) rest ≡ true
    → words (text (under k a b) ++ rest) ≡ expr_words (canonical (under k a b)) ++ words rest
under_reads if_holds a b ha hb ra rb rest s = pair_reads (conditions if_holds) a b ha hb ra rb rest s
under_reads unless_holds a b ha hb ra rb rest s = pair_reads (conditions unless_holds) a b ha hb ra rb rest s

under_else_reads : (k : Under) (a b c : Dep (List ℕ)) → well a ≡ true → well b ≡ true → well c ≡ true → Reads a → Reads b → Reads c → (rest : List ℕ) → stops (ends_unpaired c) rest ≡ true
    → words (text (under_else k a b c) ++ rest) ≡ expr_words (canonical (under_else k a b c)) ++ words rest
under_else_reads if_holds a b c ha hb hc ra rb rc rest s = else_reads if_holds a b c ha hb hc ra rb rc rest s
under_else_reads unless_holds a b c ha hb hc ra rb rc rest s = else_reads unless_holds a b c ha hb hc ra rb rc rest s

text_reads : (d : Dep (List ℕ)) → well d ≡ true → Reads d
text_reads (one (plain w)) h rest s = word_front w rest (first_of_both (is_word w) _ h) s
text_reads (one (versioned w c e)) h rest s =
    let h1 = second_of_both (is_word w) (is_plain w && (not (is_namespace w) && (right_cmp c && (is_word e && is_plain e)))) h in
    let h2 = second_of_both (is_plain w) (not (is_namespace w) && (right_cmp c && (is_word e && is_plain e))) h1 in
    let h3 = second_of_both (not (is_namespace w)) (right_cmp c && (is_word e && is_plain e)) h2 in
    let h4 = second_of_both (right_cmp c) (is_word e && is_plain e) h3 in
    let tail = codes " " ++ (comparison_text c ++ (codes " " ++ e)) in
    ap words (append_assoc w tail rest)
    ∙ word_front w (tail ++ rest) (first_of_both (is_word w) _ h) refl
    ∙ ap (λ t. w ∷ words (codes " " ++ t)) (append_assoc (comparison_text c) (codes " " ++ e) rest)
    ∙ ap (λ v. w ∷ v) (cmp_words c (e ++ rest) (first_of_both (right_cmp c) _ h3) ∙ ap (λ v. comparison_text c ∷ v) (word_front e rest (first_of_both (is_word e) _ h4) s))
text_reads (namespace w) h rest s = word_front w rest (first_of_both (is_word w) _ h) s
text_reads (joined j a b) h rest s = let ha = first_of_both (well a) (well b) h in let hb = second_of_both (well a) (well b) h in joined_reads j a b ha hb (text_reads a ha) (text_reads b hb) rest s
text_reads (under k a b) h rest s = let ha = first_of_both (well a) (well b) h in let hb = second_of_both (well a) (well b) h in under_reads k a b ha hb (text_reads a ha) (text_reads b hb) rest s
text_reads (under_else k a b c) h rest s =
    let ha = first_of_both (well a) (well b && well c) h in
    let h1 = second_of_both (well a) (well b && well c) h in
    let hb = first_of_both (well b) (well c) h1 in
    let hc = second_of_both (well b) (well c) h1 in
    under_else_reads k a b c ha hb hc (text_reads a ha) (text_reads b hb) (text_reads c hc) rest s
text_reads d h rest s = cc

-- what is written canonically means the dependency
front_sense : (j : Joint) (x : Expr) (b : Operand) → chain_sense j (front j x b) ≡ joined (connective_of j) (expr_sense x) (operand_sense b)
front_sense Both (chain Both c) b = refl
front_sense Either (chain Either c) b = refl
front_sense Jointly (chain Jointly c) b = refl
front_sense j x b = refl

operand_same : (x : Expr) → operand_sense (as_operand x) ≡ expr_sense x
operand_same (alone a) = refl
operand_same x = refl

joined_sense : (j : Connective) (x : Expr) (b : Operand) → expr_sense (written_joined j x b) ≡ joined j (expr_sense x) (operand_sense b)
joined_sense and x b = front_sense Both x b
joined_sense or x b = front_sense Either x b
joined_sense with x b = front_sense Jointly x b
joined_sense without x b = ap (λ d. joined without d (operand_sense b)) (operand_same x)

same_condition : (k : Under) → condition_of (conditional k) ≡ k
same_condition if_holds = refl
same_condition unless_holds = refl

means_operand : (d : Dep (List ℕ)) → expr_sense (canonical d) ≡ d → operand_sense (as_operand (canonical d)) ≡ d
means_operand d e = operand_same (canonical d) ∙ e

means : (d : Dep (List ℕ)) → well d ≡ true → expr_sense (canonical d) ≡ d
means (one (plain w)) h = rw (false_of_not (is_namespace w) (second_of_both (is_plain w) _ (second_of_both (is_word w) (is_plain w && not (is_namespace w)) h))) refl
means (one (versioned w c e)) h =
    let h1 = second_of_both (is_word w) (is_plain w && (not (is_namespace w) && (right_cmp c && (is_word e && is_plain e)))) h in
    let h2 = second_of_both (is_plain w) (not (is_namespace w) && (right_cmp c && (is_word e && is_plain e))) h1 in
    let h3 = second_of_both (not (is_namespace w)) (right_cmp c && (is_word e && is_plain e)) h2 in
    ap (λ k. one (versioned w k e)) (cmp_back c.less c.greater c.equal (first_of_both (right_cmp c) _ h3))
means (namespace w) h = rw (second_of_both (is_plain w) (is_namespace w) (second_of_both (is_word w) (is_plain w && is_namespace w) h)) refl
means (joined j a b) h = let x = means a (first_of_both (well a) (well b) h) in let y = means_operand b (means b (second_of_both (well a) (well b) h)) in joined_sense j (canonical a) (as_operand (canonical b)) ∙ rw (x, y) refl
means (under k a b) h = let x = means_operand a (means a (first_of_both (well a) (well b) h)) in let y = means_operand b (means b (second_of_both (well a) (well b) h)) in rw (same_condition k, x, y) refl
means (under_else k a b c) h =
    let h1 = second_of_both (well a) (well b && well c) h in
    let x = means_operand a (means a (first_of_both (well a) (well b && well c) h)) in
    let y = means_operand b (means b (first_of_both (well b) (well c) h1)) in
    let z = means_operand c (means c (second_of_both (well b) (well c) h1)) in
    rw (same_condition k, x, y, z) refl
means d h = cc

-- its words are names, comparisons and EVRs where they should be
operand_is_right : (x : Expr) → expr_right x ≡ true → operand_right (as_operand x) ≡ true
operand_is_right (alone a) h = h
operand_is_right (chain j c) h = h
operand_is_right (less a s b) h = h
operand_is_right (provided k a s b) h = h
operand_is_right (provided_else k a s b t c) h = h
operand_is_right (provided_inside k a s b t c) h = h

front_right : (j : Joint) (x : Expr) (b : Operand) → expr_right x ≡ true → operand_right b ≡ true → chain_right (front j x b) ≡ true
front_right j (chain i c) b h k = elim (same_joint i j) as (λ s. chain_right (if s then more c by_sign b else two (inside (chain i c)) by_sign b) ≡ true) [ true ↦ and_from (chain_right c) (operand_right b) h k | false ↦ and_from (chain_right c) (operand_right b) h k ]
front_right j (alone a) b h k = and_from (operand_right a) (operand_right b) h k
front_right j (less a s c) b h k = and_from (expr_right (less a s c)) (operand_right b) h k
front_right j (provided i a s c) b h k = and_from (expr_right (provided i a s c)) (operand_right b) h k
front_right j (provided_else i a s c t e) b h k = and_from (expr_right (provided_else i a s c t e)) (operand_right b) h k
front_right j (provided_inside i a s c t e) b h k = and_from (expr_right (provided_inside i a s c t e)) (operand_right b) h k

joined_right : (j : Connective) (x : Expr) (b : Operand) → expr_right x ≡ true → operand_right b ≡ true → expr_right (written_joined j x b) ≡ true
joined_right and x b h k = front_right Both x b h k
joined_right or x b h k = front_right Either x b h k
joined_right with x b h k = front_right Jointly x b h k
joined_right without x b h k = and_from (operand_right (as_operand x)) (operand_right b) (operand_is_right x h) k

is_right_operand : (d : Dep (List ℕ)) → expr_right (canonical d) ≡ true → operand_right (as_operand (canonical d)) ≡ true
is_right_operand d h = operand_is_right (canonical d) h

is_right : (d : Dep (List ℕ)) → well d ≡ true → expr_right (canonical d) ≡ true
is_right (one (plain w)) h = first_of_both (is_plain w) _ (second_of_both (is_word w) (is_plain w && not (is_namespace w)) h)
is_right (one (versioned w c e)) h =
    let h1 = second_of_both (is_word w) (is_plain w && (not (is_namespace w) && (right_cmp c && (is_word e && is_plain e)))) h in
    let h2 = second_of_both (is_plain w) (not (is_namespace w) && (right_cmp c && (is_word e && is_plain e))) h1 in
    let h3 = second_of_both (not (is_namespace w)) (right_cmp c && (is_word e && is_plain e)) h2 in
    and_from (is_plain w) _ (first_of_both (is_plain w) _ h1) (and_from (not (is_namespace w)) _ (first_of_both (not (is_namespace w)) _ h2) (and_from (right_cmp c) _ (first_of_both (right_cmp c) _ h3) (second_of_both (is_word e) (is_plain e) (second_of_both (right_cmp c) (is_word e && is_plain e) h3))))
is_right (namespace w) h = first_of_both (is_plain w) _ (second_of_both (is_word w) (is_plain w && is_namespace w) h)
is_right (joined j a b) h = joined_right j (canonical a) (as_operand (canonical b)) (is_right a (first_of_both (well a) (well b) h)) (is_right_operand b (is_right b (second_of_both (well a) (well b) h)))
is_right (under k a b) h = and_from (operand_right (as_operand (canonical a))) _ (is_right_operand a (is_right a (first_of_both (well a) (well b) h))) (is_right_operand b (is_right b (second_of_both (well a) (well b) h)))
is_right (under_else k a b c) h =
    let h1 = second_of_both (well a) (well b && well c) h in
    and_from (operand_right (as_operand (canonical a))) _ (is_right_operand a (is_right a (first_of_both (well a) (well b && well c) h)))
    (and_from (operand_right (as_operand (canonical b))) _ (is_right_operand b (is_right b (first_of_both (well b) (well c) h1))) (is_right_operand c (is_right c (second_of_both (well b) (well c) h1))))
is_right d h = cc

-- its operators and its depth
operand_ops : (x : Expr) → operand_operators (as_operand x) ≡ expr_operators x
operand_ops (alone a) = refl
operand_ops x = refl

front_ops : (j : Joint) (x : Expr) (b : Operand) → chain_operators (front j x b) ≡ expr_operators x + operand_operators b + 1
front_ops j (chain i c) b = elim (same_joint i j) as (λ s. chain_operators (if s then more c by_sign b else two (inside (chain i c)) by_sign b) ≡ chain_operators c + operand_operators b + 1) [ true ↦ refl | false ↦ refl ]
front_ops j x b = refl

joined_ops : (j : Connective) (x : Expr) (b : Operand) → expr_operators (written_joined j x b) ≡ expr_operators x + operand_operators b + 1
joined_ops and x b = front_ops Both x b
joined_ops or x b = front_ops Either x b
joined_ops with x b = front_ops Jointly x b
joined_ops without x b = ap (λ n. n + operand_operators b + 1) (operand_ops x)

front_depth : (j : Joint) (x : Expr) (b : Operand) → chain_depth (front j x b) ≤ max (operand_depth (as_operand x)) (operand_depth b)
front_depth j (chain i c) b = elim (same_joint i j) as (λ s. chain_depth (if s then more c by_sign b else two (inside (chain i c)) by_sign b) ≤ max (chain_depth c + 1) (operand_depth b)) [ true ↦ omega arith | false ↦ omega arith ]
front_depth j (alone a) b = omega arith
front_depth j (less a s c) b = omega arith
front_depth j (provided k a s c) b = omega arith
front_depth j (provided_else k a s c t e) b = omega arith
front_depth j (provided_inside k a s c t e) b = omega arith

joined_depth : (j : Connective) (x : Expr) (b : Operand) → operand_depth (as_operand (written_joined j x b)) ≤ max (operand_depth (as_operand x)) (operand_depth b) + 1
joined_depth and x b = let z = front_depth Both x b in omega arith
joined_depth or x b = let z = front_depth Either x b in omega arith
joined_depth with x b = let z = front_depth Jointly x b in omega arith
joined_depth without x b = omega arith

ops_operand : (d : Dep (List ℕ)) → expr_operators (canonical d) ≡ operators d → operand_operators (as_operand (canonical d)) ≡ operators d
ops_operand d e = operand_ops (canonical d) ∙ e

ops : (d : Dep (List ℕ)) → well d ≡ true → expr_operators (canonical d) ≡ operators d
ops (one (plain w)) h = refl
ops (one (versioned w c e)) h = refl
ops (namespace w) h = refl
ops (joined j a b) h = let ha = first_of_both (well a) (well b) h in let hb = second_of_both (well a) (well b) h in let x = ops a ha in let y = ops_operand b (ops b hb) in let z = joined_ops j (canonical a) (as_operand (canonical b)) in omega arith
ops (under k a b) h = let ha = first_of_both (well a) (well b) h in let hb = second_of_both (well a) (well b) h in let x = ops_operand a (ops a ha) in let y = ops_operand b (ops b hb) in omega arith
ops (under_else k a b c) h = let h1 = second_of_both (well a) (well b && well c) h in let ha = first_of_both (well a) (well b && well c) h in let hb = first_of_both (well b) (well c) h1 in let hc = second_of_both (well b) (well c) h1 in let x = ops_operand a (ops a ha) in let y = ops_operand b (ops b hb) in let z = ops_operand c (ops c hc) in omega arith
ops d h = cc

depth : (d : Dep (List ℕ)) → well d ≡ true → operand_depth (as_operand (canonical d)) ≤ operators d
depth (one (plain w)) h = omega arith
depth (one (versioned w c e)) h = omega arith
depth (namespace w) h = omega arith
depth (joined j a b) h = let x = depth a (first_of_both (well a) (well b) h) in let y = depth b (second_of_both (well a) (well b) h) in let z = joined_depth j (canonical a) (as_operand (canonical b)) in omega arith
depth (under k a b) h = let x = depth a (first_of_both (well a) (well b) h) in let y = depth b (second_of_both (well a) (well b) h) in omega arith
depth (under_else k a b c) h =
    let h1 = second_of_both (well a) (well b && well c) h in
    let x = depth a (first_of_both (well a) (well b && well c) h) in
    let y = depth b (first_of_both (well b) (well c) h1) in
    let z = depth c (second_of_both (well b) (well c) h1) in
    omega arith
depth d h = cc

operand_deeper : (x : Expr) → expr_depth x ≤ operand_depth (as_operand x)
operand_deeper (alone a) = omega arith
operand_deeper (chain j c) = omega arith
operand_deeper (less a s b) = omega arith
operand_deeper (provided k a s b) = omega arith
operand_deeper (provided_else k a s b t c) = omega arith
operand_deeper (provided_inside k a s b t c) = omega arith

-- the canonical text of a dependency whose names and EVRs are words is read as that dependency
pub printed_is_read : (d : Dep (List ℕ)) → well d ≡ true → operators d ≤ 64 → reading (words (text d)) ≡ Ok d
printed_is_read d h l =
    let o = ops d h in
    let p = depth d h in
    let q = operand_deeper (canonical d) in
    ap (λ t. reading (words t)) (sym (append-nil (text d)))
    ∙ ap reading (text_reads d h [] refl ∙ append-nil (expr_words (canonical d)))
    ∙ written_is_read (canonical d) (is_right d h) (omega arith) (omega arith)
    ∙ ap Ok (means d h)
