-- What is read was written by the grammar.
use Rattle.std.proofs.Common.{◌≡◌, ℕ, ◌+◌, Bool, true, false, ◌&&◌, List, [], ◌∷◌, ◌++◌, length, Option, Some, None, Result, Ok, Err, refl, sym, ap, ◌∙◌, append_assoc, append-nil, subst, inl, inr, ◌⊎◌, not, nat_le}
use Rattle.std.specs.Option.{option_or}
use Rattle.std.specs.Prelude.{codes, if◌then◌else◌, is_some}
use Rattle.solv_base.specs.declared.comparison.Cmp.{Cmp}
use Rattle.solv_base.specs.Dependency.{Dep, versioned, one, joined}
use Rattle.solv_deps.specs.declared.fault.DepFault.{DepFault}
use Rattle.solv_deps.specs.declared.fault.DepFault.TheVariants as Fault
use Rattle.solv_deps.specs.declared.sign.Joint.{Joint}
use Rattle.solv_deps.specs.declared.sign.Joint.TheVariants.{Both, Either, Jointly}
use Rattle.solv_deps.specs.declared.sign.Conditional.{Conditional}
use Rattle.solv_deps.specs.declared.sign.Conditional.TheVariants.{If, Unless}
use Rattle.solv_deps.specs.declared.sign.Operator.{Operator}
use Rattle.solv_deps.specs.declared.sign.Operator.TheVariants.{Link, Minus, Condition, Else}
use Rattle.solv_deps.specs.Inner.Signs.{operator, opens, closes, written_by as spelled, operator_spelled, sign, rpm_word, word_is}
use Rattle.solv_deps.specs.Grammar.{comparison, is_plain, is_namespace, named}
use Rattle.solv_deps.specs.Expressions.{connective_of, Spelling, by_sign, by_word, Operand, Chain, name, compared, inside, two, more, alone, chain, less, provided, provided_else, provided_inside, operand_words, chain_words, expr_words, operand_sense, chain_sense, operand_right, chain_right, expr_right}
use Rattle.solv_deps.specs.Inner.Reading.{Hand, nothing, in_chain, in_difference, in_condition, in_else, in_inner_else, Due, operand_due, evr_due, operator_due, Point, whole, goes_on, going_on_if, same_joint, closed, close, go_on, at_operand, at_evr, at_other, at_operator, comparison_due, step_due, step, reading_from, beginning, end_due}
use Rattle.solv_deps.specs.Reading.{and_then, reading}
use Rattle.solv_deps.specs.Laws.{Spells}
use Rattle.solv_deps.proofs.SameReading.{same_reading}
use Rattle.solv_list.proofs.Lists.{same_bytes}
use Rattle.std.proofs.lemmas.Bool.{and_from}

-- the words of a text so far
abbrev pub Words : Type 0
Words = List (List ℕ)

-- a word that is an operator is its sign, or rpm's word for it
chosen : (b : Bool) (p o : Operator) (rest : Option Operator) → (if b then Some p else rest) ≡ Some o → ((b ≡ true) × (p ≡ o)) ⊎ (rest ≡ Some o)
chosen true p o rest e = inl (refl, cc)
chosen false p o rest e = inr e

is_text : (text : Operator → List ℕ) (p o : Operator) (w : List ℕ) → (word_is (text p) w ≡ true) × (p ≡ o) → w ≡ text o
is_text text p o w k = sym (same_bytes (text p) w k.0) ∙ ap text k.1

spelled_text : (text : Operator → List ℕ) (w : List ℕ) (o : Operator) → operator_spelled text w ≡ Some o → w ≡ text o
spelled_text text w o e =
    elim (chosen (word_is (text (Link Both)) w) (Link Both) o _ e) [
      | inl k ↦ is_text text (Link Both) o w k
      | inr e ↦ elim (chosen (word_is (text (Link Either)) w) (Link Either) o _ e) [
        | inl k ↦ is_text text (Link Either) o w k
        | inr e ↦ elim (chosen (word_is (text (Link Jointly)) w) (Link Jointly) o _ e) [
          | inl k ↦ is_text text (Link Jointly) o w k
          | inr e ↦ elim (chosen (word_is (text Minus) w) Minus o _ e) [
            | inl k ↦ is_text text Minus o w k
            | inr e ↦ elim (chosen (word_is (text (Condition If)) w) (Condition If) o _ e) [
              | inl k ↦ is_text text (Condition If) o w k
              | inr e ↦ elim (chosen (word_is (text (Condition Unless)) w) (Condition Unless) o _ e) [
                | inl k ↦ is_text text (Condition Unless) o w k
                | inr e ↦ elim (chosen (word_is (text Else) w) Else o _ e) [ inl k ↦ is_text text Else o w k | inr e ↦ cc ]
              ]
            ]
          ]
        ]
      ]
    ]

-- the operator has this spelling
record Spelt (w : List ℕ) (o : Operator) : Type 0 where
  pub spelling : Spelling
  pub is : w ≡ spelled spelling o

operator_spelt : (w : List ℕ) (o : Operator) → operator w ≡ Some o → Spelt w o
operator_spelt w o e = find (operator_spelled sign w) refl e
  where
    find : (r : Option Operator) → operator_spelled sign w ≡ r → option_or r (operator_spelled rpm_word w) ≡ Some o → Spelt w o
    find (Some p) k e = let same : p ≡ o = cc in record { spelling = by_sign; is = spelled_text sign w o (k ∙ ap Some same) }
    find None k e = record { spelling = by_word; is = spelled_text rpm_word w o e }

-- an operand that was written with this sense
record Operands (words : Words) (d : Dep (List ℕ)) : Type 0 where
  pub operand : Operand
  pub right : operand_right operand ≡ true
  pub sense : operand_sense operand ≡ d
  pub is : operand_words operand ≡ words

same_joint_is : (i j : Joint) → same_joint i j ≡ true → i ≡ j
same_joint_is Both Both h = refl
same_joint_is Either Either h = refl
same_joint_is Jointly Jointly h = refl
same_joint_is Both Either h = cc
same_joint_is Both Jointly h = cc
same_joint_is Either Both h = cc
same_joint_is Either Jointly h = cc
same_joint_is Jointly Both h = cc
same_joint_is Jointly Either h = cc

-- what stands before the last operand of a chain
data Front : Type 0 where
  first : Operand → Front
  several : Chain → Front

abbrev front_right : Front → Bool
front_right (first x) = operand_right x
front_right (several c) = chain_right c

abbrev front_sense : Joint → Front → Dep (List ℕ)
front_sense j (first x) = operand_sense x
front_sense j (several c) = chain_sense j c

abbrev front_words : Joint → Front → Words
front_words j (first x) = operand_words x
front_words j (several c) = chain_words j c

abbrev with_last : Front → Spelling → Operand → Chain
with_last (first x) s y = two x s y
with_last (several c) s y = more c s y

last_right : (f : Front) (s : Spelling) (y : Operand) → front_right f ≡ true → operand_right y ≡ true → chain_right (with_last f s y) ≡ true
last_right (first x) s y h k = and_from (operand_right x) (operand_right y) h k
last_right (several c) s y h k = and_from (chain_right c) (operand_right y) h k

last_sense : (j : Joint) (f : Front) (s : Spelling) (y : Operand) → chain_sense j (with_last f s y) ≡ joined (connective_of j) (front_sense j f) (operand_sense y)
last_sense j (first x) s y = refl
last_sense j (several c) s y = refl

last_words : (j : Joint) (f : Front) (s : Spelling) (y : Operand) → chain_words j (with_last f s y) ≡ front_words j f ++ spelled s (Link j) ∷ operand_words y
last_words j (first x) s y = refl
last_words j (several c) s y = refl

record Fronts (j : Joint) (words : Words) (d : Dep (List ℕ)) : Type 0 where
  pub front : Front
  pub right : front_right front ≡ true
  pub sense : front_sense j front ≡ d
  pub spelling : Spelling
  pub is : front_words j front ++ spelled spelling (Link j) ∷ [] ≡ words

record Lefts (o : Operator) (words : Words) (d : Dep (List ℕ)) : Type 0 where
  pub operand : Operand
  pub right : operand_right operand ≡ true
  pub sense : operand_sense operand ≡ d
  pub spelling : Spelling
  pub is : operand_words operand ++ spelled spelling o ∷ [] ≡ words

record Conditions (k : Conditional) (words : Words) (a b : Dep (List ℕ)) : Type 0 where
  pub operand : Operand
  pub condition : Operand
  pub right : operand_right operand ≡ true
  pub right_condition : operand_right condition ≡ true
  pub sense : operand_sense operand ≡ a
  pub sense_condition : operand_sense condition ≡ b
  pub spelling : Spelling
  pub else_spelling : Spelling
  pub is : operand_words operand ++ spelled spelling (Condition k) ∷ (operand_words condition ++ spelled else_spelling Else ∷ []) ≡ words

-- the words of a rule in hand, in its parentheses
abbrev IsHand : List Hand → Hand → Words → Type 0
IsHand o nothing ws = ws ≡ []
IsHand o (in_chain j a) ws = Fronts j ws a
IsHand o (in_difference a) ws = Lefts Minus ws a
IsHand o (in_condition k a) ws = Lefts (Condition k) ws a
IsHand o (in_else k a b) ws = Conditions k ws a b
IsHand (in_condition i c ∷ o) (in_inner_else k a b) ws = (k ≡ i) × ((a ≡ c) × Lefts Else ws b)
IsHand o (in_inner_else k a b) ws = ⊥

-- the words before the innermost parentheses that are open
abbrev Outers : List Hand → Words → Type 0
Outers [] ws = ws ≡ []
Outers (h ∷ o) ws = (us : Words) × ((vs : Words) × (Outers o us × (IsHand o h vs × (us ++ (vs ++ codes "(" ∷ []) ≡ ws))))

-- where a comparison may follow, the operand is this bare name
abbrev IsNamed : Option (List ℕ) → Operand → Type 0
IsNamed None x = Unit {0}
IsNamed (Some w) x = (x ≡ name w) × (is_namespace w ≡ false)

abbrev IsNone : Option (List ℕ) → Type 0
IsNone None = Unit {0}
IsNone (Some w) = ⊥

-- an operand comes after the rule in hand
record Operated (o : List Hand) (h : Hand) (nm : Option (List ℕ)) (d : Dep (List ℕ)) (words : Words) : Type 0 where
  pub front : Words
  pub hand : IsHand o h front
  pub operand : Operand
  pub right : operand_right operand ≡ true
  pub sense : operand_sense operand ≡ d
  pub named : IsNamed nm operand
  pub is : front ++ operand_words operand ≡ words

-- a conditional whose `<ELSE>` stands in the parentheses is whole
record Closed (h : Hand) (nm : Option (List ℕ)) (d : Dep (List ℕ)) (words : Words) : Type 0 where
  pub kind : Conditional
  pub operand : Operand
  pub spelling : Spelling
  pub condition : Operand
  pub else_spelling : Spelling
  pub other : Operand
  pub right : expr_right (provided_inside kind operand spelling condition else_spelling other) ≡ true
  pub hand : h ≡ in_else kind (operand_sense operand) (operand_sense condition)
  pub bare : IsNone nm
  pub sense : operand_sense other ≡ d
  pub is : expr_words (provided_inside kind operand spelling condition else_spelling other) ≡ words

-- a comparison comes after a bare name
record Compared (o : List Hand) (h : Hand) (nm : List ℕ) (c : Cmp) (words : Words) : Type 0 where
  pub front : Words
  pub hand : IsHand o h front
  pub sign_word : List ℕ
  pub right : is_plain nm ≡ true
  pub bare : is_namespace nm ≡ false
  pub comparison : comparison sign_word ≡ Some c
  pub is : front ++ nm ∷ sign_word ∷ [] ≡ words

abbrev IsDue : List Hand → Due → Words → Type 0
IsDue o (operand_due h) ws = IsHand o h ws
IsDue o (evr_due h nm c) ws = Compared o h nm c ws
IsDue o (operator_due h nm d) ws = Operated o h nm d ws ⊎ Closed h nm d ws

-- the words so far are written, as far as this point
record IsAt (o : List Hand) (next : Due) (words : Words) : Type 0 where
  pub before : Words
  pub here : Words
  pub outer : Outers o before
  pub due : IsDue o next here
  pub is : before ++ here ≡ words

abbrev is_inner : Hand → Bool
is_inner (in_inner_else k a b) = true
is_inner h = false

behind : (a : Words) (w : List ℕ) (b ws : Words) → a ++ w ∷ [] ≡ ws → a ++ w ∷ b ≡ ws ++ b
behind a w b ws e = sym (append_assoc a (w ∷ []) b) ∙ ap (λ v. v ++ b) e

behind_else : (a : Words) (v : List ℕ) (b : Words) (w : List ℕ) (c ws : Words) → a ++ v ∷ (b ++ w ∷ []) ≡ ws → a ++ v ∷ (b ++ w ∷ c) ≡ ws ++ c
behind_else a v b w c ws e = ap (λ z. a ++ v ∷ z) (sym (append_assoc b (w ∷ []) c)) ∙ sym (append_assoc a (v ∷ (b ++ w ∷ [])) c) ∙ ap (λ v. v ++ c) e

whole_operated : (o : List Hand) (h : Hand) (vs : Words) (x : Operand) (d : Dep (List ℕ)) → is_inner h ≡ false → IsHand o h vs → operand_right x ≡ true → operand_sense x ≡ d
    → Spells (vs ++ operand_words x) (whole h d)
whole_operated o nothing vs x d n e r s = record { expr = alone x; right = r; sense = s; is = rw e refl }
whole_operated o (in_chain j a) vs x d n f r s =
    record {
      expr = chain j (with_last f.front f.spelling x);
      right = last_right f.front f.spelling x f.right r;
      sense = rw (last_sense j f.front f.spelling x, f.sense, s) refl;
      is = last_words j f.front f.spelling x ∙ behind (front_words j f.front) (spelled f.spelling (Link j)) (operand_words x) vs f.is;
    }
whole_operated o (in_difference a) vs x d n l r s =
    record {
      expr = less l.operand l.spelling x;
      right = and_from (operand_right l.operand) (operand_right x) l.right r;
      sense = rw (l.sense, s) refl;
      is = behind (operand_words l.operand) (spelled l.spelling Minus) (operand_words x) vs l.is;
    }
whole_operated o (in_condition k a) vs x d n l r s =
    record {
      expr = provided k l.operand l.spelling x;
      right = and_from (operand_right l.operand) (operand_right x) l.right r;
      sense = rw (l.sense, s) refl;
      is = behind (operand_words l.operand) (spelled l.spelling (Condition k)) (operand_words x) vs l.is;
    }
whole_operated o (in_else k a b) vs x d n l r s =
    record {
      expr = provided_else k l.operand l.spelling l.condition l.else_spelling x;
      right = and_from (operand_right l.operand) (operand_right l.condition && operand_right x) l.right (and_from (operand_right l.condition) (operand_right x) l.right_condition r);
      sense = rw (l.sense, l.sense_condition, s) refl;
      is = behind_else (operand_words l.operand) (spelled l.spelling (Condition k)) (operand_words l.condition) (spelled l.else_spelling Else) (operand_words x) vs l.is;
    }
whole_operated o (in_inner_else k a b) vs x d n l r s = cc

-- what stands at a point where an operator is due is an expression, where no `<ELSE>` is open
whole_here : (o : List Hand) (h : Hand) (nm : Option (List ℕ)) (d : Dep (List ℕ)) (ws : Words) → is_inner h ≡ false → IsDue o (operator_due h nm d) ws → Spells ws (whole h d)
whole_here o h nm d ws n g =
    elim g [
      | inl x ↦ let P : Words → Type 0 = λ v. Spells v (whole h d) in subst P x.is (whole_operated o h x.front x.operand d n x.hand x.right x.sense)
      | inr y ↦ record {
        expr = provided_inside y.kind y.operand y.spelling y.condition y.else_spelling y.other;
        right = y.right;
        sense = rw (y.hand, y.sense) refl;
        is = y.is;
      }
    ]

-- the end of the text
end_written : (o : List Hand) (due : Due) (ws : Words) (d : Dep (List ℕ)) (p : IsAt o due ws) → end_due o due ≡ Ok d → Spells ws d
end_written [] (operand_due h) ws d p e = cc
end_written [] (evr_due h nm c) ws d p e = cc
end_written [] (operator_due h nm x) ws d p e =
    let same : whole h x ≡ d = cc in
    let front : p.here ≡ ws = ap (λ v. v ++ p.here) (sym p.outer) ∙ p.is in
    let P : Words → Type 0 = λ v. Spells v d in
    subst P front (rw same at (whole_here [] h nm x p.here (outermost h p.due) p.due))
  where
    outermost : (h : Hand) → IsDue [] (operator_due h nm x) p.here → is_inner h ≡ false
    outermost nothing g = refl
    outermost (in_chain j a) g = refl
    outermost (in_difference a) g = refl
    outermost (in_condition k a) g = refl
    outermost (in_else k a b) g = refl
    outermost (in_inner_else k a b) g = elim g [ inl x ↦ absurd x.hand | inr y ↦ let e = y.hand in cc ]
end_written (h ∷ o) (operand_due k) ws d p e = cc
end_written (h ∷ o) (evr_due k nm c) ws d p e = cc
end_written (h ∷ o) (operator_due k nm x) ws d p e = cc

-- an operand where one is due
at_name : (o : List Hand) (h : Hand) (w : List ℕ) (vs : Words) → is_plain w ≡ true → IsHand o h vs → IsDue o (operator_due h (if is_namespace w then None else Some w) (named w)) (vs ++ w ∷ [])
at_name o h w vs p g =
    inl (record { front = vs; hand = g; operand = name w; right = p; sense = refl; named = bare (is_namespace w) refl; is = refl })
  where
    bare : (b : Bool) → is_namespace w ≡ b → IsNamed (if b then None else Some w) (name w)
    bare true e = tt
    bare false e = (refl, e)

at_compared : (o : List Hand) (h : Hand) (nm : List ℕ) (c : Cmp) (w : List ℕ) (vs : Words) → is_plain w ≡ true → Compared o h nm c vs → IsDue o (operator_due h None (one (versioned nm c w))) (vs ++ w ∷ [])
at_compared o h nm c w vs p g =
    let e : comparison g.sign_word ≡ Some c = g.comparison in
    let some : is_some (comparison g.sign_word) ≡ true = rw e refl in
    let bare : not (is_namespace nm) ≡ true = rw g.bare refl in
    inl (record {
      front = g.front;
      hand = g.hand;
      operand = compared nm g.sign_word w;
      right = and_from (is_plain nm) _ g.right (and_from (not (is_namespace nm)) _ bare (and_from (is_some (comparison g.sign_word)) (is_plain w) some p));
      sense = rw e refl;
      named = tt;
      is = sym (append_assoc g.front (nm ∷ g.sign_word ∷ []) (w ∷ [])) ∙ ap (λ v. v ++ w ∷ []) g.is;
    })

-- a comparison after a bare name
at_comparison : (o : List Hand) (h : Hand) (nm : List ℕ) (d : Dep (List ℕ)) (c : Cmp) (w : List ℕ) (vs : Words) → comparison w ≡ Some c → IsDue o (operator_due h (Some nm) d) vs → Compared o h nm c (vs ++ w ∷ [])
at_comparison o h nm d c w vs e g =
    elim g [
      | inl x ↦
          let same : x.operand ≡ name nm = x.named.0 in
          let plain_word : is_plain nm ≡ true = rw same at x.right in
          let here : x.front ++ nm ∷ [] ≡ vs = rw same at x.is in
          record {
            front = x.front;
            hand = x.hand;
            sign_word = w;
            right = plain_word;
            bare = x.named.1;
            comparison = e;
            is = sym (append_assoc x.front (nm ∷ []) (w ∷ [])) ∙ ap (λ v. v ++ w ∷ []) here;
          }
      | inr y ↦ absurd y.bare
    ]

-- an operator after an operand
with_operator : (t : Spelling) (o : List Hand) (h : Hand) (nm : Option (List ℕ)) (d : Dep (List ℕ)) (op : Operator) (k : Hand) (vs : Words) → IsDue o (operator_due h nm d) vs → goes_on o h d op ≡ Some k → IsHand o k (vs ++ spelled t op ∷ [])
with_operator t o h nm d op k vs g e =
    elim g [
      | inl x ↦
          let P : Words → Type 0 = λ v. IsHand o k (v ++ spelled t op ∷ []) in
          subst P x.is (rule o h d op k x.front x.operand x.hand x.right x.sense e)
      | inr y ↦ absurd (closed_stops o h d op k y.kind (operand_sense y.operand) (operand_sense y.condition) y.hand e)
    ]
  where
    closed_stops : (o : List Hand) (h : Hand) (d : Dep (List ℕ)) (op : Operator) (k : Hand) (i : Conditional) (a b : Dep (List ℕ)) → h ≡ in_else i a b → goes_on o h d op ≡ Some k → ⊥
    closed_stops o (in_else i' a' b') d (Link j) k i a b s e = cc
    closed_stops o (in_else i' a' b') d Minus k i a b s e = cc
    closed_stops o (in_else i' a' b') d (Condition c) k i a b s e = cc
    closed_stops o (in_else i' a' b') d Else k i a b s e = cc
    closed_stops o nothing d op k i a b s e = cc
    closed_stops o (in_chain j c) d op k i a b s e = cc
    closed_stops o (in_difference c) d op k i a b s e = cc
    closed_stops o (in_condition i' c) d op k i a b s e = cc
    closed_stops o (in_inner_else i' c c') d op k i a b s e = cc

    left_of : (o : List Hand) (op : Operator) (d : Dep (List ℕ)) (vs : Words) (x : Operand) → vs ≡ [] → operand_right x ≡ true → operand_sense x ≡ d → Lefts op ((vs ++ operand_words x) ++ spelled t op ∷ []) d
    left_of o op d vs x e r s = record { operand = x; right = r; sense = s; spelling = t; is = rw e refl }

    chained : (o : List Hand) (b : Bool) (i j : Joint) (a d : Dep (List ℕ)) (k : Hand) (vs : Words) (x : Operand) → same_joint i j ≡ b → Fronts i vs a → operand_right x ≡ true → operand_sense x ≡ d
        → going_on_if b (in_chain j (joined (connective_of i) a d)) ≡ Some k → IsHand o k ((vs ++ operand_words x) ++ spelled t (Link j) ∷ [])
    chained o false i j a d k vs x q f r s e = cc
    chained o true i j a d k vs x q f r s e =
        let same : in_chain j (joined (connective_of i) a d) ≡ k = cc in
        let ij : i ≡ j = same_joint_is i j q in
        let P : Hand → Type 0 = λ h. IsHand o h ((vs ++ operand_words x) ++ spelled t (Link j) ∷ []) in
        subst P same (rw (← ij) (record {
          front = several (with_last f.front f.spelling x);
          right = last_right f.front f.spelling x f.right r;
          sense = rw (last_sense i f.front f.spelling x, f.sense, s) refl;
          spelling = t;
          is = ap (λ v. v ++ spelled t (Link i) ∷ []) (last_words i f.front f.spelling x ∙ behind (front_words i f.front) (spelled f.spelling (Link i)) (operand_words x) vs f.is);
        }))

    rule : (o : List Hand) (h : Hand) (d : Dep (List ℕ)) (op : Operator) (k : Hand) (vs : Words) (x : Operand) → IsHand o h vs → operand_right x ≡ true → operand_sense x ≡ d → goes_on o h d op ≡ Some k
        → IsHand o k ((vs ++ operand_words x) ++ spelled t op ∷ [])
    rule o nothing d (Link j) k vs x g r s e =
        let P : Hand → Type 0 = λ h. IsHand o h ((vs ++ operand_words x) ++ spelled t (Link j) ∷ []) in
        let same : in_chain j d ≡ k = cc in
        subst P same (record { front = first x; right = r; sense = s; spelling = t; is = rw g refl })
    rule o nothing d Minus k vs x g r s e =
        let P : Hand → Type 0 = λ h. IsHand o h ((vs ++ operand_words x) ++ spelled t Minus ∷ []) in
        let same : in_difference d ≡ k = cc in
        subst P same (left_of o Minus d vs x g r s)
    rule o nothing d (Condition c) k vs x g r s e =
        let P : Hand → Type 0 = λ h. IsHand o h ((vs ++ operand_words x) ++ spelled t (Condition c) ∷ []) in
        let same : in_condition c d ≡ k = cc in
        subst P same (left_of o (Condition c) d vs x g r s)
    rule (in_condition i c ∷ o) nothing d Else k vs x g r s e =
        let P : Hand → Type 0 = λ h. IsHand (in_condition i c ∷ o) h ((vs ++ operand_words x) ++ spelled t Else ∷ []) in
        let same : in_inner_else i c d ≡ k = cc in
        subst P same (refl, (refl, left_of o Else d vs x g r s))
    rule [] nothing d Else k vs x g r s e = cc
    rule (nothing ∷ o) nothing d Else k vs x g r s e = cc
    rule (in_chain j c ∷ o) nothing d Else k vs x g r s e = cc
    rule (in_difference c ∷ o) nothing d Else k vs x g r s e = cc
    rule (in_else i c c' ∷ o) nothing d Else k vs x g r s e = cc
    rule (in_inner_else i c c' ∷ o) nothing d Else k vs x g r s e = cc
    rule o (in_chain i a) d (Link j) k vs x g r s e = chained o (same_joint i j) i j a d k vs x refl g r s e
    rule o (in_chain i a) d Minus k vs x g r s e = cc
    rule o (in_chain i a) d (Condition c) k vs x g r s e = cc
    rule o (in_chain i a) d Else k vs x g r s e = cc
    rule o (in_condition c a) d Else k vs x g r s e =
        let P : Hand → Type 0 = λ h. IsHand o h ((vs ++ operand_words x) ++ spelled t Else ∷ []) in
        let same : in_else c a d ≡ k = cc in
        subst P same (record {
          operand = g.operand;
          condition = x;
          right = g.right;
          right_condition = r;
          sense = g.sense;
          sense_condition = s;
          spelling = g.spelling;
          else_spelling = t;
          is = sym (append_assoc (operand_words g.operand) (spelled g.spelling (Condition c) ∷ operand_words x) (spelled t Else ∷ [])) ∙ ap (λ v. v ++ spelled t Else ∷ []) (behind (operand_words g.operand) (spelled g.spelling (Condition c)) (operand_words x) vs g.is);
        })
    rule o (in_condition c a) d (Link j) k vs x g r s e = cc
    rule o (in_condition c a) d Minus k vs x g r s e = cc
    rule o (in_condition c a) d (Condition c') k vs x g r s e = cc
    rule o (in_difference a) d op k vs x g r s e = cc
    rule o (in_else c a b) d op k vs x g r s e = cc
    rule o (in_inner_else c a b) d op k vs x g r s e = cc

regroup : (us vs here : Words) (b c : List ℕ) → us ++ (vs ++ b ∷ (here ++ c ∷ [])) ≡ ((us ++ (vs ++ b ∷ [])) ++ here) ++ c ∷ []
regroup us vs here b c = simp append_assoc

regroup_inside : (x : Words) (i : List ℕ) (y : Words) (e : List ℕ) (z : Words) (b c : List ℕ) → x ++ i ∷ b ∷ (y ++ e ∷ (z ++ c ∷ [])) ≡ (x ++ i ∷ []) ++ b ∷ (((y ++ e ∷ []) ++ z) ++ c ∷ [])
regroup_inside x i y e z b c = simp append_assoc

-- what stands in parentheses, and the parentheses
in_parentheses : (o : Hand) (os : List Hand) (h : Hand) (nm : Option (List ℕ)) (d : Dep (List ℕ)) (vs here : Words) → is_inner h ≡ false → IsHand os o vs → IsDue (o ∷ os) (operator_due h nm d) here
    → Operated os o None (whole h d) (vs ++ codes "(" ∷ (here ++ codes ")" ∷ []))
in_parentheses o os h nm d vs here n k g =
    let e = whole_here (o ∷ os) h nm d here n g in
    record { front = vs; hand = k; operand = inside e.expr; right = e.right; sense = e.sense; named = tt; is = ap (λ v. vs ++ codes "(" ∷ (v ++ codes ")" ∷ [])) e.is }

-- a parenthesis closes
closed_due : (o : Hand) (os : List Hand) (h : Hand) (nm : Option (List ℕ)) (d : Dep (List ℕ)) (vs here : Words) → IsHand os o vs → IsDue (o ∷ os) (operator_due h nm d) here
    → IsDue os (closed h o d) (vs ++ codes "(" ∷ (here ++ codes ")" ∷ []))
closed_due o os nothing nm d vs here k g = inl (in_parentheses o os nothing nm d vs here refl k g)
closed_due o os (in_chain j a) nm d vs here k g = inl (in_parentheses o os (in_chain j a) nm d vs here refl k g)
closed_due o os (in_difference a) nm d vs here k g = inl (in_parentheses o os (in_difference a) nm d vs here refl k g)
closed_due o os (in_condition c a) nm d vs here k g = inl (in_parentheses o os (in_condition c a) nm d vs here refl k g)
closed_due o os (in_else c a b) nm d vs here k g = inl (in_parentheses o os (in_else c a b) nm d vs here refl k g)
closed_due (in_condition i c) os (in_inner_else kind a b) nm d vs here k g =
    elim g [
      | inl x ↦
          let l = x.hand.1.1 in
          let same : a ≡ c = x.hand.1.0 in
          let same_kind : kind ≡ i = x.hand.0 in
          inr (record {
            kind = i;
            operand = k.operand;
            spelling = k.spelling;
            condition = l.operand;
            else_spelling = l.spelling;
            other = x.operand;
            right = and_from (operand_right k.operand) (operand_right l.operand && operand_right x.operand) k.right (and_from (operand_right l.operand) (operand_right x.operand) l.right x.right);
            hand = rw (same_kind, same, k.sense, l.sense) refl;
            bare = tt;
            sense = x.sense;
            is = regroup_inside (operand_words k.operand) (spelled k.spelling (Condition i)) (operand_words l.operand) (spelled l.spelling Else) (operand_words x.operand) (codes "(") (codes ")")
                ∙ ap (λ v. v ++ codes "(" ∷ (((operand_words l.operand ++ spelled l.spelling Else ∷ []) ++ operand_words x.operand) ++ codes ")" ∷ [])) k.is
                ∙ ap (λ v. vs ++ codes "(" ∷ ((v ++ operand_words x.operand) ++ codes ")" ∷ [])) l.is
                ∙ ap (λ v. vs ++ codes "(" ∷ (v ++ codes ")" ∷ [])) x.is;
          })
      | inr y ↦ let e = y.hand in cc
    ]
closed_due nothing os (in_inner_else kind a b) nm d vs here k g = elim g [ inl x ↦ absurd x.hand | inr y ↦ let e = y.hand in cc ]
closed_due (in_chain j c) os (in_inner_else kind a b) nm d vs here k g = elim g [ inl x ↦ absurd x.hand | inr y ↦ let e = y.hand in cc ]
closed_due (in_difference c) os (in_inner_else kind a b) nm d vs here k g = elim g [ inl x ↦ absurd x.hand | inr y ↦ let e = y.hand in cc ]
closed_due (in_else i c c') os (in_inner_else kind a b) nm d vs here k g = elim g [ inl x ↦ absurd x.hand | inr y ↦ let e = y.hand in cc ]
closed_due (in_inner_else i c c') os (in_inner_else kind a b) nm d vs here k g = elim g [ inl x ↦ absurd x.hand | inr y ↦ let e = y.hand in cc ]

abbrev At : Point → Words → Type 0
At q ws = IsAt q.outer q.due ws

-- at the innermost parentheses one word more
further : (o : List Hand) (old next : Due) (ws : Words) (w : List ℕ) (p : IsAt o old ws) → IsDue o next (p.here ++ w ∷ []) → IsAt o next (ws ++ w ∷ [])
further o old next ws w p g = record { before = p.before; here = p.here ++ w ∷ []; outer = p.outer; due = g; is = sym (append_assoc p.before p.here (w ∷ [])) ∙ ap (λ v. v ++ w ∷ []) p.is }

opened : (o : List Hand) (h : Hand) (ws : Words) (w : List ℕ) → IsAt o (operand_due h) ws → w ≡ codes "(" → IsAt (h ∷ o) (operand_due nothing) (ws ++ w ∷ [])
opened o h ws w p e =
    record {
      before = p.before ++ (p.here ++ codes "(" ∷ []);
      here = [];
      outer = (p.before, (p.here, (p.outer, (p.due, refl))));
      due = refl;
      is = append-nil (p.before ++ (p.here ++ codes "(" ∷ [])) ∙ sym (append_assoc p.before p.here (codes "(" ∷ [])) ∙ rw (p.is, e) refl;
    }

closing : (o : Hand) (os : List Hand) (h : Hand) (nm : Option (List ℕ)) (d : Dep (List ℕ)) (ws : Words) (w : List ℕ) → IsAt (o ∷ os) (operator_due h nm d) ws → w ≡ codes ")" → IsAt os (closed h o d) (ws ++ w ∷ [])
closing o os h nm d ws w p e =
    let us = p.outer.0 in
    let vs = p.outer.1.0 in
    record {
      before = us;
      here = vs ++ codes "(" ∷ (p.here ++ codes ")" ∷ []);
      outer = p.outer.1.1.0;
      due = closed_due o os h nm d vs p.here p.outer.1.1.1.0 p.due;
      is = regroup us vs p.here (codes "(") (codes ")") ∙ ap (λ v. (v ++ p.here) ++ codes ")" ∷ []) p.outer.1.1.1.1 ∙ rw (p.is, e) refl;
    }

step_operand : (o : List Hand) (n : ℕ) (h : Hand) (w : List ℕ) (q : Point) (ws : Words) → IsAt o (operand_due h) ws → at_operand o n h w ≡ Ok q → At q (ws ++ w ∷ [])
step_operand o n h w q ws p e = cases (opens w) (nat_le 64 (length o)) (is_plain w) refl refl e
  where
    cases : (b f r : Bool) → opens w ≡ b → is_plain w ≡ r
        → (if b then (if f then Err Fault.TooDeep else Ok (record { outer = h ∷ o; operators = n; due = operand_due nothing }))
        else (if r then Ok (record { outer = o; operators = n; due = operator_due h (if is_namespace w then None else Some w) (named w) }) else Err Fault.MissingOperand)) ≡ Ok q
        → At q (ws ++ w ∷ [])
    cases true true r k l e = cc
    cases true false r k l e =
        let same : record { outer = h ∷ o; operators = n; due = operand_due nothing } ≡ q = cc in
        subst (λ q. At q (ws ++ w ∷ [])) same (opened o h ws w p (sym (same_bytes (codes "(") w k)))
    cases false f true k l e =
        let same : record { outer = o; operators = n; due = operator_due h (if is_namespace w then None else Some w) (named w) } ≡ q = cc in
        subst (λ q. At q (ws ++ w ∷ [])) same (further o (operand_due h) (operator_due h (if is_namespace w then None else Some w) (named w)) ws w p (at_name o h w p.here l p.due))
    cases false f false k l e = cc

step_evr : (o : List Hand) (n : ℕ) (h : Hand) (nm : List ℕ) (c : Cmp) (w : List ℕ) (q : Point) (ws : Words) → IsAt o (evr_due h nm c) ws → at_evr o n h nm c w ≡ Ok q → At q (ws ++ w ∷ [])
step_evr o n h nm c w q ws p e = cases (is_plain w) refl e
  where
    cases : (r : Bool) → is_plain w ≡ r → (if r then Ok (record { outer = o; operators = n; due = operator_due h None (one (versioned nm c w)) }) else Err Fault.MissingOperand) ≡ Ok q → At q (ws ++ w ∷ [])
    cases true l e =
        let same : record { outer = o; operators = n; due = operator_due h None (one (versioned nm c w)) } ≡ q = cc in
        subst (λ q. At q (ws ++ w ∷ [])) same (further o (evr_due h nm c) (operator_due h None (one (versioned nm c w))) ws w p (at_compared o h nm c w p.here l p.due))
    cases false l e = cc

step_sign : (o : List Hand) (n : ℕ) (h : Hand) (nm : Option (List ℕ)) (d : Dep (List ℕ)) (op : Operator) (w : List ℕ) (q : Point) (ws : Words) → operator w ≡ Some op → IsAt o (operator_due h nm d) ws
    → go_on o n op (goes_on o h d op) ≡ Ok q → At q (ws ++ w ∷ [])
step_sign o n h nm d op w q ws k p e = cases (goes_on o h d op) refl e
  where
    room : (f : Bool) (next : Hand) → goes_on o h d op ≡ Some next → (if f then Err Fault.TooDeep else Ok (record { outer = o; operators = n + 1; due = operand_due next })) ≡ Ok q → At q (ws ++ w ∷ [])
    room true next g e = cc
    room false next g e =
        let same : record { outer = o; operators = n + 1; due = operand_due next } ≡ q = cc in
        let t = operator_spelt w op k in
        let here : IsHand o next (p.here ++ w ∷ []) = rw t.is (with_operator t.spelling o h nm d op next p.here p.due g) in
        subst (λ q. At q (ws ++ w ∷ [])) same (further o (operator_due h nm d) (operand_due next) ws w p here)

    cases : (r : Option Hand) → goes_on o h d op ≡ r → go_on o n op r ≡ Ok q → At q (ws ++ w ∷ [])
    cases None g e = cc
    cases (Some next) g e = room (nat_le 64 n) next g e

step_other : (o : List Hand) (n : ℕ) (h : Hand) (nm : Option (List ℕ)) (d : Dep (List ℕ)) (w : List ℕ) (q : Point) (ws : Words) → IsAt o (operator_due h nm d) ws → at_other o n h d w ≡ Ok q → At q (ws ++ w ∷ [])
step_other o n h nm d w q ws p e = cases o p (closes w) refl e
  where
    cases : (o : List Hand) → IsAt o (operator_due h nm d) ws → (b : Bool) → closes w ≡ b → (if b then close o n h d else Err Fault.BadOperator) ≡ Ok q → At q (ws ++ w ∷ [])
    cases o p false k e = cc
    cases [] p true k e = cc
    cases (x ∷ os) p true k e =
        let same : record { outer = os; operators = n; due = closed h x d } ≡ q = cc in
        subst (λ q. At q (ws ++ w ∷ [])) same (closing x os h nm d ws w p (sym (same_bytes (codes ")") w k)))

step_operator : (o : List Hand) (n : ℕ) (h : Hand) (nm : Option (List ℕ)) (d : Dep (List ℕ)) (w : List ℕ) (q : Point) (ws : Words) → IsAt o (operator_due h nm d) ws
    → at_operator o n h d w (comparison_due (comparison w) nm) (operator w) ≡ Ok q → At q (ws ++ w ∷ [])
step_operator o n h nm d w q ws p e = cases (comparison w) nm refl p e
  where
    none_due : (nm : Option (List ℕ)) (r : Option Operator) → operator w ≡ r → IsAt o (operator_due h nm d) ws → at_operator o n h d w None r ≡ Ok q → At q (ws ++ w ∷ [])
    none_due nm (Some op) k p e = step_sign o n h nm d op w q ws k p e
    none_due nm None k p e = step_other o n h nm d w q ws p e

    cases : (r : Option Cmp) (nm : Option (List ℕ)) → comparison w ≡ r → IsAt o (operator_due h nm d) ws → at_operator o n h d w (comparison_due r nm) (operator w) ≡ Ok q → At q (ws ++ w ∷ [])
    cases (Some c) (Some x) k p e =
        let same : record { outer = o; operators = n; due = evr_due h x c } ≡ q = cc in
        subst (λ q. At q (ws ++ w ∷ [])) same (further o (operator_due h (Some x) d) (evr_due h x c) ws w p (at_comparison o h x d c w p.here k p.due))
    cases (Some c) None k p e = none_due None (operator w) refl p e
    cases None (Some x) k p e = none_due (Some x) (operator w) refl p e
    cases None None k p e = none_due None (operator w) refl p e

step_written : (o : List Hand) (n : ℕ) (due : Due) (w : List ℕ) (q : Point) (ws : Words) → IsAt o due ws → step_due o n due w ≡ Ok q → At q (ws ++ w ∷ [])
step_written o n (operand_due h) w q ws p e = step_operand o n h w q ws p e
step_written o n (evr_due h nm c) w q ws p e = step_evr o n h nm c w q ws p e
step_written o n (operator_due h nm d) w q ws p e = step_operator o n h nm d w q ws p e

read_from : (p : Point) (rest ws : Words) (d : Dep (List ℕ)) → At p ws → reading_from p rest ≡ Ok d → Spells (ws ++ rest) d
read_from p [] ws d g e = rw (append-nil ws) (end_written p.outer p.due ws d g e)
read_from p (w ∷ rest) ws d g e = next (step p w) refl e (λ q h k. read_from q rest (ws ++ w ∷ []) d h k)
  where
    next : (r : Result Point DepFault) → step p w ≡ r → and_then r (λ q. reading_from q rest) ≡ Ok d
        → ((q : Point) → At q (ws ++ w ∷ []) → reading_from q rest ≡ Ok d → Spells ((ws ++ w ∷ []) ++ rest) d) → Spells (ws ++ w ∷ rest) d
    next (Ok q) k e again = subst (λ v. Spells v d) (append_assoc ws (w ∷ []) rest) (again q (step_written p.outer p.operators p.due w q ws g k) e)
    next (Err f) k e again = cc

pub read_is_written : (words : Words) (d : Dep (List ℕ)) → reading words ≡ Ok d → Spells words d
read_is_written words d e = read_from beginning words [] d (record { before = []; here = []; outer = refl; due = refl; is = refl }) (sym (same_reading words) ∙ e)
