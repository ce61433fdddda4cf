-- What a word of a command line is, to `clap` and by the definition.
use Rattle.std.proofs.Common.{◌≡◌, ◌∙◌, ◌+◌, ◌==◌, ◌⊎◌, ℕ, suc, Bool, true, false, refl, sym, ap, ap₂, subst, arith, List, [], ◌∷◌, ◌++◌, take, drop, length, codes, Option, Some, None, true≢false, inl, inr}
use Rattle.std.specs.Prelude.{slice_index, encode_utf8, if◌then◌else◌}
use Rattle.std.specs.List.{before_first, after_first, position_or_len}
use Rattle.std.specs.Option.{option_map_or}
use Rattle.std.specs.Str.{IsUtf8, bytes_eq, chars, encode_utf8_all, all_scalars}
use Rattle.std.proofs.lemmas.Bool.{eqb-true, eq-eqb, ne_eqb}
use Rattle.std.proofs.lemmas.Str.{IsUtf8-past_char, chars-encodes}
use Rattle.std.proofs.lemmas.List.{take-append-drop}
use Rattle.clap.specs.Lexer.{long_of, short_of}
use Rattle.clap.specs.Faults.{bundle_fault, flag_word_fault, flags_fault, react_fault, short_fault}
use Rattle.clap.specs.Kinds.{Kinds, or_else}
use Rattle.clap.specs.Walk.{Held, Row, Text, arg_by_short, has_row, more_values, reacted, settled_rows, with_values, without}
use Rattle.clap.specs.declared.builder.value_parser.Reading.{Reading}
use Rattle.clap.specs.declared.builder.value_parser.Reading.TheVariants.{AsWritten}
use Rattle.clap.specs.declared.parser.matches.ValueSource.{ValueSource}
use Rattle.clap.specs.declared.parser.matches.ValueSource.TheVariants.{CommandLine}
use Rattle.clap.proofs.OnLiterals.{clap_on_literals}
use Rattle.solv_words.specs.CommandLine.{is_value}
use Rattle.solv_words.specs.Inner.ByKinds.{Argument, Kind, argument, budget, file, lines, proofs, seed, unknown, whole, word_of, written}
use Rattle.solv_words.specs.Inner.Clap.{id_of, rows_by, rules}
use Rattle.solv_words.proofs.ClapArguments.{is_calm, raw_of, rule_by}
use Rattle.solv_list.proofs.Booleans.{true_or_false}
use Rattle.solv_list.proofs.Lists.{bytes_themselves, drop_one_more, same_bytes, take_one_more}

-- ---- what is held between two words

-- an argument that is not used yet: none, an option without its value, or one that is whole
pub data Pend : Type 0 where
  nothing : Pend
  waits : Kind → Pend
  got : Kind → List ℕ → Pend

abbrev pub pending_by : Pend → Option (Text × List Text)
pending_by nothing = None
pending_by (waits k) = Some (id_of k, [])
pending_by (got k value) = Some (id_of k, raw_of k value)

abbrev pub held_by : List Argument → Pend → Held
held_by args p = record { rows = rows_by args; pending = pending_by p; skip = 0 }

abbrev pub is_option : Kind → Bool
is_option lines = false
is_option budget = true
is_option proofs = false
is_option written = false
is_option seed = true
is_option file = false

abbrev pub name_of : Kind → List ℕ
name_of lines = []
name_of budget = codes "budget"
name_of proofs = codes "proof"
name_of written = codes "write"
name_of seed = codes "grow"
name_of file = []

-- ---- what a word is

pub record IsPlain (word : Text) : Type 0 where
  pub is : word_of word ≡ whole (argument file word)
  pub value : is_value word ≡ true
  pub no_end : bytes_eq word (45 ∷ 45 ∷ []) ≡ false
  pub no_long : long_of word ≡ None
  pub no_short : short_of word ≡ None

pub record IsStrange (word : Text) : Type 0 where
  pub is : word_of word ≡ unknown
  pub value : is_value word ≡ false
  pub no_end : bytes_eq word (45 ∷ 45 ∷ []) ≡ false
  pub fault : (args : List Argument) (p : Pend) → is_calm (flag_word_fault rules false (long_of word) word (held_by args p)) ≡ false

pub data Class (word : Text) : Type 0 where
  is_end : word ≡ codes "--" → Class word
  is_flag : word ≡ codes "-r" → Class word
  is_proof : word ≡ codes "--proof" → Class word
  is_write : word ≡ codes "--write" → Class word
  is_name : (k : Kind) → is_option k ≡ true → word ≡ 45 ∷ 45 ∷ name_of k → Class word
  is_given : (k : Kind) (value : List ℕ) → is_option k ≡ true → word ≡ 45 ∷ 45 ∷ (name_of k ++ 61 ∷ value) → Class word
  is_plain : IsPlain word → Class word
  is_strange : IsStrange word → Class word

-- ---- words that begin with two dashes

abbrev before : List ℕ → List ℕ
before w = before_first (λ x. x == 61) w

abbrev after : List ℕ → List ℕ
after w = after_first (λ x. x == 61) w

cut : (w : List ℕ) → (w ≡ before w) ⊎ (w ≡ before w ++ 61 ∷ after w)
cut [] = inl refl
cut (x ∷ xs) = by (x == 61) refl (cut xs)
  where
    by : (b : Bool) → (x == 61) ≡ b → (xs ≡ before xs) ⊎ (xs ≡ before xs ++ 61 ∷ after xs) → ((x ∷ xs) ≡ before (x ∷ xs)) ⊎ ((x ∷ xs) ≡ before (x ∷ xs) ++ 61 ∷ after (x ∷ xs))
    by true e h = inr (rw e (ap (λ y. y ∷ xs) (eqb-true x 61 e)))
    by false e (inl h) = inl (rw e (ap (λ l. x ∷ l) h ∙ sym (take_one_more (position_or_len (λ x. x == 61) xs) x xs)))
    by false e (inr h) =
        let n : ℕ = position_or_len (λ y. y == 61) xs in
        let more : 1 + n + 1 ≡ 1 + (n + 1) = omega arith in
        let behind : drop (n + 1) xs ≡ drop (1 + n + 1) (x ∷ xs) = sym (ap (λ m. drop m (x ∷ xs)) more ∙ drop_one_more (n + 1) x xs) in
        inr (rw e (ap (λ l. x ∷ l) h ∙ ap₂ (λ f t. f ++ 61 ∷ t) (sym (take_one_more n x xs)) behind))

-- a name before `=` that is none of the four
no_name : (w name : List ℕ) → bytes_eq w name ≡ false → ((v : List ℕ) → w ≡ name ++ 61 ∷ v → ⊥) → bytes_eq name (before w) ≡ false
no_name w name e h = elim (true_or_false (bytes_eq name (before w))) [
  | inl t ↦ let is = same_bytes name (before w) t in elim (cut w) [
    | inl c ↦ absurd (true≢false (sym (bytes_themselves name) ∙ ap (λ l. bytes_eq l name) (is ∙ sym c) ∙ e))
    | inr c ↦ absurd (h (after w) (c ∙ ap (λ l. l ++ 61 ∷ after w) (sym is)))
  ]
  | inr f ↦ f
]

begun : (n : ℕ) (w front : List ℕ) → bytes_eq (take n w) front ≡ true → w ≡ front ++ drop n w
begun n w front e = sym (take-append-drop n w) ∙ ap (λ l. l ++ drop n w) (same_bytes (take n w) front e)

-- `--proof` has no value
proof_given : (w : List ℕ) → bytes_eq w (codes "proof") ≡ false → bytes_eq (take 6 w) (codes "proof=") ≡ true → (args : List Argument) (p : Pend)
    → is_calm (flag_word_fault rules false (long_of (45 ∷ 45 ∷ w)) (45 ∷ 45 ∷ w) (held_by args p)) ≡ false
proof_given w other e args p =
    let P : List ℕ → Type 0 = λ l. is_calm (flag_word_fault rules false (long_of (45 ∷ 45 ∷ l)) (45 ∷ 45 ∷ l) (held_by args p)) ≡ false in
    subst P (sym (begun 6 w (codes "proof=") e)) refl

-- `--write` has no value
write_given : (w : List ℕ) → bytes_eq w (codes "write") ≡ false → bytes_eq (take 6 w) (codes "write=") ≡ true → (args : List Argument) (p : Pend)
    → is_calm (flag_word_fault rules false (long_of (45 ∷ 45 ∷ w)) (45 ∷ 45 ∷ w) (held_by args p)) ≡ false
write_given w other e args p =
    let P : List ℕ → Type 0 = λ l. is_calm (flag_word_fault rules false (long_of (45 ∷ 45 ∷ l)) (45 ∷ 45 ∷ l) (held_by args p)) ≡ false in
    subst P (sym (begun 6 w (codes "write=") e)) refl

-- a word that is none of the four, with a value or without
other_class : (x : ℕ) (xs : List ℕ) → bytes_eq (x ∷ xs) (codes "proof") ≡ false → bytes_eq (x ∷ xs) (codes "write") ≡ false → bytes_eq (x ∷ xs) (codes "budget") ≡ false
    → bytes_eq (x ∷ xs) (codes "grow") ≡ false → bytes_eq (take 7 (x ∷ xs)) (codes "budget=") ≡ false → bytes_eq (take 5 (x ∷ xs)) (codes "grow=") ≡ false → Class (45 ∷ 45 ∷ x ∷ xs)
other_class x xs not_proof not_write not_budget not_grow no_budget no_grow =
    let w : List ℕ = x ∷ xs in
    let is : word_of (45 ∷ 45 ∷ w) ≡ unknown = rw (not_proof, not_write, not_budget, not_grow, no_budget, no_grow) refl in
    elim (true_or_false (bytes_eq (take 6 w) (codes "proof="))) [
      | inl e ↦ is_strange (record { is = is; value = refl; no_end = refl; fault = proof_given w not_proof e })
      | inr no_proof ↦ elim (true_or_false (bytes_eq (take 6 w) (codes "write="))) [
        | inl e ↦ is_strange (record { is = is; value = refl; no_end = refl; fault = write_given w not_write e })
        | inr no_write ↦
            let one = no_name w (codes "budget") not_budget (λ v is. true≢false (sym (ap (λ l. bytes_eq (take 7 l) (codes "budget=")) is) ∙ no_budget)) in
            let two = no_name w (codes "grow") not_grow (λ v is. true≢false (sym (ap (λ l. bytes_eq (take 5 l) (codes "grow=")) is) ∙ no_grow)) in
            let three = no_name w (codes "proof") not_proof (λ v is. true≢false (sym (ap (λ l. bytes_eq (take 6 l) (codes "proof=")) is) ∙ no_proof)) in
            let four = no_name w (codes "write") not_write (λ v is. true≢false (sym (ap (λ l. bytes_eq (take 6 l) (codes "write=")) is) ∙ no_write)) in
            is_strange (record { is = is; value = refl; no_end = refl; fault = λ args p. rw (one, two, three, four) refl })
      ]
    ]

pub long_class : (x : ℕ) (xs : List ℕ) → Class (45 ∷ 45 ∷ x ∷ xs)
long_class x xs =
    let w : List ℕ = x ∷ xs in
    elim (true_or_false (bytes_eq w (codes "proof"))) [
      | inl e ↦ is_proof (ap (λ l. 45 ∷ 45 ∷ l) (same_bytes w (codes "proof") e))
      | inr not_proof ↦ elim (true_or_false (bytes_eq w (codes "write"))) [
        | inl e ↦ is_write (ap (λ l. 45 ∷ 45 ∷ l) (same_bytes w (codes "write") e))
        | inr not_write ↦ elim (true_or_false (bytes_eq w (codes "budget"))) [
          | inl e ↦ is_name budget refl (ap (λ l. 45 ∷ 45 ∷ l) (same_bytes w (codes "budget") e))
          | inr not_budget ↦ elim (true_or_false (bytes_eq w (codes "grow"))) [
            | inl e ↦ is_name seed refl (ap (λ l. 45 ∷ 45 ∷ l) (same_bytes w (codes "grow") e))
            | inr not_grow ↦ elim (true_or_false (bytes_eq (take 7 w) (codes "budget="))) [
              | inl e ↦ is_given budget (drop 7 w) refl (ap (λ l. 45 ∷ 45 ∷ l) (begun 7 w (codes "budget=") e))
              | inr no_budget ↦ elim (true_or_false (bytes_eq (take 5 w) (codes "grow="))) [
                | inl e ↦ is_given seed (drop 5 w) refl (ap (λ l. 45 ∷ 45 ∷ l) (begun 5 w (codes "grow=") e))
                | inr no_grow ↦ other_class x xs not_proof not_write not_budget not_grow no_budget no_grow
              ]
            ]
          ]
        ]
      ]
    ]

-- ---- words that begin with one dash

second_fails : (a b : Kinds) → is_calm b ≡ false → is_calm (or_else a b) ≡ false
second_fails [] b h = h
second_fails (k ∷ ks) b h = refl

-- a character that follows `r` in its word
again : (c : ℕ) (rest : Text) (h : Held) (next : Held → Kinds) → has_row (id_of lines) h.rows ≡ true → h.pending ≡ None
    → is_calm (short_fault rules false (arg_by_short rules c) rest h next) ≡ false
again c rest h next has none = by (114 == c) refl
  where
    by : (b : Bool) → (114 == c) ≡ b → is_calm (short_fault rules false (arg_by_short rules c) rest h next) ≡ false
    by true e = rw (e, none, has) refl
    by false e = rw e refl

has_new : (id : Text) (how : Reading) (s : ValueSource) (values : List Text) (rows : List Row) → bytes_eq id id ≡ true → has_row id (with_values id how s values rows) ≡ true
has_new id how s values [] h = rw h refl
has_new id how s values (r ∷ rs) h = by (bytes_eq r.id id) refl (has_new id how s values rs h)
  where
    by : (b : Bool) → bytes_eq r.id id ≡ b → has_row id (with_values id how s values rs) ≡ true
        → has_row id (if b then more_values s values r ++ rs else r ∷ with_values id how s values rs) ≡ true
    by true e i = rw e refl
    by false e i = rw (e, i) refl

dash : (l : List ℕ) → 45 ∷ l ≡ encode_utf8 45 ++ l
unfolding clap_on_literals
dash l = refl

letter : (l : List ℕ) → 114 ∷ l ≡ encode_utf8 114 ++ l
unfolding clap_on_literals
letter l = refl

record First (text : List ℕ) : Type 0 where
  c : ℕ
  cs : List ℕ
  are : chars text ≡ c ∷ cs
  spelt : text ≡ encode_utf8 c ++ encode_utf8_all cs

first_char : (b : ℕ) (bs : List ℕ) → IsUtf8 (b ∷ bs) → First (b ∷ bs)
first_char b bs u = by u.0 u.1.0 u.1.1
  where
    by : (cs : List ℕ) → all_scalars cs ≡ true → encode_utf8_all cs ≡ b ∷ bs → First (b ∷ bs)
    by [] s e = absurd (let bad : 0 ≡ suc (length bs) = ap length e in omega arith)
    by (c ∷ cs) s e = record { c = c; cs = cs; are = sym (ap chars e) ∙ chars-encodes (c ∷ cs) s; spelt = sym e }

second : (y : ℕ) (ys : List ℕ) (h : Held) → IsUtf8 (y ∷ ys) → has_row (id_of lines) h.rows ≡ true → h.pending ≡ None
    → is_calm (flags_fault rules false (suc (length ys)) (y ∷ ys) 0 h) ≡ false
unfolding flags_fault
second y ys h u has none = let f = first_char y ys u in rw f.are (again f.c _ h _ has none)

r_fault : (y : ℕ) (ys : List ℕ) (h : Held) → IsUtf8 (y ∷ ys) → is_calm (flags_fault rules false (suc (suc (length ys))) (114 ∷ y ∷ ys) 0 h) ≡ false
unfolding clap_on_literals
r_fault y ys h u =
    second_fails (react_fault rules false (rule_by lines) [] h) _
    (second y ys (reacted rules (rule_by lines) [] h) u (has_new (id_of lines) AsWritten CommandLine (codes "true" ∷ []) (without (id_of lines) (settled_rows rules h.pending h.rows)) refl) refl)

r_class : (bs : List ℕ) → IsUtf8 bs → Class (45 ∷ 114 ∷ bs)
r_class [] u = is_flag refl
r_class (y ∷ ys) u = is_strange (record { is = refl; value = refl; no_end = refl; fault = λ args p. r_fault y ys (held_by args p) u })

-- a word whose first character is not `r`
other_fault : (b : ℕ) (bs : List ℕ) (h : Held) → IsUtf8 (b ∷ bs) → (b == 114) ≡ false → is_calm (flags_fault rules false (suc (length bs)) (b ∷ bs) 0 h) ≡ false
unfolding flags_fault
other_fault b bs h u e =
    let f = first_char b bs u in
    let apart : (114 == f.c) ≡ false = ne_eqb 114 f.c (λ is.
    let first : b ≡ 114 = ap (λ l. slice_index l 0) (f.spelt ∙ ap (λ c. encode_utf8 c ++ encode_utf8_all f.cs) (sym is) ∙ sym (letter (encode_utf8_all f.cs))) in
    true≢false (sym (eq-eqb b 114 first) ∙ e)) in
    rw (f.are, apart) refl

short_class : (b : ℕ) (bs : List ℕ) → (b == 45) ≡ false → IsUtf8 (b ∷ bs) → Class (45 ∷ b ∷ bs)
short_class b bs single u = by (b == 114) refl
  where
    by : (t : Bool) → (b == 114) ≡ t → Class (45 ∷ b ∷ bs)
    by true e =
        let is : b ≡ 114 = eqb-true b 114 e in
        let P : ℕ → Type 0 = λ z. IsUtf8 (z ∷ bs) → Class (45 ∷ z ∷ bs) in
        subst P (sym is) (λ v. r_class bs (IsUtf8-past_char (114 ∷ bs) bs 114 v (letter bs))) u
    by false e = is_strange (record {
      is = rw (single, e) refl;
      value = refl;
      no_end = rw single refl;
      fault = λ args p.
          let word : Text = 45 ∷ b ∷ bs in
          let no_long : long_of word ≡ None = rw single refl in
          let short : short_of word ≡ Some (b ∷ bs) = rw single refl in
          ap (λ o. is_calm (flag_word_fault rules false o word (held_by args p))) no_long
          ∙ ap (λ o. is_calm (option_map_or (λ flags. bundle_fault rules false flags (held_by args p)) o [])) short
          ∙ other_fault b bs (held_by args p) u e;
    })

dash_class : (y : ℕ) (rest : List ℕ) → IsUtf8 (y ∷ rest) → Class (45 ∷ y ∷ rest)
dash_class y rest u = elim (true_or_false (y == 45)) [
  | inl e ↦ let P : ℕ → Type 0 = λ z. Class (45 ∷ z ∷ rest) in subst P (sym (eqb-true y 45 e)) (two rest)
  | inr e ↦ short_class y rest e u
]
  where
    two : (rest : List ℕ) → Class (45 ∷ 45 ∷ rest)
    two [] = is_end refl
    two (x ∷ xs) = long_class x xs

pub classify : (word : Text) → IsUtf8 word → Class word
classify [] u = is_plain (record { is = refl; value = refl; no_end = refl; no_long = refl; no_short = refl })
classify (x ∷ []) u = elim (true_or_false (x == 45)) [
  | inl e ↦ let P : ℕ → Type 0 = λ y. Class (y ∷ []) in subst P (sym (eqb-true x 45 e)) (is_plain (record { is = refl; value = refl; no_end = refl; no_long = refl; no_short = refl }))
  | inr e ↦ is_plain (record { is = rw e refl; value = rw e refl; no_end = rw e refl; no_long = rw e refl; no_short = rw e refl })
]
classify (x ∷ y ∷ rest) u = elim (true_or_false (x == 45)) [
  | inl e ↦
      let P : ℕ → Type 0 = λ z. IsUtf8 (z ∷ y ∷ rest) → Class (z ∷ y ∷ rest) in
      subst P (sym (eqb-true x 45 e)) (λ v. dash_class y rest (IsUtf8-past_char (45 ∷ y ∷ rest) (y ∷ rest) 45 v (dash (y ∷ rest)))) u
  | inr e ↦ is_plain (record { is = rw e refl; value = rw e refl; no_end = rw e refl; no_long = rw e refl; no_short = rw e refl })
]
