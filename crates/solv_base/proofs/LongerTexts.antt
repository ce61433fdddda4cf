-- What comes after the last part of an EVR text lengthens that part.
use Rattle.std.proofs.Common.{ℕ, ◌≡◌, ◌+◌, ◌-◌, ◌≤◌, List, [], ◌∷◌, ◌++◌, Bool, true, false, length, take, drop, get_or, refl, ap, sym, ◌∙◌, arith, eq-eqb, cond}
use Rattle.std.proofs.Math.Bool.{or-false}
use Rattle.std.proofs.lemmas.List.{reverse-append, length-reverse, length-append, take-append-le, drop-append-le}
use Rattle.std.proofs.lemmas.Bool.{and_parts}
use Rattle.std.proofs.lemmas.List.Folds.{prefix_len-append, list_any-append, list_any_none, length-prefix_len}
use Rattle.std.proofs.lemmas.List.Sums.{suffix_len_is, prefix_len-le-length}
use Rattle.std.proofs.lemmas.Grind.{get_or_default_zero}
use Rattle.std.specs.Char.{is_ascii_digit}
use Rattle.std.specs.Prelude.{not, ◌&&◌, nat_lt, if◌then◌else◌, is_some, option_map, take_while, Some, None, reverse}
use Rattle.std.specs.List.{list_any, prefix_len, suffix_len, before_last, after_last}
use Rattle.solv_base.specs.Tokens.{begins}
use Rattle.solv_base.proofs.VersionsBetween.{begins-append}
use Rattle.solv_base.specs.Evr.{Parts, parts, parts_after, is_dash, is_colon}

-- the last part, with a text after it
abbrev pub lengthened : Parts → List ℕ → Parts
lengthened p y = record { epoch = p.epoch; version = if is_some p.release then p.version else p.version ++ y; release = option_map (λ r. r ++ y) p.release }

-- no byte of it is a `-`
abbrev pub HasNoDash : List ℕ → Type 0
HasNoDash ys = (k : ℕ) → is_dash (get_or ys k 0) ≡ false

abbrev no_dash : ℕ → Bool
no_dash c = not (is_dash c)

suffix_len-no_dash : (ys : List ℕ) → HasNoDash ys → suffix_len no_dash ys ≡ length ys
suffix_len-no_dash ys none =
    let e : suffix_len no_dash ys ≡ length ys - 0 = suffix_len_is no_dash ys 0 0 (omega arith) (λ k from below. rw (none k) refl) (λ z. absurd (omega arith)) in
    omega arith

suffix_len-append : (xs ys : List ℕ) → HasNoDash ys → suffix_len no_dash (xs ++ ys) ≡ length ys + suffix_len no_dash xs
suffix_len-append xs ys none =
    let all : prefix_len no_dash (reverse ys) ≡ length (reverse ys) = suffix_len-no_dash ys none ∙ sym (length-reverse ys) in
    rw (reverse-append xs ys, prefix_len-append no_dash (reverse ys) (reverse xs), eq-eqb _ _ all, length-reverse ys) refl

list_any-no_dash : (xs ys : List ℕ) → HasNoDash ys → list_any is_dash (xs ++ ys) ≡ list_any is_dash xs
list_any-no_dash xs ys none =
    let no : list_any is_dash ys ≡ false = list_any_none is_dash ys (λ k d below. rw (get_or_default_zero ys k d below) (none k)) in
    rw (list_any-append is_dash xs ys, no) (or-false (list_any is_dash xs))

-- a text without a `-` moves the last one no further from the front
dash-append : (xs ys : List ℕ) → HasNoDash ys → length (xs ++ ys) - suffix_len no_dash (xs ++ ys) ≡ length xs - suffix_len no_dash xs
dash-append xs ys none =
    let e : suffix_len no_dash (xs ++ ys) ≡ length ys + suffix_len no_dash xs = suffix_len-append xs ys none in
    let l : length (xs ++ ys) ≡ length xs + length ys = length-append xs ys in
    omega arith

before-append : (xs ys : List ℕ) → HasNoDash ys → before_last is_dash (xs ++ ys) ≡ before_last is_dash xs
before-append xs ys none =
    ap (λ k. take (k - 1) (xs ++ ys)) (dash-append xs ys none) ∙ take-append-le (length xs - suffix_len no_dash xs - 1) xs ys (omega arith)

after-append : (xs ys : List ℕ) → HasNoDash ys → after_last is_dash (xs ++ ys) ≡ after_last is_dash xs ++ ys
after-append xs ys none =
    ap (λ k. drop k (xs ++ ys)) (dash-append xs ys none) ∙ drop-append-le (length xs - suffix_len no_dash xs) xs ys (omega arith)

parts_after-append : (epoch rest ys : List ℕ) → HasNoDash ys → parts_after epoch (rest ++ ys) ≡ lengthened (parts_after epoch rest) ys
parts_after-append epoch rest ys none =
    rw (list_any-no_dash rest ys none)
    (elim (list_any is_dash rest) as (λ b. (if b then record { epoch = epoch; version = before_last is_dash (rest ++ ys); release = Some (after_last is_dash (rest ++ ys)) } else record { epoch = epoch; version = rest ++ ys; release = None }) ≡ lengthened (if b then record { epoch = epoch; version = before_last is_dash rest; release = Some (after_last is_dash rest) } else record { epoch = epoch; version = rest; release = None }) ys) [
      | true ↦ λ i. record { epoch = epoch; version = before-append rest ys none i; release = Some (after-append rest ys none i) }
      | false ↦ refl
    ])

prefix_len-stop : (kind : ℕ → Bool) (sign : ℕ) (xs ys : List ℕ) → kind sign ≡ false → prefix_len kind (xs ++ sign ∷ ys) ≡ prefix_len kind xs
prefix_len-stop kind sign [] ys h = rw h refl
prefix_len-stop kind sign (x ∷ xs) ys h = ap (λ n. cond (kind x) (1 + n) 0) (prefix_len-stop kind sign xs ys h)

-- the parts, where it is known whether the text has an epoch
abbrev parts_by : Bool → List ℕ → List ℕ → List ℕ → Parts
parts_by has front rest text = if has then parts_after front (drop 1 rest) else parts_after (48 ∷ []) text

parts_by-append : (has : Bool) (front rest text ys : List ℕ) → HasNoDash ys → (has ≡ true → begins is_colon rest ≡ true)
    → parts_by has front (rest ++ ys) (text ++ ys) ≡ lengthened (parts_by has front rest text) ys
parts_by-append false front rest text ys none h = parts_after-append (48 ∷ []) text ys none
parts_by-append true front [] text ys none h = let bad = h refl in cc
parts_by-append true front (c ∷ cs) text ys none h = parts_after-append front cs ys none

-- a sign that is no digit, no `:` and no `-`, with what follows it, lengthens the last part
pub parts-append : (sign : ℕ) → is_ascii_digit sign ≡ false → is_colon sign ≡ false → (text ys : List ℕ) → HasNoDash (sign ∷ ys) → parts (text ++ sign ∷ ys) ≡ lengthened (parts text) (sign ∷ ys)
parts-append sign no_digit no_colon text ys none =
    let n : ℕ = prefix_len is_ascii_digit text in
    let front : List ℕ = take_while is_ascii_digit text in
    let rest : List ℕ = drop (length front) text in
    let fits : length front ≤ length text = omega (arith, length-prefix_len is_ascii_digit text, prefix_len-le-length is_ascii_digit text) in
    let same_front : take_while is_ascii_digit (text ++ sign ∷ ys) ≡ front =
    ap (λ k. take k (text ++ sign ∷ ys)) (prefix_len-stop is_ascii_digit sign text ys no_digit) ∙ take-append-le n text (sign ∷ ys) (prefix_len-le-length is_ascii_digit text) in
    let same_rest : drop (length (take_while is_ascii_digit (text ++ sign ∷ ys))) (text ++ sign ∷ ys) ≡ rest ++ sign ∷ ys =
    ap (λ (f : List ℕ). drop (length f) (text ++ sign ∷ ys)) same_front ∙ drop-append-le (length front) text (sign ∷ ys) fits in
    (λ i. parts_by (nat_lt 0 (length (same_front i)) && begins is_colon (same_rest i)) (same_front i) (same_rest i) (text ++ sign ∷ ys)) ∙
    (λ i. parts_by (nat_lt 0 (length front) && begins-append is_colon sign rest ys no_colon i) front (rest ++ sign ∷ ys) (text ++ sign ∷ ys)) ∙
    parts_by-append (nat_lt 0 (length front) && begins is_colon rest) front rest text (sign ∷ ys) none (λ h. (and_parts _ _ h).1)
