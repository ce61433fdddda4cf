-- Where the last `-` of a text stands: the byte before n is one, and none stands from n on.
use Rattle.std.proofs.Common.{ℕ, ◌≡◌, ◌+◌, ◌-◌, ◌<◌, ◌≤◌, List, true, false, length, take, drop, get_or, ap, refl, arith}
use Rattle.std.proofs.lemmas.List.Sums.{suffix_len_is}
use Rattle.std.proofs.lemmas.List.Folds.{list_any_none}
use Rattle.std.proofs.lemmas.Grind.{get_or_default_zero}
use Rattle.std.specs.Prelude.{not}
use Rattle.std.specs.List.{list_any, suffix_len, before_last, after_last}
use Rattle.solv_base.specs.Evr.{is_dash}

not_dash : (c : ℕ) → is_dash c ≡ false → not (is_dash c) ≡ true
not_dash c h = rw h refl

dash : (c : ℕ) → c ≡ 45 → not (is_dash c) ≡ false
dash c h = rw h refl

behind : (text : List ℕ) (n : ℕ) → n ≤ length text → 0 < n → get_or text (n - 1) 0 ≡ 45 → ((k : ℕ) → n ≤ k → k < length text → is_dash (get_or text k 0) ≡ false)
    → suffix_len (λ c. not (is_dash c)) text ≡ length text - n
behind text n within some is none =
    suffix_len_is (λ c. not (is_dash c)) text n 0 within (λ k from below. not_dash (get_or text k 0) (none k from below)) (λ p. dash (get_or text (n - 1) 0) is)

pub before_dash : (text : List ℕ) (n : ℕ) → n ≤ length text → 0 < n → get_or text (n - 1) 0 ≡ 45 → ((k : ℕ) → n ≤ k → k < length text → is_dash (get_or text k 0) ≡ false)
    → take (n - 1) text ≡ before_last is_dash text
before_dash text n within some is none =
    let e : suffix_len (λ c. not (is_dash c)) text ≡ length text - n = behind text n within some is none in
    let m : n - 1 ≡ length text - suffix_len (λ c. not (is_dash c)) text - 1 = omega arith in
    ap (λ k. take k text) m

pub after_dash : (text : List ℕ) (n : ℕ) → n ≤ length text → 0 < n → get_or text (n - 1) 0 ≡ 45 → ((k : ℕ) → n ≤ k → k < length text → is_dash (get_or text k 0) ≡ false)
    → drop (n - 1 + 1) text ≡ after_last is_dash text
after_dash text n within some is none =
    let e : suffix_len (λ c. not (is_dash c)) text ≡ length text - n = behind text n within some is none in
    let m : n - 1 + 1 ≡ length text - suffix_len (λ c. not (is_dash c)) text = omega arith in
    ap (λ k. drop k text) m

pub no_dash : (text : List ℕ) (n : ℕ) → n ≤ 0 → ((k : ℕ) → n ≤ k → k < length text → is_dash (get_or text k 0) ≡ false) → list_any is_dash text ≡ false
no_dash text n low none = list_any_none is_dash text (λ k d below. rw (get_or_default_zero text k d below) (none k (omega arith) below))
