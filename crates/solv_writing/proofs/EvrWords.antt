-- The version and the release of a package line give the EVR again.
use Rattle.std.proofs.Common.{◌≡◌, ℕ, suc, ◌+◌, ◌-◌, ◌<◌, ◌==◌, Bool, true, false, List, [], ◌∷◌, ◌++◌, length, take, drop, reverse, not, ◌||◌, cond, ◌⊎◌, inl, inr, refl, sym, ap, subst, ◌∙◌, arith}
use Rattle.std.specs.Prelude.{codes, nat_lt}
use Rattle.std.specs.List.{before_last, after_last, list_all, list_any, suffix_len, prefix_len}
use Rattle.std.specs.Str.{bytes_eq}
use Rattle.std.proofs.lemmas.Bool.{and_from, ltb-true}
use Rattle.std.proofs.lemmas.Bool.Decides.{nat_tests}
use Rattle.std.proofs.lemmas.List.{length-reverse, reverse-append}
use Rattle.std.proofs.lemmas.List.Folds.{prefix_len-append}
use Rattle.solv_base.specs.Evr.{is_dash}
use Rattle.solv_tags.specs.Entries.{evr_text}
use Rattle.solv_list.proofs.Booleans.{first_of_both, second_of_both}
use Rattle.solv_list.proofs.Lists.{all_left, all_right, same_bytes}
use Rattle.solv_list.proofs.Numbers.{same_number, equal_to_itself}
use Rattle.solv_io.specs.JoinedWords.{is_solid, is_word}
use Rattle.solv_writing.specs.TagLines.{evr_words}
use Rattle.solv_writing.specs.Inner.LineNames.{is_parted}
use Rattle.solv_io.proofs.WordsAgain.{solid_word}

abbrev pub other : ℕ → Bool
other c = not (is_dash c)

-- how many bytes at the end are no `-`, with one more byte in front
suffix_more : (x : ℕ) (xs : List ℕ) → suffix_len other (x ∷ xs) ≡ cond (suffix_len other xs == length xs) (length xs + prefix_len other (x ∷ [])) (suffix_len other xs)
suffix_more x xs =
    ap (prefix_len other) (reverse-append (x ∷ []) xs) ∙ prefix_len-append other (reverse xs) (x ∷ []) ∙ ap (λ n. cond (suffix_len other xs == n) (n + prefix_len other (x ∷ [])) (suffix_len other xs)) (length-reverse xs)

-- a text has no `-`
record HasNone (xs : List ℕ) : Type 0 where
  whole : suffix_len other xs ≡ length xs
  others : list_all other xs ≡ true

-- a text has one, and what stands before and after the last one is the text with it between
record HasLast (xs : List ℕ) : Type 0 where
  less : suffix_len other xs < length xs
  is : before_last is_dash xs ++ 45 ∷ after_last is_dash xs ≡ xs
  others : list_all other (after_last is_dash xs) ≡ true

first_dash : (x : ℕ) (xs : List ℕ) → HasNone xs → is_dash x ≡ true → HasLast (x ∷ xs)
first_dash x xs none e =
    let s : suffix_len other (x ∷ xs) ≡ length xs = suffix_more x xs ∙ rw (none.whole, equal_to_itself (length xs), e) (omega arith) in
    let n : suc (length xs) - suffix_len other (x ∷ xs) ≡ 1 = omega (arith, s) in
    let behind : after_last is_dash (x ∷ xs) ≡ xs = ap (λ k. drop k (x ∷ xs)) n in
    let before : before_last is_dash (x ∷ xs) ≡ [] = ap (λ k. take (k - 1) (x ∷ xs)) n in
    record {
      less = omega (arith, s);
      is = ap (λ front. front ++ 45 ∷ after_last is_dash (x ∷ xs)) before ∙ ap (λ rest. 45 ∷ rest) behind ∙ ap (λ c. c ∷ xs) (sym (same_number x 45 e));
      others = ap (list_all other) behind ∙ none.others;
    }

later_dash : (x : ℕ) (xs : List ℕ) → HasLast xs → HasLast (x ∷ xs)
later_dash x xs last =
    let apart : (suffix_len other xs == length xs) ≡ false = let l = last.less in grind (arith, nat_tests) in
    let s : suffix_len other (x ∷ xs) ≡ suffix_len other xs = suffix_more x xs ∙ rw apart refl in
    let l = last.less in
    let n : suc (length xs) - suffix_len other (x ∷ xs) ≡ suc (length xs - suffix_len other xs) = omega (arith, s, l) in
    let m : suc (length xs) - suffix_len other (x ∷ xs) - 1 ≡ suc (length xs - suffix_len other xs - 1) = omega (arith, s, l) in
    let behind : after_last is_dash (x ∷ xs) ≡ after_last is_dash xs = ap (λ k. drop k (x ∷ xs)) n in
    let before : before_last is_dash (x ∷ xs) ≡ x ∷ before_last is_dash xs = ap (λ k. take k (x ∷ xs)) m in
    record {
      less = omega (arith, s, l);
      is = ap (λ front. front ++ 45 ∷ after_last is_dash (x ∷ xs)) before ∙ ap (λ rest. x ∷ (before_last is_dash xs ++ 45 ∷ rest)) behind ∙ ap (λ t. x ∷ t) last.is;
      others = ap (list_all other) behind ∙ last.others;
    }

none_more : (x : ℕ) (xs : List ℕ) → HasNone xs → is_dash x ≡ false → HasNone (x ∷ xs)
none_more x xs none e = record {
  whole = suffix_more x xs ∙ rw (none.whole, equal_to_itself (length xs), e) (omega arith);
  others = and_from (other x) (list_all other xs) (ap not e) none.others;
}

sides : (xs : List ℕ) → HasNone xs ⊎ HasLast xs
sides [] = inl (record { whole = refl; others = refl })
sides (x ∷ xs) =
    elim (sides xs) [
      | inl none ↦ (elim (is_dash x) as (λ b. is_dash x ≡ b → HasNone (x ∷ xs) ⊎ HasLast (x ∷ xs)) [
        | true ↦ λ e. inr (first_dash x xs none e)
        | false ↦ λ e. inl (none_more x xs none e)
      ]) refl
      | inr last ↦ inr (later_dash x xs last)
    ]

-- something stands before the last one only where there is one
parted_last : (xs : List ℕ) → nat_lt 0 (length (before_last is_dash xs)) ≡ true → HasLast xs
parted_last xs h =
    elim (sides xs) [
      | inl none ↦
          let n : length xs - suffix_len other xs - 1 ≡ 0 = let w = none.whole in omega (arith, w) in
          let e : before_last is_dash xs ≡ [] = ap (λ k. take k xs) n in
          absurd (let l : 0 < length (before_last is_dash xs) = ltb-true 0 (length (before_last is_dash xs)) h in let z : length (before_last is_dash xs) ≡ 0 = ap length e in omega (arith, l, z))
      | inr last ↦ last
    ]

-- without a `-` an EVR is not parted
pub unparted : (evr : List ℕ) → false ≡ list_any is_dash evr → false ≡ is_parted evr
unparted evr none =
    (elim (is_parted evr) as (λ b. is_parted evr ≡ b → false ≡ b) [
      | true ↦ λ e.
          let last : HasLast evr = parted_last evr (first_of_both (nat_lt 0 (length (before_last is_dash evr))) (nat_lt 0 (length (after_last is_dash evr))) e) in
          let some : list_any is_dash (before_last is_dash evr ++ 45 ∷ after_last is_dash evr) ≡ true = any_behind (before_last is_dash evr) (after_last is_dash evr) in
          none ∙ ap (list_any is_dash) (sym last.is) ∙ some
      | false ↦ λ e. refl
    ]) refl
  where
    any_behind : (xs ys : List ℕ) → list_any is_dash (xs ++ 45 ∷ ys) ≡ true
    any_behind [] ys = refl
    any_behind (x ∷ xs) ys = elim (is_dash x) as (λ b. (b || list_any is_dash (xs ++ 45 ∷ ys)) ≡ true) [ true ↦ refl | false ↦ any_behind xs ys ]

-- a text without `-` is not `-`
not_one_dash : (xs : List ℕ) → list_all other xs ≡ true → bytes_eq xs (codes "-") ≡ false
not_one_dash xs h =
    (elim (bytes_eq xs (codes "-")) as (λ b. bytes_eq xs (codes "-") ≡ b → b ≡ false) [
      | true ↦ λ e. let same : xs ≡ codes "-" = same_bytes xs (codes "-") e in absurd (let bad : list_all other (codes "-") ≡ true = subst (λ t. list_all other t ≡ true) same h in cc)
      | false ↦ λ e. refl
    ]) refl

-- a text with something in it, of solid bytes
solid_is_word : (xs : List ℕ) → nat_lt 0 (length xs) ≡ true → list_all is_solid xs ≡ true → is_word xs ≡ true
solid_is_word [] h k = absurd (cc)
solid_is_word (x ∷ xs) h k = k

-- the two words of an EVR are words, and read as it
pub record AreEvr (evr version release : List ℕ) : Type 0 where
  pub version_word : is_word version ≡ true
  pub release_word : is_word release ≡ true
  pub is : evr_text version release ≡ evr

pub record HasEvrWords (evr : List ℕ) : Type 0 where
  pub version : List ℕ
  pub release : List ℕ
  pub words : evr_words evr ≡ version ∷ release ∷ []
  pub are : AreEvr evr version release

pub evr_parts : (evr : List ℕ) → is_word evr ≡ true → HasEvrWords evr
evr_parts evr h =
    (elim (is_parted evr) as (λ b. is_parted evr ≡ b → HasEvrWords evr) [
      | true ↦ λ e.
          let front = first_of_both (nat_lt 0 (length (before_last is_dash evr))) (nat_lt 0 (length (after_last is_dash evr))) e in
          let back = second_of_both (nat_lt 0 (length (before_last is_dash evr))) (nat_lt 0 (length (after_last is_dash evr))) e in
          let last : HasLast evr = parted_last evr front in
          let solid : list_all is_solid (before_last is_dash evr ++ 45 ∷ after_last is_dash evr) ≡ true = subst (λ t. list_all is_solid t ≡ true) (sym last.is) (solid_word evr h) in
          record {
            version = before_last is_dash evr;
            release = after_last is_dash evr;
            words = rw e refl;
            are = record {
              version_word = solid_is_word (before_last is_dash evr) front (all_left is_solid (before_last is_dash evr) (45 ∷ after_last is_dash evr) solid);
              release_word = solid_is_word (after_last is_dash evr) back (all_right is_solid (before_last is_dash evr) (45 ∷ after_last is_dash evr) solid);
              is = rw (not_one_dash (after_last is_dash evr) last.others) last.is;
            };
          }
      | false ↦ λ e. record { version = evr; release = codes "-"; words = rw e refl; are = record { version_word = h; release_word = refl; is = refl } }
    ]) refl
