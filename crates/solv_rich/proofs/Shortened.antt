-- Each literal of a clause at its first place.
use Rattle.std.proofs.Common.{◌≡◌, ℕ, zero, suc, Bool, true, false, not, ◌&&◌, ◌||◌, [], ◌∷◌, ◌++◌, refl, sym, ap, ◌∙◌, arith}
use Rattle.std.specs.Prelude.{filter, nat_lt, if◌then◌else◌}
use Rattle.std.specs.List.{list_any, list_all}
use Rattle.std.proofs.lemmas.Bool.Decides.{nat_tests}
use Rattle.std.proofs.lemmas.List.Folds.{list_any-append}
use Rattle.solv_pool.specs.Prelude.{Literal, Clause, is_in, is_out, same_literal, negation, contains_literal, is_always_true, firsts, shortened}
use Rattle.solv_rich.specs.Inner.Shortening.{package_of, each_first}
use Rattle.solv_list.proofs.Booleans.{first_of_both, or_false, or_swapped, second_of_both}
use Rattle.solv_list.proofs.Numbers.{zero_not_successor}
use Rattle.solv_pool.proofs.Guards.{same-is}

-- a literal of the system that a clause without "the system is in" has
abbrev of_system : Literal → Bool
of_system l = not (nat_lt 0 (package_of l))

abbrev is_no_in : Literal → Bool
is_no_in l = not (same_literal (is_in 0) l)

above : (p : ℕ) → nat_lt 0 (suc p) ≡ true
above p = grind (arith, nat_tests)

system_out : (l : Literal) → is_no_in l ≡ true → same_literal (is_out 0) l ≡ of_system l
system_out (is_in zero) h = cc
system_out (is_in (suc p)) h = rw (above p) refl
system_out (is_out zero) h = refl
system_out (is_out (suc p)) h = rw (above p, zero_not_successor p) refl

-- two lists contain the same literals but those of the system
abbrev Alike : Clause → Clause → Type 0
Alike b c = (m : Literal) → nat_lt 0 (package_of m) ≡ true → contains_literal b m ≡ contains_literal c m

-- one more after
contains_more : (seen : Clause) (l m : Literal) → contains_literal (seen ++ l ∷ []) m ≡ (contains_literal seen m || same_literal m l)
contains_more seen l m = list_any-append (same_literal m) seen (l ∷ []) ∙ ap (λ b. contains_literal seen m || b) (or_false (same_literal m l))

-- a literal of the system says nothing of another package
apart : (l m : Literal) → nat_lt 0 (package_of l) ≡ false → nat_lt 0 (package_of m) ≡ true → same_literal m l ≡ false
apart l m h k = step (same_literal m l) refl
  where
    step : (b : Bool) → same_literal m l ≡ b → b ≡ false
    step false e = refl
    step true e = let same = same-is m l e in let both : nat_lt 0 (package_of m) ≡ nat_lt 0 (package_of l) = ap (λ x. nat_lt 0 (package_of x)) same in cc

still_alike : (seen before : Clause) (l : Literal) → Alike seen before → nat_lt 0 (package_of l) ≡ false → Alike (seen ++ l ∷ []) before
still_alike seen before l alike none = λ m k.
    contains_more seen l m ∙ ap (λ b. contains_literal seen m || b) (apart l m none k) ∙ or_false (contains_literal seen m) ∙ alike m k

seen_alike : (seen before : Clause) (l : Literal) → Alike seen before → contains_literal seen l ≡ true → Alike (seen ++ l ∷ []) before
seen_alike seen before l alike there = λ m k. contains_more seen l m ∙ nothing_new m (same_literal m l) refl ∙ alike m k
  where
    nothing_new : (m : Literal) (b : Bool) → same_literal m l ≡ b → (contains_literal seen m || b) ≡ contains_literal seen m
    nothing_new m false e = or_false (contains_literal seen m)
    nothing_new m true e = let own : contains_literal seen m ≡ true = ap (contains_literal seen) (same-is m l e) ∙ there in rw own refl

more_alike : (seen before : Clause) (l : Literal) → Alike seen before → Alike (seen ++ l ∷ []) (l ∷ before)
more_alike seen before l alike = λ m k. contains_more seen l m ∙ ap (λ b. b || same_literal m l) (alike m k) ∙ or_swapped (contains_literal before m) (same_literal m l)

abbrev not_out : Literal → Bool
not_out l = not (same_literal (is_out 0) l)

abbrev IsFirst : Clause → Clause → Clause → Type 0
IsFirst ls seen before = each_first seen ls ≡ firsts before (filter not_out ls)

-- one more literal, where it is so for those after it
module _ (l : Literal) (ls : Clause) (later : (seen before : Clause) → Alike seen before → IsFirst ls seen before) where
  of_seen : (seen before : Clause) → Alike seen before → nat_lt 0 (package_of l) ≡ true → (c : Bool) → contains_literal seen l ≡ c
      → (if not c then l ∷ each_first (seen ++ l ∷ []) ls else each_first (seen ++ l ∷ []) ls) ≡ (if c then firsts before (filter not_out ls) else l ∷ firsts (l ∷ before) (filter not_out ls))
  of_seen seen before alike k true e = later (seen ++ l ∷ []) before (seen_alike seen before l alike e)
  of_seen seen before alike k false e = ap (λ t. l ∷ t) (later (seen ++ l ∷ []) (l ∷ before) (more_alike seen before l alike))

  of_package : (seen before : Clause) → Alike seen before → (b : Bool) → nat_lt 0 (package_of l) ≡ b
      → (if b && not (contains_literal seen l) then l ∷ each_first (seen ++ l ∷ []) ls else each_first (seen ++ l ∷ []) ls) ≡ firsts before (if not (not b) then l ∷ filter not_out ls else filter not_out ls)
  of_package seen before alike false e = later (seen ++ l ∷ []) before (still_alike seen before l alike e)
  of_package seen before alike true e =
      of_seen seen before alike e (contains_literal seen l) refl
      ∙ ap (λ c. if c then firsts before (filter not_out ls) else l ∷ firsts (l ∷ before) (filter not_out ls)) (alike l e)

  one_first : (seen before : Clause) → Alike seen before → is_no_in l ≡ true → IsFirst (l ∷ ls) seen before
  one_first seen before alike h =
      of_package seen before alike (nat_lt 0 (package_of l)) refl
      ∙ ap (λ b. firsts before (if not b then l ∷ filter not_out ls else filter not_out ls)) (sym (system_out l h))

-- each first literal of a clause that does not say that the system is in
firsts_are : (ls : Clause) → list_all is_no_in ls ≡ true → (seen before : Clause) → Alike seen before → IsFirst ls seen before
firsts_are [] h seen before alike = refl
firsts_are (l ∷ ls) h seen before alike =
    one_first l ls (firsts_are ls (second_of_both (is_no_in l) (list_all is_no_in ls) h)) seen before alike (first_of_both (is_no_in l) (list_all is_no_in ls) h)

no_in : (c d : Clause) → list_any (λ l. same_literal (is_in 0) l || contains_literal c (negation l)) d ≡ false → list_all is_no_in d ≡ true
no_in c [] h = refl
no_in c (l ∷ ls) h = step (same_literal (is_in 0) l) (contains_literal c (negation l)) _ h (no_in c ls)
  where
    step : (a b m : Bool) → ((a || b) || m) ≡ false → (m ≡ false → list_all is_no_in ls ≡ true) → (not a && list_all is_no_in ls) ≡ true
    step true b m e later = cc
    step false true m e later = cc
    step false false m e later = later e

-- a clause that is not always true is shortened to its first literals
pub shortened_is : (c : Clause) → is_always_true c ≡ false → each_first [] c ≡ shortened c
shortened_is c h = firsts_are c (no_in c c h) [] [] (λ m k. refl)
