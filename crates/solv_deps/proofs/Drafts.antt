-- A draft as dependencies: one more part, and the part of a number.
use Rattle.std.proofs.Common.{◌≡◌, ℕ, zero, suc, ◌<◌, ◌+◌, true, ◌&&◌, List, [], ◌∷◌, ◌++◌, length, nat_lt, Some, slice_get, take, slice_set, slice_index_or, refl, sym, ap, ◌∙◌, arith, length-append}
use Rattle.std.proofs.lemmas.Bool.{ltb-true}
use Rattle.std.proofs.lemmas.List.{get_or_append_left, take_more_set, get_or-take}
use Rattle.std.proofs.lemmas.Option.{slice_get-get_or}
use Rattle.std.proofs.Math.Seq.{get_or-append_seam}
use Rattle.std.proofs.lemmas.Grind.{common_steps}
use Rattle.solv_base.specs.Dependency.{Dep, missing}
use Rattle.solv_deps.specs.declared.draft.Written.{Written}
use Rattle.solv_deps.specs.declared.draft.Written.TheVariants.{Simple, Versioned, Namespace, Joined, Without, Under, UnderElse}
use Rattle.solv_deps.specs.Inner.Drafts.{at, written, written_after, operands_below, operands_first, said, Extends, Enters, IsDraft}
use Rattle.solv_list.proofs.Booleans.{first_of_both, second_of_both}

pub written_after-push : (draft : List (Dep (List ℕ))) (parts : List Written) (part : Written)
    → written_after draft (parts ++ part ∷ []) ≡ written_after draft parts ++ written (at (written_after draft parts)) part ∷ []
written_after-push draft [] part = refl
written_after-push draft (p ∷ parts) part = written_after-push (draft ++ written (at draft) p ∷ []) parts part

one_longer : (draft : List (Dep (List ℕ))) (d : Dep (List ℕ)) → length (draft ++ d ∷ []) ≡ suc (length draft)
one_longer draft d = omega (arith, length-append draft (d ∷ []))

pub length-written_after : (draft : List (Dep (List ℕ))) (parts : List Written) → length (written_after draft parts) ≡ length draft + length parts
length-written_after draft [] = omega arith
length-written_after draft (p ∷ parts) = omega (arith, length-written_after (draft ++ written (at draft) p ∷ []) parts, one_longer draft (written (at draft) p))

pub operands_first-push : (n : ℕ) (parts : List Written) (part : Written) → operands_first n parts ≡ true → operands_below (n + length parts) part ≡ true
    → operands_first n (parts ++ part ∷ []) ≡ true
operands_first-push n [] part h k = let e : n + 0 ≡ n = omega arith in rw (rw e at k) refl
operands_first-push n (p ∷ parts) part h k =
    let e : n + suc (length parts) ≡ suc n + length parts = omega arith in
    rw (first_of_both (operands_below n p) (operands_first (suc n) parts) h)
    (operands_first-push (suc n) parts part (second_of_both (operands_below n p) (operands_first (suc n) parts) h) (rw e at k))

-- a part reads the same over operands that are the same
pub same_written : (f g : ℕ → Dep (List ℕ)) (n : ℕ) → ((a : ℕ) → a < n → f a ≡ g a) → (part : Written) → operands_below n part ≡ true → written f part ≡ written g part
same_written f g n e (Simple w) h = refl
same_written f g n e (Versioned w c v) h = refl
same_written f g n e (Namespace w) h = refl
same_written f g n e (Joined j a b) h = rw (e a (ltb-true a n (first_of_both (nat_lt a n) (nat_lt b n) h)), e b (ltb-true b n (second_of_both (nat_lt a n) (nat_lt b n) h))) refl
same_written f g n e (Without a b) h = rw (e a (ltb-true a n (first_of_both (nat_lt a n) (nat_lt b n) h)), e b (ltb-true b n (second_of_both (nat_lt a n) (nat_lt b n) h))) refl
same_written f g n e (Under k a b) h = rw (e a (ltb-true a n (first_of_both (nat_lt a n) (nat_lt b n) h)), e b (ltb-true b n (second_of_both (nat_lt a n) (nat_lt b n) h))) refl
same_written f g n e (UnderElse k a b c) h =
    let l = second_of_both (nat_lt a n) (nat_lt b n && nat_lt c n) h in
    rw (e a (ltb-true a n (first_of_both (nat_lt a n) (nat_lt b n && nat_lt c n) h)), e b (ltb-true b n (first_of_both (nat_lt b n) (nat_lt c n) l)), e c (ltb-true c n (second_of_both (nat_lt b n) (nat_lt c n) l))) refl

-- what stands before stays
pub before_stays : (draft : List (Dep (List ℕ))) (parts : List Written) (k : ℕ) → k < length draft → at (written_after draft parts) k ≡ at draft k
before_stays draft [] k h = refl
before_stays draft (p ∷ parts) k h =
    let d = written (at draft) p in
    before_stays (draft ++ d ∷ []) parts k (omega (arith, one_longer draft d)) ∙ get_or_append_left draft (d ∷ []) missing k h

-- the part of a number, over the whole draft
pub part_at : (draft : List (Dep (List ℕ))) (parts : List Written) (i : ℕ) (part : Written) → operands_first (length draft) parts ≡ true → slice_get parts i ≡ Some part
    → (operands_below (length draft + i) part ≡ true) × (at (written_after draft parts) (length draft + i) ≡ written (at (written_after draft parts)) part)
part_at draft [] i part h e = cc
part_at draft (p ∷ parts) zero part h e =
    let same : p ≡ part = cc in
    let n = length draft in
    let below : operands_below n p ≡ true = first_of_both (operands_below n p) (operands_first (suc n) parts) h in
    let d = written (at draft) p in
    let z : n + 0 ≡ n = omega arith in
    let is : at (written_after (draft ++ d ∷ []) parts) n ≡ written (at (written_after (draft ++ d ∷ []) parts)) p =
    before_stays (draft ++ d ∷ []) parts n (omega (arith, one_longer draft d)) ∙ get_or-append_seam draft d [] missing
    ∙ same_written (at draft) (at (written_after (draft ++ d ∷ []) parts)) n (λ a l. sym (before_stays draft (p ∷ parts) a l)) p below in
    rw (← same, z) (below, is)
part_at draft (p ∷ parts) (suc i) part h e =
    let n = length draft in
    let d = written (at draft) p in
    let l = one_longer draft d in
    let s : length draft + suc i ≡ length (draft ++ d ∷ []) + i = omega arith in
    rw s (part_at (draft ++ d ∷ []) parts i part (rw l (second_of_both (operands_below n p) (operands_first (suc n) parts) h)) e)

-- the part of a number, in a draft
pub said-part : (draft : List Written) (i : ℕ) (part : Written) → operands_first 0 draft ≡ true → slice_get draft i ≡ Some part
    → (operands_below i part ≡ true) × (said draft i ≡ written (said draft) part)
unfolding said
said-part draft i part h e = let z : 0 + i ≡ i = omega arith in rw z at (part_at [] draft i part h e)

-- one more part keeps the others
pub extends-push : (draft : List Written) (part : Written) → Extends draft (draft ++ part ∷ [])
unfolding said
extends-push draft part = record {
  longer = omega (arith, length-append draft (part ∷ []));
  same = λ id l.
      let m : id < length (written_after [] draft) = omega (arith, length-written_after [] draft) in
      ap (λ ds. at ds id) (written_after-push [] draft part) ∙ get_or_append_left (written_after [] draft) (written (at (written_after [] draft)) part ∷ []) missing id m;
}

pub said-pushed : (draft : List Written) (part : Written) → said (draft ++ part ∷ []) (length draft) ≡ written (said draft) part
unfolding said
said-pushed draft part =
    let l : length draft ≡ length (written_after [] draft) = omega (arith, length-written_after [] draft) in
    ap (λ ds. at ds (length draft)) (written_after-push [] draft part)
    ∙ ap (at (written_after [] draft ++ written (at (written_after [] draft)) part ∷ [])) l
    ∙ get_or-append_seam (written_after [] draft) (written (at (written_after [] draft)) part) [] missing

-- an array with one more part in use
pub set_part : (parts : List Written) (len : ℕ) (part : Written) → IsDraft parts len → len < 129 → take (len + 1) (slice_set parts len part) ≡ take len parts ++ part ∷ []
set_part parts len part d l = let s = d.size in take_more_set parts len part (omega arith)

pub length-draft : (parts : List Written) (len : ℕ) → IsDraft parts len → length (take len parts) ≡ len
length-draft parts len d = let s = d.size in let w = d.within in grind (arith, common_steps)

pub IsDraft-push : (parts : List Written) (len : ℕ) (part : Written) → IsDraft parts len → len < 129 → operands_below len part ≡ true → IsDraft (slice_set parts len part) (len + 1)
IsDraft-push parts len part d l h =
    let z : 0 + length (take len parts) ≡ len = omega (arith, length-draft parts len d) in
    record {
      size = grind (arith, common_steps, d.size);
      within = omega arith;
      first = rw (set_part parts len part d l) (operands_first-push 0 (take len parts) part d.first (rw z h));
    }

-- what one more part makes of a draft
module _ (parts : List Written) (len : ℕ) (part : Written) (now : List Written) (view : take len parts ≡ now) (d : IsDraft parts len) (short : length now < 129) where
  pub count : length now ≡ len
  count = ap length (sym view) ∙ length-draft parts len d

  pub room : len < 129
  room = omega (arith, count)

  pub pushed : take (len + 1) (slice_set parts len part) ≡ now ++ part ∷ []
  pushed = rw (← view) (set_part parts len part d room)

  pub length-pushed : length (take (len + 1) (slice_set parts len part)) ≡ length now + 1
  length-pushed = omega (arith, ap length pushed, length-append now (part ∷ []))

  pub below_len : operands_below (length now) part ≡ true → operands_below len part ≡ true
  below_len h = rw count at h

  part_pushed : said (take (len + 1) (slice_set parts len part)) len ≡ written (said now) part
  part_pushed = rw (pushed, ← count) (said-pushed now part)

  pub entered : Enters now (take (len + 1) (slice_set parts len part)) len (written (said now) part)
  entered = record { extends = rw pushed (extends-push now part); below = omega (arith, length-pushed, count); is = part_pushed }

-- the part of a number in the array is the draft's
pub kept_part : (parts : List Written) (len i : ℕ) (default : Written) → IsDraft parts len → i < len → slice_get (take len parts) i ≡ Some (slice_index_or parts i default)
kept_part parts len i default d l =
    slice_get-get_or (take len parts) i default (omega (arith, length-draft parts len d)) ∙ ap Some (get_or-take len parts i default l)

pub within_array : (parts : List Written) (len i : ℕ) (now : List Written) → take len parts ≡ now → IsDraft parts len → i < length now → i < len
within_array parts len i now view d l = omega (arith, ap length (sym view) ∙ length-draft parts len d)
