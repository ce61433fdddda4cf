-- Clauses after others, one after another.
use Rattle.std.proofs.Common.{◌≡◌, ◌≤◌, ◌+◌, ℕ, zero, suc, ℤ, Bool, true, false, not, List, [], ◌∷◌, ◌++◌, length, take, drop, map, Option, Some, refl, sym, ap, ◌∙◌, arith, add-one, append_assoc, length-append}
use Rattle.std.specs.Prelude.{filter, flat_map, nat_le, slice_get, unwrap_or, if◌then◌else◌}
use Rattle.std.specs.List.{list_all}
use Rattle.std.proofs.lemmas.Bool.{and_parts}
use Rattle.std.proofs.lemmas.List.{append-nil}
use Rattle.solv_pool.specs.Prelude.{Dep, is_among, Catalog, members, Literal, Clause, is_in, is_out, is_always_true, shortened, kept, in_numbers, number_of, clauses_of}
use Rattle.solv_pool.proofs.ClauseNames.{clauses-members}
use Rattle.solv_pool.proofs.ClauseNames.{package_of as named}
use Rattle.solv_rich.specs.Inner.Counts.{ends_behind, HasAppended}
use Rattle.solv_rich.specs.Inner.Shortening.{has_number, each_first}
use Rattle.solv_rich.proofs.Shortened.{shortened_is}
use Rattle.solv_rich.proofs.Rising.{all_numbers}
use Rattle.solv_list.proofs.Lists.{all_weaker}
use Rattle.solv_pool.proofs.Among.{among_passes}

-- a clause that not every set makes true
pub kept_one : (c : Clause) → is_always_true c ≡ false → in_numbers (kept (c ∷ [])) ≡ map number_of (each_first [] c) ∷ []
kept_one c h = rw h (ap (λ t. map number_of t ∷ []) (sym (shortened_is c h)))

pub kept_more : (c : Clause) (cs : List Clause) → in_numbers (kept (c ∷ cs)) ≡ in_numbers (kept (c ∷ [])) ++ in_numbers (kept cs)
kept_more c cs = step (not (is_always_true c))
  where
    step : (b : Bool) → in_numbers (map shortened (if b then c ∷ filter (λ c. not (is_always_true c)) cs else filter (λ c. not (is_always_true c)) cs))
        ≡ in_numbers (map shortened (if b then c ∷ [] else [])) ++ in_numbers (kept cs)
    step true = refl
    step false = refl

pub flat_more : (xs ys : List (List ℤ)) → flat_map (λ c. c) (xs ++ ys) ≡ flat_map (λ c. c) xs ++ flat_map (λ c. c) ys
flat_more [] ys = refl
flat_more (x ∷ xs) ys = ap (λ t. x ++ t) (flat_more xs ys) ∙ sym (append_assoc x (flat_map (λ c. c) xs) (flat_map (λ c. c) ys))

ends_more : (n : ℕ) (xs ys : List (List ℤ)) → ends_behind n (xs ++ ys) ≡ ends_behind n xs ++ ends_behind (n + length (flat_map (λ c. c) xs)) ys
ends_more n [] ys = ap (λ k. ends_behind k ys) (no_more n)
  where
    no_more : (n : ℕ) → n ≡ n + 0
    no_more n = omega arith
ends_more n (x ∷ xs) ys =
    ap (λ t. (n + length x) ∷ t) (ends_more (n + length x) xs ys
    ∙ ap (λ k. ends_behind (n + length x) xs ++ ends_behind k ys) (let many = length-append x (flat_map (λ c. c) xs) in omega (arith, many)))

-- what is kept is kept when more is put
pub kept_chain : {X : Type 0} (a b c : List X) → take (length a) b ≡ a → take (length b) c ≡ b → take (length a) c ≡ a
kept_chain [] b c h k = refl
kept_chain (x ∷ a) [] c h k = absurd (cc)
kept_chain (x ∷ a) (y ∷ b) [] h k = absurd (cc)
kept_chain (x ∷ a) (y ∷ b) (z ∷ c) h k =
    let later = kept_chain a b c (ap (drop 1) h) (ap (drop 1) k) in
    let first : y ≡ x = ap (λ l. head_or l x) h in
    let second : z ≡ y = ap (λ l. head_or l x) k in
    ap (λ e. e ∷ take (length a) c) (second ∙ first) ∙ ap (λ t. x ∷ t) later
  where
    head_or : {X : Type 0} → List X → X → X
    head_or [] d = d
    head_or (e ∷ l) d = e

-- one clause is put
pub one_appended : (x old new : List ℤ) (old_ends new_ends : List ℕ) (n : ℕ) → new ≡ old ++ x → n ≡ length new → new_ends ≡ old_ends ++ n ∷ [] → HasAppended (x ∷ []) old new old_ends new_ends
one_appended x old new old_ends new_ends n lits size ends = record {
  literals = lits ∙ ap (λ t. old ++ t) (sym (append-nil x));
  ends = ends ∙ ap (λ k. old_ends ++ k ∷ []) (size ∙ ap length lits ∙ length-append old x);
}

-- what is left after more clauses is what was left after fewer
module _ (first rest : List (List ℤ)) (lits more : List ℤ) (ends more_ends : List ℕ) (put : HasAppended first lits more ends more_ends) where
  pub lits_left : more ++ flat_map (λ c. c) rest ≡ lits ++ flat_map (λ c. c) (first ++ rest)
  lits_left = ap (λ t. t ++ flat_map (λ c. c) rest) put.literals ∙ append_assoc lits (flat_map (λ c. c) first) (flat_map (λ c. c) rest) ∙ ap (λ t. lits ++ t) (sym (flat_more first rest))

  many : length lits + length (flat_map (λ c. c) first) ≡ length more
  many = sym (ap length put.literals ∙ length-append lits (flat_map (λ c. c) first))

  pub ends_left : more_ends ++ ends_behind (length more) rest ≡ ends ++ ends_behind (length lits) (first ++ rest)
  ends_left =
      ap (λ t. t ++ ends_behind (length more) rest) put.ends ∙ append_assoc ends (ends_behind (length lits) first) (ends_behind (length more) rest)
      ∙ ap (λ t. ends ++ t) (sym (ends_more (length lits) first rest ∙ ap (λ k. ends_behind (length lits) first ++ ends_behind k rest) many))

-- the clause of a number, and those after it
pub drop_at : (cs : List Clause) (k : ℕ) (c : Clause) → slice_get cs k ≡ Some c → drop k cs ≡ c ∷ drop (k + 1) cs
drop_at [] k c at = absurd (cc)
drop_at (d ∷ cs) zero c at = ap (λ e. e ∷ cs) (ap (λ o. unwrap_or o d) at)
drop_at (d ∷ cs) (suc k) c at = rw add-one (rw add-one at (drop_at cs k c at))

pub all_at : (f : Clause → Bool) (cs : List Clause) (k : ℕ) (c : Clause) → list_all f cs ≡ true → slice_get cs k ≡ Some c → f c ≡ true
all_at f [] k c h at = absurd (cc)
all_at f (d ∷ cs) zero c h at = ap f (sym (ap (λ o. unwrap_or o d) at)) ∙ (and_parts (f d) (list_all f cs) h).0
all_at f (d ∷ cs) (suc k) c h at = all_at f cs k c (and_parts (f d) (list_all f cs) h).1 at

pub numbered : (catalog : Catalog) (x : Option ℕ) (at : Bool) (d : Dep ℕ) → length catalog.universe.packages ≤ 1048575 → list_all (list_all has_number) (clauses_of catalog x at d) ≡ true
numbered catalog x at d few =
    all_weaker (list_all (λ l. is_among (members catalog) (named l))) (list_all has_number) (λ c h. all_weaker (λ l. is_among (members catalog) (named l)) has_number one_number c h) (clauses_of catalog x at d) (clauses-members catalog x at d)
  where
    one_number : (l : Literal) → is_among (members catalog) (named l) ≡ true → has_number l ≡ true
    one_number (is_in p) h = among_passes (λ q. nat_le q 1048575) (members catalog) p (all_numbers catalog few) h
    one_number (is_out p) h = among_passes (λ q. nat_le q 1048575) (members catalog) p (all_numbers catalog few) h
