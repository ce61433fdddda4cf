-- A draft: what a text says so far, each part after its operands, before any of it is entered into a pool.
use Rattle.std.specs.Prelude.{ℕ, suc, ◌≡◌, ◌<◌, ◌≤◌, Bool, true, ◌&&◌, List, [], ◌∷◌, ◌++◌, length, nat_lt, get_or, take}
use Rattle.solv_base.specs.Dependency.{Dep, plain, versioned, one, namespace, without, joined, under, under_else, missing}
use Rattle.solv_deps.specs.declared.draft.Written.{Written}
use Rattle.solv_deps.specs.declared.draft.Written.TheVariants.{Simple, Versioned, Namespace, Joined, Without, Under, UnderElse}
use Rattle.solv_deps.specs.Expressions.{connective_of, condition_of}

-- the dependency at this place
abbrev pub at : List (Dep (List ℕ)) → ℕ → Dep (List ℕ)
at draft id = get_or draft id missing

-- a part as a dependency, its operands being those of these numbers
abbrev pub written : (ℕ → Dep (List ℕ)) → Written → Dep (List ℕ)
written of (Simple name) = one (plain name.now)
written of (Versioned name c evr) = one (versioned name.now c evr.now)
written of (Namespace name) = namespace name.now
written of (Joined j a b) = joined (connective_of j) (of a) (of b)
written of (Without a b) = joined without (of a) (of b)
written of (Under k a b) = under (condition_of k) (of a) (of b)
written of (UnderElse k a b c) = under_else (condition_of k) (of a) (of b) (of c)

-- the dependencies of parts that follow these
abbrev pub written_after : List (Dep (List ℕ)) → List Written → List (Dep (List ℕ))
written_after draft [] = draft
written_after draft (part ∷ parts) = written_after (draft ++ written (at draft) part ∷ []) parts

-- are the operands of a part below this number?
abbrev pub operands_below : ℕ → Written → Bool
operands_below n (Simple name) = true
operands_below n (Versioned name c evr) = true
operands_below n (Namespace name) = true
operands_below n (Joined j a b) = nat_lt a n && nat_lt b n
operands_below n (Without a b) = nat_lt a n && nat_lt b n
operands_below n (Under k a b) = nat_lt a n && nat_lt b n
operands_below n (UnderElse k a b c) = nat_lt a n && (nat_lt b n && nat_lt c n)

-- the operands of each part come before it; so many parts stand before these
abbrev pub operands_first : ℕ → List Written → Bool
operands_first n [] = true
operands_first n (part ∷ parts) = operands_below n part && operands_first (suc n) parts

-- the first parts of an array of 129, each after its operands
pub record IsDraft (parts : List Written) (len : ℕ) : Type 0 where
  pub size : length parts ≡ 129
  pub within : len ≤ 129
  pub first : operands_first 0 (take len parts) ≡ true

-- the dependency of a number
unfoldable pub said : List Written → ℕ → Dep (List ℕ)
said draft = at (written_after [] draft)

-- what was in the draft is in it under the same numbers
pub record Extends (old new : List Written) : Type 0 where
  pub longer : length old ≤ length new
  pub same : (id : ℕ) → id < length old → said new id ≡ said old id

-- the draft now has this dependency under this number, and what it had
pub record Enters (old new : List Written) (id : ℕ) (d : Dep (List ℕ)) : Type 0 where
  pub extends : Extends old new
  pub below : id < length new
  pub is : said new id ≡ d
