-- A repository is named by an id as by its text.
use Rattle.std.proofs.Common.{◌≡◌, ℕ, zero, suc, ◌<◌, ◌||◌, Bool, true, false, List, [], ◌∷◌, length, refl, sym, ap, ◌∙◌, arith, nat_lt}
use Rattle.std.specs.Prelude.{◌==◌, is_some, position, slice_get, unwrap_or}
use Rattle.std.specs.List.{list_all, list_any, position_or_len}
use Rattle.std.specs.Str.{bytes_eq}
use Rattle.std.proofs.lemmas.Bool.{ltb-true, or_parts}
use Rattle.std.proofs.lemmas.Bool.Decides.{nat_tests}
use Rattle.solv_base.specs.Pool.{Held, IsPool, Grows, text_at, is_name}
use Rattle.solv_pool.specs.Contents.{Contents}
use Rattle.solv_pool.specs.Inner.PackageText.{has_repo, repo_found}
use Rattle.solv_pool.specs.Prelude.{IsOver}
use Rattle.solv_pool.specs.declared.packages.Repo.{Repo}
use Rattle.solv_script.proofs.NamespaceLists.{texts_as_ids}
use Rattle.solv_list.proofs.Booleans.{first_of_both, second_of_both}
use Rattle.solv_list.proofs.Lists.{below_true, place_none, place_within}

-- there is a place where there is such a value
some_place : {X : Type 0} (p : X → Bool) (xs : List X) → is_some (position p xs) ≡ list_any p xs
some_place p xs = by (list_any p xs) refl
  where
    by : (b : Bool) → list_any p xs ≡ b → is_some (position p xs) ≡ b
    by true e = let low : nat_lt (position_or_len p xs) (length xs) ≡ true = below_true (position_or_len p xs) (length xs) (place_within p xs e) in rw low refl
    by false e =
        let end : position_or_len p xs ≡ length xs = place_none p xs e in
        let high : nat_lt (position_or_len p xs) (length xs) ≡ false = grind (arith, nat_tests) in
        rw high refl

-- a text that is none of these
other_text : (names : List (List ℕ)) (text : List ℕ) (n : ℕ) → n < length names → is_name names text ≡ false → bytes_eq text (unwrap_or (slice_get names n) []) ≡ false
other_text [] text n low h = absurd (omega (arith, low))
other_text (x ∷ names) text zero low h = (or_parts (bytes_eq text x) (is_name names text) h).0
other_text (x ∷ names) text (suc n) low h = other_text names text n (omega (arith, low)) (or_parts (bytes_eq text x) (is_name names text) h).1

none_named : (pool : Held) (text : List ℕ) → is_name pool.names text ≡ false → (repos : List Repo) → list_all (λ repo. nat_lt repo.name (length pool.names)) repos ≡ true
    → list_any (λ repo. bytes_eq text (text_at pool repo.name)) repos ≡ false
none_named pool text new [] h = refl
none_named pool text new (repo ∷ repos) h =
    let both : (nat_lt repo.name (length pool.names) ≡ true) × (list_all (λ (r : Repo). nat_lt r.name (length pool.names)) repos ≡ true)
    = (first_of_both (nat_lt repo.name (length pool.names)) (list_all (λ (r : Repo). nat_lt r.name (length pool.names)) repos) h, second_of_both (nat_lt repo.name (length pool.names)) (list_all (λ (r : Repo). nat_lt r.name (length pool.names)) repos) h) in
    let here : bytes_eq text (text_at pool repo.name) ≡ false = other_text pool.names text repo.name (ltb-true repo.name (length pool.names) both.0) new in
    rw (here, none_named pool text new repos both.1) refl

-- no repository has a text that is not held
pub none_of_new : (pool : Held) (universe : Contents) → IsOver pool universe → (text : List ℕ) → is_name pool.names text ≡ false → is_some (repo_found pool universe text) ≡ false
none_of_new pool universe over text new = some_place (λ repo. bytes_eq text (text_at pool repo.name)) universe.repos ∙ none_named pool text new universe.repos over.repos

-- the id of a text that was entered
module _ (old new : Held) (grows : Grows old new) (once : IsPool new) (id : ℕ) (text : List ℕ) (is : text_at new id ≡ text) (within : id < length new.names) where
  same_test : (n : ℕ) → n < length old.names → bytes_eq text (text_at old n) ≡ (id == n)
  same_test n low =
      ap (λ t. bytes_eq t (text_at old n)) (sym is) ∙ ap (bytes_eq (text_at new id)) (sym (grows.texts n low)) ∙ texts_as_ids new once id within n (omega (arith, low, grows.names))

  any_as_ids : (repos : List Repo) → list_all (λ repo. nat_lt repo.name (length old.names)) repos ≡ true → list_any (λ repo. bytes_eq text (text_at old repo.name)) repos ≡ list_any (λ repo. id == repo.name) repos
  any_as_ids [] h = refl
  any_as_ids (repo ∷ repos) h =
      let low : repo.name < length old.names = ltb-true repo.name (length old.names) (first_of_both (nat_lt repo.name (length old.names)) (list_all (λ (r : Repo). nat_lt r.name (length old.names)) repos) h) in
      let rest = any_as_ids repos (second_of_both (nat_lt repo.name (length old.names)) (list_all (λ (r : Repo). nat_lt r.name (length old.names)) repos) h) in
      ap (λ b. b || list_any (λ (r : Repo). bytes_eq text (text_at old r.name)) repos) (same_test repo.name low) ∙ ap (λ b. (id == repo.name) || b) rest

  -- a repository has the text where one has the id
  pub found_by_id : (universe : Contents) → IsOver old universe → is_some (repo_found old universe text) ≡ has_repo universe id
  found_by_id universe over = some_place (λ repo. bytes_eq text (text_at old repo.name)) universe.repos ∙ any_as_ids universe.repos over.repos

  -- what is told of ids is so of texts
  pub taken_by_id : (universe : Contents) → IsOver old universe → has_repo universe id ≡ true → is_some (repo_found old universe text) ≡ true
  taken_by_id universe over h = found_by_id universe over ∙ h

  pub free_by_id : (universe : Contents) → IsOver old universe → (has_repo universe id ≡ true → ⊥) → is_some (repo_found old universe text) ≡ false
  free_by_id universe over h = found_by_id universe over ∙ by (has_repo universe id) h
    where
      by : (b : Bool) → (b ≡ true → ⊥) → b ≡ false
      by true = λ no. absurd (no refl)
      by false = λ no. refl
