-- A package that is identified by its text is still identified by it when more repositories and packages are there.
use Rattle.std.proofs.Common.{◌≡◌, ℕ, zero, suc, ◌+◌, ◌≤◌, ◌<◌, Bool, true, false, List, [], ◌∷◌, ◌++◌, length, Option, Some, None, Result, Ok, Err, refl, sym, ap, subst, ◌∙◌, arith, nat_lt}
use Rattle.std.specs.Prelude.{find}
use Rattle.std.specs.List.{list_all, range_with_len}
use Rattle.std.specs.Option.{option_map_or}
use Rattle.std.specs.Str.{bytes_eq}
use Rattle.std.proofs.lemmas.Bool.{ltb-true}
use Rattle.std.proofs.lemmas.List.{length-append}
use Rattle.solv_pool.specs.Prelude.{WrittenTask, WrittenRepo, WrittenPackage}
use Rattle.solv_script.specs.States.{text_of, text_of_number, package_number}
use Rattle.solv_commands.specs.declared.causes.Cause.{Cause}
use Rattle.solv_commands.specs.declared.causes.Cause.TheVariants.{UnknownPackage}
use Rattle.solv_script.specs.Rows.{package_numbers}
use Rattle.solv_commands.specs.Commands.{and_then}
use Rattle.solv_script.specs.Inner.LineParts.{or_cause}
use Rattle.solv_list.proofs.Lists.{all_at, get_front, some_there}
use Rattle.solv_io.specs.JoinedWords.{is_word}
use Rattle.solv_writing.specs.Inner.ReadScripts.{IsToldByText, view}

first_found : (f : ℕ → Bool) (a : ℕ) (xs : List ℕ) → f a ≡ true → find f (a ∷ xs) ≡ Some a
first_found f a xs h = rw h refl

later_found : (f : ℕ → Bool) (a : ℕ) (xs : List ℕ) → f a ≡ false → find f (a ∷ xs) ≡ find f xs
later_found f a xs h = rw h refl

found_stays : (f g : ℕ → Bool) (n m a p : ℕ) → ((k : ℕ) → k < a + n → g k ≡ f k) → find f (range_with_len a n) ≡ Some p → find g (range_with_len a (n + m)) ≡ Some p
found_stays f g zero m a p same h = absurd (cc)
found_stays f g (suc n) m a p same h =
    let e : suc n + m ≡ suc (n + m) = omega arith in
    let here : g a ≡ f a = same a (omega arith) in
    (elim (f a) as (λ b. f a ≡ b → find g (range_with_len a (suc n + m)) ≡ Some p) [
      | true ↦ λ q.
          let is : Some a ≡ Some p = sym (first_found f a (range_with_len (a + 1) n) q) ∙ h in
          ap (λ k. find g (range_with_len a k)) e ∙ first_found g a (range_with_len (a + 1) (n + m)) (here ∙ q) ∙ is
      | false ↦ λ q.
          let rest : find f (range_with_len (a + 1) n) ≡ Some p = sym (later_found f a (range_with_len (a + 1) n) q) ∙ h in
          ap (λ k. find g (range_with_len a k)) e ∙ later_found g a (range_with_len (a + 1) (n + m)) (here ∙ q) ∙ found_stays f g n m (a + 1) p (λ k l. same k (omega (arith, l))) rest
    ]) refl

found_below : (f : ℕ → Bool) (n a p : ℕ) → find f (range_with_len a n) ≡ Some p → p < a + n
found_below f zero a p h = absurd (cc)
found_below f (suc n) a p h =
    (elim (f a) as (λ b. f a ≡ b → p < a + suc n) [
      | true ↦ λ q. let is : Some a ≡ Some p = sym (first_found f a (range_with_len (a + 1) n) q) ∙ h in let s : a ≡ p = cc in omega (arith, s)
      | false ↦ λ q. let rest : find f (range_with_len (a + 1) n) ≡ Some p = sym (later_found f a (range_with_len (a + 1) n) q) ∙ h in let l = found_below f n (a + 1) p rest in omega (arith, l)
    ]) refl

module _ (repos more : List WrittenRepo) (packages added : List WrittenPackage) (own : list_all (λ (a : WrittenPackage). nat_lt a.repo (length repos)) packages ≡ true) where
  abbrev now : WrittenTask
  now = view repos packages

  abbrev later : WrittenTask
  later = view (repos ++ more) (packages ++ added)

  pub text_stays : (a : WrittenPackage) → a.repo < length repos → text_of later a ≡ text_of now a
  text_stays a l = ap (λ (o : Option WrittenRepo). text_with a (option_map_or (λ (repo : WrittenRepo). repo.name) o [])) (get_front repos more a.repo l)
    where
      text_with : WrittenPackage → List ℕ → List ℕ
      text_with a name = a.name ++ (45 ∷ (a.evr ++ (46 ∷ (a.arch ++ (64 ∷ name)))))

  pub number_text_stays : (k : ℕ) → k ≤ length packages → text_of_number later k ≡ text_of_number now k
  number_text_stays zero l = refl
  number_text_stays (suc k) l =
      let there = some_there packages k (omega (arith, l)) in
      let o : nat_lt (there.0).repo (length repos) ≡ true = all_at (λ (a : WrittenPackage). nat_lt a.repo (length repos)) packages k there.0 own there.1 in
      ap (λ (o : Option WrittenPackage). option_map_or (text_of later) o []) (get_front packages added k (omega (arith, l)) ∙ there.1)
      ∙ text_stays there.0 (ltb-true (there.0).repo (length repos) o)
      ∙ ap (λ (o : Option WrittenPackage). option_map_or (text_of now) o []) (sym there.1)

  pub number_stays : (text : List ℕ) (p : ℕ) → package_number now text ≡ Some p → package_number later text ≡ Some p
  number_stays text p h =
      let n : length (packages ++ added) ≡ length packages + length added = length-append packages added in
      let m : suc (length packages) + length added ≡ suc (length (packages ++ added)) = omega (arith, n) in
      let long : find (λ q. bytes_eq text (text_of_number later q)) (range_with_len 0 (suc (length packages) + length added)) ≡ Some p
      = found_stays (λ q. bytes_eq text (text_of_number now q)) (λ q. bytes_eq text (text_of_number later q)) (suc (length packages)) (length added) 0 p
      (λ k l. ap (bytes_eq text) (number_text_stays k (omega (arith, l)))) h in
      subst (λ j. find (λ q. bytes_eq text (text_of_number later q)) (range_with_len 0 j) ≡ Some p) m long

  pub number_below : (text : List ℕ) (p : ℕ) → package_number now text ≡ Some p → p ≤ length packages
  number_below text p h = let l = found_below (λ q. bytes_eq text (text_of_number now q)) (suc (length packages)) 0 p h in omega (arith, l)

  -- a package that is identified stays so
  pub told_stays : (p : ℕ) → IsToldByText now p → IsToldByText later p
  told_stays p told =
      let below : p ≤ length packages = number_below (text_of_number now p) p told.0 in
      let same : text_of_number later p ≡ text_of_number now p = number_text_stays p below in
      (ap (package_number later) same ∙ number_stays (text_of_number now p) p told.0, ap is_word same ∙ told.1)

  -- lists of packages
  pub numbers_stay : (ws : List (List ℕ)) (ps : List ℕ) → package_numbers now ws ≡ Ok ps → package_numbers later ws ≡ Ok ps
  numbers_stay [] ps h = h
  numbers_stay (w ∷ ws) ps h = on (package_number now w) refl h (λ l k. numbers_stay ws l k)
    where
      rest : (r : Result (List ℕ) Cause) → package_numbers now ws ≡ r → (q : ℕ) → and_then r (λ l. Ok (q ∷ l)) ≡ Ok ps → ((l : List ℕ) → package_numbers now ws ≡ Ok l → package_numbers later ws ≡ Ok l) → and_then (package_numbers later ws) (λ l. Ok (q ∷ l)) ≡ Ok ps
      rest (Ok l) e q g more = ap (λ r. and_then r (λ l. Ok (q ∷ l))) (more l e) ∙ g
      rest (Err c) e q g more = absurd (cc)

      on : (o : Option ℕ) → package_number now w ≡ o → or_cause o UnknownPackage (λ q. and_then (package_numbers now ws) (λ l. Ok (q ∷ l))) ≡ Ok ps → ((l : List ℕ) → package_numbers now ws ≡ Ok l → package_numbers later ws ≡ Ok l) → package_numbers later (w ∷ ws) ≡ Ok ps
      on None e g more = absurd (cc)
      on (Some q) e g more = ap (λ o. or_cause o UnknownPackage (λ q. and_then (package_numbers later ws) (λ l. Ok (q ∷ l)))) (number_stays w q e) ∙ rest (package_numbers now ws) refl q g more
