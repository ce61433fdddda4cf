-- One package more in the span of its repository, and what stands outside of a span.
use Rattle.std.proofs.Common.{◌≡◌, ℕ, zero, suc, ◌+◌, ◌==◌, ◌<◌, ◌≤◌, true, false, ◌||◌, List, [], ◌∷◌, map, drop, length, Some, slice_get, refl, sym, ap, subst, ◌∙◌, arith, ◌⊎◌, inl, inr}
use Rattle.std.proofs.Math.ListN.{set}
use Rattle.std.proofs.lemmas.Bool.Decides.{nat_tests}
use Rattle.std.specs.Prelude.{codes, if◌then◌else◌}
use Rattle.std.specs.Option.{option_map_or}
use Rattle.solv_base.specs.Pool.{Held}
use Rattle.solv_pool.specs.Prelude.{passes, written_package}
use Rattle.solv_pool.specs.declared.packages.Package.{Package}
use Rattle.solv_script.specs.Grammar.{inline}
use Rattle.solv_list.proofs.Booleans.{or_true}
use Rattle.solv_list.proofs.Lists.{place_there}
use Rattle.solv_list.proofs.Numbers.{equal_to_itself, same_number}
use Rattle.solv_writing.specs.declared.spans.Span.{Span}
use Rattle.solv_writing.specs.Inner.Spans.{IsSpan, AreSpans}
use Rattle.solv_writing.specs.Inner.ScriptParts.{content_words, packages_of}
use Rattle.std.proofs.lemmas.Bool.{cases_eq, ne_eqb}

below_or_at : (k i : ℕ) → k < i + 1 → (k < i) ⊎ (k ≡ i)
below_or_at k i h = grind (arith, nat_tests)

pub same_there : {X : Type 0} (x y : X) → Some x ≡ Some y → x ≡ y
same_there x y e = ap (λ o. option_map_or (λ z. z) o x) e

-- none before: the span is this package
first_turn : (packages : List Package) (i place : ℕ) (s : Span) (a : Package) → slice_get packages i ≡ Some a → a.repo ≡ place → IsSpan packages i place s → s.end ≡ 0 → IsSpan packages (i + 1) place (record { first = i; end = i + 1 })
first_turn packages i place s a at own span none = record {
  rises = omega arith;
  within = omega arith;
  holds = λ k x low there repo.
      (elim (below_or_at k i low) [
        | inl l ↦ let h = (span.holds k x l there repo).1 in absurd (omega (arith, none, h))
        | inr e ↦ (let low : i ≤ k = omega (arith, e) in low, let high : k < i + 1 = omega (arith, e) in high)
      ]);
  begins = ap (λ c. ((i + 1) == 0) || c) (ap (λ o. passes o (λ x. x.repo == place)) at ∙ ap (λ n. n == place) own ∙ equal_to_itself place) ∙ or_true ((i + 1) == 0);
}

-- another before: the span is longer
later_turn : (packages : List Package) (i place : ℕ) (s : Span) (a : Package) → slice_get packages i ≡ Some a → a.repo ≡ place → IsSpan packages i place s → (s.end == 0) ≡ false → IsSpan packages (i + 1) place (record { first = s.first; end = i + 1 })
later_turn packages i place s a at own span some = record {
  rises = let r = span.rises in let w = span.within in omega (arith, r, w);
  within = omega arith;
  holds = λ k x low there repo.
      (elim (below_or_at k i low) [
        | inl l ↦ let h = span.holds k x l there repo in (h.0, let high : k < i + 1 = omega (arith, l) in high)
        | inr e ↦ (let r = span.rises in let w = span.within in let low : s.first ≤ k = omega (arith, e, r, w) in low, let high : k < i + 1 = omega (arith, e) in high)
      ]);
  begins = ap (λ c. ((i + 1) == 0) || c) (rw some at span.begins) ∙ or_true ((i + 1) == 0);
}

-- a package of this repository
span_turn : (packages : List Package) (i place first : ℕ) (s : Span) (a : Package) → slice_get packages i ≡ Some a → a.repo ≡ place → IsSpan packages i place s → first ≡ (if s.end == 0 then i else s.first) → IsSpan packages (i + 1) place (record { first = first; end = i + 1 })
span_turn packages i place first s a at own span is =
    (elim (s.end == 0) as (λ b. (s.end == 0) ≡ b → first ≡ (if b then i else s.first) → IsSpan packages (i + 1) place (record { first = first; end = i + 1 })) [
      | true ↦ λ e f. subst (λ n. IsSpan packages (i + 1) place (record { first = n; end = i + 1 })) (sym f) (first_turn packages i place s a at own span (same_number s.end 0 e))
      | false ↦ λ e f. subst (λ n. IsSpan packages (i + 1) place (record { first = n; end = i + 1 })) (sym f) (later_turn packages i place s a at own span e)
    ]) refl is

-- a package of another one
span_stays : (packages : List Package) (i place : ℕ) (s : Span) (a : Package) → slice_get packages i ≡ Some a → (a.repo ≡ place → ⊥) → IsSpan packages i place s → IsSpan packages (i + 1) place s
span_stays packages i place s a at other span = record {
  rises = span.rises;
  within = let w = span.within in omega (arith, w);
  holds = λ k x low there repo.
      (elim (below_or_at k i low) [
        | inl l ↦ span.holds k x l there repo
        | inr e ↦ absurd (other (ap (λ (p : Package). p.repo) (same_there a x (sym at ∙ ap (slice_get packages) (sym e) ∙ there)) ∙ repo))
      ]);
  begins = span.begins;
}

set_here : {X : Type 0} (xs : List X) (i : ℕ) (x y : X) → slice_get (set xs i x) i ≡ Some y → x ≡ y
set_here [] i x y e = absurd (cc)
set_here (z ∷ xs) zero x y e = same_there x y e
set_here (z ∷ xs) (suc i) x y e = set_here xs i x y e

set_elsewhere : {X : Type 0} (xs : List X) (i k : ℕ) (x : X) → (k ≡ i → ⊥) → slice_get (set xs i x) k ≡ slice_get xs k
set_elsewhere [] i k x h = refl
set_elsewhere (z ∷ xs) zero zero x h = absurd (h refl)
set_elsewhere (z ∷ xs) zero (suc k) x h = refl
set_elsewhere (z ∷ xs) (suc i) zero x h = refl
set_elsewhere (z ∷ xs) (suc i) (suc k) x h = set_elsewhere xs i k x (λ e. h (ap suc e))

-- a package whose repository has a span
pub spans_turn : (packages : List Package) (a : Package) (spans : List Span) (number place first : ℕ) (s : Span) → slice_get spans number ≡ Some s → first ≡ (if s.end == 0 then place else s.first)
    → slice_get packages place ≡ Some a → a.repo ≡ number → AreSpans packages place spans → AreSpans packages (place + 1) (set spans number (record { first = first; end = place + 1 }))
spans_turn packages a spans number place first s here is at own each = λ r t there.
    let wide : Span = record { first = first; end = place + 1 } in
    elim (cases_eq r number) [
      | inl e ↦
          let there' : slice_get (set spans number wide) number ≡ Some t = ap (slice_get (set spans number wide)) (sym e) ∙ there in
          subst (λ u. IsSpan packages (place + 1) r u) (set_here spans number wide t there')
          (span_turn packages place r first s a at (own ∙ sym e) (each r s (ap (slice_get spans) e ∙ here)) is)
      | inr other ↦ span_stays packages place r t a at (λ e. other (sym e ∙ own)) (each r t (sym (set_elsewhere spans number r wide other) ∙ there))
    ]

-- a package whose repository has none
pub spans_stay : (packages : List Package) (a : Package) (spans : List Span) (number place : ℕ) → length spans ≤ number → slice_get packages place ≡ Some a → a.repo ≡ number → AreSpans packages place spans → AreSpans packages (place + 1) spans
spans_stay packages a spans number place high at own each = λ r t there.
    span_stays packages place r t a at (λ e. let low : r < length spans = place_there spans r t there in let same : r ≡ number = sym e ∙ own in absurd (omega (arith, low, same, high))) (each r t there)

module _ (pool : Held) (repo : ℕ) where
  -- packages of a repository from a place on, where none stands before
  front_out : (first : ℕ) (xs : List Package) → ((k : ℕ) (a : Package) → slice_get xs k ≡ Some a → a.repo ≡ repo → first ≤ k) → packages_of repo (map (written_package pool) (drop first xs)) ≡ packages_of repo (map (written_package pool) xs)
  front_out zero xs h = refl
  front_out (suc n) [] h = refl
  front_out (suc n) (x ∷ xs) h =
      let other : (x.repo == repo) ≡ false = ne_eqb x.repo repo (λ e. let bad : suc n ≤ 0 = h 0 x refl e in absurd (omega (arith, bad))) in
      front_out n xs (λ k a at e. let l : suc n ≤ suc k = h (suc k) a at e in omega (arith, l)) ∙ sym (rw other refl)

  -- none from a place on
  back_out : (end : ℕ) (xs : List Package) → ((k : ℕ) (a : Package) → slice_get xs k ≡ Some a → a.repo ≡ repo → k < end) → packages_of repo (map (written_package pool) (drop end xs)) ≡ []
  back_out zero [] h = refl
  back_out (suc n) [] h = refl
  back_out zero (x ∷ xs) h =
      let other : (x.repo == repo) ≡ false = ne_eqb x.repo repo (λ e. let bad : 0 < 0 = h 0 x refl e in absurd (omega (arith, bad))) in
      rw other (back_out zero xs (λ k a at e. let l : suc k < 0 = h (suc k) a at e in absurd (omega (arith, l))))
  back_out (suc n) (x ∷ xs) h = back_out n xs (λ k a at e. let l : suc k < suc n = h (suc k) a at e in omega (arith, l))

  -- one there
  one_there : (k : ℕ) (xs : List Package) → passes (slice_get xs k) (λ a. a.repo == repo) ≡ true → content_words (packages_of repo (map (written_package pool) xs)) ≡ codes "testtags" ∷ inline ∷ []
  one_there k [] h = absurd (cc)
  one_there zero (x ∷ xs) h = let own : (x.repo == repo) ≡ true = h in rw own refl
  one_there (suc n) (x ∷ xs) h =
      (elim (x.repo == repo) as (λ b. (x.repo == repo) ≡ b → content_words (packages_of repo (map (written_package pool) (x ∷ xs))) ≡ codes "testtags" ∷ inline ∷ []) [
        | true ↦ λ e. rw e refl
        | false ↦ λ e. rw e (one_there n xs h)
      ]) refl

  module _ (packages : List Package) (s : Span) (span : IsSpan packages (length packages) repo s) where
    -- the packages from where the span begins are all of the repository
    pub span_begins : packages_of repo (map (written_package pool) (drop s.first packages)) ≡ packages_of repo (map (written_package pool) packages)
    span_begins = front_out s.first packages (λ k a at e. (span.holds k a (place_there packages k a at) at e).0)

    -- after its end there is none
    pub span_ends : (n : ℕ) → s.end ≤ n → packages_of repo (map (written_package pool) (drop n packages)) ≡ []
    span_ends n h = back_out n packages (λ k a at e. let l : k < s.end = (span.holds k a (place_there packages k a at) at e).1 in omega (arith, l, h))

    -- it is empty where the repository is
    pub content_is : (if s.end == 0 then codes "empty" ∷ [] else codes "testtags" ∷ inline ∷ []) ≡ content_words (packages_of repo (map (written_package pool) packages))
    content_is =
        (elim (s.end == 0) as (λ b. (s.end == 0) ≡ b → (if b then codes "empty" ∷ [] else codes "testtags" ∷ inline ∷ []) ≡ content_words (packages_of repo (map (written_package pool) packages))) [
          | true ↦ λ e. let z : s.end ≡ 0 = same_number s.end 0 e in sym (ap content_words (span_ends 0 (omega (arith, z))))
          | false ↦ λ e. sym (one_there s.first packages (rw e at span.begins))
        ]) refl
