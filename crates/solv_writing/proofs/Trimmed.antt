-- A text without the blanks round it stays as it is when it is trimmed again.
use Rattle.std.proofs.Common.{◌≡◌, ℕ, Bool, true, false, List, [], ◌∷◌, ◌++◌, reverse, ◌⊎◌, inl, inr, refl, sym, ap, subst, ◌∙◌}
use Rattle.std.specs.Prelude.{if◌then◌else◌}
use Rattle.std.specs.List.{list_all}
use Rattle.std.proofs.lemmas.Bool.{and_from}
use Rattle.std.proofs.lemmas.List.{reverse-reverse, reverse-append}
use Rattle.solv_io.specs.Words.{is_blank}
use Rattle.solv_tags.specs.Headings.{without_front_blanks, trimmed}
use Rattle.solv_list.proofs.Booleans.{first_of_both, second_of_both}
use Rattle.solv_list.proofs.Lists.{list_all_join}
use Rattle.solv_io.specs.JoinedWords.{is_inner, is_line}
use Rattle.solv_writing.specs.Inner.ReadPackages.{IsKept}

-- a text is empty, or begins with a byte that is no blank
record BeginsSolid (t : List ℕ) : Type 0 where
  first : ℕ
  rest : List ℕ
  is : t ≡ first ∷ rest
  solid : is_blank first ≡ false

kept_front : (x : ℕ) (xs : List ℕ) → is_blank x ≡ false → without_front_blanks (x ∷ xs) ≡ x ∷ xs
kept_front x xs h = rw h refl

front_is : (t : List ℕ) → (without_front_blanks t ≡ []) ⊎ BeginsSolid (without_front_blanks t)
front_is [] = inl refl
front_is (x ∷ xs) =
    (elim (is_blank x) as (λ b. is_blank x ≡ b → ((if b then without_front_blanks xs else x ∷ xs) ≡ []) ⊎ BeginsSolid (if b then without_front_blanks xs else x ∷ xs)) [
      | true ↦ λ e. front_is xs
      | false ↦ λ e. inr (record { first = x; rest = xs; is = refl; solid = e })
    ]) refl

front_again : (t : List ℕ) → without_front_blanks (without_front_blanks t) ≡ without_front_blanks t
front_again t = elim (front_is t) [
  | inl e ↦ ap without_front_blanks e ∙ sym e
  | inr b ↦ ap without_front_blanks b.is ∙ kept_front b.first b.rest b.solid ∙ sym b.is
]

-- a byte that is no blank, at the end, stays at the end
front_behind : (ys : List ℕ) (x : ℕ) → is_blank x ≡ false → without_front_blanks (ys ++ x ∷ []) ≡ without_front_blanks ys ++ x ∷ []
front_behind [] x h = kept_front x [] h
front_behind (y ∷ ys) x h =
    (elim (is_blank y) as (λ b. (if b then without_front_blanks (ys ++ x ∷ []) else y ∷ (ys ++ x ∷ [])) ≡ (if b then without_front_blanks ys else y ∷ ys) ++ x ∷ []) [
      | true ↦ front_behind ys x h
      | false ↦ refl
    ])

-- trimmed at its end, a text that begins with such a byte begins with it
back_is : (x : ℕ) (xs : List ℕ) → is_blank x ≡ false → reverse (without_front_blanks (reverse (x ∷ xs))) ≡ x ∷ reverse (without_front_blanks (reverse xs))
back_is x xs h =
    ap (λ t. reverse (without_front_blanks t)) (reverse-append (x ∷ []) xs)
    ∙ ap reverse (front_behind (reverse xs) x h)
    ∙ reverse-append (without_front_blanks (reverse xs)) (x ∷ [])

trimmed_front : (t : List ℕ) → without_front_blanks (trimmed t) ≡ trimmed t
trimmed_front t = elim (front_is t) [
  | inl e ↦ let n : trimmed t ≡ [] = ap (λ u. reverse (without_front_blanks (reverse u))) e in ap without_front_blanks n ∙ sym n
  | inr b ↦
      let n : trimmed t ≡ b.first ∷ reverse (without_front_blanks (reverse b.rest)) = ap (λ u. reverse (without_front_blanks (reverse u))) b.is ∙ back_is b.first b.rest b.solid in
      ap without_front_blanks n ∙ kept_front b.first (reverse (without_front_blanks (reverse b.rest))) b.solid ∙ sym n
]

pub trimmed_again : (t : List ℕ) → trimmed (trimmed t) ≡ trimmed t
trimmed_again t =
    ap (λ u. reverse (without_front_blanks (reverse u))) (trimmed_front t)
    ∙ ap (λ u. reverse (without_front_blanks u)) (reverse-reverse (without_front_blanks (reverse (without_front_blanks t))))
    ∙ ap reverse (front_again (reverse (without_front_blanks t)))

front_lined : (t : List ℕ) → is_line t ≡ true → is_line (without_front_blanks t) ≡ true
front_lined [] h = refl
front_lined (x ∷ xs) h =
    elim (is_blank x) as (λ b. is_line (if b then without_front_blanks xs else x ∷ xs) ≡ true) [
      | true ↦ front_lined xs (second_of_both (is_inner x) (list_all is_inner xs) h)
      | false ↦ h
    ]

all_reverse : (f : ℕ → Bool) (xs : List ℕ) → list_all f xs ≡ true → list_all f (reverse xs) ≡ true
all_reverse f [] h = refl
all_reverse f (x ∷ xs) h =
    subst (λ t. list_all f t ≡ true) (sym (reverse-append (x ∷ []) xs))
    (list_all_join f (reverse xs) (x ∷ []) (all_reverse f xs (second_of_both (f x) (list_all f xs) h)) (and_from (f x) true (first_of_both (f x) (list_all f xs) h) refl))

pub trimmed_lined : (t : List ℕ) → is_line t ≡ true → is_line (trimmed t) ≡ true
trimmed_lined t h =
    all_reverse is_inner (without_front_blanks (reverse (without_front_blanks t))) (front_lined (reverse (without_front_blanks t)) (all_reverse is_inner (without_front_blanks t) (front_lined t h)))

-- what is left of a line, where something is
pub trimmed_kept : (t : List ℕ) (c : ℕ) (cs : List ℕ) → is_line t ≡ true → trimmed t ≡ c ∷ cs → IsKept (c ∷ cs)
trimmed_kept t c cs h e = record {
  first = c;
  rest = cs;
  is = refl;
  trim = ap trimmed (sym e) ∙ trimmed_again t ∙ e;
  line = subst (λ u. is_line u ≡ true) e (trimmed_lined t h);
}
