-- What is in a list, and in the lists that are made of it.
use Rattle.std.proofs.Common.{◌≡◌, ◌⊎◌, ℕ, Bool, true, false, ◌&&◌, ◌||◌, cond, List, [], ◌∷◌, ◌++◌, map, Option, Some, None, inl, inr, refl, sym, ◌∙◌, ap, subst, eq-eqb}
use Rattle.std.specs.Prelude.{filter, flat_map, ◌==◌}
use Rattle.std.specs.List.{list_any, list_all}
use Rattle.std.specs.Option.{option_map_or}
use Rattle.std.proofs.lemmas.Bool.{and_parts, and_from, or_left, or_right, eqb-true, cases_Bool, false≢true}
use Rattle.solv_pool.specs.Words.{when, is_among}

-- x is one of them
abbrev pub Has : {X : Type 0} → List X → X → Type 0
Has [] x = ⊥
Has (y ∷ ys) x = (y ≡ x) ⊎ Has ys x

pub has_front : {X : Type 0} (xs ys : List X) (x : X) → Has xs x → Has (xs ++ ys) x
has_front [] ys x h = absurd h
has_front (z ∷ xs) ys x (inl e) = inl e
has_front (z ∷ xs) ys x (inr h) = inr (has_front xs ys x h)

pub has_back : {X : Type 0} (xs ys : List X) (x : X) → Has ys x → Has (xs ++ ys) x
has_back [] ys x h = h
has_back (z ∷ xs) ys x h = inr (has_back xs ys x h)

pub has_split : {X : Type 0} (xs ys : List X) (x : X) → Has (xs ++ ys) x → Has xs x ⊎ Has ys x
has_split [] ys x h = inr h
has_split (z ∷ xs) ys x (inl e) = inl (inl e)
has_split (z ∷ xs) ys x (inr h) = elim (has_split xs ys x h) [ inl a ↦ inl (inr a) | inr b ↦ inr b ]

pub has_mapped : {X Y : Type 0} (f : X → Y) (xs : List X) (x : X) → Has xs x → Has (map f xs) (f x)
has_mapped f [] x h = absurd h
has_mapped f (z ∷ xs) x (inl e) = inl (ap f e)
has_mapped f (z ∷ xs) x (inr h) = inr (has_mapped f xs x h)

pub of_mapped : {X Y : Type 0} (f : X → Y) (xs : List X) (y : Y) → Has (map f xs) y → (x : X) × (Has xs x × (f x ≡ y))
of_mapped f [] y h = absurd h
of_mapped f (z ∷ xs) y (inl e) = (z, (inl refl, e))
of_mapped f (z ∷ xs) y (inr h) = let r = of_mapped f xs y h in (r.0, (inr r.1.0, r.1.1))

pub has_flat : {X Y : Type 0} (f : X → List Y) (xs : List X) (x : X) (y : Y) → Has xs x → Has (f x) y → Has (flat_map f xs) y
has_flat f [] x y h k = absurd h
has_flat {Y = Y} f (z ∷ xs) x y (inl e) k =
    let P : _ → Type 0 = λ w. Has (f w) y in
    has_front (f z) (flat_map f xs) y (subst P (sym e) k)
has_flat f (z ∷ xs) x y (inr h) k = has_back (f z) (flat_map f xs) y (has_flat f xs x y h k)

pub of_flat : {X Y : Type 0} (f : X → List Y) (xs : List X) (y : Y) → Has (flat_map f xs) y → (x : X) × (Has xs x × Has (f x) y)
of_flat f [] y h = absurd h
of_flat f (z ∷ xs) y h = elim (has_split (f z) (flat_map f xs) y h) [
  | inl a ↦ (z, (inl refl, a))
  | inr b ↦ let r = of_flat f xs y b in (r.0, (inr r.1.0, r.1.1))
]

pub has_filtered : {X : Type 0} (p : X → Bool) (xs : List X) (x : X) → Has xs x → p x ≡ true → Has (filter p xs) x
has_filtered p [] x h t = absurd h
has_filtered {X = X} p (z ∷ xs) x h t = step (p z) refl (λ k. has_filtered p xs x k t) h
  where
    step : (b : Bool) → p z ≡ b → (Has xs x → Has (filter p xs) x) → Has (z ∷ xs) x → Has (cond b (z ∷ filter p xs) (filter p xs)) x
    step true e go (inl s) = inl s
    step true e go (inr k) = inr (go k)
    step false e go (inl s) = absurd (false≢true (sym e ∙ ap p s ∙ t))
    step false e go (inr k) = go k

pub of_filtered : {X : Type 0} (p : X → Bool) (xs : List X) (x : X) → Has (filter p xs) x → Has xs x × (p x ≡ true)
of_filtered p [] x h = absurd h
of_filtered p (z ∷ xs) x h = step (p z) refl (λ k. of_filtered p xs x k) h
  where
    step : (b : Bool) → p z ≡ b → (Has (filter p xs) x → Has xs x × (p x ≡ true)) → Has (cond b (z ∷ filter p xs) (filter p xs)) x → Has (z ∷ xs) x × (p x ≡ true)
    step true e go (inl s) = (inl s, sym (ap p s) ∙ e)
    step true e go (inr k) = let r = go k in (inr r.0, r.1)
    step false e go k = let r = go k in (inr r.0, r.1)

pub has_when : {X : Type 0} (b : Bool) (xs : List X) (x : X) → b ≡ true → Has xs x → Has (when b xs) x
has_when true xs x e h = h
has_when false xs x e h = absurd (false≢true e)

pub of_when : {X : Type 0} (b : Bool) (xs : List X) (x : X) → Has (when b xs) x → Has xs x × (b ≡ true)
of_when true xs x h = (h, refl)
of_when false xs x h = absurd h

pub of_option : {X Y : Type 0} (f : X → List Y) (o : Option X) (y : Y) → Has (option_map_or f o []) y → (x : X) × ((o ≡ Some x) × Has (f x) y)
of_option f None y h = absurd h
of_option f (Some x) y h = (x, (refl, h))

pub has_option : {X Y : Type 0} (f : X → List Y) (o : Option X) (x : X) (y : Y) → o ≡ Some x → Has (f x) y → Has (option_map_or f o []) y
has_option {X = X} f o x y e h =
    let P : Option X → Type 0 = λ w. Has (option_map_or f w []) y in
    subst P (sym e) h

pub all_by : {X : Type 0} (f : X → Bool) (xs : List X) → ((x : X) → Has xs x → f x ≡ true) → list_all f xs ≡ true
all_by f [] h = refl
all_by f (x ∷ xs) h = and_from (f x) (list_all f xs) (h x (inl refl)) (all_by f xs (λ y k. h y (inr k)))

pub all_at : {X : Type 0} (f : X → Bool) (xs : List X) (x : X) → list_all f xs ≡ true → Has xs x → f x ≡ true
all_at f [] x a h = absurd h
all_at f (z ∷ xs) x a (inl e) = sym (ap f e) ∙ (and_parts (f z) (list_all f xs) a).0
all_at f (z ∷ xs) x a (inr h) = all_at f xs x (and_parts (f z) (list_all f xs) a).1 h

pub any_at : {X : Type 0} (f : X → Bool) (xs : List X) (x : X) → Has xs x → f x ≡ true → list_any f xs ≡ true
any_at f [] x h t = absurd h
any_at f (z ∷ xs) x (inl e) t = or_left (f z) (list_any f xs) (ap f e ∙ t)
any_at f (z ∷ xs) x (inr h) t = or_right (f z) (list_any f xs) (any_at f xs x h t)

pub any_has : {X : Type 0} (f : X → Bool) (xs : List X) → list_any f xs ≡ true → (x : X) × (Has xs x × (f x ≡ true))
any_has f [] t = absurd (false≢true t)
any_has f (z ∷ xs) t = elim (cases_Bool (f z)) [
  | inl y ↦ (z, (inl refl, y))
  | inr n ↦ let r = any_has f xs (sym (ap (λ b. b || list_any f xs) n) ∙ t) in (r.0, (inr r.1.0, r.1.1))
]

-- none of them passes
pub none_at : {X : Type 0} (f : X → Bool) (xs : List X) (x : X) → list_any f xs ≡ false → Has xs x → f x ≡ false
none_at f xs x n h = elim (cases_Bool (f x)) [ inl y ↦ absurd (false≢true (sym n ∙ any_at f xs x h y)) | inr k ↦ k ]

-- one of them fails
pub fails_has : {X : Type 0} (f : X → Bool) (xs : List X) → list_all f xs ≡ false → (x : X) × (Has xs x × (f x ≡ false))
fails_has f [] t = absurd (false≢true (sym t))
fails_has f (z ∷ xs) t = elim (cases_Bool (f z)) [
  | inl y ↦ let r = fails_has f xs (sym (ap (λ b. b && list_all f xs) y) ∙ t) in (r.0, (inr r.1.0, r.1.1))
  | inr n ↦ (z, (inl refl, n))
]

-- a list of numbers has what is among it
pub has_among : (xs : List ℕ) (p : ℕ) → Has xs p → is_among xs p ≡ true
has_among xs p h = any_at (λ y. y == p) xs p h (eq-eqb p p refl)

-- and what it has is among it
pub among_has : (xs : List ℕ) (q : ℕ) → is_among xs q ≡ true → Has xs q
among_has xs q e = let a = any_has (λ y. y == q) xs e in let P : ℕ → Type 0 = λ n. Has xs n in subst P (eqb-true a.0 q a.1.1) a.1.0
