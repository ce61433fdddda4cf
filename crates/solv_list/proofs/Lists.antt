-- Lists, and tests of what is in them.
use Rattle.std.proofs.Common.{Bool, List, None, Some, [], add-one, add-zero, ap, append_assoc, arith, cond, drop, false, get_or, length, map, nat_lt, refl, rules, suc, sym, take, true, zero, ℕ, ◌&&◌, ◌++◌, ◌+◌, ◌<◌, ◌∙◌, ◌∷◌, ◌≡◌, ◌≤◌, ◌-◌, ◌||◌, true≢false}
use Rattle.std.proofs.lemmas.Bool.{and_from, and_parts, lt-ltb, ltb-true}
use Rattle.std.proofs.lemmas.Bool.Decides.{nat_tests}
use Rattle.std.proofs.lemmas.Grind.{common_steps}
use Rattle.std.proofs.lemmas.List.{drop_more}
use Rattle.std.proofs.lemmas.List.Folds.{list_all-append}
use Rattle.std.proofs.lemmas.Slice.Eq.{bytes_eq-Decides}
use Rattle.std.specs.List.{list_all, list_any, range_with_len, position_or_len}
use Rattle.std.specs.List.Sorted.{IsStrictlyIncreasing}
use Rattle.std.specs.Option.{option_map_or}
use Rattle.std.specs.Prelude.{filter, flat_map, fold, if◌then◌else◌, min, nat_le, slice_get, ℤ}
use Rattle.std.specs.Str.{bytes_eq}
use Rattle.solv_list.proofs.Booleans.{first_of_both, second_of_both, and_true, and_false}
use Rattle.solv_list.proofs.Numbers.{at_most_true}

pub all_at : {X : Type 0} (f : X → Bool) (xs : List X) (k : ℕ) (x : X) → list_all f xs ≡ true → slice_get xs k ≡ Some x → f x ≡ true
all_at f [] k x h at = absurd (cc)
all_at f (y ∷ ys) zero x h at = let same : Some y ≡ Some x = at in let e : y ≡ x = ap (λ o. option_map_or (λ z. z) o y) same in ap f (sym e) ∙ first_of_both (f y) _ h
all_at f (y ∷ ys) (suc k) x h at = all_at f ys k x (second_of_both (f y) _ h) at

pub same_bytes : (a b : List ℕ) → bytes_eq a b ≡ true → a ≡ b
same_bytes a b h = search (rules, bytes_eq-Decides a b)

pub this_turn : {X : Type 0} (xs : List X) (i : ℕ) (x : X) → i < length xs → x ≡ get_or xs i x → drop i xs ≡ x ∷ drop (i + 1) xs
this_turn xs i x within is = drop_more xs i x within ∙ ap (λ y. y ∷ drop (i + 1) xs) (sym is)

pub first_turn : {X : Type 0} (f : X → Bool) (x : X) (xs ys : List X) → ys ≡ x ∷ xs → list_all f ys ≡ true → f x ≡ true
first_turn f x xs ys at h = first_of_both (f x) (list_all f xs) (ap (λ t. list_all f t) (sym at) ∙ h)

pub filter_same : {X : Type 0} (f g : X → Bool) → ((x : X) → f x ≡ g x) → (xs : List X) → filter f xs ≡ filter g xs
filter_same f g h [] = refl
filter_same f g h (x ∷ xs) = rw (h x, filter_same f g h xs) refl

pub list_all_join : {X : Type 0} (p : X → Bool) (xs ys : List X) → list_all p xs ≡ true → list_all p ys ≡ true → list_all p (xs ++ ys) ≡ true
list_all_join p xs ys h k = list_all-append p xs ys ∙ and_from (list_all p xs) (list_all p ys) h k

pub bytes_themselves : (a : List ℕ) → bytes_eq a a ≡ true
bytes_themselves a = search (rules, bytes_eq-Decides a a)

pub at_end : {X : Type 0} (xs : List X) (x : X) → slice_get (xs ++ x ∷ []) (length xs) ≡ Some x
at_end [] x = refl
at_end (y ∷ xs) x = at_end xs x

pub all_filter : (f g : ℕ → Bool) (xs : List ℕ) → list_all f xs ≡ true → list_all f (filter g xs) ≡ true
all_filter f g [] h = refl
all_filter f g (x ∷ xs) h = step (g x) (first_of_both (f x) _ h) (all_filter f g xs (second_of_both (f x) _ h))
  where
    step : (b : Bool) → f x ≡ true → list_all f (filter g xs) ≡ true → list_all f (cond b (x ∷ filter g xs) (filter g xs)) ≡ true
    step true here more = rw here more
    step false here more = more

pub rest_turn : {X : Type 0} (f : X → Bool) (x : X) (xs ys : List X) → ys ≡ x ∷ xs → list_all f ys ≡ true → list_all f xs ≡ true
rest_turn f x xs ys at h = second_of_both (f x) (list_all f xs) (ap (λ t. list_all f t) (sym at) ∙ h)

pub whole_write : {X : Type 0} (new items : List X) (len : ℕ) → length new ≡ length items → len ≡ length items → take len (new ++ drop (length new) items) ≡ new
whole_write new items len e f = grind (arith, common_steps)

pub all_left : {X : Type 0} (p : X → Bool) (xs ys : List X) → list_all p (xs ++ ys) ≡ true → list_all p xs ≡ true
all_left p [] ys h = refl
all_left p (x ∷ xs) ys h = rw (first_of_both (p x) (list_all p (xs ++ ys)) h) (all_left p xs ys (second_of_both (p x) (list_all p (xs ++ ys)) h))

pub all_right : {X : Type 0} (p : X → Bool) (xs ys : List X) → list_all p (xs ++ ys) ≡ true → list_all p ys ≡ true
all_right p [] ys h = h
all_right p (x ∷ xs) ys h = all_right p xs ys (second_of_both (p x) (list_all p (xs ++ ys)) h)

pub take_one_more : (n c : ℕ) (cs : List ℕ) → take (1 + n) (c ∷ cs) ≡ c ∷ take n cs
take_one_more n c cs = grind (arith, common_steps)

pub place_there : {X : Type 0} (xs : List X) (i : ℕ) (x : X) → slice_get xs i ≡ Some x → i < length xs
place_there [] i x e = absurd (cc)
place_there (y ∷ xs) zero x e = omega arith
place_there (y ∷ xs) (suc i) x e = let k : i < length xs = place_there xs i x e in omega arith

pub below_true : (a n : ℕ) → a < n → nat_lt a n ≡ true
below_true a n l = grind (arith, nat_tests)

pub range_more : (a n : ℕ) → range_with_len a (suc n) ≡ range_with_len a n ++ (a + n) ∷ []
range_more a zero = ap (λ x. x ∷ []) (sym (add-zero a))
range_more a (suc n) = let next : a + 1 + n ≡ a + suc n = omega arith in ap (λ l. a ∷ l) (range_more (a + 1) n ∙ ap (λ x. range_with_len (a + 1) n ++ x ∷ []) next)

pub list_all_filter : {X : Type 0} (f test : X → Bool) (xs : List X) → list_all f xs ≡ true → list_all f (filter test xs) ≡ true
list_all_filter f test [] h = refl
list_all_filter f test (x ∷ xs) h = step (test x) (first_of_both (f x) _ h) (list_all_filter f test xs (second_of_both (f x) _ h))
  where
    step : (b : Bool) → f x ≡ true → list_all f (filter test xs) ≡ true → list_all f (cond b (x ∷ filter test xs) (filter test xs)) ≡ true
    step true here more = rw here more
    step false here more = more

pub range_within : (start count most : ℕ) → start + count ≤ suc most → list_all (λ q. nat_le q most) (range_with_len start count) ≡ true
range_within start zero most h = refl
range_within start (suc count) most h = rw (at_most_true start most (omega (arith, h)), add-one) (range_within (suc start) count most (omega (arith, h)))

pub all_weaker : {X : Type 0} (p q : X → Bool) → ((x : X) → p x ≡ true → q x ≡ true) → (xs : List X) → list_all p xs ≡ true → list_all q xs ≡ true
all_weaker p q weaker [] h = refl
all_weaker p q weaker (x ∷ xs) h =
    rw (weaker x (first_of_both (p x) (list_all p xs) h)) (all_weaker p q weaker xs (second_of_both (p x) (list_all p xs) h))

pub list_all_flat : {X Y : Type 0} (g : Y → Bool) (make : X → List Y) → ((x : X) → list_all g (make x) ≡ true) → (xs : List X) → list_all g (flat_map make xs) ≡ true
list_all_flat g make h [] = refl
list_all_flat g make h (x ∷ xs) = list_all_join g (make x) (flat_map make xs) (h x) (list_all_flat g make h xs)

pub all_behind : {X : Type 0} (p : X → Bool) (xs : List X) (i : ℕ) → list_all p (drop i xs) ≡ true → list_all p (drop (i + 1) xs) ≡ true
all_behind p [] i h = rw add-one refl
all_behind p (x ∷ xs) zero h = second_of_both (p x) (list_all p xs) h
all_behind p (x ∷ xs) (suc i) h = rw add-one (rw add-one at (all_behind p xs i h))

pub drop_one_more : (n c : ℕ) (cs : List ℕ) → drop (1 + n) (c ∷ cs) ≡ drop n cs
drop_one_more n c cs = grind (arith, common_steps)

pub filter_same_again : (f g : ℕ → Bool) → ((x : ℕ) → f x ≡ g x) → (xs : List ℕ) → filter f xs ≡ filter g xs
filter_same_again f g h [] = refl
filter_same_again f g h (x ∷ xs) = rw (h x, filter_same_again f g h xs) refl

pub kept_turn : {X : Type 0} (f : X → Bool) (x : X) (done rest ys whole : List X) → ys ≡ x ∷ rest → f x ≡ true → done ++ filter f ys ≡ whole → (done ++ x ∷ []) ++ filter f rest ≡ whole
kept_turn f x done rest ys whole at passes h = append_assoc done (x ∷ []) (filter f rest) ∙ (rw (at, passes) at h)

pub passed_turn : {X : Type 0} (f : X → Bool) (x : X) (done rest ys whole : List X) → ys ≡ x ∷ rest → f x ≡ false → done ++ filter f ys ≡ whole → done ++ filter f rest ≡ whole
passed_turn f x done rest ys whole at fails h = rw (at, fails) at h

pub filter_twice : (f g : ℕ → Bool) (xs : List ℕ) → filter g (filter f xs) ≡ filter (λ x. g x && f x) xs
filter_twice f g [] = refl
filter_twice f g (x ∷ xs) = step (f x) (g x) refl (filter_twice f g xs)
  where
    step : (b d : Bool) → g x ≡ d → filter g (filter f xs) ≡ filter (λ x. g x && f x) xs
        → filter g (cond b (x ∷ filter f xs) (filter f xs)) ≡ cond (d && b) (x ∷ filter (λ x. g x && f x) xs) (filter (λ x. g x && f x) xs)
    step true true is h = rw is (ap (λ t. x ∷ t) h)
    step true false is h = rw is h
    step false true is h = h
    step false false is h = h

pub none_of : (xs : List ℕ) → list_any (λ x. false) xs ≡ false
none_of [] = refl
none_of (x ∷ xs) = none_of xs

pub tail_rises : (x : ℕ) (xs : List ℕ) → IsStrictlyIncreasing (x ∷ xs) → IsStrictlyIncreasing xs
tail_rises x xs h = λ k within. let shift : suc k + 1 ≡ suc (k + 1) = omega arith in rw shift at (h (suc k) (omega (arith, within)))

pub weaken : (x y : ℕ) (zs : List ℕ) → x < y → list_all (λ z. nat_le (suc y) z) zs ≡ true → list_all (λ z. nat_le (suc x) z) zs ≡ true
weaken x y [] less h = refl
weaken x y (z ∷ zs) less h =
    let here : nat_le (suc y) z ≡ true = first_of_both (nat_le (suc y) z) _ h in
    and_from (nat_le (suc x) z) (list_all (λ w. nat_le (suc x) w) zs) (grind (arith, nat_tests, less, here)) (weaken x y zs less (second_of_both (nat_le (suc y) z) _ h))

pub above : (x : ℕ) (xs : List ℕ) → IsStrictlyIncreasing (x ∷ xs) → list_all (λ y. nat_le (suc x) y) xs ≡ true
above x [] h = refl
above x (y ∷ ys) h =
    let less : x < y = h 0 (omega arith) in
    and_from (nat_le (suc x) y) (list_all (λ z. nat_le (suc x) z) ys) (grind (arith, nat_tests, less)) (weaken x y ys less (above y ys (tail_rises x (y ∷ ys) h)))

pub filter_within : (f g : ℕ → Bool) (start count : ℕ) → ((x : ℕ) → start ≤ x → f x ≡ g x) → filter f (range_with_len start count) ≡ filter g (range_with_len start count)
filter_within f g start zero h = refl
filter_within f g start (suc count) h = rw (add-one, h start (omega arith), filter_within f g (suc start) count (λ x from. h x (omega (arith, from)))) refl

pub found : (f : ℕ → Bool) (start count : ℕ) → f start ≡ true → (start ∷ filter f (range_with_len (suc start) count)) ≡ filter f (range_with_len start (suc count))
found f start count h = rw (add-one, h) refl

pub missed : (f : ℕ → Bool) (start count : ℕ) → f start ≡ false → filter f (range_with_len (suc start) count) ≡ filter f (range_with_len start (suc count))
missed f start count h = rw (add-one, h) refl

pub get_front : {X : Type 0} (xs ys : List X) (i : ℕ) → i < length xs → slice_get (xs ++ ys) i ≡ slice_get xs i
get_front [] ys i h = absurd (omega arith)
get_front (x ∷ xs) ys zero h = refl
get_front (x ∷ xs) ys (suc i) h = get_front xs ys i (omega arith)

pub below_later : (off : List ℕ) (i : ℕ) → list_all (λ k. nat_lt k i) off ≡ true → list_all (λ k. nat_lt k (i + 1)) off ≡ true
below_later [] i h = refl
below_later (x ∷ off) i h =
    let both = and_parts (nat_lt x i) (list_all (λ k. nat_lt k i) off) h in
    let less : x < i = ltb-true x i both.0 in
    and_from (nat_lt x (i + 1)) (list_all (λ k. nat_lt k (i + 1)) off) (lt-ltb x (i + 1) (omega arith)) (below_later off i both.1)

pub get_front_again : {X : Type 0} (xs ys : List X) (i : ℕ) (x : X) → slice_get xs i ≡ Some x → slice_get (xs ++ ys) i ≡ Some x
get_front_again [] ys i x e = absurd (cc)
get_front_again (y ∷ xs) ys zero x e = e
get_front_again (y ∷ xs) ys (suc i) x e = get_front_again xs ys i x e

pub get_beyond : (owners : List ℕ) (k : ℕ) → length owners ≤ k → slice_get owners k ≡ None
get_beyond [] k h = refl
get_beyond (o ∷ owners) zero h = absurd (omega arith)
get_beyond (o ∷ owners) (suc k) h = get_beyond owners k (omega arith)

pub clause_at : (p : List ℤ → Bool) (xs : List (List ℤ)) (k : ℕ) (c : List ℤ) → list_all p xs ≡ true → slice_get xs k ≡ Some c → p c ≡ true
clause_at p [] k c h e = cc
clause_at p (x ∷ xs) zero c h e = let f : x ≡ c = cc in ap p (sym f) ∙ (and_parts (p x) (list_all p xs) h).0
clause_at p (x ∷ xs) (suc k) c h e = clause_at p xs k c (and_parts (p x) (list_all p xs) h).1 e

pub nothing_behind : (xs : List (List ℤ)) → xs ++ [] ≡ xs
nothing_behind [] = refl
nothing_behind (x ∷ xs) = ap (λ v. x ∷ v) (nothing_behind xs)

pub take_front : (cs rest : List ℕ) → take (length cs) (cs ++ rest) ≡ cs
take_front [] rest = refl
take_front (c ∷ cs) rest = ap (λ t. c ∷ t) (take_front cs rest)

pub all_pass : (xs : List ℕ) → filter (λ p. true) xs ≡ xs
all_pass [] = refl
all_pass (x ∷ xs) = ap (λ ys. x ∷ ys) (all_pass xs)

pub empty_list : {X : Type 0} (xs : List X) → length xs ≡ 0 → xs ≡ []
empty_list [] h = refl
empty_list (x ∷ xs) h = absurd (omega (arith, h))

pub least_at_most : (a : ℕ) (xs : List ℕ) → fold min a xs ≤ a
least_at_most a [] = omega arith
least_at_most a (x ∷ xs) = let h = least_at_most (min a x) xs in let m : min a x ≤ a = grind (arith, nat_tests) in omega (arith, h, m)

pub filter_twice_again : {X : Type 0} (f g : X → Bool) (xs : List X) → filter g (filter f xs) ≡ filter (λ x. f x && g x) xs
filter_twice_again f g [] = refl
filter_twice_again f g (x ∷ xs) = step (f x) (filter_twice_again f g xs)
  where
    step : (b : Bool) → filter g (filter f xs) ≡ filter (λ x. f x && g x) xs
        → filter g (cond b (x ∷ filter f xs) (filter f xs)) ≡ cond (b && g x) (x ∷ filter (λ x. f x && g x) xs) (filter (λ x. f x && g x) xs)
    step true h = ap (λ t. cond (g x) (x ∷ t) t) h
    step false h = h

pub drop_get : {X : Type 0} (xs : List X) (i : ℕ) (x : X) → slice_get xs i ≡ Some x → drop i xs ≡ x ∷ drop (i + 1) xs
drop_get [] i x e = absurd (cc)
drop_get (y ∷ xs) zero x e = ap (λ o. option_map_or (λ z. z ∷ xs) o xs) e
drop_get (y ∷ xs) (suc i) x e = drop_get xs i x e ∙ ap (λ n. x ∷ drop n xs) (add-one i) ∙ sym (ap (λ n. x ∷ drop n (y ∷ xs)) (add-one (suc i)))

pub list_any_same : {X : Type 0} (f g : X → Bool) → ((x : X) → f x ≡ g x) → (xs : List X) → list_any f xs ≡ list_any g xs
list_any_same f g h [] = refl
list_any_same f g h (x ∷ xs) = rw (h x, list_any_same f g h xs)

pub list_all_map : {X Y : Type 0} (f : Y → Bool) (make : X → Y) → ((x : X) → f (make x) ≡ true) → (xs : List X) → list_all f (map make xs) ≡ true
list_all_map f make h [] = refl
list_all_map f make h (x ∷ xs) = rw (h x) (list_all_map f make h xs)

pub filter_twice_againagain : (f g h : ℕ → Bool) → ((q : ℕ) → h q ≡ (g q && f q)) → (qs : List ℕ) → filter h qs ≡ filter f (filter g qs)
filter_twice_againagain f g h same [] = refl
filter_twice_againagain f g h same (q ∷ qs) =
    rw (same q) (elim (g q) as (λ b. (if b && f q then q ∷ filter h qs else filter h qs) ≡ filter f (if b then q ∷ filter g qs else filter g qs)) [
      | true ↦ rw (filter_twice_againagain f g h same qs) refl
      | false ↦ filter_twice_againagain f g h same qs
    ])

pub some_there : {X : Type 0} (xs : List X) (k : ℕ) → k < length xs → (x : X) × (slice_get xs k ≡ Some x)
some_there [] k h = absurd (omega (arith, h))
some_there (x ∷ xs) zero h = (x, refl)
some_there (x ∷ xs) (suc k) h = some_there xs k (omega (arith, h))

pub list_any_map : {X Y : Type 0} (f : Y → Bool) (make : X → Y) (xs : List X) → list_any f (map make xs) ≡ list_any (λ x. f (make x)) xs
list_any_map f make [] = refl
list_any_map f make (x ∷ xs) = ap (λ b. f (make x) || b) (list_any_map f make xs)

pub any_filter : {X : Type 0} (f g : X → Bool) (xs : List X) → list_any f (filter g xs) ≡ list_any (λ x. f x && g x) xs
any_filter f g [] = refl
any_filter f g (x ∷ xs) =
    elim (g x) as (λ b. list_any f (if b then x ∷ filter g xs else filter g xs) ≡ ((f x && b) || list_any (λ y. f y && g y) xs)) [
      | true ↦ rw (any_filter f g xs, and_true (f x)) refl
      | false ↦ rw (any_filter f g xs, and_false (f x)) refl
    ]

-- what holds of an element by its place
pub all_get : {X : Type 0} (f : X → Bool) (xs : List X) (i : ℕ) (x : X) → list_all f xs ≡ true → i < length xs → x ≡ get_or xs i x → f x ≡ true
all_get f [] i x h lt at = absurd (omega arith)
all_get f (y ∷ xs) zero x h lt at = ap f at ∙ (and_parts (f y) (list_all f xs) h).0
all_get f (y ∷ xs) (suc i) x h lt at = all_get f xs i x (and_parts (f y) (list_all f xs) h).1 (omega (arith, lt)) at

-- one element more
pub take_next : {X : Type 0} (xs : List X) (i : ℕ) (x : X) → i < length xs → x ≡ get_or xs i x → take (i + 1) xs ≡ take i xs ++ x ∷ []
take_next [] i x lt at = absurd (omega arith)
take_next (y ∷ xs) zero x lt at = ap (λ z. z ∷ []) (sym at)
take_next (y ∷ xs) (suc i) x lt at =
    let e : suc i + 1 ≡ suc (i + 1) = omega arith in
    ap (λ k. take k (y ∷ xs)) e ∙ ap (λ t. y ∷ t) (take_next xs i x (omega (arith, lt)) at)

pub all_taken : {X : Type 0} (p : X → Bool) (n : ℕ) (xs : List X) → list_all p xs ≡ true → list_all p (take n xs) ≡ true
all_taken p zero xs h = refl
all_taken p (suc n) [] h = refl
all_taken p (suc n) (x ∷ xs) h = rw (first_of_both (p x) (list_all p xs) h) (all_taken p n xs (second_of_both (p x) (list_all p xs) h))

-- what holds of all holds of the last ones
pub all_dropped : {X : Type 0} (p : X → Bool) (n : ℕ) (xs : List X) → list_all p xs ≡ true → list_all p (drop n xs) ≡ true
all_dropped p zero xs h = h
all_dropped p (suc n) [] h = h
all_dropped p (suc n) (x ∷ xs) h = all_dropped p n xs (second_of_both (p x) (list_all p xs) h)

pub none_passes : {X : Type 0} (xs : List X) → filter (λ x. false) xs ≡ []
none_passes [] = refl
none_passes (x ∷ xs) = none_passes xs

-- the first number of a range that is left
pub range_step : (a i n : ℕ) → i < n → range_with_len a (n - i) ≡ a ∷ range_with_len (a + 1) (n - (i + 1))
range_step a i n lt = let e : n - i ≡ suc (n - (i + 1)) = omega (arith, lt) in ap (range_with_len a) e

-- a test that a value of the list meets has a place in it
pub place_within : {X : Type 0} (p : X → Bool) (xs : List X) → list_any p xs ≡ true → position_or_len p xs < length xs
place_within p [] h = cc
place_within p (x ∷ xs) h =
    elim (p x) as (λ b. p x ≡ b → position_or_len p (x ∷ xs) < length (x ∷ xs)) [
      | true ↦ λ k. rw k (omega arith)
      | false ↦ λ k. rw k (omega (arith, place_within p xs (rw k at h)))
    ] refl

-- and otherwise the end
pub place_none : {X : Type 0} (p : X → Bool) (xs : List X) → list_any p xs ≡ false → position_or_len p xs ≡ length xs
place_none p [] h = refl
place_none p (x ∷ xs) h =
    elim (p x) as (λ b. p x ≡ b → position_or_len p (x ∷ xs) ≡ length (x ∷ xs)) [
      | true ↦ λ k. absurd (true≢false (rw k at h))
      | false ↦ λ k. rw k (omega (arith, place_none p xs (rw k at h)))
    ] refl
