-- Pieces of a list: where each lies, and one more at the end.
use Rattle.std.proofs.Common.{◌≡◌, ◌<◌, ◌≤◌, ◌+◌, ◌-◌, ℕ, zero, suc, List, [], ◌∷◌, ◌++◌, length, take, drop, Some, refl, sym, ap, ◌∙◌, arith, length-append, subst}
use Rattle.std.specs.Prelude.{slice_get, slice_index, slice_range, unwrap_or}
use Rattle.std.proofs.lemmas.List.{append_assoc, append-nil, take-take, drop-take, take_rest, take-append-le, drop-append-le, drop_all, length-take-le}
use Rattle.solv_list.specs.Inner.Layout.{pieces, start_of, AreEnds, IsInOrder, row_at}
use Rattle.solv_list.proofs.Lists.{at_end, get_front}

pub cons : {X : Type 0} (x y : X) (xs ys : List X) → x ≡ y → xs ≡ ys → x ∷ xs ≡ y ∷ ys
cons x y xs ys e f = rw (e, f) refl

pub length-pieces : {X : Type 0} (xs : List X) (from : ℕ) (es : List ℕ) → length (pieces xs from es) ≡ length es
length-pieces xs from [] = refl
length-pieces xs from (e ∷ es) = ap (λ n. suc n) (length-pieces xs e es)

pub ends_above : (from : ℕ) (es : List ℕ) (upto : ℕ) → AreEnds from es upto → from ≤ upto
ends_above from [] upto h = omega (arith, h)
ends_above from (e ∷ es) upto h = omega (arith, h.0, ends_above e es upto h.1)

start_behind : (from e : ℕ) (es : List ℕ) (k : ℕ) → start_of from (e ∷ es) (suc k) ≡ start_of e es k
start_behind from e es zero = refl
start_behind from e es (suc k) = refl

-- a piece by its number
pub piece_at : {X : Type 0} (xs : List X) (from : ℕ) (es : List ℕ) (k : ℕ) → k < length es → slice_get (pieces xs from es) k ≡ Some (slice_range xs (start_of from es k) (slice_index es k))
piece_at xs from [] k lt = absurd (omega arith)
piece_at xs from (e ∷ es) zero lt = refl
piece_at xs from (e ∷ es) (suc k) lt = piece_at xs e es k (omega arith) ∙ ap (λ a. Some (slice_range xs a (slice_index es k))) (sym (start_behind from e es k))

pub record IsWithin (start end upto : ℕ) : Type 0 where
  pub forward : start ≤ end
  pub inside : end ≤ upto

-- and where it lies
pub piece_within : (from : ℕ) (es : List ℕ) (upto k : ℕ) → AreEnds from es upto → k < length es → IsWithin (start_of from es k) (slice_index es k) upto
piece_within from [] upto k h lt = absurd (omega arith)
piece_within from (e ∷ es) upto zero h lt = record { forward = h.0; inside = ends_above e es upto h.1 }
piece_within from (e ∷ es) upto (suc k) h lt = rw (start_behind from e es k) (piece_within e es upto k h.1 (omega arith))

pub range_is : {X : Type 0} (xs : List X) (a b : ℕ) → a ≤ b → slice_range xs a b ≡ drop a (take b xs)
range_is xs a b le = let fit : a + (b - a) ≡ b = omega arith in sym (drop-take a (b - a) xs) ∙ ap (λ n. drop a (take n xs)) fit

pub range-front : {X : Type 0} (xs ys : List X) (a b upto : ℕ) → a ≤ b → b ≤ upto → take upto xs ≡ take upto ys → slice_range xs a b ≡ slice_range ys a b
range-front xs ys a b upto le within e =
    range_is xs a b le
    ∙ ap (λ t. drop a t) (sym (take-take b upto xs within) ∙ ap (λ t. take b t) e ∙ take-take b upto ys within)
    ∙ sym (range_is ys a b le)

-- lists that agree up to a place
pieces-front : {X : Type 0} (xs ys : List X) (from : ℕ) (es : List ℕ) (upto : ℕ) → take upto xs ≡ take upto ys → AreEnds from es upto → pieces xs from es ≡ pieces ys from es
pieces-front xs ys from [] upto same h = refl
pieces-front xs ys from (e ∷ es) upto same h =
    cons (slice_range xs from e) (slice_range ys from e) (pieces xs e es) (pieces ys e es)
    (range-front xs ys from e upto h.0 (ends_above e es upto h.1) same) (pieces-front xs ys e es upto same h.1)

pieces-push : {X : Type 0} (xs : List X) (from : ℕ) (es : List ℕ) (at end : ℕ) → AreEnds from es at → pieces xs from (es ++ end ∷ []) ≡ pieces xs from es ++ slice_range xs at end ∷ []
pieces-push xs from [] at end h = ap (λ a. slice_range xs a end ∷ []) h
pieces-push xs from (e ∷ es) at end h = ap (λ t. slice_range xs from e ∷ t) (pieces-push xs e es at end h.1)

AreEnds-push : (from : ℕ) (es : List ℕ) (at end : ℕ) → AreEnds from es at → at ≤ end → AreEnds from (es ++ end ∷ []) end
AreEnds-push from [] at end h le = (omega (arith, h), refl)
AreEnds-push from (e ∷ es) at end h le = (h.0, AreEnds-push e es at end h.1 le)

module _ {X : Type 0} (xs : List X) (es : List ℕ) (at : ℕ) (h : IsInOrder xs es at) where
  -- one more element at the end
  pub pieces-more : (x : X) → pieces (xs ++ x ∷ []) 0 es ≡ pieces xs 0 es
  pieces-more x = pieces-front (xs ++ x ∷ []) xs 0 es at (take-append-le at xs (x ∷ []) h.inside) h.closed

  pub open-more : (x : X) → drop at (xs ++ x ∷ []) ≡ drop at xs ++ x ∷ []
  open-more x = drop-append-le at xs (x ∷ []) h.inside

  pub IsInOrder-more : (x : X) → IsInOrder (xs ++ x ∷ []) es at
  IsInOrder-more x = record { closed = h.closed; inside = omega (arith, h.inside, length-append xs (x ∷ [])) }

  -- the open piece is closed
  pub pieces-close : pieces xs 0 (es ++ length xs ∷ []) ≡ pieces xs 0 es ++ drop at xs ∷ []
  pieces-close = pieces-push xs 0 es at (length xs) h.closed ∙ ap (λ t. pieces xs 0 es ++ t ∷ []) (take_rest xs at)

  pub open-close : drop (length xs) xs ≡ []
  open-close = drop_all (length xs) xs (omega arith)

  pub IsInOrder-close : IsInOrder xs (es ++ length xs ∷ []) (length xs)
  IsInOrder-close = record { closed = AreEnds-push 0 es at (length xs) h.closed h.inside; inside = omega arith }

-- more at the end
pub laid_more : {X : Type 0} (ys xs : List X) (es : List ℕ) (at : ℕ) → IsInOrder xs es at → (pieces (xs ++ ys) 0 es ≡ pieces xs 0 es) × (drop at (xs ++ ys) ≡ drop at xs ++ ys) × IsInOrder (xs ++ ys) es at
laid_more [] xs es at h = (ap (λ l. pieces l 0 es) (append-nil xs), ap (drop at) (append-nil xs) ∙ sym (append-nil (drop at xs)), subst (λ l. IsInOrder l es at) (sym (append-nil xs)) h)
laid_more (y ∷ ys) xs es at h =
    let rest = laid_more ys (xs ++ y ∷ []) es at (IsInOrder-more xs es at h y) in
    let same : (xs ++ y ∷ []) ++ ys ≡ xs ++ (y ∷ ys) = append_assoc xs (y ∷ []) ys in (
      ap (λ l. pieces l 0 es) (sym same) ∙ rest.0 ∙ pieces-more xs es at h y,
      ap (drop at) (sym same) ∙ rest.1 ∙ ap (λ l. l ++ ys) (open-more xs es at h y) ∙ append_assoc (drop at xs) (y ∷ []) ys,
      subst (λ l. IsInOrder l es at) same rest.2,
    )

-- one more row
pub row_more : {X : Type 0} (xs row : List X) (es : List ℕ) → IsInOrder xs es (length xs)
    → (pieces (xs ++ row) 0 (es ++ length (xs ++ row) ∷ []) ≡ pieces xs 0 es ++ row ∷ []) × IsInOrder (xs ++ row) (es ++ length (xs ++ row) ∷ []) (length (xs ++ row))
row_more xs row es h =
    let more = laid_more row xs es (length xs) h in
    let open_row : drop (length xs) (xs ++ row) ≡ row = more.1 ∙ ap (λ l. l ++ row) (drop_all (length xs) xs (omega arith)) in (
      pieces-close (xs ++ row) es (length xs) more.2 ∙ ap (λ l. l ++ drop (length xs) (xs ++ row) ∷ []) more.0 ∙ ap (λ l. pieces xs 0 es ++ l ∷ []) open_row,
      IsInOrder-close (xs ++ row) es (length xs) more.2,
    )

-- the first rows alone
AreEnds-take : (from : ℕ) (es : List ℕ) (upto count : ℕ) → AreEnds from es upto → count ≤ length es → AreEnds from (take count es) (start_of from es count)
AreEnds-take from es upto zero h le = refl
AreEnds-take from [] upto (suc k) h le = absurd (omega arith)
AreEnds-take from (e ∷ es) upto (suc k) h le = (h.0, rw (start_behind from e es k) (AreEnds-take e es upto k h.1 (omega arith)))

pieces-take : {X : Type 0} (xs : List X) (from : ℕ) (es : List ℕ) (count : ℕ) → pieces xs from (take count es) ≡ take count (pieces xs from es)
pieces-take xs from es zero = refl
pieces-take xs from [] (suc k) = refl
pieces-take xs from (e ∷ es) (suc k) = ap (λ l. slice_range xs from e ∷ l) (pieces-take xs e es k)

start_within : (from : ℕ) (es : List ℕ) (upto count : ℕ) → AreEnds from es upto → count ≤ length es → start_of from es count ≤ upto
start_within from es upto zero h le = ends_above from es upto h
start_within from [] upto (suc k) h le = absurd (omega arith)
start_within from (e ∷ es) upto (suc k) h le = rw (start_behind from e es k) (start_within e es upto k h.1 (omega arith))

pub record IsCut {X : Type 0} (xs : List X) (es : List ℕ) (count end : ℕ) : Type 0 where
  pub rows : pieces (take end xs) 0 (take count es) ≡ take count (pieces xs 0 es)
  pub in_order : IsInOrder (take end xs) (take count es) (length (take end xs))

pub rows_cut : {X : Type 0} (xs : List X) (es : List ℕ) (count end : ℕ) → IsInOrder xs es (length xs) → count ≤ length es → end ≡ start_of 0 es count → IsCut xs es count end
rows_cut xs es count end h le is =
    let here : AreEnds 0 (take count es) end = rw is (AreEnds-take 0 es (length xs) count h.closed le) in
    let within : end ≤ length xs = rw is (start_within 0 es (length xs) count h.closed le) in
    let size : length (take end xs) ≡ end = length-take-le end xs within in
    record {
      rows = pieces-front (take end xs) xs 0 (take count es) end (take-take end end xs (omega arith)) here ∙ pieces-take xs 0 es count;
      in_order = record { closed = rw size here; inside = omega arith };
    }

-- a row among others
pub row_front : {X : Type 0} (rows more : List (List X)) (k : ℕ) → k < length rows → row_at (rows ++ more) k ≡ row_at rows k
row_front rows more k lt = ap (λ o. unwrap_or o []) (get_front rows more k lt)

pub row_end : {X : Type 0} (rows : List (List X)) (row : List X) → row_at (rows ++ row ∷ []) (length rows) ≡ row
row_end rows row = ap (λ o. unwrap_or o []) (at_end rows row)

pub row_kept : {X : Type 0} (rows : List (List X)) (count k : ℕ) → k < count → row_at (take count rows) k ≡ row_at rows k
row_kept rows zero k lt = absurd (omega arith)
row_kept [] (suc n) k lt = refl
row_kept (row ∷ rows) (suc n) zero lt = refl
row_kept (row ∷ rows) (suc n) (suc k) lt = row_kept rows n k (omega arith)
