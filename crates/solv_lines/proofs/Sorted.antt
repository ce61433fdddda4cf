-- Lines that are sorted, each kept once, are the set of those that were put in.
use Rattle.std.proofs.Common.{◌≡◌, ℕ, Bool, true, false, ◌||◌, cond, List, [], ◌∷◌, refl, sym, ap, ◌∙◌}
use Rattle.std.specs.Cmp.Lexicographic.{texts_ties}
use Rattle.std.specs.List.{dedup, dedup_from}
use Rattle.std.specs.List.Retain.{IsFiltered, DiffersFromLast}
use Rattle.std.specs.List.Sorted.{IsPermutation, IsSorted, IsStrictlySortedBy}
use Rattle.std.specs.Ordering.{is_lt, is_eq}
use Rattle.std.specs.Str.{bytes_eq}
use Rattle.std.specs.declared.cmp.Ordering.{Ordering}
use Rattle.std.specs.declared.cmp.Ordering.TheVariants.{Less, Equal, Greater}
use Rattle.std.proofs.lemmas.Bool.{and_from, false≢true}
use Rattle.std.proofs.lemmas.Cmp.{nat_list_cmp_total}
use Rattle.std.proofs.lemmas.List.Filters.{dedup_is}
use Rattle.std.proofs.lemmas.List.Kept.{IsStrictlySortedBy-dedup}
use Rattle.std.proofs.lemmas.List.Sorted.{list_any-IsPermutation}
use Rattle.std.proofs.lemmas.Map.Text.{is_eq-slice_cmp}
use Rattle.solv_list.proofs.Booleans.{false_of_not, or_once_more}
use Rattle.solv_list.proofs.Lists.{bytes_themselves, same_bytes}
use Rattle.solv_lines.specs.LineSets.{is_line, line_set}
use Rattle.solv_lines.specs.Inner.LineSets.{rises_behind, rises}
use Rattle.solv_lines.proofs.Rising.{order, turned, line_set_rises, line_set_is}
use Rattle.solv_lines.proofs.Merged.{not_behind, not_below_itself, tail_rises}

-- rising lines are known by their members
there : (line : List ℕ) (lines : List (List ℕ)) → is_line (line ∷ lines) line ≡ true
there line lines = ap (λ b. b || is_line lines line) (bytes_themselves line)

absent : (line : List ℕ) (lines : List (List ℕ)) → rises (line ∷ lines) ≡ true → is_line lines line ≡ false
absent line lines h = not_behind line line lines (false_of_not (is_lt (order line line)) (not_below_itself line)) h

behind_same : (first line : List ℕ) (xs ys : List (List ℕ)) → rises (first ∷ xs) ≡ true → rises (first ∷ ys) ≡ true → is_line (first ∷ xs) line ≡ is_line (first ∷ ys) line → is_line xs line ≡ is_line ys line
behind_same first line xs ys h k same = by (bytes_eq line first) refl
  where
    by : (b : Bool) → bytes_eq line first ≡ b → is_line xs line ≡ is_line ys line
    by true e = rw (same_bytes line first e) (absent first xs h ∙ sym (absent first ys k))
    by false e = rw e at same

same_rising : (xs ys : List (List ℕ)) → rises xs ≡ true → rises ys ≡ true → ((line : List ℕ) → is_line xs line ≡ is_line ys line) → xs ≡ ys
same_rising [] [] h k same = refl
same_rising [] (y ∷ ys) h k same = absurd (false≢true (same y ∙ there y ys))
same_rising (x ∷ xs) [] h k same = absurd (false≢true (sym (same x) ∙ there x xs))
same_rising (x ∷ xs) (y ∷ ys) h k same =
    let e : x ≡ y = heads (order x y) refl in
    let behind_x : rises (x ∷ ys) ≡ true = rw e k in
    ap (λ first. first ∷ xs) e
    ∙ ap (λ lines. y ∷ lines) (same_rising xs ys (tail_rises x xs h) (tail_rises y ys k) (λ line. behind_same x line xs ys h behind_x (same line ∙ ap (λ first. is_line (first ∷ ys) line) (sym e))))
  where
    heads : (o : Ordering) → order x y ≡ o → x ≡ y
    heads Less o = absurd (false≢true (sym (absent x (y ∷ ys) (and_from (is_lt (order x y)) (rises_behind y ys) (ap is_lt o) k)) ∙ sym (same x) ∙ there x xs))
    heads Equal o = same_bytes x y (sym (is_eq-slice_cmp x y) ∙ ap is_eq o)
    heads Greater o = absurd (false≢true (sym (absent y (x ∷ xs) (and_from (is_lt (order y x)) (rises_behind x xs) (turned x y o) h)) ∙ same y ∙ there y ys))

-- what is kept of sorted lines
kept_behind : (last line : List ℕ) (lines : List (List ℕ)) → is_line (dedup_from bytes_eq last lines) line ≡ (bytes_eq line last || is_line lines line)
kept_behind last line [] = refl
kept_behind last line (next ∷ lines) = by (bytes_eq next last) refl (kept_behind last line lines) (kept_behind next line lines)
  where
    by : (b : Bool) → bytes_eq next last ≡ b → is_line (dedup_from bytes_eq last lines) line ≡ (bytes_eq line last || is_line lines line) → is_line (dedup_from bytes_eq next lines) line ≡ (bytes_eq line next || is_line lines line)
        → is_line (cond b (dedup_from bytes_eq last lines) (last ∷ dedup_from bytes_eq next lines)) line ≡ (bytes_eq line last || is_line (next ∷ lines) line)
    by true e here more = here ∙ or_once_more (bytes_eq line last) (is_line lines line) ∙ ap (λ t. bytes_eq line last || (bytes_eq line t || is_line lines line)) (sym (same_bytes next last e))
    by false e here more = ap (λ b. bytes_eq line last || b) more

kept_is : (lines : List (List ℕ)) (line : List ℕ) → is_line (dedup bytes_eq lines) line ≡ is_line lines line
kept_is [] line = refl
kept_is (first ∷ lines) line = kept_behind first line lines

strictly_rises : (lines : List (List ℕ)) → IsStrictlySortedBy order lines → rises lines ≡ true
unfolding IsStrictlySortedBy
strictly_rises [] s = refl
strictly_rises (x ∷ []) s = refl
strictly_rises (x ∷ y ∷ ys) s = and_from (is_lt (order x y)) (rises_behind y ys) (ap is_lt s.0.0) (strictly_rises (y ∷ ys) s.1)

pub sorted_is_set : (pushed sorted kept : List (List ℕ)) → IsPermutation pushed sorted → IsSorted order sorted → IsFiltered (DiffersFromLast bytes_eq) [] sorted kept → kept ≡ line_set pushed
sorted_is_set pushed sorted kept moved in_order left =
    dedup_is bytes_eq sorted kept left
    ∙ same_rising (dedup bytes_eq sorted) (line_set pushed) (strictly_rises (dedup bytes_eq sorted) (IsStrictlySortedBy-dedup nat_list_cmp_total texts_ties sorted in_order)) (line_set_rises pushed)
    (λ line. kept_is sorted line ∙ sym (list_any-IsPermutation (bytes_eq line) pushed sorted moved) ∙ sym (line_set_is pushed line))
