-- Lines of testtags in turn, without their numbers.
use Rattle.std.proofs.Common.{ℕ, List, [], ◌∷◌, ◌++◌, Result, Ok, Err}
use Rattle.std.specs.Prelude.{IsOkAnd}
use Rattle.solv_deps.specs.declared.fault.DepFault.{DepFault}
use Rattle.solv_tags.specs.Testtags.{Tagged, or_cause}
use Rattle.solv_tags.specs.Inner.Lines.{line_read}
use Rattle.solv_tags.specs.declared.tag_fault.TagCause.{TagCause}

-- what follows what is right
pub tags_then : {A B : Type 0} (P : A → Type 0) (Q : B → Type 0) (r : Result A DepFault) (next : A → Result B TagCause) → IsOkAnd r P → ((x : A) → P x → IsOkAnd (next x) Q) → IsOkAnd (or_cause r next) Q
tags_then P Q (Ok x) next h k = k x h
tags_then P Q (Err e) next h k = absurd h

abbrev pub then_lines : Result Tagged TagCause → (Tagged → Result Tagged TagCause) → Result Tagged TagCause
then_lines (Ok t) next = next t
then_lines (Err e) next = Err e

abbrev pub lines_all : Tagged → List (List ℕ) → Result Tagged TagCause
lines_all s [] = Ok s
lines_all s (line ∷ lines) = then_lines (line_read s line) (λ t. lines_all t lines)

-- lines after others
pub all_behind : (P Q : Tagged → Type 0) (xs ys : List (List ℕ)) (s : Tagged) → IsOkAnd (lines_all s xs) P → ((t : Tagged) → P t → IsOkAnd (lines_all t ys) Q) → IsOkAnd (lines_all s (xs ++ ys)) Q
all_behind P Q [] ys s h k = k s h
all_behind P Q (x ∷ xs) ys s h k = on (line_read s x) h (λ t g. all_behind P Q xs ys t g k)
  where
    on : (r : Result Tagged TagCause) → IsOkAnd (then_lines r (λ t. lines_all t xs)) P → ((t : Tagged) → IsOkAnd (lines_all t xs) P → IsOkAnd (lines_all t (xs ++ ys)) Q) → IsOkAnd (then_lines r (λ t. lines_all t (xs ++ ys))) Q
    on (Ok t) h more = more t h
    on (Err e) h more = absurd h
