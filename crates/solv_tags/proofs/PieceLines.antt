-- Lines of a file that is read piece by piece.
use Rattle.std.proofs.Common.{◌≡◌, ℕ, ◌+◌, ◌≤◌, ◌∙◌, List, [], ◌∷◌, ◌++◌, length, take, take_at, take_all, drop, drop_at, map, append-nil, inl, inr, Option, Some, None, Result, Ok, refl, sym, ap, subst, arith, append_assoc, length-append}
use Rattle.std.specs.Prelude.{IfSome, IsOkAnd}
use Rattle.std.proofs.Math.Seq.{drop-length}
use Rattle.std.specs.List.{enumerate_from}
use Rattle.std.specs.Io.KnownBytes.{Consumes}
use Rattle.solv_io.specs.Lines.{lines_of, numbered_lines, IsLine}
use Rattle.solv_io.proofs.WrittenLines.{lines_of-line}
use Rattle.solv_base.specs.Pool.{Held}
use Rattle.solv_pool.specs.Contents.{Contents}
use Rattle.solv_pool.specs.Prelude.{written_package}
use Rattle.solv_tags.specs.Inner.Lines.{line_read, lines_read, end_read, no_line, or_bad}
use Rattle.solv_tags.specs.Inner.Pieces.{HasTaken, IsDone, Leaves, HasReadFile}
use Rattle.solv_tags.specs.Inner.RepositoryReading.{IsTagRefusal, IsTaken}
use Rattle.solv_tags.specs.Inner.TagReading.{IsCause, IsEnded, HasMore, tagged_of}
use Rattle.solv_tags.specs.Testtags.{Tagged, Repository}
use Rattle.solv_tags.specs.declared.tag_fault.TagCause.{TagCause}
use Rattle.solv_tags.specs.declared.tag_fault.TagCause.TheVariants.{Dep, BadPackageLine, TagBeforePackage, UnclosedBlock, TooManyPackages, FullNames, Memory}
use Rattle.solv_tags.specs.declared.tag_fault.TagFault.{TagFault}
use Rattle.solv_tags.specs.declared.tag_reader.TagReader.{TagReader}

-- a line that a line feed ends is the first one, whatever comes after it
pub cut_more : (text line behind more : List ℕ) → text ≡ line ++ 10 ∷ behind → IsLine line → lines_of (text ++ more) ≡ line ∷ lines_of (behind ++ more)
cut_more text line behind more cut free = ap (λ t. lines_of (t ++ more)) cut ∙ ap lines_of (append_assoc line (10 ∷ behind) more) ∙ lines_of-line line (behind ++ more) free

-- what is read and then what is read after it
pub consumes_more : (a b c : Option (List ℕ)) (xs ys : List ℕ) → Consumes a b xs → Consumes b c ys → Consumes a c (xs ++ ys)
consumes_more None b c xs ys h k = tt
consumes_more (Some all) None c xs ys h k = absurd h
consumes_more (Some all) (Some rest) None xs ys h k = absurd k
consumes_more (Some all) (Some rest) (Some last) xs ys h k = h ∙ ap (λ l. xs ++ l) k ∙ sym (append_assoc xs ys last)

module _ (a b c : Option (List ℕ)) (start middle end : ℕ) (bytes text : List ℕ) (P Q R : List ℕ → Type 0) where
  pub taken_more : HasTaken a b start middle bytes P → HasTaken b c middle end text Q → ((all piece : List ℕ) → P all → Q (text ++ piece) → R (all ++ piece)) → HasTaken a c start end bytes R
  taken_more first second both = record {
    piece = first.piece ++ second.piece;
    taken = consumes_more a b c first.piece second.piece first.taken second.taken;
    count = let long = length-append first.piece second.piece in let one = first.count in let two = second.count in omega arith;
    holds = subst R (append_assoc bytes first.piece second.piece) (both (bytes ++ first.piece) second.piece first.holds second.holds);
  }

module _ (a b : Option (List ℕ)) (start end : ℕ) (bytes : List ℕ) (P Q : List ℕ → Type 0) where
  pub taken_so : HasTaken a b start end bytes P → ((all : List ℕ) → P all → Q all) → HasTaken a b start end bytes Q
  taken_so h so = record { piece = h.piece; taken = h.taken; count = h.count; holds = so (bytes ++ h.piece) h.holds }

-- the bytes of a file that was read so far as may be
known_by : (most : ℕ) (told rest : Option (List ℕ)) (bytes : List ℕ) → length bytes ≤ most → Consumes told rest bytes → IsDone most (length bytes) rest → IfSome told (λ all. bytes ≡ take most all)
known_by most None rest bytes within h done = tt
known_by most (Some all) None bytes within h done = absurd h
known_by most (Some all) (Some rest) bytes within h (inl full) = sym (ap (take most) h ∙ take_at bytes rest most full)
known_by most (Some all) (Some rest) bytes within h (inr none) =
    let whole : all ≡ bytes = h ∙ ap (λ l. bytes ++ l) none ∙ append-nil bytes in
    sym (ap (take most) whole ∙ take_all most bytes within)

-- a file that was read so, from its start
pub file_read : (most size : ℕ) (told rest : Option (List ℕ)) (P : List ℕ → Type 0) → HasTaken told rest 0 size [] P → size ≤ most → IsDone most size rest → HasReadFile most size told P
file_read most size told rest P h within done =
    let long : length h.piece ≡ size = let count = h.count in omega arith in
    record {
      bytes = h.piece;
      count = long;
      known = known_by most told rest h.piece (subst (λ k. k ≤ most) (sym long) within) h.taken (subst (λ k. IsDone most k rest) (sym long) done);
      holds = h.holds;
    }

-- a line that is refused
pub refused_line : (c : TagCause) (n : ℕ) (r : Result Tagged TagCause) (next : Tagged → Result Repository TagFault) → IsCause c r → IsTagRefusal (record { line = n; cause = c }) (or_bad n r next)
refused_line Memory n r next h = tt
refused_line (Dep d) n r next h = rw h refl
refused_line BadPackageLine n r next h = rw h refl
refused_line TagBeforePackage n r next h = rw h refl
refused_line UnclosedBlock n r next h = rw h refl
refused_line TooManyPackages n r next h = rw h refl
refused_line FullNames n r next h = rw h refl

-- the first line of a text, after so many lines
module _ (number : ℕ) (s : Tagged) (text line behind : List ℕ) (cut : text ≡ line ++ 10 ∷ behind) (free : IsLine line) (more : List ℕ) where
  abbrev after : Tagged → Result Repository TagFault
  after t = lines_read (number + 1) t (enumerate_from (number + 1 + 1) (lines_of (behind ++ more)))

  first : lines_read number s (enumerate_from (number + 1) (lines_of (text ++ more))) ≡ or_bad (number + 1) (line_read s line) after
  first = ap (λ ls. lines_read number s (enumerate_from (number + 1) ls)) (cut_more text line behind more cut free)

  pub line_taken : (t : Tagged) → line_read s line ≡ Ok t → lines_read number s (enumerate_from (number + 1) (lines_of (text ++ more))) ≡ after t
  line_taken t is = first ∙ ap (λ r. or_bad (number + 1) r after) is

  pub line_refused : (c : TagCause) → IsCause c (line_read s line) → IsTagRefusal (record { line = number + 1; cause = c }) (lines_read number s (enumerate_from (number + 1) (lines_of (text ++ more))))
  line_refused c h = subst (IsTagRefusal (record { line = number + 1; cause = c })) (sym first) (refused_line c (number + 1) (line_read s line) after h)

-- lines are taken of a text, and a piece is read after what comes behind them
module _ (start s t : Tagged) (n m : ℕ) (text rest kept new : List ℕ) where
  pub leaves_on : ((more : List ℕ) → lines_read n s (enumerate_from (n + 1) (lines_of (text ++ more))) ≡ lines_read m t (enumerate_from (m + 1) (lines_of (rest ++ more)))) → kept ≡ rest
      → (bytes piece : List ℕ) → Leaves start n s text bytes → new ≡ kept ++ piece → Leaves start m t new (bytes ++ piece)
  leaves_on taken same bytes piece leaves grown more =
      ap (λ l. lines_read 0 start (numbered_lines l)) (append_assoc bytes piece more) ∙ leaves (piece ++ more) ∙ taken (piece ++ more)
      ∙ ap (λ l. lines_read m t (enumerate_from (m + 1) (lines_of l))) (sym (append_assoc rest piece more) ∙ ap (λ l. (l ++ piece) ++ more) (sym same) ∙ ap (λ l. l ++ more) (sym grown))

-- what is left where nothing comes after the bytes
pub leaves_all : (start s : Tagged) (n : ℕ) (text bytes : List ℕ) → Leaves start n s text bytes → lines_read 0 start (numbered_lines bytes) ≡ lines_read n s (enumerate_from (n + 1) (lines_of text))
leaves_all start s n text bytes leaves =
    ap (λ l. lines_read 0 start (numbered_lines l)) (sym (append-nil bytes)) ∙ leaves [] ∙ ap (λ l. lines_read n s (enumerate_from (n + 1) (lines_of l))) (append-nil text)

-- a reader before its first line
pub before_lines : (r : TagReader) (pool : Held) (universe : Contents) (repo : ℕ) → r.repo ≡ repo → r.before ≡ length universe.packages → r.hand ≡ None → r.block ≡ None
    → tagged_of r pool universe ≡ no_line pool (length universe.packages) repo
before_lines r pool universe repo same before hand block = rw (same, before, hand, block, drop-length universe.packages) refl

-- a reader that has read all lines and the end
pub whole_taken : (last : ℕ) (s : TagReader) (pool : Held) (old middle new : Contents) (answer : Result Repository TagFault) → s.before ≡ length old.packages → answer ≡ end_read last (tagged_of s pool middle)
    → IsEnded s pool middle new (end_read last (tagged_of s pool middle)) → HasMore old new → IsOkAnd answer (λ r. IsTaken r pool old new)
whole_taken last s pool old middle new answer before is ended more =
    let behind : drop s.before new.packages ≡ more.added = ap (λ (u : Contents). drop s.before u.packages) more.is ∙ drop_at old.packages more.added s.before (sym before) in
    rw (is ∙ ended.is) (record { held = refl; packages = record { added = more.added; texts = ap (map (written_package pool)) (sym behind); universe = more.is } })
