-- The parts of an EVR text `[epoch:]version[-release]`, and the order on EVR texts.
use Rattle.std.specs.Prelude.{ℕ, ◌==◌, ◌&&◌, Bool, List, [], ◌∷◌, length, drop, take_while, nat_lt, Option, Some, None, if◌then◌else◌}
use Rattle.std.specs.Char.{is_ascii_digit}
use Rattle.std.specs.List.{before_last, after_last, list_any}
use Rattle.std.specs.Option.{option_cmp}
use Rattle.std.specs.Ordering.{ordering_then}
use Rattle.std.specs.declared.cmp.Ordering.{Ordering}
use Rattle.solv_base.specs.Tokens.{begins, version_cmp}

-- an EVR text as its parts
pub record Parts : Type 0 where
  pub epoch : List ℕ
  pub version : List ℕ
  pub release : Option (List ℕ)

-- `-`
abbrev pub is_dash : ℕ → Bool
is_dash c = c == 45

-- `:`
abbrev pub is_colon : ℕ → Bool
is_colon c = c == 58

-- the release is what follows the last `-`; without a `-` there is none
abbrev pub parts_after : List ℕ → List ℕ → Parts
parts_after epoch rest =
    if list_any is_dash rest
    then record { epoch = epoch; version = before_last is_dash rest; release = Some (after_last is_dash rest) }
    else record { epoch = epoch; version = rest; release = None }

-- an epoch is one or more digits at the start, followed by `:`; without it the epoch is `0`
abbrev pub parts : List ℕ → Parts
parts text =
    let front : List ℕ = take_while is_ascii_digit text in
    let rest : List ℕ = drop (length front) text in
    if nat_lt 0 (length front) && begins is_colon rest
    then parts_after front (drop 1 rest)
    else parts_after (48 ∷ []) text

-- by epoch, then by version
abbrev pub stem_cmp : Parts → Parts → Ordering
stem_cmp a b = ordering_then (version_cmp a.epoch b.epoch) (version_cmp a.version b.version)

-- then by release, a missing one being below any
abbrev pub parts_cmp : Parts → Parts → Ordering
parts_cmp a b = ordering_then (stem_cmp a b) (option_cmp version_cmp a.release b.release)

-- the order on EVR texts
abbrev pub evr_cmp : List ℕ → List ℕ → Ordering
evr_cmp a b = parts_cmp (parts a) (parts b)
