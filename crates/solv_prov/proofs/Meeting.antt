-- A provide at the EVR that is wanted.
use Rattle.std.proofs.Common.{◌≡◌, ℕ, List, Bool, true, false, refl}
use Rattle.std.specs.Prelude.{if◌then◌else◌}
use Rattle.std.specs.declared.cmp.Ordering.TheVariants.{Equal}
use Rattle.std.proofs.lemmas.Bool.{or_right}
use Rattle.solv_pool.specs.Prelude.{Cmp, evr_cmp, meets}

-- whichever line of the table is taken
any_line : (p q : Bool) → (if p then true else (if q then true else true)) ≡ true
any_line true q = refl
any_line false true = refl
any_line false false = refl

-- it meets where both comparisons have equal
pub meets-same : (f : Cmp) (e : List ℕ) (g : Cmp) → evr_cmp e e ≡ Equal → f.equal ≡ true → g.equal ≡ true → meets f e g e ≡ true
meets-same f e g same left right = rw (same, left, right) (or_right _ _ (any_line _ _))
