use Rattle.std.proofs.Common.{◌≡◌, ◌-◌, ◌∙◌, ◌<◌, ◌||◌, ℕ, zero, suc, not, true, false, List, [], ◌∷◌, Some, refl, sym, ap, arith, length}
use Rattle.std.specs.Prelude.{◌==◌, slice_get}
use Rattle.std.specs.List.{list_any}
use Rattle.std.proofs.lemmas.Bool.{false≢true}
use Rattle.solv_pool.specs.Prelude.{Catalog, catalog_of, package_at, passes}
use Rattle.solv_leaving.specs.Inner.Starting.{is_met_alone, stands_alone}
use Rattle.solv_clean.proofs.Below.{requires_below}
use Rattle.solv_leaving.proofs.starting.stands_alone.Goals as goal

pub are_met_alone-requires-clause-needs : goal.are_met_alone-requires-clause-needs
are_met_alone-requires-clause-needs c = rw c.requires_.ensures (requires_below c.args.task.now (c.args.pack - 1) c.package-package.result c.requires.over c.package-package.ensures)

some_listed : (xs : List ℕ) → false ≡ (length xs == 0) → list_any (λ _. true) xs ≡ true
some_listed [] h = absurd (false≢true h)
some_listed (x ∷ xs) h = refl

-- the package of a number from 1 on
at_place : (catalog : Catalog) (p : ℕ) → 0 < p → package_at catalog p ≡ slice_get catalog.universe.packages (p - 1)
at_place catalog zero h = absurd (omega (arith, h))
at_place catalog (suc p) h = let less : p ≡ suc p - 1 = omega arith in ap (slice_get catalog.universe.packages) less

pub returns-then-not-is_empty : goal.returns-then-not-is_empty
returns-then-not-is_empty c =
    let catalog = catalog_of c.args.task.now in
    let found = c.package-package.result in
    let some : list_any (λ _. true) found.supplements ≡ true =
    some_listed found.supplements (c.if-not-is_empty.ensures ∙ ap (λ l. length l == 0) c.supplements.ensures) in
    let at : package_at catalog c.args.pack ≡ Some found = at_place catalog c.args.pack c.requires.a_package ∙ c.package-package.ensures in
    ap not c.if-not-is_empty.true ∙ sym (ap (λ o. passes o (stands_alone catalog)) at ∙ ap (λ b. b || not (is_met_alone catalog found)) some)
