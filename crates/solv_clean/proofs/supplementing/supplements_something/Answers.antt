use Rattle.std.proofs.Common.{◌≡◌, ◌∙◌, ℕ, true, not, List, [], ◌∷◌, length, refl, ap, sym, arith}
use Rattle.std.specs.Prelude.{◌==◌}
use Rattle.std.specs.List.{list_any}
use Rattle.std.proofs.lemmas.Bool.{ne_eqb}
use Rattle.solv_pool.specs.Prelude.{passes, catalog_of}
use Rattle.solv_pool.specs.declared.packages.Package.{Package}
use Rattle.solv_clean.proofs.Served.{package_is}
use Rattle.solv_clean.proofs.supplementing.supplements_something.Goals as goal

some_listed : (xs : List ℕ) → not (length xs == 0) ≡ list_any (λ (d : ℕ). true) xs
some_listed [] = refl
some_listed (x ∷ xs) = ap not (ne_eqb (length (x ∷ xs)) 0 (omega arith))

pub returns : goal.returns
returns c =
    let at = package_is (catalog_of c.args.members.now.task.now) c.args.pack c.package.result c.requires.a_package c.package.ensures in
    ap not (c.is_empty.ensures ∙ ap (λ xs. length xs == 0) c.supplements.ensures) ∙ some_listed c.package.result.supplements
    ∙ ap (λ o. passes o (λ (a : Package). list_any (λ (d : ℕ). true) a.supplements)) (sym at)
