-- Packages by their records.
use Rattle.std.proofs.Common.{◌≡◌, ◌<◌, ◌≤◌, ◌+◌, ℕ, zero, suc, Bool, true, false, length, Option, Some, None, refl, subst, arith}
use Rattle.std.specs.Prelude.{nat_lt, nat_le}
use Rattle.std.proofs.lemmas.Bool.{and_from}
use Rattle.std.proofs.lemmas.Bool.Decides.{nat_tests}
use Rattle.solv_list.proofs.Lists.{place_there}
use Rattle.solv_pool.specs.Prelude.{passes, Catalog, packages, package_at, is_pack}
use Rattle.solv_pool.specs.declared.packages.Package.{Package}
use Rattle.solv_pool.proofs.Members.{Has, has_among}
use Rattle.solv_trans.proofs.Asking.{packages_bound}
use Rattle.solv_plan.proofs.Tables.{has_range}

-- what has a record is a package
pub package_there : (catalog : Catalog) (p : ℕ) (a : Package) → package_at catalog p ≡ Some a → Has (packages catalog) p
package_there catalog zero a is = absurd (cc)
package_there catalog (suc k) a is =
    let P : ℕ → Type 0 = λ n. Has (packages catalog) n in
    let next : 1 + k ≡ suc k = omega arith in
    subst P next (has_range 1 (length catalog.universe.packages) k (place_there catalog.universe.packages k a is))

-- a test of a record says that there is one
pub some_passes : {X : Type 0} (o : Option X) (f : X → Bool) → passes o f ≡ true → (a : X) × ((o ≡ Some a) × (f a ≡ true))
some_passes None f h = absurd (cc)
some_passes (Some a) f h = (a, (refl, h))

pub passing_there : (catalog : Catalog) (p : ℕ) (f : Package → Bool) → passes (package_at catalog p) f ≡ true → Has (packages catalog) p
passing_there catalog p f h = let a = some_passes (package_at catalog p) f h in package_there catalog p a.0 a.1.0

-- a package is above 0 and within their number
pub is_pack_there : (catalog : Catalog) (p : ℕ) → Has (packages catalog) p → is_pack (length catalog.universe.packages) p ≡ true
is_pack_there catalog p there =
    let r = packages_bound catalog (λ q. false) p (has_among (packages catalog) p there) in
    let above : 0 < p = r.0 in
    let within : p ≤ length catalog.universe.packages = r.1 in
    and_from (nat_lt 0 p) (nat_le p (length catalog.universe.packages)) (grind (arith, nat_tests, above)) (grind (arith, nat_tests, within))
