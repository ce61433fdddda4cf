-- Names for parts of the large script.
use Rattle.std.specs.Prelude.{ℕ, List, [], ◌∷◌, ◌++◌, codes}
use Rattle.solv_script.specs.Generator.{Drafted, digit, name_text}

-- a name between words
abbrev pub with_name : List ℕ → ℕ → List ℕ → List ℕ
with_name front name behind = front ++ (name_text name ++ behind)

-- the line of a requirement, and of a conflict
abbrev pub need_line : ℕ → List ℕ
need_line name = with_name (codes "=Req: ") name (codes " >= 1")

abbrev pub exclusion_line : ℕ → List ℕ
exclusion_line name = with_name (codes "=Con: ") name (codes " = 1")

-- the testtags lines of a package of this name and version
abbrev pub package_line : ℕ → ℕ → List ℕ
package_line name version = with_name (codes "=Pkg: ") name (32 ∷ digit version ∷ codes " 1 noarch")

-- a job
abbrev pub wanted_line : ℕ → List ℕ
wanted_line name = with_name (codes "job install name ") name []

-- an inline line
abbrev pub inlined : List ℕ → List ℕ
inlined line = codes "#>" ++ line

-- an installed package, which needs nothing
abbrev pub bare : ℕ → Drafted
bare name = record { name = name; version = 1; needs = []; excludes = [] }
