-- The canonical text of what was read is read again, by the same table, as the same.
use Rattle.std.proofs.Common.{◌≡◌, ◌<◌, ◌≤◌, ℕ, List, length, Bool, true, false, Result, Ok, Err, refl, sym, ap, ◌∙◌, arith}
use Rattle.std.specs.Prelude.{if◌then◌else◌}
use Rattle.solv_base.specs.Dependency.{Dep, operators}
use Rattle.solv_base.specs.Pool.{Held, IsPool, Grows, text_tree}
use Rattle.solv_base.proofs.Identity.{trees_differ}
use Rattle.solv_deps.specs.declared.place.Place.{Place}
use Rattle.solv_deps.specs.Table.{stands_at}
use Rattle.solv_deps.specs.declared.fault.DepFault.{DepFault}
use Rattle.solv_deps.specs.declared.fault.DepFault.TheVariants.{OperatorNotHere}
use Rattle.solv_deps.specs.Words.{words}
use Rattle.solv_deps.specs.Reading.{reading, dependency, and_then}
use Rattle.solv_deps.specs.Laws.{dependency_by}
use Rattle.solv_deps.specs.Canonical.{text}
use Rattle.solv_deps.proofs.Printed.{well, printed_is_read}
use Rattle.solv_deps.proofs.Readable.{IsWellRead, text_well_read}

stood : (s : Bool) (x d : Dep (List ℕ)) → (let r : Result (Dep (List ℕ)) DepFault = if s then Ok x else Err OperatorNotHere in r) ≡ Ok d → (s ≡ true) × (x ≡ d)
stood true x d e = (refl, cc)
stood false x d e = absurd (cc)

-- what is read and may stand
read_well : (fits : Dep (List ℕ) → Bool) (r : Result (Dep (List ℕ)) DepFault) (d : Dep (List ℕ)) → IsWellRead r → and_then r (λ x. if fits x then Ok x else Err OperatorNotHere) ≡ Ok d
    → ((well d ≡ true) × (operators d ≤ 64)) × (fits d ≡ true)
read_well fits (Ok x) d g e = let s = stood (fits x) x d e in let same : x ≡ d = s.1 in (rw (← same) g, rw (← same) s.0)
read_well fits (Err f) d g e = absurd (cc)

pub printed_again : (fits : Dep (List ℕ) → Bool) (t : List ℕ) (d : Dep (List ℕ)) → dependency_by fits t ≡ Ok d → dependency_by fits (text d) ≡ Ok d
printed_again fits t d e =
    let b = read_well fits (reading (words t)) d (text_well_read t) e in
    ap (λ r. and_then r (λ x. if fits x then Ok x else Err OperatorNotHere)) (printed_is_read d b.0.0 b.0.1) ∙ rw b.1 refl

-- what is read has few operators
pub few_operators : (place : Place) (t : List ℕ) (d : Dep (List ℕ)) → dependency place t ≡ Ok d → operators d ≤ 64
few_operators place t d e = (read_well (stands_at place) (reading (words t)) d (text_well_read t) e).0.1

-- the same tree has the same id
pub printed_same : (old new : Held) (place : Place) (t : List ℕ) (id again : ℕ) → IsPool new → Grows old new → id < length old.nodes → again < length new.nodes
    → dependency place t ≡ Ok (text_tree old id) → dependency place (text (text_tree old id)) ≡ Ok (text_tree new again) → again ≡ id
printed_same old new place t id again p g h k e f =
    let read = printed_again (stands_at place) t (text_tree old id) e in
    let trees : text_tree new again ≡ text_tree old id = same (text_tree new again) (text_tree old id) (sym f ∙ read) in
    trees_differ new p again id k (omega (arith, g.nodes)) (trees ∙ sym (g.trees id h))
  where
    given : Dep (List ℕ) → Result (Dep (List ℕ)) DepFault
    given d = Ok d

    same : (a b : Dep (List ℕ)) → given a ≡ given b → a ≡ b
    same a b e = cc
