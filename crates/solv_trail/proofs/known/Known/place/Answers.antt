use Rattle.std.proofs.Common.{◌≡◌, ◌<◌, ◌∙◌, true, ap, vec_len, length, get_or, arith}
use Rattle.std.specs.Prelude.{nat_abs}
use Rattle.std.proofs.lemmas.List.{get_or_read}
use Rattle.solv_pool.specs.Prelude.{is_fact}
use Rattle.solv_trail.proofs.Holding.{placed, package_placed, placed_before}
use Rattle.solv_trail.proofs.known.Known.place.Goals as goal
use Rattle.solv_trail.proofs.known.Known.place.Goals.{After-package}

known : (c : After-package) → is_fact c.self.inside.lits.items c.args.lit ≡ true
known c = rw (← c.self.view_is) at c.requires

inside : (c : After-package) → c.package.result < length c.self.inside.places.items
inside c = let f = c.self.inside in rw c.package.ensures.number (package_placed f.count f.values.items f.places.items f.lits.items f.reasons.items f.marks.items c.self.invariant.held c.args.lit (known c))

pub index-requires : goal.index-requires
index-requires c =
    let d = (goal.at.index-requires c).After-package in
    let h : c.package.result < length c.self.inside.places.items = inside d in
    let long : vec_len c.self.inside.places ≡ length c.self.inside.places.items = c.self.inside.places.ok.0 in
    omega arith

pub returns-clause-within : goal.returns-clause-within
returns-clause-within c =
    let d = (goal.at.returns-clause-within c).After-package in
    let f = c.self.inside in
    let e : c.index.result.now ≡ get_or f.places.items (nat_abs c.args.lit) 0 = get_or_read f.places.items c.package.result c.index.result.now (inside d) c.index.ensures 0 ∙ ap (λ v. get_or f.places.items v 0) c.package.ensures.number in
    rw (← c.self.view_is, e) ((placed f.count f.values.items f.places.items f.lits.items f.reasons.items f.marks.items c.self.invariant.held c.args.lit (known d)).0)

pub returns-clause-found : goal.returns-clause-found
returns-clause-found c =
    let d = (goal.at.returns-clause-found c).After-package in
    let f = c.self.inside in
    let e : c.index.result.now ≡ get_or f.places.items (nat_abs c.args.lit) 0 = get_or_read f.places.items c.package.result c.index.result.now (inside d) c.index.ensures 0 ∙ ap (λ v. get_or f.places.items v 0) c.package.ensures.number in
    rw (← c.self.view_is, e) ((placed f.count f.values.items f.places.items f.lits.items f.reasons.items f.marks.items c.self.invariant.held c.args.lit (known d)).1)

pub returns-clause-before : goal.returns-clause-before
returns-clause-before c =
    let d = (goal.at.returns-clause-before c).After-package in
    let f = c.self.inside in
    let e : c.index.result.now ≡ get_or f.places.items (nat_abs c.args.lit) 0 = get_or_read f.places.items c.package.result c.index.result.now (inside d) c.index.ensures 0 ∙ ap (λ v. get_or f.places.items v 0) c.package.ensures.number in
    rw (← c.self.view_is, e) (placed_before f.count f.values.items f.places.items f.lits.items f.reasons.items f.marks.items c.self.invariant.held c.args.lit (known d))
