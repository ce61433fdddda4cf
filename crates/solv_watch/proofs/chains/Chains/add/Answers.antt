use Rattle.std.proofs.Common.{◌≡◌, ℕ, List, sym, ap, ◌∙◌, subst, length, set, get_or, length-set, ◌+◌, ◌*◌}
use Rattle.solv_pack.specs.Inner.Literals.{place_of}
use Rattle.solv_watch.proofs.Chained.{added}
use Rattle.solv_watch.proofs.chains.Chains.add.Goals as goal
use Rattle.solv_list.proofs.Lists.{whole_write}

pub returns-clause-chained : goal.returns-clause-chained
returns-clause-chained c = λ count rules clause chained found wide two.
    let items : List ℕ = c.args.self.now.heads.items in
    let old : List ℕ = c.args.self.now.links.items in
    let r : ℕ = c.args.rule in
    let pa : ℕ = place_of c.args.first in
    let pb : ℕ = place_of c.args.second in
    let H : List ℕ → Type 0 = λ xs. c.hang_both.new.heads ≡ set (set xs pa (2 * r)) pb (2 * r + 1) in
    let heads : c.hang_both.new.heads ≡ set (set items pa (2 * r)) pb (2 * r + 1) = subst H c.as_mut_slice.ensures.value c.hang_both.ensures.heads in
    let L : List ℕ → List ℕ → Type 0 = λ xs ls. c.hang_both.new.links ≡ set (set ls (2 * r) (get_or xs pa 0)) (2 * r + 1) (get_or (set xs pa (2 * r)) pb 0) in
    let links : c.hang_both.new.links ≡ set (set old (2 * r) (get_or items pa 0)) (2 * r + 1) (get_or (set items pa (2 * r)) pb 0) =
    subst (λ ls. L items ls) c.as_mut_slice-2.ensures.value (subst (λ xs. L xs c.as_mut_slice-2.result.now) c.as_mut_slice.ensures.value c.hang_both.ensures.links) in
    let long : length c.hang_both.new.heads ≡ length items = ap (λ xs. length xs) heads ∙ length-set (set items pa (2 * r)) pb (2 * r + 1) ∙ length-set items pa (2 * r) in
    let many : length c.hang_both.new.links ≡ length old = ap (λ xs. length xs) links ∙ length-set (set old (2 * r) (get_or items pa 0)) (2 * r + 1) (get_or (set items pa (2 * r)) pb 0) ∙ length-set old (2 * r) (get_or items pa 0) in
    rw (whole_write c.hang_both.new.links old c.args.self.now.links.len many c.args.self.now.links.ok.0, whole_write c.hang_both.new.heads items c.args.self.now.heads.len long c.args.self.now.heads.ok.0)
    (rw (heads, links, c.add_pair.ensures.items) (added count r rules items old c.args.self.now.watched.items chained clause found c.args.first c.args.second wide two c.requires.first c.requires.second))
