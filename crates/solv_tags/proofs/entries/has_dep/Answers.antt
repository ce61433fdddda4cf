use Rattle.std.proofs.Common.{refl, sym, arith}
use Rattle.std.proofs.lemmas.List.{length-take-le}
use Rattle.solv_tags.proofs.Noted.{any_parts}
use Rattle.solv_tags.proofs.entries.has_dep.Goals as goal

pub slice_bounds-is_dep-end : goal.slice_bounds-is_dep-end
slice_bounds-is_dep-end c = sym (length-take-le 32 c.args.deps.now (omega (arith, c.if-deps-le-FIRST.false)))

pub returns-then-is_dep : goal.returns-then-is_dep
returns-then-is_dep c = rw (any_parts c.args.dep 32 c.args.deps.now, ← c.is_dep-2.ensures, c.if-is_dep.true) refl

pub returns : goal.returns
returns c = rw (any_parts c.args.dep 32 c.args.deps.now, ← c.is_dep-2.ensures, c.if-is_dep.false, ← c.requires c.if-deps-le-FIRST.false, c.has.ensures, c.number_of.ensures) refl
