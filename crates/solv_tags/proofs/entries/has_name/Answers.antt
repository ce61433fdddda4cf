use Rattle.std.proofs.Common.{refl, sym, arith}
use Rattle.std.proofs.lemmas.List.{length-take-le}
use Rattle.solv_tags.proofs.Noted.{any_parts}
use Rattle.solv_tags.proofs.entries.has_name.Goals as goal

pub slice_bounds-is_name-end : goal.slice_bounds-is_name-end
slice_bounds-is_name-end c = sym (length-take-le 32 c.args.names.now (omega (arith, c.if-names-le-FIRST.false)))

pub returns-then-is_name : goal.returns-then-is_name
returns-then-is_name c = rw (any_parts c.args.name 32 c.args.names.now, ← c.is_name-2.ensures, c.if-is_name.true) refl

pub returns : goal.returns
returns c = rw (any_parts c.args.name 32 c.args.names.now, ← c.is_name-2.ensures, c.if-is_name.false, ← c.requires c.if-names-le-FIRST.false, c.has.ensures, c.name_number.ensures) refl
