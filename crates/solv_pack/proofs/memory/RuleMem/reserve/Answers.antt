use Rattle.std.proofs.Common.{◌∙◌, ap, arith}
use Rattle.std.proofs.lemmas.List.{length-map}
use Rattle.solv_pack.specs.Inner.Layout.{words_of}
use Rattle.solv_pack.proofs.Changes.{all_grown}
use Rattle.solv_pack.proofs.memory.RuleMem.reserve.Goals as goal

pub invariant_of-self-2 : goal.invariant_of-self-2
invariant_of-self-2 c =
    let h = c.self.invariant in
    let g = c.in_ok-make_room.ensures in
    let old = length-map c.self.inside.blocks.items (λ b. b.items) in
    let new = length-map c.make_room.new.blocks.items (λ b. b.items) in
    rw c.reserve.ensures.items (record {
      inside = (all_grown (words_of c.self.inside.blocks.items) (words_of c.make_room.new.blocks.items) c.self.inside.places.items g.grows h.inside).1;
      behind = h.behind;
      few = h.few;
      few_blocks = omega (arith, g.few (omega (arith, h.few_blocks, old)), new);
      lits_fit = λ _. g.room;
      places_fit = λ _. omega (arith, c.in_ok-reserve.ensures.ok, c.reserve.ensures.len, c.self.inside.places.ok.0);
    })

pub returns-clause-rules : goal.returns-clause-rules
returns-clause-rules c =
    rw c.reserve.ensures.items ((all_grown (words_of c.self.inside.blocks.items) (words_of c.make_room.new.blocks.items) c.self.inside.places.items c.in_ok-make_room.ensures.grows c.self.invariant.inside).0 ∙ ap (λ m. m.rules) c.self.view_is)
