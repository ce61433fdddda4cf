use Rattle.std.proofs.Common.{rules, arith, ap, sym, ◌≢◌, ◌≤◌, ◌<◌, ◌+◌, ◌∙◌, ◌++◌, ℕ, length, get_or}
use Rattle.solv_prov.specs.Inner.Seeking.{offered}
use Rattle.solv_prov.proofs.Steps.{AreUnmet, adds_rest, unmet_to, ahead_more, unmet_rest, meeting_skipped, named_skipped}
use Rattle.solv_prov.proofs.by_relation.add_candidates.Goals as goal
use Rattle.solv_prov.proofs.by_relation.add_candidates.Goals.{then-next-place+then-place-len+in_ok-add_at, else-next-place, else-next-place-via-then-next-place+else-place-len, else-next-place-via-else-next-place}

pub loop-place-preserved : goal.loop-place-preserved
loop-place-preserved c = elim c.if-next-place.branch [
  | then-next-place+then-place-len+in_ok-add_at w ↦
      let pool = c.args.pool.now in
      let s = c.args.sought.now in
      let place = get_or c.args.places.now c.loop-place.place-index 0 in
      let from = c.loop-place.next in
      let i = c.loop-place.invariant in
      let le : from ≤ place = w.if-next-place.true in
      let within : place < length (offered s) = search rules in
      let unmet : AreUnmet pool s from place = unmet_to pool s c.args.places.now c.requires.candidates.rise from c.loop-place.place-index i.ahead c.loop-place-test.true in
      let adds = w.in_ok-add_at.ensures in
      record {
        within = rw w.next-is (omega (arith, within));
        ahead = rw w.next-is (ahead_more pool s c.args.places.now c.requires.candidates.rise from c.loop-place.place-index i.ahead (place + 1) c.loop-place-test.true (omega (arith, le)) (λ p past lt same. omega (arith, past, same)));
        providers_closed = rw w.made-is (adds.providers_closed ∙ i.providers_closed);
        named_closed = rw w.made-is (adds.named_closed ∙ i.named_closed);
        providers_left =
            rw (w.made-is, w.last-is, w.next-is)
            (adds.providers ∙ ap (λ l. c.loop-place.made.providers.open_list ++ l) (sym (meeting_skipped pool s c.loop-place.last from place le (omega (arith, within)) unmet)) ∙ i.providers_left);
        named_left = rw (w.made-is, w.next-is) (adds.named ∙ ap (λ l. c.loop-place.made.named.open_list ++ l) (sym (named_skipped pool s from place le (omega (arith, within)) unmet)) ∙ i.named_left);
      }
  | else-next-place w ↦
      let pool = c.args.pool.now in
      let s = c.args.sought.now in
      let place = get_or c.args.places.now c.loop-place.place-index 0 in
      let from = c.loop-place.next in
      let i = c.loop-place.invariant in
      let apart : (p : ℕ) → from ≤ p → p < length (offered s) → place ≢ p = λ p past lt same. elim w.else-next-place.branch [
        | else-next-place-via-then-next-place+else-place-len v ↦ let beyond : length (offered s) ≤ place = search rules in omega (arith, beyond, lt, same)
        | else-next-place-via-else-next-place v ↦ let before : place < from = v.if-next-place.false in omega (arith, before, past, same)
      ] in
      record {
        within = rw w.next-is i.within;
        ahead = rw w.next-is (ahead_more pool s c.args.places.now c.requires.candidates.rise from c.loop-place.place-index i.ahead from c.loop-place-test.true (omega arith) apart);
        providers_closed = rw w.made-is i.providers_closed;
        named_closed = rw w.made-is i.named_closed;
        providers_left = rw (w.made-is, w.last-is, w.next-is) i.providers_left;
        named_left = rw (w.made-is, w.next-is) i.named_left;
      }
]

pub returns : goal.returns
returns c =
    let i = c.loop-place.invariant in
    adds_rest c.args.pool.now c.args.sought.now c.args.made.now c.loop-place.made c.loop-place.last c.loop-place.next i.within
    (unmet_rest c.args.pool.now c.args.sought.now c.args.places.now c.requires.candidates.rise c.loop-place.next c.loop-place.place-index i.ahead (omega arith)) i.providers_closed i.named_closed i.providers_left i.named_left
