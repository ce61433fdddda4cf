use Rattle.std.proofs.Common.{rules, refl, length, ◌≡◌, ◌++◌, ◌∷◌, [], slice_get, Some}
use Rattle.std.proofs.lemmas.Option.{slice_get_read}
use Rattle.solv_prov.proofs.Placing.{among_more, put_more, put_past}
use Rattle.solv_prov.proofs.seeking.put_run.Goals as goal
use Rattle.solv_prov.proofs.seeking.put_run.Goals.{then-at-order+in_ok-push, else-at-order}

pub loop-at-preserved : goal.loop-at-preserved
loop-at-preserved c = elim c.if-at-order.branch [
  | then-at-order+in_ok-push w ↦
      let z = w.index-order-at.result in
      let there : slice_get c.args.order.now c.loop-at.at ≡ Some z = slice_get_read c.args.order.now (length c.args.order.now) c.loop-at.at z refl (search rules) w.index-order-at.is in
      let is : c.if-at-order.places.items ≡ c.loop-at.places.items ++ z.place ∷ [] = search rules in
      record {
        kept = rw is (λ p h. among_more c.loop-at.places.items z.place p (c.loop-at.invariant.kept p h));
        put = rw is (put_more c.args.order.now c.args.from c.loop-at.at c.loop-at.places.items z there c.loop-at.invariant.put);
      }
  | else-at-order w ↦ record {
    kept = rw w.places-is c.loop-at.invariant.kept;
    put = rw w.places-is (put_past c.args.order.now c.args.from c.loop-at.at c.loop-at.places.items (search rules) c.loop-at.invariant.put);
  }
]
