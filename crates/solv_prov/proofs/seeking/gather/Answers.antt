use Rattle.solv_prov.proofs.Candidates.{all_there}
use Rattle.solv_prov.proofs.seeking.gather.Goals as goal

pub returns : goal.returns
returns c =
    all_there c.args.pool.now c.args.sought.now c.requires.sought c.standing_follows_the_order.ensures.matching c.requires.exact c.put_met.new.places.items
    (λ p h. c.in_ok-put_met.ensures.kept p (c.in_ok-put_run.ensures.kept p (rw (c.in_ok-places.ensures, c.deref.ensures.value) h)))
    (λ k y le lt there. c.in_ok-put_met.ensures.kept y.place (c.in_ok-put_run.ensures.put k y le lt (rw c.deref-2.ensures.value there))) c.in_ok-put_met.ensures.put
