-- No conflict less.
use Rattle.std.specs.Prelude.{Result, Ok, Err, OnOk}
use Rattle.std.proofs.Common.{◌≤◌, Bool, true, false, List, arith}
use Rattle.solv_remedy.specs.Inner.Conflicts.{probe_runs, put_in, AreMore}
use Rattle.solv_remedy.specs.declared.smallest.Conflict.{Conflict}
use Rattle.solv_remedy.proofs.Beside.{count_put, long_put}

pub more_none : (cs : List Conflict) → AreMore cs cs
more_none cs = record { conflicts = omega arith; listed = omega arith }

pub more_put : (c : Conflict) (cs : List Conflict) → AreMore cs (put_in c cs)
more_put c cs =
    let one = count_put c cs in
    let long = long_put c cs in
    record { conflicts = omega (arith, one); listed = omega (arith, long) }

pub more_then : (old mid new : List Conflict) → AreMore old mid → AreMore mid new → AreMore old new
more_then old mid new a b =
    let c = a.conflicts in
    let d = b.conflicts in
    let e = a.listed in
    let f = b.listed in
    record { conflicts = omega (arith, c, d); listed = omega (arith, e, f) }

pub few_probes : (probed : Bool) → probe_runs probed ≤ 2
few_probes true = omega arith
few_probes false = omega arith

pub on_then : {V E : Type 0} → (o : Result V E) (P Q : Type 0) → OnOk o P → (P → Q) → OnOk o Q
on_then (Ok v) P Q h f = f h
on_then (Err e) P Q h f = tt
