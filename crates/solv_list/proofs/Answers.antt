-- What is said of an answer or an option.
use Rattle.std.proofs.Common.{Bool, Err, List, Ok, Option, Result, Some, false, rules, true, ◌≡◌}
use Rattle.std.specs.Prelude.{IfErr, IfOk, if◌then◌else◌, ℤ}
use Rattle.std.specs.Result.{OnOk}

pub one_clause : (o : Option (List ℤ)) (c d : List ℤ) → o ≡ Some c → o ≡ Some d → c ≡ d
one_clause o c d e f = cc

pub ok_map : {T E : Type 0} (P Q : T → Type 0) (r : Result T E) → ((x : T) → P x → Q x) → IfOk r P → IfOk r Q
ok_map P Q (Ok x) f h = f x h
ok_map P Q (Err e) f h = h

pub where_done : {T E : Type 0} (r : Result T E) (P : Type 0) → P → OnOk r P
where_done (Ok x) P p = p
where_done (Err e) P p = search rules

pub one_or : {B E : Type 0} (P : B → Type 0) (b : Bool) (q r : Result B E) → IfOk q P → IfOk r P → IfOk (if b then q else r) P
one_or P true q r h k = h
one_or P false q r h k = k

pub either : {A E : Type 0} (P : E → Type 0) (b : Bool) (q r : Result A E) → IfErr q P → IfErr r P → IfErr (if b then q else r) P
either P true q r h k = h
either P false q r h k = k

pub on_ok : {T E P Q : Type 0} (r : Result T E) → (P → Q) → OnOk r P → OnOk r Q
on_ok (Ok x) f h = f h
on_ok (Err e) f h = tt

pub if_err : {T E : Type 0} {P Q : E → Type 0} (r : Result T E) → ((e : E) → P e → Q e) → IfErr r P → IfErr r Q
if_err (Ok x) f h = tt
if_err (Err e) f h = f e h
