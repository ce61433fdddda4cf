-- What the status of a run says of what was due, and of what was printed.
use Rattle.std.proofs.Common.{◌≡◌, ◌≢◌, ◌<◌, ◌⊎◌, Bool, true, false, sym, ◌∙◌, arith, inl, inr}
use Rattle.solv_io.specs.declared.status.Status.{Status}
use Rattle.solv_io.specs.declared.status.Status.TheVariants as status
use Rattle.solv_said.specs.Runs.{SinkRun, WroteAll, HasWriteFault, IsSaid, whole, cut_off}
use Rattle.solv_said.specs.declared.dues.Due.{Due}

-- a status that is due, or a write fault
pub status_of : (due : Due) (given : Status) (out err : SinkRun) → IsSaid due given out err → (given ≡ due.status) ⊎ ((given ≡ status.WriteFault) × HasWriteFault out err)
status_of due given out err (whole s o e) = inl s
status_of due given out err (cut_off s f o e) = inr (s, f)

-- a write fault takes the place of the status
pub fault_of : (due : Due) (given : Status) (out err : SinkRun) → due.status ≢ status.WriteFault → IsSaid due given out err → given ≡ status.WriteFault → HasWriteFault out err
fault_of due given out err other (whole s o e) h = absurd (other (sym s ∙ h))
fault_of due given out err other (cut_off s f o e) h = f

pub out_fault_of : (due : Due) (given : Status) (out err : SinkRun) → IsSaid due given out err → out.faults_before < out.faults_after → given ≡ status.WriteFault
out_fault_of due given out err (whole s o e) h = let same = o.no_fault in absurd (omega arith)
out_fault_of due given out err (cut_off s f o e) h = s

pub err_fault_of : (due : Due) (given : Status) (out err : SinkRun) → IsSaid due given out err → err.faults_before < err.faults_after → given ≡ status.WriteFault
err_fault_of due given out err (whole s o e) h = let same = e.no_fault in absurd (omega arith)
err_fault_of due given out err (cut_off s f o e) h = s

-- the due text on `err` and on `out`, where no fault takes the status
pub err_text_of : (due : Due) (given : Status) (out err : SinkRun) → IsSaid due given out err → given ≢ status.WriteFault → WroteAll err due.err
err_text_of due given out err (whole s o e) h = e
err_text_of due given out err (cut_off s f o e) h = absurd (h s)

pub out_text_of : (due : Due) (given : Status) (out err : SinkRun) → IsSaid due given out err → given ≢ status.WriteFault → WroteAll out due.out
out_text_of due given out err (whole s o e) h = o
out_text_of due given out err (cut_off s f o e) h = absurd (h s)

-- a status that comes, and is no write fault, is due
pub due_status : (due : Due) (given : Status) (out err : SinkRun) (t : Status) → IsSaid due given out err → t ≢ status.WriteFault → given ≡ t → due.status ≡ t
due_status due given out err t r calm h = elim (status_of due given out err r) [ inl s ↦ sym s ∙ h | inr w ↦ absurd (calm (sym h ∙ w.0)) ]

-- without a fault of a sink the status is the one that is due
pub calm_status : (due : Due) (given : Status) (out err : SinkRun) → IsSaid due given out err → (HasWriteFault out err → ⊥) → given ≡ due.status
calm_status due given out err r calm = elim (status_of due given out err r) [ inl s ↦ s | inr w ↦ absurd (calm w.1) ]

-- a status that is due, or a write fault
pub or_write_fault : (due : Due) (given : Status) (out err : SinkRun) (t : Status) → due.status ≡ t → IsSaid due given out err → (given ≡ t) ⊎ (given ≡ status.WriteFault)
or_write_fault due given out err t is r = elim (status_of due given out err r) [ inl s ↦ inl (s ∙ is) | inr w ↦ inr w.0 ]

-- where no sink takes memory, none runs out of it
pub none_takes : {A : Type 0} (o e : Bool) → (o ≡ true) ⊎ (e ≡ true) → o ≡ false → e ≡ false → A
none_takes o e (inl h) a b = absurd (let clash = sym h ∙ a in cc)
none_takes o e (inr h) a b = absurd (let clash = sym h ∙ b in cc)
