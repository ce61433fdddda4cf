-- What the status of a run says where no script was read.
use Rattle.std.proofs.Common.{ℕ, ◌≡◌, ◌≢◌, ◌<◌, List, [], ◌∷◌, Option, Some, refl, sym, ◌∙◌, arith}
use Rattle.solv_io.specs.declared.status.Status.{Status}
use Rattle.solv_io.specs.declared.status.Status.TheVariants as status
use Rattle.solv_script.specs.FileRuns.{FilesRun}
use Rattle.solv_said.specs.Dues.{bad_line_due, read_fault_due}
use Rattle.solv_said.specs.Explained.{IsBad, IsReadFault}
use Rattle.solv_said.specs.Fetches.{IsUnreadDue, not_read, refused, stopped}
use Rattle.solv_said.specs.Runs.{SinkRun, IsSaid}
use Rattle.solv_said.specs.declared.dues.Due.{Due}
use Rattle.solv_said.proofs.Sayings.{due_status, err_text_of}

module _ (named : Option (List ℕ)) (files : FilesRun) (program : List ℕ) where
  -- it is that of a bad line or of a read fault
  pub unread_other : (due : Due) → IsUnreadDue named files program due → (t : Status) → status.Refused ≢ t → status.ReadFault ≢ t → due.status ≢ t
  unread_other due (not_read file a b c) t x y h = y h
  unread_other due (stopped file bytes name a b) t x y h = y h
  unread_other due (refused file bytes fetched b n a f) t x y h = x h

  -- a file is named
  pub named_of : (due : Due) → IsUnreadDue named files program due → (file : List ℕ) × (named ≡ Some file)
  named_of due (not_read file a b c) = (file, a)
  named_of due (stopped file bytes name a b) = (file, a.is_named)
  named_of due (refused file bytes fetched b n a f) = (file, n.is_named)

  -- where the count of the files rose, it is that of a read fault
  pub read_fault_due_of : (due : Due) → IsUnreadDue named files program due → files.faults_before < files.faults_after → due.status ≡ status.ReadFault
  read_fault_due_of due (not_read file a b c) h = refl
  read_fault_due_of due (stopped file bytes name a b) h = refl
  read_fault_due_of due (refused file bytes fetched b n a f) h = let c = a.no_fault in absurd (omega (arith, c, h))

  -- what the two statuses say
  pub bad_of : (due : Due) → IsUnreadDue named files program due → (given : Status) (out err : SinkRun) → IsSaid due given out err → given ≡ status.Refused → IsBad program named files err
  bad_of due (not_read file a b c) given out err r h = absurd (let x = due_status (read_fault_due program file) given out err status.Refused r (λ e. cc) h in cc)
  bad_of due (stopped file bytes name a b) given out err r h = absurd (let x = due_status (read_fault_due program name) given out err status.Refused r (λ e. cc) h in cc)
  bad_of due (refused file bytes fetched b n a f) given out err r h = record {
    file = file;
    bytes = bytes;
    fetched = fetched;
    bad = b;
    is_named = n;
    asked = a;
    first_bad = f;
    line = err_text_of (bad_line_due program b) given out err r (λ e. let clash = sym h ∙ e in cc);
  }

  pub read_fault_of : (due : Due) → IsUnreadDue named files program due → (given : Status) (out err : SinkRun) → IsSaid due given out err → given ≡ status.ReadFault → IsReadFault program files err
  read_fault_of due (not_read file a b c) given out err r h = record { before = []; name = file; asked = b; rose = c; line = err_text_of (read_fault_due program file) given out err r (λ e. let clash = sym h ∙ e in cc) }
  read_fault_of due (stopped file bytes name a b) given out err r h =
      record { before = file ∷ b.before; name = name; asked = b.asked; rose = b.rose; line = err_text_of (read_fault_due program name) given out err r (λ e. let clash = sym h ∙ e in cc) }
  read_fault_of due (refused file bytes fetched b n a f) given out err r h = absurd (let x = due_status (bad_line_due program b) given out err status.ReadFault r (λ e. cc) h in cc)
