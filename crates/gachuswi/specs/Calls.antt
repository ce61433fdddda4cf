-- What the calls do that a program in C makes.
use Rattle.std.specs.Prelude.{ℕ, ◌≡◌, ◌≤◌, ◌&&◌, false, ℤ, pos, List, [], ◌++◌, take, drop, length, Option, Some, None}
use Rattle.std.specs.Str.{IsUtf8}
use Rattle.solv_io.specs.Inner.Statuses.{status_number}
use Rattle.solv_lent.specs.declared.lent_file.LentFile.{LentFile}
use Rattle.solv_embed.specs.Runs.{IsLentRun}
use Rattle.solv_embed.specs.declared.runs.Outcome.{Outcome}
use Rattle.gachuswi.specs.Asked.{asked}
use Rattle.gachuswi.specs.declared.asking.Options.{Options}

-- what a call answers besides the statuses of runs: memory ran out, or the call was made wrongly
abbrev pub no_memory : ℤ
no_memory = pos 6

abbrev pub misused : ℤ
misused = pos 8

-- the texts and the status of an answer; where there is none the texts are empty
abbrev pub out_of : Option Outcome → List ℕ
out_of None = []
out_of (Some outcome) = outcome.out

abbrev pub err_of : Option Outcome → List ℕ
err_of None = []
err_of (Some outcome) = outcome.err

abbrev pub status_of : Option Outcome → ℤ
status_of None = misused
status_of (Some outcome) = pos (status_number outcome.status)

-- the caller's room after the first bytes of a text were copied there, as many as it holds
abbrev pub filled : List ℕ → List ℕ → List ℕ
filled text room = take (length room) text ++ drop (length text) room

module _ (files : List LentFile) (script : List ℕ) (options : Options) where
  -- a run of the script is kept, and this is its status
  pub record IsKeptRun (kept : Option Outcome) (code : ℤ) : Type 0 where
    pub outcome : Outcome
    pub is_run : IsLentRun files (asked script options) outcome
    pub is_kept : kept ≡ Some outcome
    pub status : code ≡ status_of kept

  -- the script's name is a text, the budget is not too great, and not both proofs and the script are asked for
  pub record MayRun : Type 0 where
    pub name : IsUtf8 script
    pub budget : options.budget ≤ 1000000
    pub one_output : (options.proves && options.writes) ≡ false

  -- a call of `gachuswi_run`: it may run, and does; or it may, but memory runs out; or it may not. The last two leave what was kept.
  pub data IsRunCall (old new : Option Outcome) (code : ℤ) : Type 0 where
    ran : MayRun → IsKeptRun new code → IsRunCall old new code
    ran_out : MayRun → new ≡ old → code ≡ no_memory → IsRunCall old new code
    refused : (MayRun → ⊥) → new ≡ old → code ≡ misused → IsRunCall old new code
