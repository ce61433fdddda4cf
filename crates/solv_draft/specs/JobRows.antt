-- Flags and jobs that a caller gives.
use Rattle.std.specs.Prelude.{ℕ, ◌&&◌, ◌==◌, Bool, List, map, nat_le, nat_lt, if◌then◌else◌}
use Rattle.std.specs.List.{list_all}
use Rattle.solv_pool.specs.declared.jobs.Action.{Action}
use Rattle.solv_pool.specs.declared.jobs.Action.TheVariants.{Install, Erase, Update, Distupgrade, Lock, Verify, Multiversion, AllowUninstall, Favor, Disfavor, UserInstalled, Noop}
use Rattle.solv_pool.specs.declared.jobs.Choice.{Choice}
use Rattle.solv_pool.specs.declared.jobs.Choice.TheVariants.{All, OneOf}
use Rattle.solv_pool.specs.declared.jobs.Job.{Job}
use Rattle.solv_script.specs.declared.scripts.Script.{Script}
use Rattle.solv_pool.specs.declared.tasks.Flags.{Flags}
use Rattle.solv_draft.specs.declared.flag_row.FlagRow.{FlagRow}
use Rattle.solv_draft.specs.declared.job_row.JobRow.{JobRow}

-- the action of a number: 0 to 11, in the order of the actions
abbrev pub action_of : ℕ → Action
action_of number =
    if number == 0 then Install
    else (if number == 1 then Erase
    else (if number == 2 then Update
    else (if number == 3 then Distupgrade
    else (if number == 4 then Lock
    else (if number == 5 then Verify
    else (if number == 6 then Multiversion
    else (if number == 7 then AllowUninstall
    else (if number == 8 then Favor
    else (if number == 9 then Disfavor
    else (if number == 10 then UserInstalled
    else Noop))))))))))

-- the number of a package, where there are so many; the system is none
abbrev pub is_number_of : ℕ → ℕ → Bool
is_number_of count pack = nat_lt 0 pack && nat_le pack count

-- the action is one, and each number is that of a package
abbrev pub is_row : ℕ → JobRow → Bool
is_row count row = nat_lt row.action 12 && list_all (is_number_of count) row.packs.now

abbrev pub are_rows : ℕ → List JobRow → Bool
are_rows count rows = list_all (is_row count) rows

-- what a job selects: all packages, or these
abbrev pub choice_of : JobRow → Choice
choice_of row = if row.all then All else OneOf row.packs.now

-- a job
abbrev pub job_of : JobRow → Job
job_of row = record { action = action_of row.action; choice = choice_of row; forcebest = row.forcebest; cleandeps = row.cleandeps; text = row.text.now }

-- flags
abbrev pub flags_of : FlagRow → Flags
flags_of row = record {
  allow_downgrade = row.allow_downgrade;
  allow_name_change = row.allow_name_change;
  allow_arch_change = row.allow_arch_change;
  allow_vendor_change = row.allow_vendor_change;
  allow_uninstall = row.allow_uninstall;
  ignore_recommended = row.ignore_recommended;
  no_infarch_check = row.no_infarch_check;
}

-- a script with these flags and jobs in place of those of its first round
abbrev pub with_rows : Script → FlagRow → List JobRow → Script
with_rows script flags rows = record script { task = record script.task { flags = flags_of flags; jobs = map job_of rows } }
