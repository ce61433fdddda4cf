-- A conflict whose ways out are looked for.
use Rattle.std.specs.Prelude.{◌≡◌, true}
use Rattle.std.specs.List.{list_all}
use Rattle.solv_core.specs.Cores.{CoreOf}
use Rattle.solv_questions.specs.Questions.{Request}
use Rattle.solv_remedy.specs.Inner.Conflicts.{IsSettled}
use Rattle.solv_remedy.specs.Inner.Runs.{IsOf}
use Rattle.solv_remedy.specs.Inner.Trying.{is_off_in}
use Rattle.solv_remedy.specs.declared.setting.Setting.{Setting}
use Rattle.solv_remedy.specs.declared.smallest.Conflict.{Conflict}

-- a settled conflict, whose rules may be dropped
pub record IsOpen (s : Setting) (core : CoreOf) (c : Conflict) : Type 0 where
  pub settled : (r : Request) × (IsOf r s core × IsSettled r core c)
  pub droppable : list_all (is_off_in s.fixed.now) c.rules ≡ true
