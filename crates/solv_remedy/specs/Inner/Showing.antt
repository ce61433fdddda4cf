-- Sets that may show that rules are needed.
use Rattle.std.specs.Prelude.{◌≡◌, true}
use Rattle.std.specs.List.{list_all}
use Rattle.solv_pool.specs.Prelude.{is_fact, is_over}
use Rattle.solv_trail.specs.Asked.{set_of}
use Rattle.solv_core.specs.GoodTrails.{facts_of}
use Rattle.solv_core.specs.declared.verdicts.Trail.{Trail}
use Rattle.solv_core.specs.Inner.Cores.{LearningCore}
use Rattle.solv_core.specs.Inner.Meeting.{set_by}
use Rattle.solv_decide.specs.Deciding.{meets_all}
use Rattle.solv_questions.specs.Questions.{Request}
use Rattle.solv_remedy.specs.Inner.Runs.{IsOf}
use Rattle.solv_remedy.specs.declared.setting.Setting.{Setting}
use Rattle.solv_remedy.specs.declared.showing.Sets.{Sets}

-- each of them meets the fixed rules of the core's task
abbrev pub AreGoodSets : Setting → LearningCore → Sets → Type 0
AreGoodSets s core sets = (r : Request) → IsOf r s core.made → list_all (λ table. meets_all r s.fixed.now (set_by table.items)) sets.tables.items ≡ true

-- so does the set of this trail, which is over the task's packages
abbrev pub HasGoodSet : Setting → LearningCore → Trail → Type 0
HasGoodSet s core trail = (r : Request) → IsOf r s core.made → (is_over s.phases.now.packages (facts_of trail.events) ≡ true) × (meets_all r s.fixed.now (set_of (is_fact (facts_of trail.events))) ≡ true)
