-- What runs leave of a core and its ledger, one after another.
use Rattle.std.proofs.Common.{◌≡◌, ◌+◌, ◌≤◌, ℕ, false, refl, sym, ◌∙◌, subst, arith}
use Rattle.solv_core.specs.Cores.{CoreOf}
use Rattle.solv_core.specs.Inner.Cores.{LearningCore}
use Rattle.solv_core.specs.declared.ledger.Ledger.{Ledger}
use Rattle.solv_questions.specs.Questions.{Request}
use Rattle.solv_remedy.specs.Inner.Runs.{is_spent, IsOf, MayRun, HasRun}
use Rattle.solv_remedy.specs.declared.setting.Setting.{Setting}
use Rattle.solv_remedy.proofs.Ledgers.{runs_none, runs_then, runs_within, unspent_by}

pub of_same : (r : Request) (s : Setting) (core mid : CoreOf) → mid ≡ core → IsOf r s core → IsOf r s mid
of_same r s core mid same up = let P : CoreOf → Type 0 = λ v. IsOf r s v in subst P (sym same) up

module _ {s : Setting} where
  pub ran_none : {core : LearningCore} {ledger : Ledger} → MayRun s core ledger → HasRun s 0 core core ledger ledger
  ran_none may = record {
    core = refl;
    held = may.held;
    runs = runs_none _ _ _ _ (let few = may.unspent in omega (arith, few));
  }

  pub ran_within : {n most : ℕ} {core after : LearningCore} {old new : Ledger} → n ≤ most → HasRun s n core after old new → HasRun s most core after old new
  ran_within few a = record {
    core = a.core;
    held = a.held;
    runs = runs_within _ _ _ _ _ _ _ few a.runs;
  }

  pub ran_then : {n m most : ℕ} {core mid after : LearningCore} {old middle new : Ledger} → n + m ≤ most → HasRun s n core mid old middle → HasRun s m mid after middle new → HasRun s most core after old new
  ran_then few a b = record {
    core = b.core ∙ a.core;
    held = b.held;
    runs = runs_then _ _ _ _ a.core _ _ _ few _ _ _ a.runs b.runs;
  }

  -- no run was made, however many may be
  pub ran_not : {most : ℕ} {core : LearningCore} {ledger : Ledger} → MayRun s core ledger → HasRun s most core core ledger ledger
  ran_not may = ran_within (omega arith) (ran_none may)

  -- where the ledger is not spent, more may be made
  pub may_still : {n : ℕ} {core after : LearningCore} {old new : Ledger} → MayRun s core old → HasRun s n core after old new → false ≡ is_spent new → MayRun s after new
  may_still {n} {core} {after} {old} {new} may a open_ = record {
    set_up = (may.set_up.0, of_same may.set_up.0 s core.made after.made a.core may.set_up.1);
    held = a.held;
    budget = (let same = a.runs.budget in let most = may.budget in omega (arith, same, most));
    unspent = unspent_by new open_ a.runs.few;
  }
