use Rattle.std.proofs.Common.{◌≡◌, true, refl}
use Rattle.solv_over.proofs.lemmas_hold.Goals as goal
use Rattle.solv_over.proofs.Fair.{fair_plain, fair_untouched}
use Rattle.solv_over.proofs.Numbered.{rules_beside}
use Rattle.solv_over.proofs.Standing.{stand_beside}
use Rattle.solv_over.proofs.Taking.{take_plain, take_same, break_same}
use Rattle.solv_over.proofs.Asking.{asked_inside}
use Rattle.solv_over.proofs.Alike.{guide_alike}
use Rattle.solv_over.proofs.Placing.{stand, thin_like}
use Rattle.solv_over.proofs.Thinning.{made_among}
use Rattle.solv_over.proofs.Whole.{nothing_out, solution_of_all, ledger_of_all, refuted_of_all, rested_of_all}
use Rattle.solv_over.proofs.Refuted.{leaves_at}
use Rattle.solv_over.proofs.Back.{place_back, drop_same, rises_at}
use Rattle.solv_over.proofs.Unmade.{unmade_fixed, unmade_met}
use Rattle.solv_over.proofs.Flagging.{first_spread, first_run, fixed_spread, fixed_runs, few_same, flags_like, spread_flags}
use Rattle.solv_over.proofs.Listed.{listed_back, problem_of_all, solution_of_list, list_of_all}

pub returns : goal.returns
returns c = refl
