use Rattle.std.proofs.Common.{◌≡◌, ◌<◌, ℕ, true, false, Some, sym, ◌∙◌, length, rules, arith, get_or}
use Rattle.std.specs.Prelude.{slice_get}
use Rattle.std.proofs.lemmas.Option.{slice_get-get_or}
use Rattle.solv_pool.specs.Prelude.{clause_true}
use Rattle.solv_trail.specs.Asked.{is_enabled}
use Rattle.solv_core.specs.Inner.Meeting.{set_by}
use Rattle.solv_core.proofs.MetFrom.{off, met, unmet}
use Rattle.solv_core.proofs.meeting.are_met.Goals as goal
use Rattle.solv_core.proofs.meeting.are_met.Goals.{else-enabled-owner-via-then-enabled-owner+else-not-is_met, else-enabled-owner-via-else-enabled-owner}

pub returns-then-not-is_met : goal.returns-then-not-is_met
returns-then-not-is_met c =
    let i = c.loop-clause.clause in
    let o : ℕ = get_or c.args.owners.now i 0 in
    let less : i < length c.args.owners.now = search rules in
    let of : slice_get c.args.owners.now i ≡ Some o = slice_get-get_or c.args.owners.now i 0 less in
    let on : is_enabled c.args.enabled.now o ≡ true = search rules in
    let is_off : clause_true (set_by c.args.inside.now) c.lits.result.now ≡ false = search rules in
    sym (unmet (set_by c.args.inside.now) c.args.enabled.now c.args.book.now.rules c.args.owners.now i o c.lits.result.now c.lits.ensures.held of on is_off) ∙ c.loop-clause.invariant

pub loop-clause-preserved : goal.loop-clause-preserved
loop-clause-preserved c =
    let i = c.loop-clause.clause in
    let o : ℕ = get_or c.args.owners.now i 0 in
    let less : i < length c.args.owners.now = search rules in
    let of : slice_get c.args.owners.now i ≡ Some o = slice_get-get_or c.args.owners.now i 0 less in
    let each : i < length c.args.book.now.rules = search rules in
    elim c.else-enabled-owner.branch [
      | else-enabled-owner-via-then-enabled-owner+else-not-is_met w ↦
          let on : is_enabled c.args.enabled.now o ≡ true = search rules in
          let true_ : clause_true (set_by c.args.inside.now) w.lits.result.now ≡ true = search rules in
          met (set_by c.args.inside.now) c.args.enabled.now c.args.book.now.rules c.args.owners.now i o w.lits.result.now w.lits.ensures.held of on true_ ∙ c.loop-clause.invariant
      | else-enabled-owner-via-else-enabled-owner w ↦
          let is_off : is_enabled c.args.enabled.now o ≡ false = search rules in
          off (set_by c.args.inside.now) c.args.enabled.now c.args.book.now.rules c.args.owners.now i o each of is_off ∙ c.loop-clause.invariant
    ]
