use Rattle.std.proofs.Common.{rules, ◌≡◌, ◌<◌, ◌∙◌, ap, length, sym, slice_get, Some, arith}
use Rattle.std.specs.Prelude.{slice_index}
use Rattle.std.proofs.lemmas.List.{get_or_read}
use Rattle.std.proofs.lemmas.Option.{slice_get-get_or}
use Rattle.solv_prov.specs.declared.capability.Provide.{Provide}
use Rattle.solv_prov.specs.Inner.Ranking.{meets_ranked, standing_by}
use Rattle.solv_prov.specs.Inner.Seeking.{offered}
use Rattle.solv_prov.proofs.Candidates.{met_ranked}
use Rattle.solv_prov.proofs.Placing.{holds_there}
use Rattle.solv_prov.proofs.seeking.is_met.Goals as goal

pub returns : goal.returns
returns c x here =
    let s = c.args.sought.now in
    let at = slice_index s.ranks.now.ranks.items c.args.place in
    let each = c.requires.sought.ranked.each in
    let ranked : c.args.place < length s.ranks.now.ranks.items = let within = c.requires.within in omega (arith, each, within) in
    let rank : c.index-2.result.now ≡ at = get_or_read s.ranks.now.ranks.items c.args.place c.index-2.result.now ranked c.index-2.ensures 0 in
    let below : c.index-2.result.now < length s.ranks.now.order.items = search rules in
    let there : slice_get (offered s) c.args.place ≡ Some c.index.result.now = slice_get-get_or (offered s) c.args.place c.index.result.now c.requires.within ∙ ap (λ z. Some z) (sym c.index.ensures) in
    let met : c.meets_ranked.result ≡ meets_ranked c.index.result.now.version s.wanted (standing_by s.cuts at) =
    c.meets_ranked.ensures ∙ ap (meets_ranked c.index.result.now.version s.wanted) (c.standing_at.ensures ∙ ap (standing_by s.cuts) rank) in
    holds_there (λ (z : Provide). c.meets_ranked.result ≡ meets_ranked z.version s.wanted (standing_by s.cuts at)) (offered s) c.args.place c.index.result.now x there met here
    ∙ met_ranked c.args.pool.now s c.requires.sought c.standing_follows_the_order.ensures.matching c.args.place x here (rw (← rank) below)
