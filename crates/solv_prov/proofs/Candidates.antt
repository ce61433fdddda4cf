-- A provide at a rank meets what its standing says, and candidates are all that meet.
use Rattle.std.proofs.Common.{◌≡◌, ◌≤◌, ◌<◌, ℕ, Bool, true, false, List, length, slice_get, Some, refl, sym, ap, ◌∙◌, arith}
use Rattle.std.specs.Prelude.{slice_index, ◌&&◌, not, nat_lt}
use Rattle.std.proofs.Math.Bool.{or-false}
use Rattle.std.proofs.lemmas.Bool.{eqb-true, true≢false, and_parts}
use Rattle.std.proofs.lemmas.Bool.Decides.{nat_tests}
use Rattle.std.proofs.lemmas.Option.{slice_get_within}
use Rattle.solv_base.specs.Evr.{parts}
use Rattle.solv_base.specs.Inner.Standings.{standing, meets_by_standing, MeetsByStanding}
use Rattle.solv_base.specs.declared.version.placing.Standing.{Standing}
use Rattle.solv_base.specs.declared.version.placing.Standing.TheVariants.{Below, Bare, Earlier, Alike, Released, Above}
use Rattle.solv_pool.specs.Prelude.{Cmp, Held, text_at, is_among}
use Rattle.solv_list.proofs.Lists.{all_at, some_there}
use Rattle.solv_prov.specs.declared.capability.Version.{Version}
use Rattle.solv_prov.specs.declared.capability.Version.TheVariants.{Any, Within}
use Rattle.solv_prov.specs.declared.capability.Provide.{Provide}
use Rattle.solv_prov.specs.declared.ranking.Placed.{Placed}
use Rattle.solv_prov.specs.declared.seeking.Sought.{Sought}
use Rattle.solv_prov.specs.Inner.Capabilities.{versions_meet}
use Rattle.solv_prov.specs.Inner.Ranking.{has_evr, is_exact, meets_ranked, standing_by, height}
use Rattle.solv_prov.specs.Inner.Seeking.{offered, wanted_of, is_met, pick, first_of, end_of, IsSought}
use Rattle.solv_prov.proofs.Heights.{standing_is, lower_at, higher_at}

module _ (pool : Held) (s : Sought) (sought : IsSought pool s) (matching : MeetsByStanding) (place : ℕ) (x : Provide) (there : slice_get (offered s) place ≡ Some x) where
  -- one without a rank meets all
  pub met_unranked : length s.ranks.now.order.items ≤ slice_index s.ranks.now.ranks.items place → true ≡ is_met pool s x
  met_unranked behind = ap (λ v. versions_meet pool v (wanted_of s)) (sym (sought.ranked.others place x there behind))

  -- one with a rank meets what its standing says
  pub met_ranked : slice_index s.ranks.now.ranks.items place < length s.ranks.now.order.items
      → meets_ranked x.version s.wanted (standing_by s.cuts (slice_index s.ranks.now.ranks.items place)) ≡ is_met pool s x
  met_ranked within =
      let at : ℕ = slice_index s.ranks.now.ranks.items place in
      let y = some_there s.ranks.now.order.items at within in
      let is = standing_is pool (text_at pool s.evr) s.ranks.now.order.items s.cuts at y.0 sought.cuts y.1 in
      by (standing_by s.cuts at) y.0 is x.version (sought.ranked.ranked place x y.0 there y.1).0
    where
      by : (d : Standing) (y : Placed) → d ≡ standing (parts (text_at pool y.evr)) (parts (text_at pool s.evr)) → (v : Version) → has_evr v y.evr ≡ true
          → meets_ranked v s.wanted d ≡ versions_meet pool v (wanted_of s)
      by d y is Any has = refl
      by d y is (Within f h) has =
          let same : h ≡ y.evr = eqb-true h y.evr has in
          ap (meets_by_standing f s.wanted) (is ∙ ap (λ e. standing (parts (text_at pool e)) (parts (text_at pool s.evr))) (sym same)) ∙ sym (matching f (text_at pool h) s.wanted (text_at pool s.evr))

-- what a provide that is no range meets, by its standing
abbrev verdict : Cmp → Standing → Bool
verdict g Below = g.less
verdict g Bare = true
verdict g Earlier = g.less
verdict g Alike = g.equal
verdict g Released = g.equal
verdict g Above = g.greater

verdict_is : (f g : Cmp) (s : Standing) → f.equal ≡ true → f.less ≡ false → f.greater ≡ false → meets_by_standing f g s ≡ verdict g s
verdict_is f g Below e l r = rw (l, r) (or-false g.less)
verdict_is f g Bare e l r = rw (e, l, r) refl
verdict_is f g Earlier e l r = rw (l, r) (or-false g.less)
verdict_is f g Alike e l r = rw (e, l, r) refl
verdict_is f g Released e l r = rw (l, r) refl
verdict_is f g Above e l r = rw (l, r) (or-false g.greater)

off : (b : Bool) → not b ≡ true → b ≡ false
off true h = absurd (true≢false (sym h))
off false h = refl

pick_upto : (p q : Bool) (a b c n : ℕ) → a ≤ n → b ≤ n → c ≤ n → pick p q a b c ≤ n
pick_upto true q a b c n x y z = x
pick_upto false true a b c n x y z = y
pick_upto false false a b c n x y z = z

pick_above : (p q : Bool) (a b c n : ℕ) → n < a → n < b → n < c → n < pick p q a b c
pick_above true q a b c n x y z = x
pick_above false true a b c n x y z = y
pick_above false false a b c n x y z = z

equal_upto : (p q : Bool) (a b c n : ℕ) → q ≡ true → a ≤ n → b ≤ n → pick p q a b c ≤ n
equal_upto true q a b c n h x y = x
equal_upto false true a b c n h x y = y
equal_upto false false a b c n h x y = absurd (true≢false (sym h))

equal_above : (p q : Bool) (a b c n : ℕ) → q ≡ true → n < a → n < b → n < pick p q a b c
equal_above true q a b c n h x y = x
equal_above false true a b c n h x y = y
equal_above false false a b c n h x y = absurd (true≢false (sym h))

module _ (pool : Held) (s : Sought) (sought : IsSought pool s) (matching : MeetsByStanding) (exact : s.ranks.now.exact ≡ true) (places : List ℕ)
    (unranked : (p : ℕ) → is_among s.ranks.now.unranked.items p ≡ true → is_among places p ≡ true)
    (bare : (k : ℕ) (y : Placed) → s.cuts.bare ≤ k → k < s.cuts.earlier → slice_get s.ranks.now.order.items k ≡ Some y → is_among places y.place ≡ true)
    (run : (k : ℕ) (y : Placed) → first_of s ≤ k → k < end_of s → slice_get s.ranks.now.order.items k ≡ Some y → is_among places y.place ≡ true) where
  -- the place of an EVR in order whose standing passes
  stands_there : (at : ℕ) (y : Placed) → slice_get s.ranks.now.order.items at ≡ Some y → at < length s.ranks.now.order.items
      → verdict s.wanted (standing (parts (text_at pool y.evr)) (parts (text_at pool s.evr))) ≡ true → is_among places y.place ≡ true
  stands_there at y there within met = by (standing (parts (text_at pool y.evr)) (parts (text_at pool s.evr))) refl met
    where
      low : (k n : ℕ) → nat_lt at n ≡ true → at < n
      low k n e = grind (arith, nat_tests, e)

      high : (n : ℕ) → nat_lt at n ≡ false → n ≤ at
      high n e = grind (arith, nat_tests, e)

      below_alike : height pool (text_at pool s.evr) y < 3 → at < s.cuts.alike
      below_alike h = low 3 s.cuts.alike (lower_at pool (text_at pool s.evr) s.ranks.now.order.items 3 s.cuts.alike at y sought.cuts.alike there h)

      below_above : height pool (text_at pool s.evr) y < 5 → at < s.cuts.above
      below_above h = low 5 s.cuts.above (lower_at pool (text_at pool s.evr) s.ranks.now.order.items 5 s.cuts.above at y sought.cuts.above there h)

      from_alike : 3 ≤ height pool (text_at pool s.evr) y → s.cuts.alike ≤ at
      from_alike h = high s.cuts.alike (higher_at pool (text_at pool s.evr) s.ranks.now.order.items 3 s.cuts.alike at y sought.cuts.alike there h)

      from_above : 5 ≤ height pool (text_at pool s.evr) y → s.cuts.above ≤ at
      from_above h = high s.cuts.above (higher_at pool (text_at pool s.evr) s.ranks.now.order.items 5 s.cuts.above at y sought.cuts.above there h)

      less_there : s.wanted.less ≡ true → height pool (text_at pool s.evr) y < 3 → is_among places y.place ≡ true
      less_there l h =
          run at y (rw l (omega arith)) (pick_above s.wanted.greater s.wanted.equal (length s.ranks.now.order.items) s.cuts.above s.cuts.alike at within (below_above (omega (arith, h))) (below_alike h)) there

      equal_there : s.wanted.equal ≡ true → 3 ≤ height pool (text_at pool s.evr) y → height pool (text_at pool s.evr) y < 5 → is_among places y.place ≡ true
      equal_there e h g =
          run at y (equal_upto s.wanted.less s.wanted.equal 0 s.cuts.alike s.cuts.above at e (omega arith) (from_alike h))
          (equal_above s.wanted.greater s.wanted.equal (length s.ranks.now.order.items) s.cuts.above s.cuts.alike at e within (below_above g)) there

      by : (d : Standing) → standing (parts (text_at pool y.evr)) (parts (text_at pool s.evr)) ≡ d → verdict s.wanted d ≡ true → is_among places y.place ≡ true
      by Below e m = less_there m (rw e (omega arith))
      by Bare e m =
          bare at y (high s.cuts.bare (higher_at pool (text_at pool s.evr) s.ranks.now.order.items 1 s.cuts.bare at y sought.cuts.bare there (rw e (omega arith))))
          (low 2 s.cuts.earlier (lower_at pool (text_at pool s.evr) s.ranks.now.order.items 2 s.cuts.earlier at y sought.cuts.earlier there (rw e (omega arith)))) there
      by Earlier e m = less_there m (rw e (omega arith))
      by Alike e m = equal_there m (rw e (omega arith)) (rw e (omega arith))
      by Released e m = equal_there m (rw e (omega arith)) (rw e (omega arith))
      by Above e m =
          run at y (pick_upto s.wanted.less s.wanted.equal 0 s.cuts.alike s.cuts.above at (omega arith) (from_alike (rw e (omega arith))) (from_above (rw e (omega arith))))
          (rw m within) there

  -- all that meet are among the candidates
  pub all_there : (p : ℕ) (x : Provide) → slice_get (offered s) p ≡ Some x → is_met pool s x ≡ true → is_among places p ≡ true
  all_there p x here met = by (nat_lt (slice_index s.ranks.now.ranks.items p) (length s.ranks.now.order.items)) refl
    where
      is_at : (y : Placed) (v : Version) → has_evr v y.evr ≡ true → is_exact v ≡ true → versions_meet pool v (wanted_of s) ≡ true
          → verdict s.wanted (standing (parts (text_at pool y.evr)) (parts (text_at pool s.evr))) ≡ true
      is_at y Any has one m = absurd (true≢false (sym has))
      is_at y (Within f h) has one m =
          let same : h ≡ y.evr = eqb-true h y.evr has in
          let a = and_parts f.equal (not f.less && not f.greater) one in
          let b = and_parts (not f.less) (not f.greater) a.1 in
          let st : Standing = standing (parts (text_at pool y.evr)) (parts (text_at pool s.evr)) in
          sym (verdict_is f s.wanted st a.0 (off f.less b.0) (off f.greater b.1))
          ∙ ap (λ e. meets_by_standing f s.wanted (standing (parts (text_at pool e)) (parts (text_at pool s.evr)))) (sym same)
          ∙ sym (matching f (text_at pool h) s.wanted (text_at pool s.evr)) ∙ m

      by : (b : Bool) → nat_lt (slice_index s.ranks.now.ranks.items p) (length s.ranks.now.order.items) ≡ b → is_among places p ≡ true
      by false e =
          let behind : length s.ranks.now.order.items ≤ slice_index s.ranks.now.ranks.items p = grind (arith, nat_tests, e) in
          unranked p (sought.ranked.unranked p (let h = slice_get_within (offered s) p x here in let each = sought.ranked.each in omega (arith, h, each)) behind)
      by true e =
          let within : slice_index s.ranks.now.ranks.items p < length s.ranks.now.order.items = grind (arith, nat_tests, e) in
          let at : ℕ = slice_index s.ranks.now.ranks.items p in
          let y = some_there s.ranks.now.order.items at within in
          let are = sought.ranked.ranked p x y.0 here y.1 in
          let one : is_exact x.version ≡ true = all_at (λ (x : Provide). is_exact x.version) (offered s) p x (sought.ranked.exact exact) here in
          ap (is_among places) (sym are.1) ∙ stands_there at y.0 y.1 within (is_at y.0 x.version are.0 one met)
