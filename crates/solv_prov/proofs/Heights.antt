-- Along the order of EVRs the standing to a wanted one rises, so a cut is found by halves, and the cuts tell the standing at a place.
use Rattle.std.proofs.Common.{◌≡◌, ◌≤◌, ◌<◌, ◌+◌, ℕ, Bool, true, false, List, length, slice_get, Some, refl, sym, ap, ◌∙◌, arith}
use Rattle.std.specs.Prelude.{nat_lt}
use Rattle.std.specs.Cmp.{IsTotalOrder}
use Rattle.std.specs.List.{slice_index_or}
use Rattle.std.specs.List.Sorted.{IsSortedBy, IsNonDecreasingBy}
use Rattle.std.specs.Ordering.{is_lt, is_gt, ordering_reverse}
use Rattle.std.specs.declared.cmp.Ordering.{Ordering}
use Rattle.std.specs.declared.cmp.Ordering.TheVariants.{Less, Equal, Greater}
use Rattle.std.proofs.lemmas.Bool.{true≢false}
use Rattle.std.proofs.lemmas.Bool.Decides.{nat_tests}
use Rattle.std.proofs.lemmas.List.Sorted.{ranks_by, sorted_far}
use Rattle.std.proofs.lemmas.Option.{get_or_from_slice_get, slice_get_within, slice_get-get_or}
use Rattle.solv_base.specs.Evr.{parts, evr_cmp}
use Rattle.solv_base.specs.Inner.Standings.{standing, StandingRises}
use Rattle.solv_base.specs.declared.version.placing.Standing.{Standing}
use Rattle.solv_base.specs.declared.version.placing.Standing.TheVariants.{Below, Bare, Earlier, Alike, Released, Above}
use Rattle.solv_pool.specs.Prelude.{Held, text_at}
use Rattle.solv_prov.specs.declared.ranking.Placed.{Placed}
use Rattle.solv_prov.specs.declared.ranking.Cuts.{Cuts}
use Rattle.solv_prov.specs.Inner.Ranking.{stands_before, height, standing_by, IsCut, IsCutBelow, AreCuts}

no_greater : (o : Ordering) → is_lt (ordering_reverse o) ≡ false → is_gt o ≡ false
no_greater Less h = refl
no_greater Equal h = refl
no_greater Greater h = absurd (true≢false h)

module _ (total : IsTotalOrder evr_cmp) (rises : StandingRises) (pool : Held) (want : List ℕ) (order : List Placed) (sorted : IsSortedBy (stands_before pool) order) where
  pub heights_rise : IsNonDecreasingBy (height pool want) order
  heights_rise i j d le lt =
      let a : Placed = slice_index_or order i d in
      let b : Placed = slice_index_or order j d in
      let far : is_lt (evr_cmp (text_at pool b.evr) (text_at pool a.evr)) ≡ false = sorted_far (stands_before pool) (ranks_by total (λ (x : Placed). text_at pool x.evr)) order sorted i j d le lt in
      rises (text_at pool a.evr) (text_at pool b.evr) want (no_greater (evr_cmp (text_at pool a.evr) (text_at pool b.evr)) (ap is_lt (sym (total.antisymm (text_at pool b.evr) (text_at pool a.evr))) ∙ far))

-- what is known of a cut at a place
module _ (pool : Held) (want : List ℕ) (order : List Placed) where
  pub lower_at : (lowest n at : ℕ) (x : Placed) → IsCut pool order want lowest n → slice_get order at ≡ Some x → height pool want x < lowest → nat_lt at n ≡ true
  lower_at lowest n at x cut there low = by (nat_lt at n) refl
    where
      by : (b : Bool) → nat_lt at n ≡ b → nat_lt at n ≡ true
      by true e = e
      by false e =
          let behind : n ≤ at = grind (arith, nat_tests, e) in
          let high = cut.rest at x behind (slice_get_within order at x there) in
          let is : slice_index_or order at x ≡ x = get_or_from_slice_get order at x x there in
          absurd (let h : lowest ≤ height pool want x = rw (← is) high in omega (arith, h, low))

  pub higher_at : (lowest n at : ℕ) (x : Placed) → IsCut pool order want lowest n → slice_get order at ≡ Some x → lowest ≤ height pool want x → nat_lt at n ≡ false
  higher_at lowest n at x cut there high = by (nat_lt at n) refl
    where
      by : (b : Bool) → nat_lt at n ≡ b → nat_lt at n ≡ false
      by false e = e
      by true e =
          let before : at < n = grind (arith, nat_tests, e) in
          let low = cut.lower at x before in
          let is : slice_index_or order at x ≡ x = get_or_from_slice_get order at x x there in
          absurd (let h : height pool want x < lowest = rw (← is) low in omega (arith, h, high))

  -- the standing at a place
  pub standing_is : (cuts : Cuts) (at : ℕ) (x : Placed) → AreCuts pool order want cuts → slice_get order at ≡ Some x → standing_by cuts at ≡ standing (parts (text_at pool x.evr)) (parts want)
  standing_is cuts at x are there = by (standing (parts (text_at pool x.evr)) (parts want)) refl
    where
      by : (s : Standing) → standing (parts (text_at pool x.evr)) (parts want) ≡ s → standing_by cuts at ≡ s
      by Below e = rw (lower_at 1 cuts.bare at x are.bare there (rw e (omega arith))) refl
      by Bare e = rw (higher_at 1 cuts.bare at x are.bare there (rw e (omega arith)), lower_at 2 cuts.earlier at x are.earlier there (rw e (omega arith))) refl
      by Earlier e = rw (higher_at 1 cuts.bare at x are.bare there (rw e (omega arith)), higher_at 2 cuts.earlier at x are.earlier there (rw e (omega arith)), lower_at 3 cuts.alike at x are.alike there (rw e (omega arith))) refl
      by Alike e =
          rw (higher_at 1 cuts.bare at x are.bare there (rw e (omega arith)), higher_at 2 cuts.earlier at x are.earlier there (rw e (omega arith)), higher_at 3 cuts.alike at x are.alike there (rw e (omega arith)), lower_at 4 cuts.released at x are.released there (rw e (omega arith)))
          refl
      by Released e =
          rw (higher_at 1 cuts.bare at x are.bare there (rw e (omega arith)), higher_at 2 cuts.earlier at x are.earlier there (rw e (omega arith)), higher_at 3 cuts.alike at x are.alike there (rw e (omega arith)), higher_at 4 cuts.released at x are.released there (rw e (omega arith)), lower_at 5 cuts.above at x are.above there (rw e (omega arith)))
          refl
      by Above e =
          rw (higher_at 1 cuts.bare at x are.bare there (rw e (omega arith)), higher_at 2 cuts.earlier at x are.earlier there (rw e (omega arith)), higher_at 3 cuts.alike at x are.alike there (rw e (omega arith)), higher_at 4 cuts.released at x are.released there (rw e (omega arith)), higher_at 5 cuts.above at x are.above there (rw e (omega arith)))
          refl

-- a cut that is also one of a higher level
pub cut_here : (pool : Held) (want : List ℕ) (order : List Placed) (lowest n : ℕ) → IsNonDecreasingBy (height pool want) order → IsCutBelow pool order want lowest n
    → ((x : Placed) → slice_get order n ≡ Some x → lowest ≤ height pool want x) → IsCut pool order want lowest n
cut_here pool want order lowest n rise below high = record {
  within = below.cut.within;
  lower = λ k d lt. let low = below.cut.lower k d lt in let le = below.lower_than in omega (arith, low, le);
  rest = λ k d from lt.
      let here : n < length order = omega (arith, from, lt) in
      let h = high (slice_index_or order n d) (slice_get-get_or order n d here) in
      let more = rise n k d from lt in
      omega (arith, h, more);
}

-- all but one stand lower
pub cut_next : (pool : Held) (want : List ℕ) (order : List Placed) (lowest n next : ℕ) → IsNonDecreasingBy (height pool want) order → n < length order → next ≡ n + 1
    → ((x : Placed) → slice_get order n ≡ Some x → height pool want x < lowest) → ((x : Placed) → slice_get order next ≡ Some x → lowest ≤ height pool want x) → IsCut pool order want lowest next
cut_next pool want order lowest n next rise within is low high = record {
  within = omega (arith, within, is);
  lower = λ k d lt.
      let all = low (slice_index_or order n d) (slice_get-get_or order n d within) in
      let more = rise k n d (omega (arith, lt, is)) within in
      omega (arith, all, more);
  rest = λ k d from lt.
      let here : next < length order = omega (arith, from, lt) in
      let h = high (slice_index_or order next d) (slice_get-get_or order next d here) in
      let more = rise next k d from lt in
      omega (arith, h, more);
}
