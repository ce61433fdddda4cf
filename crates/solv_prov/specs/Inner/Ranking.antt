-- The provides of a name in the order of their EVRs, and where a wanted EVR stands among them.
use Rattle.std.specs.Prelude.{ℕ, ◌≡◌, ◌≤◌, ◌<◌, Bool, true, false, not, ◌&&◌, ◌==◌, nat_eq, List, length, slice_get, slice_index, Some, nat_lt, if◌then◌else◌}
use Rattle.std.specs.List.{list_all, slice_index_or}
use Rattle.std.specs.List.Sorted.{IsSortedBy}
use Rattle.std.specs.Ordering.{is_lt}
use Rattle.solv_base.specs.Evr.{parts, evr_cmp}
use Rattle.solv_base.specs.Inner.Standings.{level, standing, meets_by_standing}
use Rattle.solv_base.specs.declared.version.placing.Standing.{Standing}
use Rattle.solv_base.specs.declared.version.placing.Standing.TheVariants.{Below, Bare, Earlier, Alike, Released, Above}
use Rattle.solv_pool.specs.Prelude.{Cmp, Held, text_at, is_among}
use Rattle.indexmap.specs.IndexMap.{IndexMap, get}
use Rattle.solv_prov.specs.Inner.Groups.{group_at}
use Rattle.solv_prov.specs.declared.capability.Version.{Version}
use Rattle.solv_prov.specs.declared.capability.Version.TheVariants.{Any, Within}
use Rattle.solv_prov.specs.declared.capability.Provide.{Provide}
use Rattle.solv_prov.specs.declared.ranking.Placed.{Placed}
use Rattle.solv_prov.specs.declared.ranking.Ranks.{Ranks}
use Rattle.solv_prov.specs.declared.ranking.Cuts.{Cuts}

-- the versions are those of a comparison with this EVR
abbrev pub has_evr : Version → ℕ → Bool
has_evr Any e = false
has_evr (Within f h) e = h == e

-- the versions are no range
abbrev pub is_exact : Version → Bool
is_exact Any = true
is_exact (Within f e) = f.equal && (not f.less && not f.greater)

-- each provide that has a rank stands there in the order
abbrev pub AreRanksIn : List Provide → List Placed → List ℕ → Type 0
AreRanksIn xs order ranks =
    (p : ℕ) (x : Provide) (placed : Placed) → slice_get xs p ≡ Some x → slice_get order (slice_index ranks p) ≡ Some placed
    → (has_evr x.version placed.evr ≡ true) × (placed.place ≡ p)

-- each that has none is of all versions
abbrev pub AreOthersAny : List Provide → ℕ → List ℕ → Type 0
AreOthersAny xs end ranks = (p : ℕ) (x : Provide) → slice_get xs p ≡ Some x → end ≤ slice_index ranks p → x.version ≡ Any

module _ (pool : Held) where
  -- the order of EVRs
  abbrev pub stands_before : Placed → Placed → Bool
  stands_before a b = is_lt (evr_cmp (text_at pool a.evr) (text_at pool b.evr))

  -- how high an EVR in order stands to a wanted one
  abbrev pub height : List ℕ → Placed → ℕ
  height want x = level (standing (parts (text_at pool x.evr)) (parts want))

  -- n EVRs stand lower than this, and the others do not
  pub record IsCut (order : List Placed) (want : List ℕ) (lowest n : ℕ) : Type 0 where
    pub within : n ≤ length order
    pub lower : (k : ℕ) (d : Placed) → k < n → height want (slice_index_or order k d) < lowest
    pub rest : (k : ℕ) (d : Placed) → n ≤ k → k < length order → lowest ≤ height want (slice_index_or order k d)

  -- the same for some lower one
  pub record IsCutBelow (order : List Placed) (want : List ℕ) (lowest n : ℕ) : Type 0 where
    pub lower_one : ℕ
    pub lower_than : lower_one ≤ lowest
    pub cut : IsCut order want lower_one n

  pub record AreCuts (order : List Placed) (want : List ℕ) (cuts : Cuts) : Type 0 where
    pub bare : IsCut order want 1 cuts.bare
    pub earlier : IsCut order want 2 cuts.earlier
    pub alike : IsCut order want 3 cuts.alike
    pub released : IsCut order want 4 cuts.released
    pub above : IsCut order want 5 cuts.above

  -- the provides of a name in order
  pub record IsRanked (r : Ranks) : Type 0 where
    pub sorted : IsSortedBy stands_before r.order.items
    pub each : length r.ranks.items ≡ length r.provides.items
    pub ranked : AreRanksIn r.provides.items r.order.items r.ranks.items
    pub others : AreOthersAny r.provides.items (length r.order.items) r.ranks.items
    pub unranked : (p : ℕ) → p < length r.ranks.items → length r.order.items ≤ slice_index r.ranks.items p → is_among r.unranked.items p ≡ true
    pub exact : r.exact ≡ true → list_all (λ x. is_exact x.version) r.provides.items ≡ true

  -- those of the names that a map holds
  abbrev pub AreRanked : {S : Type 0} → List (List Provide) → IndexMap ℕ Ranks S → Type 0
  AreRanked groups map = (name : ℕ) (r : Ranks) → get nat_eq map name ≡ Some r → (r.provides.items ≡ group_at groups name) × IsRanked r

-- the standing of the EVR at a place of the order
abbrev pub standing_by : Cuts → ℕ → Standing
standing_by cuts at =
    if nat_lt at cuts.bare then Below
    else (if nat_lt at cuts.earlier then Bare
    else (if nat_lt at cuts.alike then Earlier
    else (if nat_lt at cuts.released then Alike
    else (if nat_lt at cuts.above then Released
    else Above))))

-- versions whose EVR stands so meet a wanted comparison
abbrev pub meets_ranked : Version → Cmp → Standing → Bool
meets_ranked Any g s = true
meets_ranked (Within f e) g s = meets_by_standing f g s
