-- A wanted EVR among the provides of a name in order.
use Rattle.std.specs.Prelude.{ℕ, ◌≡◌, Bool, true, List, length, slice_get, Some, if◌then◌else◌}
use Rattle.std.specs.List.Sorted.{IsNonDecreasing}
use Rattle.solv_pool.specs.Prelude.{Held, text_at, is_among}
use Rattle.solv_prov.specs.declared.capability.Version.{Version}
use Rattle.solv_prov.specs.declared.capability.Version.TheVariants.{Within}
use Rattle.solv_prov.specs.declared.capability.Provide.{Provide}
use Rattle.solv_prov.specs.declared.seeking.Sought.{Sought}
use Rattle.solv_prov.specs.Inner.Capabilities.{versions_meet}
use Rattle.solv_prov.specs.Inner.Ranking.{IsRanked, AreCuts}

-- the provides of the name, and what is wanted of them
abbrev pub offered : Sought → List Provide
offered s = s.ranks.now.provides.items

abbrev pub wanted_of : Sought → Version
wanted_of s = Within s.wanted s.evr

module _ (pool : Held) where
  -- a provide meets it
  abbrev pub is_met : Sought → Provide → Bool
  is_met s x = versions_meet pool x.version (wanted_of s)

  pub record IsSought (s : Sought) : Type 0 where
    pub ranked : IsRanked pool s.ranks.now
    pub cuts : AreCuts pool s.ranks.now.order.items (text_at pool s.evr) s.cuts

  -- ascending places, among them those of all provides that meet it
  pub record AreCandidates (s : Sought) (places : List ℕ) : Type 0 where
    pub rise : IsNonDecreasing places
    pub all : (p : ℕ) (x : Provide) → slice_get (offered s) p ≡ Some x → is_met s x ≡ true → is_among places p ≡ true

-- one of three numbers
abbrev pub pick : Bool → Bool → ℕ → ℕ → ℕ → ℕ
pick p q a b c = if p then a else (if q then b else c)

-- where in order those begin and end that meet it, if none is a range, but for those that alone have no release
abbrev pub first_of : Sought → ℕ
first_of s = pick s.wanted.less s.wanted.equal 0 s.cuts.alike s.cuts.above

abbrev pub end_of : Sought → ℕ
end_of s = pick s.wanted.greater s.wanted.equal (length s.ranks.now.order.items) s.cuts.above s.cuts.alike
