-- Where the packages of each repository stand among all packages.
use Rattle.std.specs.Prelude.{ℕ, ◌≡◌, ◌==◌, ◌<◌, ◌≤◌, ◌||◌, true, List, Some, slice_get}
use Rattle.solv_pool.specs.Prelude.{passes}
use Rattle.solv_pool.specs.declared.packages.Package.{Package}
use Rattle.solv_writing.specs.declared.spans.Span.{Span}

-- of the first packages, so many as `count`, those of a repository stand in a span; where it is not empty, it begins with one of them
pub record IsSpan (packages : List Package) (count place : ℕ) (s : Span) : Type 0 where
  pub rises : s.first ≤ s.end
  pub within : s.end ≤ count
  pub holds : (k : ℕ) (a : Package) → k < count → slice_get packages k ≡ Some a → a.repo ≡ place → (s.first ≤ k) × (k < s.end)
  pub begins : (s.end == 0 || passes (slice_get packages s.first) (λ a. a.repo == place)) ≡ true

-- a span for each repository
abbrev pub AreSpans : List Package → ℕ → List Span → Type 0
AreSpans packages count spans = (place : ℕ) (s : Span) → slice_get spans place ≡ Some s → IsSpan packages count place s
