-- Edges between packages that come, and between packages that go.
use Rattle.std.specs.Prelude.{ℕ, Bool, ◌&&◌}
use Rattle.solv_pool.specs.Prelude.{Catalog, is_installed}
use Rattle.solv_pool.specs.Needs.{serves}
use Rattle.solv_pool.specs.declared.packages.Need.{Need}
use Rattle.solv_trans.specs.Edges.{brings, requires_some}
use Rattle.solv_trans.specs.Moving.{comes, goes}

module _ (catalog : Catalog) (set : ℕ → Bool) where
  -- an installed package that stays
  abbrev pub is_kept : ℕ → Bool
  is_kept q = is_installed catalog q && set q

  -- both come, and q brings what p requires
  abbrev pub coming_edge : (Need → Bool) → ℕ → ℕ → Bool
  coming_edge these q p = comes catalog set q && (comes catalog set p && requires_some catalog set these (brings catalog set q p) p)

  -- both go, and q serves what p requires
  abbrev pub going_edge : (Need → Bool) → ℕ → ℕ → Bool
  going_edge these p q = goes catalog set p && (goes catalog set q && requires_some catalog set these (serves catalog q) p)
