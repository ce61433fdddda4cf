use Rattle.std.proofs.Common.{◌≡◌, ◌++◌, ◌∷◌, map, drop, length, true, nat_le}
use Rattle.std.specs.Prelude.{flat_map}
use Rattle.std.specs.List.{list_all}
use Rattle.solv_pool.specs.PackageText.{package_text}
use Rattle.solv_writing.proofs.package_words.add_packages.Given as goal

abbrev pub invariant-loop-pack : goal.invariant-loop-pack
invariant-loop-pack l = record {
  line : l.line.items ++ flat_map (λ word. 32 ∷ word) (map (package_text l.pool l.universe) (drop l.pack-index l.packs)) ≡ l.fn.line.items ++ flat_map (λ word. 32 ∷ word) (map (package_text l.pool l.universe) l.packs);
  there : list_all (λ p. nat_le p (length l.universe.packages)) (drop l.pack-index l.packs) ≡ true;
}
