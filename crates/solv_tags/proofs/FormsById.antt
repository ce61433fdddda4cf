-- Dependencies have by their ids the forms that they have as they are written.
use Rattle.std.proofs.Common.{◌≡◌, ℕ, Bool, true, false, List, [], ◌∷◌, ◌++◌, map, drop, length, Option, Some, None, Result, Ok, Err, refl, sym, ap, ◌∙◌, add-one}
use Rattle.std.specs.Prelude.{◌&&◌, nat_le, is_some, slice_get, option_map, unwrap_or, IfOk, IsOkAnd}
use Rattle.std.specs.List.{list_all}
use Rattle.std.proofs.lemmas.List.{map-append}
use Rattle.std.proofs.Math.Seq.{drop-append_seam}
use Rattle.solv_base.specs.Dependency.{Dep, and, or, joined, under, under_else, missing, package_wise, operators, tree, tree_of_node, tree_within, map_dep, capability_of_node}
use Rattle.solv_base.specs.Places.{fits_place, unconditional}
use Rattle.solv_base.specs.Pool.{Held, text_at, text_tree}
use Rattle.solv_base.specs.declared.relation.DepNode.{DepNode}
use Rattle.solv_base.specs.declared.relation.DepNode.TheVariants.{Simple}
use Rattle.solv_deps.specs.Table.{is_capability}
use Rattle.solv_pool.specs.Prelude.{Catalog, WrittenNeed, written_package}
use Rattle.solv_pool.specs.Inner.Catalog.{alone}
use Rattle.solv_pool.specs.Contents.{Contents}
use Rattle.solv_pool.specs.TaskForms.{most_operators, has_form, is_plain_form, is_formed}
use Rattle.solv_pool.specs.declared.packages.Need.{Need}
use Rattle.solv_pool.specs.declared.packages.Package.{Package}
use Rattle.solv_tags.specs.EntryForms.{has_written_form, is_written_formed}
use Rattle.solv_tags.specs.Inner.RepositoryReading.{IsTaken}
use Rattle.solv_tags.specs.Testtags.{Repository}
use Rattle.solv_tags.specs.declared.tag_fault.TagFault.{TagFault}
use Rattle.solv_list.proofs.Booleans.{first_of_both, second_of_both}
use Rattle.std.proofs.lemmas.Bool.{and_from}

module _ (f : ℕ → List ℕ) where
  wise_mapped : (d : Dep ℕ) → package_wise (map_dep f d) ≡ package_wise d
  wise_mapped (joined and a b) = refl
  wise_mapped (joined j a b) = rw (wise_mapped a, wise_mapped b) refl
  wise_mapped d = refl

  unconditional_mapped : (d : Dep ℕ) → unconditional (map_dep f d) ≡ unconditional d
  unconditional_mapped (joined and a b) = rw (unconditional_mapped a, unconditional_mapped b) refl
  unconditional_mapped (joined or a b) = rw (unconditional_mapped a, unconditional_mapped b) refl
  unconditional_mapped d = wise_mapped d

  pub fits_mapped : (at : Bool) (d : Dep ℕ) → fits_place at (map_dep f d) ≡ fits_place at d
  fits_mapped at (joined and a b) = rw (fits_mapped at a, fits_mapped at b) refl
  fits_mapped at (joined or a b) = rw (fits_mapped at a, fits_mapped at b) refl
  fits_mapped at (under k a b) = rw (fits_mapped at a, unconditional_mapped b) refl
  fits_mapped at (under_else k a b c) = rw (fits_mapped at a, unconditional_mapped b, fits_mapped at c) refl
  fits_mapped at d = wise_mapped d

  pub operators_mapped : (d : Dep ℕ) → operators (map_dep f d) ≡ operators d
  operators_mapped (joined j a b) = rw (operators_mapped a, operators_mapped b) refl
  operators_mapped (under k a b) = rw (operators_mapped a, operators_mapped b) refl
  operators_mapped (under_else k a b c) = rw (operators_mapped a, operators_mapped b, operators_mapped c) refl
  operators_mapped d = refl

  node_mapped : (at : ℕ → Dep ℕ) (node : DepNode) → is_capability (map_dep f (tree_of_node at node)) ≡ is_some (capability_of_node node)
  node_mapped at (Simple n) = refl
  node_mapped at node = refl

  held_mapped : (at : ℕ → Dep ℕ) (node : Option DepNode)
      → is_capability (map_dep f (unwrap_or (option_map (tree_of_node at) node) missing)) ≡ is_some (unwrap_or (option_map capability_of_node node) None)
  held_mapped at None = refl
  held_mapped at (Some node) = node_mapped at node

-- a test of what is written is a test of what it is written for
pub same_all : {X Y : Type 0} (p : X → Bool) (q : Y → Bool) (h : X → Y) → ((x : X) → q (h x) ≡ p x) → (xs : List X) → list_all q (map h xs) ≡ list_all p xs
same_all p q h same [] = refl
same_all p q h same (x ∷ xs) = rw (same x, same_all p q h same xs) refl

-- where a test of what is written says so, each of these passes
all_from : {X Y : Type 0} (p : X → Bool) (q : Y → Bool) (h : X → Y) → ((x : X) → q (h x) ≡ true → p x ≡ true) → (xs : List X) → list_all q (map h xs) ≡ true → list_all p xs ≡ true
all_from p q h from [] all = refl
all_from p q h from (x ∷ xs) all =
    and_from (p x) (list_all p xs) (from x (first_of_both (q (h x)) (list_all q (map h xs)) all)) (all_from p q h from xs (second_of_both (q (h x)) (list_all q (map h xs)) all))

-- four tests that all pass
four_true : (a b c d : Bool) → (a && (b && (c && d))) ≡ true → (a ≡ true) × (b ≡ true) × (c ≡ true) × (d ≡ true)
four_true a b c d h =
    let later = second_of_both a (b && (c && d)) h in
    let last = second_of_both b (c && d) later in
    (first_of_both a (b && (c && d)) h, first_of_both b (c && d) later, first_of_both c d last, second_of_both c d last)

module _ (catalog : Catalog) where
  -- a relation has such a form where its text does
  written_form : (at : Bool) (d : ℕ) → has_written_form at (text_tree catalog.pool d) ≡ true → has_form catalog at d ≡ true
  unfolding text_tree
  written_form at d h =
      let f = text_at catalog.pool in
      let t = tree catalog.pool.nodes d in
      let own : (fits_place at (map_dep f t) && nat_le (operators (map_dep f t)) most_operators) ≡ has_form catalog at d = rw (fits_mapped f at t, operators_mapped f t) refl in
      sym own ∙ h

  pub written_plain : (d : ℕ) → is_capability (text_tree catalog.pool d) ≡ is_plain_form catalog d
  unfolding text_tree
  written_plain d =
      let f = text_at catalog.pool in
      let nodes = catalog.pool.nodes in
      ap (λ depth. is_capability (map_dep f (tree_within nodes depth d))) (add-one d) ∙ held_mapped f (tree_within nodes d) (slice_get nodes d)

  -- the weak dependencies of a package, as they are written
  weak_written : (at : ℕ → Dep (List ℕ)) (a : Package) → map at a.recommends ++ (map at a.suggests ++ (map at a.supplements ++ map at a.enhances)) ≡ map at (a.recommends ++ (a.suggests ++ (a.supplements ++ a.enhances)))
  weak_written at a =
      let l2 : map at (a.supplements ++ a.enhances) ≡ map at a.supplements ++ map at a.enhances = map-append at a.supplements a.enhances in
      let l1 : map at (a.suggests ++ (a.supplements ++ a.enhances)) ≡ map at a.suggests ++ map at (a.supplements ++ a.enhances) = map-append at a.suggests (a.supplements ++ a.enhances) in
      let l0 : map at (a.recommends ++ (a.suggests ++ (a.supplements ++ a.enhances))) ≡ map at a.recommends ++ map at (a.suggests ++ (a.supplements ++ a.enhances)) = map-append at a.recommends (a.suggests ++ (a.supplements ++ a.enhances)) in
      rw (l0, l1, l2) refl

  -- what the text of a package says of its dependencies
  record HasParts (a : Package) : Type 0 where
    needs : list_all (λ (need : WrittenNeed). has_written_form true need.dep) (map (λ (need : Need). record { dep = text_tree catalog.pool need.dep; pre = need.pre }) a.requires_) ≡ true
    conflicts : list_all (has_written_form false) (map (text_tree catalog.pool) a.conflicts) ≡ true
    plain : list_all is_capability (map (text_tree catalog.pool) (a.provides ++ a.obsoletes)) ≡ true
    weak : list_all (has_written_form true) (map (text_tree catalog.pool) (a.recommends ++ (a.suggests ++ (a.supplements ++ a.enhances)))) ≡ true

  parts_of : (a : Package) → is_written_formed (written_package catalog.pool a) ≡ true → HasParts a
  parts_of a h =
      let at : ℕ → Dep (List ℕ) = text_tree catalog.pool in
      let all = four_true _ _ _ _ h in
      record {
        needs = all.0;
        conflicts = all.1;
        plain = ap (list_all is_capability) (map-append at a.provides a.obsoletes) ∙ all.2;
        weak = ap (list_all (has_written_form true)) (sym (weak_written at a)) ∙ all.3;
      }

  -- so whatever follows from such a form holds of all that the package asks for, at a conflict (false) or elsewhere (true)
  module _ (p : Bool → ℕ → Bool) (from : (at : Bool) (d : ℕ) → has_written_form at (text_tree catalog.pool d) ≡ true → p at d ≡ true) (a : Package) (parts : HasParts a) where
    needs_pass : list_all (λ need. p true need.dep) a.requires_ ≡ true
    needs_pass =
        all_from {X = Need} {Y = WrittenNeed} (λ need. p true need.dep) (λ need. has_written_form true need.dep) (λ need. record { dep = text_tree catalog.pool need.dep; pre = need.pre }) (λ need. from true need.dep) a.requires_ parts.needs

    conflicts_pass : list_all (p false) a.conflicts ≡ true
    conflicts_pass = all_from (p false) (has_written_form false) (text_tree catalog.pool) (from false) a.conflicts parts.conflicts

    weak_pass : list_all (p true) (a.recommends ++ (a.suggests ++ (a.supplements ++ a.enhances))) ≡ true
    weak_pass = all_from (p true) (has_written_form true) (text_tree catalog.pool) (from true) (a.recommends ++ (a.suggests ++ (a.supplements ++ a.enhances))) parts.weak

  -- a package whose text has such forms has them
  formed : (a : Package) → is_written_formed (written_package catalog.pool a) ≡ true → is_formed catalog a ≡ true
  formed a h =
      let parts = parts_of a h in
      let plain : list_all (is_plain_form catalog) (a.provides ++ a.obsoletes) ≡ true = sym (same_all (is_plain_form catalog) is_capability (text_tree catalog.pool) written_plain (a.provides ++ a.obsoletes)) ∙ parts.plain in
      let form : (at : Bool) (d : ℕ) → has_written_form at (text_tree catalog.pool d) ≡ true → has_form catalog at d ≡ true = written_form in
      rw (needs_pass (has_form catalog) form a parts, conflicts_pass (has_form catalog) form a parts, plain, weak_pass (has_form catalog) form a parts) refl

  -- so do packages
  pub all_formed : (packages : List Package) → list_all is_written_formed (map (written_package catalog.pool) packages) ≡ true → list_all (is_formed catalog) packages ≡ true
  all_formed packages h = all_from (is_formed catalog) is_written_formed (written_package catalog.pool) formed packages h

-- the packages that were added have such forms in their text where what was read has
taken_text : (given : Result Repository TagFault) (pool : Held) (old new : Contents) → IfOk given (λ r. list_all is_written_formed r.packages ≡ true) → IsOkAnd given (λ r. IsTaken r pool old new)
    → list_all is_written_formed (map (written_package pool) (drop (length old.packages) new.packages)) ≡ true
taken_text (Err fault) pool old new formed taken = absurd taken
taken_text (Ok r) pool old new formed taken =
    let added = taken.packages.added in
    let packages : new.packages ≡ old.packages ++ added = ap (λ (u : Contents). u.packages) taken.packages.universe in
    let behind : drop (length old.packages) new.packages ≡ added = ap (drop (length old.packages)) packages ∙ drop-append_seam old.packages added in
    ap (λ l. list_all is_written_formed (map (written_package pool) l)) behind
    ∙ ap (list_all is_written_formed) taken.packages.texts
    ∙ formed

-- so they have them
pub taken_formed : (given : Result Repository TagFault) (pool : Held) (old new : Contents) → IfOk given (λ r. list_all is_written_formed r.packages ≡ true) → IsOkAnd given (λ r. IsTaken r pool old new)
    → list_all (is_formed (alone pool new)) (drop (length old.packages) new.packages) ≡ true
taken_formed given pool old new formed taken = all_formed (alone pool new) (drop (length old.packages) new.packages) (taken_text given pool old new formed taken)
