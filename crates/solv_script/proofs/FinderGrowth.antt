-- An index of the first packages stays one while repositories and packages come after the others.
use Rattle.std.proofs.Common.{◌≡◌, ℕ, zero, suc, ◌<◌, ◌≤◌, Bool, true, ◌&&◌, List, [], ◌∷◌, ◌++◌, map, length, Some, refl, ap, ◌∙◌, arith, length-append}
use Rattle.std.specs.Prelude.{nat_lt, slice_get}
use Rattle.std.specs.List.{list_all}
use Rattle.std.proofs.lemmas.Bool.{ltb-true}
use Rattle.std.proofs.lemmas.List.{length-map, map-append}
use Rattle.solv_pool.specs.Contents.{Contents}
use Rattle.solv_pool.specs.Prelude.{IsClosed, WrittenRepo, WrittenPackage, written_task, written_repo, written_package, names_of, relations_of, fits}
use Rattle.solv_pool.specs.declared.packages.Package.{Package}
use Rattle.solv_pool.specs.declared.packages.Repo.{Repo}
use Rattle.solv_pool.specs.declared.tasks.Task.{Task}
use Rattle.solv_script.specs.Inner.Finders.{texts_of, HasFirst, IsFinder}
use Rattle.solv_script.specs.declared.whole.finder.Finder.{Finder}
use Rattle.solv_script.specs.declared.whole.text_index.TextIndex.{TextIndex}
use Rattle.solv_script.proofs.PieceRuns.{if_some}
use Rattle.solv_script.proofs.TextIndexed.{other_texts}
use Rattle.solv_list.proofs.Booleans.{second_of_both}
use Rattle.solv_list.proofs.Lists.{all_at, all_weaker, get_front, some_there}

-- the repositories of these packages are among so many
abbrev pub are_inside : ℕ → List WrittenPackage → Bool
are_inside count packages = list_all (λ a. nat_lt a.repo count) packages

-- lists that begin as these
module _ (repos : List WrittenRepo) (packages : List WrittenPackage) (inside : are_inside (length repos) packages ≡ true) (repos_now : List WrittenRepo) (packages_now : List WrittenPackage)
    (same_repo : (k : ℕ) → k < length repos → slice_get repos_now k ≡ slice_get repos k) (same_package : (k : ℕ) → k < length packages → slice_get packages_now k ≡ slice_get packages k) where
  same_text : (p : ℕ) → p ≤ length packages → texts_of repos packages p ≡ texts_of repos_now packages_now p
  same_text zero le = refl
  same_text (suc k) le =
      let below : k < length packages = omega arith in
      let there = some_there packages k below in
      let here : slice_get packages k ≡ Some there.0 = there.1 in
      let still : slice_get packages_now k ≡ Some there.0 = same_package k below ∙ here in
      let low : there.0.repo < length repos = ltb-true there.0.repo (length repos) (all_at (λ (a : WrittenPackage). nat_lt a.repo (length repos)) packages k there.0 inside here) in
      rw (here, still, same_repo there.0.repo low) refl

  stays_first : length packages ≤ length packages_now → (index : TextIndex) → HasFirst repos packages index → HasFirst repos_now packages_now index
  stays_first more index first = record {
    within = omega (arith, first.within);
    texts = other_texts (texts_of repos packages) (texts_of repos_now packages_now) index.count (λ p le. same_text p (omega (arith, first.within))) index.texts.names index.numbers.items first.texts;
  }

all_map : {X Y : Type 0} (f : Y → Bool) (make : X → Y) (xs : List X) → list_all f (map make xs) ≡ list_all (λ x. f (make x)) xs
all_map f make [] = refl
all_map f make (x ∷ xs) = ap (λ b. f (make x) && b) (all_map f make xs)

-- each package's repository is there
inside_fits : (names nodes repos : ℕ) (packages : List Package) → list_all (fits names nodes repos) packages ≡ true → list_all (λ (a : Package). nat_lt a.repo repos) packages ≡ true
inside_fits names nodes repos packages h =
    all_weaker (fits names nodes repos) (λ (a : Package). nat_lt a.repo repos)
    (λ a fit. second_of_both (list_all (λ d. nat_lt d nodes) (relations_of a)) (nat_lt a.repo repos) (second_of_both (list_all (λ n. nat_lt n names) (names_of a)) _ fit)) packages h

module _ (task : Task) (closed : IsClosed task) where
  inside_written : are_inside (length (written_task task).repos) (written_task task).packages ≡ true
  inside_written =
      ap (λ n. are_inside n (written_task task).packages) (length-map task.universe.repos (written_repo task.pool)) ∙ all_map (λ a. nat_lt a.repo (length task.universe.repos)) (written_package task.pool) task.universe.packages
      ∙ inside_fits (length task.pool.names) (length task.pool.nodes) (length task.universe.repos) task.universe.packages closed.universe.packages

  module _ (finder : Finder) (is : IsFinder (written_task task) finder) where
    -- one more repository
    pub finder_with_repo : (repo : Repo) → IsFinder (written_task (record task { universe = record task.universe { repos = task.universe.repos ++ repo ∷ [] } })) finder
    finder_with_repo repo =
        let repos = map (written_repo task.pool) task.universe.repos in
        let packages = map (written_package task.pool) task.universe.packages in
        let now = map (written_repo task.pool) (task.universe.repos ++ repo ∷ []) in
        let more : now ≡ repos ++ map (written_repo task.pool) (repo ∷ []) = map-append (written_repo task.pool) task.universe.repos (repo ∷ []) in
        if_some finder.index
        (stays_first repos packages inside_written now packages (λ k low. ap (λ l. slice_get l k) more ∙ get_front repos (map (written_repo task.pool) (repo ∷ [])) k low) (λ k low. refl) (omega arith))
        is

    -- more packages
    pub finder_with_packages : (universe : Contents) (added : List Package) → universe.repos ≡ task.universe.repos → universe.packages ≡ task.universe.packages ++ added
        → IsFinder (written_task (record task { universe = universe })) finder
    finder_with_packages universe added same_repos behind =
        let repos = map (written_repo task.pool) task.universe.repos in
        let packages = map (written_package task.pool) task.universe.packages in
        let now = map (written_package task.pool) universe.packages in
        let more : now ≡ packages ++ map (written_package task.pool) added = ap (map (written_package task.pool)) behind ∙ map-append (written_package task.pool) task.universe.packages added in
        let longer : length packages ≤ length now = rw more (omega (arith, length-append packages (map (written_package task.pool) added))) in
        if_some finder.index
        (stays_first repos packages inside_written (map (written_repo task.pool) universe.repos) now (λ k low. ap (λ l. slice_get (map (written_repo task.pool) l) k) same_repos)
        (λ k low. ap (λ l. slice_get l k) more ∙ get_front packages (map (written_package task.pool) added) k low) longer)
        is
