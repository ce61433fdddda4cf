-- What was read of a script stays so when a repository with its packages comes after the others.
use Rattle.std.proofs.Common.{◌≡◌, ℕ, suc, ◌+◌, ◌==◌, ◌≤◌, ◌<◌, Bool, true, false, not, List, [], ◌∷◌, ◌++◌, map, filter, length, slice_get, Option, Some, None, cond, refl, sym, ap, subst, ◌∙◌, arith, append_assoc, append-nil, nat_lt, All}
use Rattle.std.specs.Prelude.{position, get_or}
use Rattle.std.specs.List.{list_any, position_or_len}
use Rattle.std.specs.Option.{option_map_or}
use Rattle.std.specs.Str.{bytes_eq}
use Rattle.std.proofs.lemmas.Bool.{and_from, ltb-true, lt-ltb}
use Rattle.std.proofs.lemmas.Bool.Decides.{nat_tests}
use Rattle.std.proofs.lemmas.List.{length-append, map-append}
use Rattle.std.proofs.lemmas.List.Elements.{All-head, All-tail, All-nil, All-cons, All-push, All-append, All-weaker, filter-append}
use Rattle.std.proofs.lemmas.List.Folds.{prefix_len-append}
use Rattle.std.proofs.lemmas.List.Quantifiers.{position-Some}
use Rattle.std.proofs.lemmas.Option.{slice_get-get_or}
use Rattle.solv_pool.specs.Contents.{most_packages}
use Rattle.solv_pool.specs.Prelude.{WrittenTask, WrittenRepo, WrittenPackage, WrittenJob, WrittenChoice}
use Rattle.solv_pool.specs.declared.universes.Arch.{Arch}
use Rattle.solv_commands.specs.Commands.{Asked, pkg, by_name, by_provides, one_of, all, nothing}
use Rattle.solv_script.specs.Reads.{WrittenRound}
use Rattle.solv_script.specs.States.{State, repo_name, repo_place, text_of, package_number}
use Rattle.solv_list.proofs.Booleans.{first_of_both, second_of_both}
use Rattle.solv_list.proofs.Lists.{get_front, list_all_join}
use Rattle.solv_list.proofs.Numbers.{equal_to_itself}
use Rattle.solv_io.specs.JoinedWords.{is_word}
use Rattle.solv_writing.specs.Inner.ReadPackages.{are_apart, IsReadPackage}
use Rattle.solv_writing.specs.Inner.ReadScripts.{Chooses, IsReadJob, IsReadRepo, IsReadNamespace, IsToldByName, IsToldByText, packages_from, IsReadSystem, AreDisabledTold, view, IsReadRound}
use Rattle.solv_writing.specs.Inner.ScriptParts.{packages_of}
use Rattle.solv_writing.proofs.GoodStates.{are_below, IsGood}
use Rattle.solv_writing.proofs.ReadTags.{IsGiven, apart_behind}
use Rattle.solv_writing.proofs.Told.{text_stays, number_stays, numbers_stay, told_stays}

-- places
position_parts : {X : Type 0} (f : X → Bool) (xs : List X) (i : ℕ) → position f xs ≡ Some i → (position_or_len f xs ≡ i) × (position_or_len f xs < length xs)
position_parts f xs i h =
    (elim (nat_lt (position_or_len f xs) (length xs)) as (λ b. nat_lt (position_or_len f xs) (length xs) ≡ b → cond b (Some (position_or_len f xs)) None ≡ Some i → (position_or_len f xs ≡ i) × (position_or_len f xs < length xs)) [
      | true ↦ λ e g. (let s : position_or_len f xs ≡ i = cc in s, ltb-true (position_or_len f xs) (length xs) e)
      | false ↦ λ e g. absurd (cc)
    ]) refl h

pub place_found : {X : Type 0} (f : X → Bool) (xs : List X) (i : ℕ) (d : X) → position f xs ≡ Some i → (slice_get xs i ≡ Some (get_or xs i d)) × (f (get_or xs i d) ≡ true)
place_found f xs i d h = let q = position-Some f xs i d h in (slice_get-get_or xs i d q.0, q.1)

pub place_below : {X : Type 0} (f : X → Bool) (xs : List X) (i : ℕ) → position f xs ≡ Some i → i < length xs
place_below f xs i h = let q = position_parts f xs i h in let a = q.0 in let b = q.1 in omega (arith, a, b)

front_place : {X : Type 0} (f : X → Bool) (xs ys : List X) → position_or_len f xs < length xs → position_or_len f (xs ++ ys) ≡ position_or_len f xs
front_place f xs ys h = let e : (position_or_len f xs == length xs) ≡ false = grind (arith, nat_tests) in prefix_len-append (λ x. not (f x)) xs ys ∙ rw e refl

place_stays : {X : Type 0} (f : X → Bool) (xs ys : List X) (i : ℕ) → position f xs ≡ Some i → position f (xs ++ ys) ≡ Some i
place_stays f xs ys i h =
    let q = position_parts f xs i h in
    let same : position_or_len f (xs ++ ys) ≡ position_or_len f xs = front_place f xs ys q.1 in
    let l = q.1 in
    let longer : length (xs ++ ys) ≡ length xs + length ys = length-append xs ys in
    let below : nat_lt (position_or_len f (xs ++ ys)) (length (xs ++ ys)) ≡ true = lt-ltb (position_or_len f (xs ++ ys)) (length (xs ++ ys)) (omega (arith, same, l, longer)) in
    rw below (ap Some (same ∙ q.0))

-- packages by repositories
filter_none : {X : Type 0} (f : X → Bool) (xs : List X) → All (λ x. f x ≡ false) xs → filter f xs ≡ []
filter_none f [] h = refl
filter_none f (x ∷ xs) h = rw (All-head (λ y. f y ≡ false) x xs h) (filter_none f xs (All-tail (λ y. f y ≡ false) x xs h))

filter_all : {X : Type 0} (f : X → Bool) (xs : List X) → All (λ x. f x ≡ true) xs → filter f xs ≡ xs
filter_all f [] h = refl
filter_all f (x ∷ xs) h = rw (All-head (λ y. f y ≡ true) x xs h) (ap (λ l. x ∷ l) (filter_all f xs (All-tail (λ y. f y ≡ true) x xs h)))

below_other : (n : ℕ) (packages : List WrittenPackage) → are_below n packages ≡ true → All (λ (a : WrittenPackage). (a.repo == n) ≡ false) packages
below_other n [] h = All-nil (λ (a : WrittenPackage). (a.repo == n) ≡ false)
below_other n (a ∷ packages) h =
    All-cons (λ (a : WrittenPackage). (a.repo == n) ≡ false) a packages (let e : nat_lt a.repo n ≡ true = first_of_both (nat_lt a.repo n) (are_below n packages) h in grind (arith, nat_tests))
    (below_other n packages (second_of_both (nat_lt a.repo n) (are_below n packages) h))

own_is : (n : ℕ) (ps : List WrittenPackage) → All (IsGiven n) ps → All (λ (a : WrittenPackage). (a.repo == n) ≡ true) ps
own_is n ps h = All-weaker (IsGiven n) (λ (a : WrittenPackage). (a.repo == n) ≡ true) (λ a g. ap (λ k. k == n) g.own ∙ equal_to_itself n) ps h

own_other : (k n : ℕ) → k < n → (ps : List WrittenPackage) → All (IsGiven n) ps → All (λ (a : WrittenPackage). (a.repo == k) ≡ false) ps
own_other k n l ps h = All-weaker (IsGiven n) (λ (a : WrittenPackage). (a.repo == k) ≡ false) (λ a g. ap (λ m. m == k) g.own ∙ grind (arith, nat_tests)) ps h

own_below : (n : ℕ) (ps : List WrittenPackage) → All (IsGiven n) ps → are_below (n + 1) ps ≡ true
own_below n [] h = refl
own_below n (a ∷ ps) h =
    let e = (All-head (IsGiven n) a ps h).own in
    and_from (nat_lt a.repo (n + 1)) (are_below (n + 1) ps) (lt-ltb a.repo (n + 1) (omega (arith, e))) (own_below n ps (All-tail (IsGiven n) a ps h))

below_more : (n : ℕ) (packages : List WrittenPackage) → are_below n packages ≡ true → are_below (n + 1) packages ≡ true
below_more n [] h = refl
below_more n (a ∷ packages) h =
    let l : a.repo < n = ltb-true a.repo n (first_of_both (nat_lt a.repo n) (are_below n packages) h) in
    and_from (nat_lt a.repo (n + 1)) (are_below (n + 1) packages) (lt-ltb a.repo (n + 1) (omega (arith, l))) (below_more n packages (second_of_both (nat_lt a.repo n) (are_below n packages) h))

from_behind : (place : ℕ) (rs : List WrittenRepo) (r : WrittenRepo) (q : List WrittenPackage) → packages_from place (rs ++ r ∷ []) q ≡ packages_from place rs q ++ packages_of (place + length rs) q
from_behind place [] r q = append-nil (packages_of place q) ∙ ap (λ n. packages_of n q) (let e : place ≡ place + 0 = omega arith in e)
from_behind place (s ∷ rs) r q =
    ap (λ l. packages_of place q ++ l) (from_behind (place + 1) rs r q ∙ ap (λ n. packages_from (place + 1) rs q ++ packages_of n q) (let e : place + 1 + length rs ≡ place + suc (length rs) = omega arith in e))
    ∙ sym (append_assoc (packages_of place q) (packages_from (place + 1) rs q) (packages_of (place + suc (length rs)) q))

from_front : (place n : ℕ) (rs : List WrittenRepo) (packages ps : List WrittenPackage) → place + length rs ≤ n → All (IsGiven n) ps → packages_from place rs (packages ++ ps) ≡ packages_from place rs packages
from_front place n [] packages ps l h = refl
from_front place n (r ∷ rs) packages ps l h =
    let here : packages_of place (packages ++ ps) ≡ packages_of place packages =
    filter-append (λ (a : WrittenPackage). a.repo == place) packages ps ∙ ap (λ e. packages_of place packages ++ e) (filter_none (λ (a : WrittenPackage). a.repo == place) ps (own_other place n (omega (arith, l)) ps h)) ∙ append-nil (packages_of place packages) in
    ap (λ x. x ++ packages_from (place + 1) rs (packages ++ ps)) here ∙ ap (λ x. packages_of place packages ++ x) (from_front (place + 1) n rs packages ps (omega (arith, l)) h)

-- a state with one more repository, of these packages
abbrev pub with_repository : State → WrittenRepo → List WrittenPackage → State
with_repository s r ps = record s { task = record s.task { repos = s.task.repos ++ r ∷ []; packages = s.task.packages ++ ps; disabled = s.task.disabled ++ map (λ a. false) ps } }

module _ (s : State) (good : IsGood s) (r : WrittenRepo) (ps : List WrittenPackage) (given : All (IsGiven (length s.task.repos)) ps) where
  abbrev old : WrittenTask
  old = view s.task.repos s.task.packages

  abbrev new : WrittenTask
  new = view (s.task.repos ++ r ∷ []) (s.task.packages ++ ps)

  in_order_again : packages_from 0 (s.task.repos ++ r ∷ []) (s.task.packages ++ ps) ≡ s.task.packages ++ ps
  in_order_again =
      let n = length s.task.repos in
      let front : packages_from 0 s.task.repos (s.task.packages ++ ps) ≡ s.task.packages = from_front 0 n s.task.repos s.task.packages ps (omega arith) given ∙ good.universe.in_order in
      let mine : packages_of n (s.task.packages ++ ps) ≡ ps =
      filter-append (λ (a : WrittenPackage). a.repo == n) s.task.packages ps
      ∙ ap (λ x. x ++ packages_of n ps) (filter_none (λ (a : WrittenPackage). a.repo == n) s.task.packages (below_other n s.task.packages good.own))
      ∙ filter_all (λ (a : WrittenPackage). a.repo == n) ps (own_is n ps given) in
      from_behind 0 s.task.repos r (s.task.packages ++ ps)
      ∙ ap (λ k. packages_from 0 s.task.repos (s.task.packages ++ ps) ++ packages_of k (s.task.packages ++ ps)) (let e : 0 + n ≡ n = omega arith in e)
      ∙ ap (λ x. x ++ packages_of n (s.task.packages ++ ps)) front ∙ ap (λ x. s.task.packages ++ x) mine

  name_stays : (place : ℕ) → IsToldByName old place → IsToldByName new place
  name_stays place told =
      let below : place < length s.task.repos = place_below (λ (q : WrittenRepo). bytes_eq (repo_name old place) q.name) s.task.repos place told.place_is in
      let same : repo_name new place ≡ repo_name old place = ap (λ (o : Option WrittenRepo). option_map_or (λ (q : WrittenRepo). q.name) o []) (get_front s.task.repos (r ∷ []) place below) in
      record {
        word = ap is_word same ∙ told.word;
        place_is = ap (repo_place new) same ∙ place_stays (λ (q : WrittenRepo). bytes_eq (repo_name old place) q.name) s.task.repos (r ∷ []) place told.place_is;
      }

  system_stays : (arch : Option Arch) (installed : Option ℕ) → IsReadSystem old arch installed → IsReadSystem new arch installed
  system_stays None installed h = h
  system_stays (Some a) None h = h
  system_stays (Some a) (Some place) h = name_stays place h

  namespace_stays : (n : List ℕ × List ℕ) → IsReadNamespace old n → IsReadNamespace new n
  namespace_stays n h = record {
    name = h.name;
    namespace = h.namespace;
    first = h.first;
    rest = h.rest;
    some = h.some;
    told = All-weaker (IsToldByText old) (IsToldByText new) (told_stays s.task.repos (r ∷ []) s.task.packages ps good.own) n.1 h.told;
  }

  choice_stays : (asked : Asked) (c : WrittenChoice) → Chooses old asked c → Chooses new asked c
  choice_stays (pkg t) c h = (h.0, number_stays s.task.repos (r ∷ []) s.task.packages ps good.own t (suc h.0) h.1, h.2)
  choice_stays (by_name ws) c h = h
  choice_stays (by_provides ws) c h = h
  choice_stays (one_of ws) c h = (h.0, numbers_stay s.task.repos (r ∷ []) s.task.packages ps good.own ws h.0 h.1, h.2, h.3)
  choice_stays all c h = h
  choice_stays nothing c h = h

  job_stays : (j : WrittenJob) → IsReadJob old j → IsReadJob new j
  job_stays j h = record { first = h.first; others = h.others; text = h.text; words = h.words; asked = h.asked; said = h.said; chooses = choice_stays h.asked j.choice h.chooses }

  fresh_told : (qs : List WrittenPackage) (k : ℕ) → AreDisabledTold new k qs (map (λ a. false) qs)
  fresh_told [] k = tt
  fresh_told (q ∷ qs) k = fresh_told qs (suc k)

  disabled_stays : (front : List WrittenPackage) (marks : List Bool) (k : ℕ) → are_below (length s.task.repos) front ≡ true → AreDisabledTold old k front marks → AreDisabledTold new k (front ++ ps) (marks ++ map (λ a. false) ps)
  disabled_stays [] [] k b h = fresh_told ps k
  disabled_stays (a ∷ front) (true ∷ marks) k b h =
      let same : text_of new a ≡ text_of old a = text_stays s.task.repos (r ∷ []) s.task.packages ps good.own a (ltb-true a.repo (length s.task.repos) (first_of_both (nat_lt a.repo (length s.task.repos)) (are_below (length s.task.repos) front) b)) in (
        ap is_word same ∙ h.0,
        ap (package_number new) same ∙ number_stays s.task.repos (r ∷ []) s.task.packages ps good.own (text_of old a) (suc k) h.1,
        disabled_stays front marks (suc k) (second_of_both (nat_lt a.repo (length s.task.repos)) (are_below (length s.task.repos) front) b) h.2,
      )
  disabled_stays (a ∷ front) (false ∷ marks) k b h = disabled_stays front marks (suc k) (second_of_both (nat_lt a.repo (length s.task.repos)) (are_below (length s.task.repos) front) b) h
  disabled_stays [] (m ∷ marks) k b h = absurd h
  disabled_stays (a ∷ front) [] k b h = absurd h

  round_stays : (q : WrittenRound) → IsReadRound old q → IsReadRound new q
  round_stays q h = record { jobs = All-weaker (IsReadJob old) (IsReadJob new) job_stays q.jobs h.jobs; kinds = h.kinds }

  pub grown : IsReadRepo r → list_any (bytes_eq r.name) (map (λ q. q.name) s.task.repos) ≡ false → length s.task.packages + length ps ≤ most_packages → IsGood (with_repository s r ps)
  grown own free few =
      let is = good.universe in
      record {
        universe = record {
          repos = All-push IsReadRepo s.task.repos r is.repos own;
          names_once = subst (λ l. are_apart bytes_eq [] l ≡ true) (sym (map-append (λ (q : WrittenRepo). q.name) s.task.repos (r ∷ []))) (apart_behind bytes_eq [] (map (λ q. q.name) s.task.repos) r.name is.names_once free);
          packages = All-append IsReadPackage s.task.packages ps is.packages (All-weaker (IsGiven (length s.task.repos)) IsReadPackage (λ a g. g.read) ps given);
          in_order = in_order_again;
          few = let e = length-append s.task.packages ps in omega (arith, e, few);
          system = system_stays s.task.arch s.task.installed is.system;
          disabled = disabled_stays s.task.packages s.task.disabled 0 good.own is.disabled;
          namespaces = All-weaker (IsReadNamespace old) (IsReadNamespace new) namespace_stays s.task.namespaces is.namespaces;
          namespaces_once = is.namespaces_once;
        };
        checks = good.checks;
        earlier = All-weaker (IsReadRound old) (IsReadRound new) round_stays s.earlier good.earlier;
        jobs = All-weaker (IsReadJob old) (IsReadJob new) job_stays s.task.jobs good.jobs;
        kinds = good.kinds;
        own =
            subst (λ n. are_below n (s.task.packages ++ ps) ≡ true) (sym (length-append s.task.repos (r ∷ [])))
            (list_all_join (λ (a : WrittenPackage). nat_lt a.repo (length s.task.repos + 1)) s.task.packages ps (below_more (length s.task.repos) s.task.packages good.own) (own_below (length s.task.repos) ps given));
      }
