-- What a package says stays while the pool grows, and what its lists of ids say.
use Rattle.std.proofs.Common.{◌≡◌, ℕ, ◌<◌, ◌≤◌, Bool, true, false, List, [], ◌∷◌, ◌++◌, map, length, Option, Some, None, refl, sym, ap, ◌∙◌, arith}
use Rattle.std.specs.Prelude.{nat_lt, ◌&&◌, ◌||◌, ◌==◌, option_to_list, if◌then◌else◌}
use Rattle.std.specs.Option.{option_map}
use Rattle.std.specs.List.{list_any, list_all}
use Rattle.std.proofs.lemmas.Bool.{ltb-true, and_from}
use Rattle.std.proofs.lemmas.Bool.Decides.{nat_tests}
use Rattle.std.proofs.lemmas.List.{map-append}
use Rattle.std.proofs.lemmas.List.Folds.{list_all-map}
use Rattle.solv_base.specs.Dependency.{Dep}
use Rattle.solv_base.specs.Pool.{Held, Grows, text_at, text_tree}
use Rattle.solv_pool.specs.Prelude.{fits, names_of, relations_of, WrittenNeed, written_package}
use Rattle.solv_pool.specs.declared.packages.Need.{Need}
use Rattle.solv_pool.specs.declared.packages.Package.{Package}
use Rattle.solv_tags.specs.Entries.{is_same, with_need, with_dependency}
use Rattle.solv_tags.specs.Inner.Tags.{also_pre, with_entry}
use Rattle.solv_tags.specs.Inner.TagReading.{IsOf, with_id, also_pre_id, with_need_id, with_entry_id}
use Rattle.solv_tags.specs.declared.tag.Tag.{Tag}
use Rattle.solv_tags.specs.declared.tag.Tag.TheVariants.{Pkg, Prv, Req, Prq, Con, Obs, Rec, Sug, Sup, Enh, Vnd, Fls}
use Rattle.solv_tags.proofs.SameDependency.{same_dependency, dependency_itself}
use Rattle.solv_list.proofs.Booleans.{first_of_both, second_of_both}
use Rattle.solv_list.proofs.Lists.{all_left, all_right, list_all_join}
use Rattle.solv_list.proofs.Numbers.{below_wider}

-- two functions that agree where a test holds
pub same_map : {X Y : Type 0} (test : X → Bool) (f g : X → Y) → ((x : X) → test x ≡ true → f x ≡ g x) → (xs : List X) → list_all test xs ≡ true → map f xs ≡ map g xs
same_map test f g same [] h = refl
same_map test f g same (x ∷ xs) h = rw (same x (first_of_both (test x) (list_all test xs) h), same_map test f g same xs (second_of_both (test x) (list_all test xs) h)) refl

all_wider : {X : Type 0} (f : X → ℕ) (n m : ℕ) → n ≤ m → (xs : List X) → list_all (λ x. nat_lt (f x) n) xs ≡ true → list_all (λ x. nat_lt (f x) m) xs ≡ true
all_wider f n m le [] h = refl
all_wider f n m le (x ∷ xs) h =
    and_from (nat_lt (f x) m) (list_all (λ y. nat_lt (f y) m) xs) (below_wider (f x) n m le (first_of_both (nat_lt (f x) n) (list_all (λ y. nat_lt (f y) n) xs) h))
    (all_wider f n m le xs (second_of_both (nat_lt (f x) n) (list_all (λ y. nat_lt (f y) n) xs) h))

pub of_grown : (old new : Held) (a : Package) → Grows old new → IsOf old a → IsOf new a
of_grown old new a grows of = record {
  name = below_wider a.name (length old.names) (length new.names) grows.names of.name;
  evr = below_wider a.evr (length old.names) (length new.names) grows.names of.evr;
  arch = below_wider a.arch (length old.names) (length new.names) grows.names of.arch;
  vendor = all_wider (λ (n : ℕ). n) (length old.names) (length new.names) grows.names (option_to_list a.vendor) of.vendor;
  provides = all_wider (λ (d : ℕ). d) (length old.nodes) (length new.nodes) grows.nodes a.provides of.provides;
  requires_ = all_wider (λ (need : Need). need.dep) (length old.nodes) (length new.nodes) grows.nodes a.requires_ of.requires_;
  conflicts = all_wider (λ (d : ℕ). d) (length old.nodes) (length new.nodes) grows.nodes a.conflicts of.conflicts;
  obsoletes = all_wider (λ (d : ℕ). d) (length old.nodes) (length new.nodes) grows.nodes a.obsoletes of.obsoletes;
  recommends = all_wider (λ (d : ℕ). d) (length old.nodes) (length new.nodes) grows.nodes a.recommends of.recommends;
  suggests = all_wider (λ (d : ℕ). d) (length old.nodes) (length new.nodes) grows.nodes a.suggests of.suggests;
  supplements = all_wider (λ (d : ℕ). d) (length old.nodes) (length new.nodes) grows.nodes a.supplements of.supplements;
  enhances = all_wider (λ (d : ℕ). d) (length old.nodes) (length new.nodes) grows.nodes a.enhances of.enhances;
  files = all_wider (λ (n : ℕ). n) (length old.names) (length new.names) grows.names a.files of.files;
}

-- a package of the pool fits a universe that has its repository, and the other way round
pub fits_of : (pool : Held) (count : ℕ) (a : Package) → IsOf pool a → nat_lt a.repo count ≡ true → fits (length pool.names) (length pool.nodes) count a ≡ true
fits_of pool count a of h =
    let low = λ (n : ℕ). nat_lt n (length pool.names) in
    let small = λ (d : ℕ). nat_lt d (length pool.nodes) in
    let l7 = a.supplements ++ a.enhances in
    let l6 = a.suggests ++ l7 in
    let l5 = a.recommends ++ l6 in
    let l4 = a.obsoletes ++ l5 in
    let l3 = a.conflicts ++ l4 in
    let needs = map (λ (need : Need). need.dep) a.requires_ in
    let k7 = list_all_join small a.supplements a.enhances of.supplements of.enhances in
    let k6 = list_all_join small a.suggests l7 of.suggests k7 in
    let k5 = list_all_join small a.recommends l6 of.recommends k6 in
    let k4 = list_all_join small a.obsoletes l5 of.obsoletes k5 in
    let k3 = list_all_join small a.conflicts l4 of.conflicts k4 in
    let k2 = list_all_join small needs l3 (list_all-map small (λ (need : Need). need.dep) a.requires_ ∙ of.requires_) k3 in
    let k1 : list_all small (relations_of a) ≡ true = list_all_join small a.provides (needs ++ l3) of.provides k2 in
    and_from (list_all low (names_of a)) (list_all small (relations_of a) && nat_lt a.repo count)
    (and_from (low a.name) (list_all low (a.evr ∷ a.arch ∷ (option_to_list a.vendor ++ a.files))) of.name
    (and_from (low a.evr) (list_all low (a.arch ∷ (option_to_list a.vendor ++ a.files))) of.evr
    (and_from (low a.arch) (list_all low (option_to_list a.vendor ++ a.files)) of.arch (list_all_join low (option_to_list a.vendor) a.files of.vendor of.files))))
    (and_from (list_all small (relations_of a)) (nat_lt a.repo count) k1 h)

pub of_fits : (pool : Held) (count : ℕ) (a : Package) → fits (length pool.names) (length pool.nodes) count a ≡ true → IsOf pool a
of_fits pool count a h =
    let low = λ (n : ℕ). nat_lt n (length pool.names) in
    let small = λ (d : ℕ). nat_lt d (length pool.nodes) in
    let names : list_all low (names_of a) ≡ true = first_of_both (list_all low (names_of a)) (list_all small (relations_of a) && nat_lt a.repo count) h in
    let more : (list_all small (relations_of a) && nat_lt a.repo count) ≡ true = second_of_both (list_all low (names_of a)) (list_all small (relations_of a) && nat_lt a.repo count) h in
    let r0 : list_all small (relations_of a) ≡ true = first_of_both (list_all small (relations_of a)) (nat_lt a.repo count) more in
    let n1 = second_of_both (low a.name) (list_all low (a.evr ∷ a.arch ∷ (option_to_list a.vendor ++ a.files))) names in
    let n2 = second_of_both (low a.evr) (list_all low (a.arch ∷ (option_to_list a.vendor ++ a.files))) n1 in
    let n3 = second_of_both (low a.arch) (list_all low (option_to_list a.vendor ++ a.files)) n2 in
    let l7 = a.supplements ++ a.enhances in
    let l6 = a.suggests ++ l7 in
    let l5 = a.recommends ++ l6 in
    let l4 = a.obsoletes ++ l5 in
    let l3 = a.conflicts ++ l4 in
    let needs = map (λ (need : Need). need.dep) a.requires_ in
    let r1 = all_right small a.provides (needs ++ l3) r0 in
    let r2 = all_right small needs l3 r1 in
    let r3 = all_right small a.conflicts l4 r2 in
    let r4 = all_right small a.obsoletes l5 r3 in
    let r5 = all_right small a.recommends l6 r4 in
    let r6 = all_right small a.suggests l7 r5 in
    record {
      name = first_of_both (low a.name) (list_all low (a.evr ∷ a.arch ∷ (option_to_list a.vendor ++ a.files))) names;
      evr = first_of_both (low a.evr) (list_all low (a.arch ∷ (option_to_list a.vendor ++ a.files))) n1;
      arch = first_of_both (low a.arch) (list_all low (option_to_list a.vendor ++ a.files)) n2;
      vendor = all_left low (option_to_list a.vendor) a.files n3;
      provides = all_left small a.provides (needs ++ l3) r0;
      requires_ = sym (list_all-map small (λ (need : Need). need.dep) a.requires_) ∙ all_left small needs l3 r1;
      conflicts = all_left small a.conflicts l4 r2;
      obsoletes = all_left small a.obsoletes l5 r3;
      recommends = all_left small a.recommends l6 r4;
      suggests = all_left small a.suggests l7 r5;
      supplements = all_left small a.supplements a.enhances r6;
      enhances = all_right small a.supplements a.enhances r6;
      files = all_right low (option_to_list a.vendor) a.files n3;
    }

module _ (old new : Held) (grows : Grows old new) where
  text_stays : (n : ℕ) → nat_lt n (length old.names) ≡ true → text_at new n ≡ text_at old n
  text_stays n h = grows.texts n (ltb-true n (length old.names) h)

  tree_stays : (d : ℕ) → nat_lt d (length old.nodes) ≡ true → text_tree new d ≡ text_tree old d
  tree_stays d h = grows.trees d (ltb-true d (length old.nodes) h)

  texts_stay : (ns : List ℕ) → list_all (λ n. nat_lt n (length old.names)) ns ≡ true → map (text_at new) ns ≡ map (text_at old) ns
  texts_stay ns h = same_map (λ n. nat_lt n (length old.names)) (text_at new) (text_at old) text_stays ns h

  trees_stay : (ds : List ℕ) → list_all (λ d. nat_lt d (length old.nodes)) ds ≡ true → map (text_tree new) ds ≡ map (text_tree old) ds
  trees_stay ds h = same_map (λ d. nat_lt d (length old.nodes)) (text_tree new) (text_tree old) tree_stays ds h

  vendor_stays : (vendor : Option ℕ) → list_all (λ n. nat_lt n (length old.names)) (option_to_list vendor) ≡ true → option_map (text_at new) vendor ≡ option_map (text_at old) vendor
  vendor_stays None h = refl
  vendor_stays (Some n) h = ap Some (text_stays n (first_of_both (nat_lt n (length old.names)) true h))

  pub package_stays : (a : Package) → IsOf old a → written_package new a ≡ written_package old a
  package_stays a of =
      let needs : map (λ need. record { dep = text_tree new need.dep; pre = need.pre }) a.requires_ ≡ map (λ need. record { dep = text_tree old need.dep; pre = need.pre }) a.requires_
      = same_map {X = Need} {Y = WrittenNeed} (λ need. nat_lt need.dep (length old.nodes)) (λ need. record { dep = text_tree new need.dep; pre = need.pre }) (λ need. record { dep = text_tree old need.dep; pre = need.pre }) (λ need e. rw (tree_stays need.dep e) refl) a.requires_ of.requires_ in
      rw (
        text_stays a.name of.name,
        text_stays a.evr of.evr,
        text_stays a.arch of.arch,
        vendor_stays a.vendor of.vendor,
        texts_stay a.files of.files,
        trees_stay a.provides of.provides,
        needs,
        trees_stay a.conflicts of.conflicts,
        trees_stay a.obsoletes of.obsoletes,
        trees_stay a.recommends of.recommends,
        trees_stay a.suggests of.suggests,
        trees_stay a.supplements of.supplements,
        trees_stay a.enhances of.enhances,
      ) refl

  pub packages_stay : (count : ℕ) (packages : List Package) → list_all (fits (length old.names) (length old.nodes) count) packages ≡ true
      → map (written_package new) packages ≡ map (written_package old) packages
  packages_stay count packages h =
      same_map (fits (length old.names) (length old.nodes) count) (written_package new) (written_package old) (λ a k. package_stays a (of_fits old count a k)) packages h

-- the test of what ids stand for is the test of the ids
module _ {Y : Type 0} (same : Y → Y → Bool) (sound : (y z : Y) → same y z ≡ true → y ≡ z) (itself : (y : Y) → same y y ≡ true)
    (at : ℕ → Y) (count : ℕ) (apart : (m n : ℕ) → m < count → n < count → at m ≡ at n → m ≡ n) where
  pub same_id : (d o : ℕ) → d < count → nat_lt o count ≡ true → same (at d) (at o) ≡ (d == o)
  same_id d o h k =
      elim (same (at d) (at o)) as (λ b. same (at d) (at o) ≡ b → b ≡ (d == o)) [
        | true ↦ λ is. let e : d ≡ o = apart d o h (ltb-true o count k) (sound (at d) (at o) is) in grind (arith, nat_tests)
        | false ↦ λ is.
            let other : d ≡ o → ⊥ = λ e. let twice : same (at d) (at o) ≡ true = rw (← e) (itself (at d)) in cc in
            grind (arith, nat_tests)
      ] refl

  any_id : (d : ℕ) → d < count → (xs : List ℕ) → list_all (λ o. nat_lt o count) xs ≡ true → list_any (same (at d)) (map at xs) ≡ list_any (λ o. d == o) xs
  any_id d h [] k = refl
  any_id d h (x ∷ xs) k =
      rw (same_id d x h (first_of_both (nat_lt x count) (list_all (λ o. nat_lt o count) xs) k), any_id d h xs (second_of_both (nat_lt x count) (list_all (λ o. nat_lt o count) xs) k)) refl

  pub with_id_at : (d : ℕ) (xs : List ℕ) → d < count → list_all (λ o. nat_lt o count) xs ≡ true
      → (if list_any (same (at d)) (map at xs) then map at xs else map at xs ++ at d ∷ []) ≡ map at (with_id d xs)
  with_id_at d xs h k =
      rw (any_id d h xs k) (elim (list_any (λ o. d == o) xs) as (λ b. (if b then map at xs else map at xs ++ at d ∷ []) ≡ map at (if b then xs else xs ++ d ∷ [])) [
        | true ↦ refl
        | false ↦ sym (map-append at xs (d ∷ []))
      ])

-- an id more
pub with_id_all : (p : ℕ → Bool) (d : ℕ) (xs : List ℕ) → p d ≡ true → list_all p xs ≡ true → list_all p (with_id d xs) ≡ true
with_id_all p d xs h k =
    elim (list_any (λ o. d == o) xs) as (λ b. list_all p (if b then xs else xs ++ d ∷ []) ≡ true) [
      | true ↦ k
      | false ↦ list_all_join p xs (d ∷ []) k (and_from (p d) true h refl)
    ]

also_all : (p : ℕ → Bool) (d : ℕ) (pre : Bool) (needs : List Need) → list_all (λ need. p need.dep) needs ≡ true → list_all (λ need. p need.dep) (map (also_pre_id d pre) needs) ≡ true
also_all p d pre [] k = refl
also_all p d pre (need ∷ needs) k =
    let first : p (also_pre_id d pre need).dep ≡ p need.dep
    = elim (d == need.dep) as (λ b. p (if b then record { dep = need.dep; pre = need.pre || pre } else need).dep ≡ p need.dep) [ true ↦ refl | false ↦ refl ] in
    and_from (p (also_pre_id d pre need).dep) (list_all (λ n. p n.dep) (map (also_pre_id d pre) needs)) (first ∙ first_of_both (p need.dep) (list_all (λ n. p n.dep) needs) k)
    (also_all p d pre needs (second_of_both (p need.dep) (list_all (λ n. p n.dep) needs) k))

with_need_all : (p : ℕ → Bool) (d : ℕ) (pre : Bool) (needs : List Need) → p d ≡ true → list_all (λ need. p need.dep) needs ≡ true → list_all (λ need. p need.dep) (with_need_id d pre needs) ≡ true
with_need_all p d pre needs h k =
    elim (list_any (λ need. d == need.dep) needs) as (λ b. list_all (λ need. p need.dep) (if b then map (also_pre_id d pre) needs else needs ++ record { dep = d; pre = pre } ∷ []) ≡ true) [
      | true ↦ also_all p d pre needs k
      | false ↦ list_all_join (λ need. p need.dep) needs (record { dep = d; pre = pre } ∷ []) k (and_from (p d) true h refl)
    ]

module _ (pool : Held) (d : ℕ) (within : nat_lt d (length pool.nodes) ≡ true)
    (apart : (m n : ℕ) → m < length pool.nodes → n < length pool.nodes → text_tree pool m ≡ text_tree pool n → m ≡ n) where
  small : ℕ → Bool
  small o = nat_lt o (length pool.nodes)

  -- a package with one relation more is of the pool
  pub entry_of_pool : (t : Tag) (a : Package) → IsOf pool a → IsOf pool (with_entry_id t d a)
  entry_of_pool Prv a of = record { name = of.name; evr = of.evr; arch = of.arch; vendor = of.vendor; provides = with_id_all (λ o. nat_lt o (length pool.nodes)) d a.provides within of.provides; requires_ = of.requires_; conflicts = of.conflicts; obsoletes = of.obsoletes; recommends = of.recommends; suggests = of.suggests; supplements = of.supplements; enhances = of.enhances; files = of.files }
  entry_of_pool Req a of = record { name = of.name; evr = of.evr; arch = of.arch; vendor = of.vendor; provides = of.provides; requires_ = with_need_all (λ o. nat_lt o (length pool.nodes)) d false a.requires_ within of.requires_; conflicts = of.conflicts; obsoletes = of.obsoletes; recommends = of.recommends; suggests = of.suggests; supplements = of.supplements; enhances = of.enhances; files = of.files }
  entry_of_pool Prq a of = record { name = of.name; evr = of.evr; arch = of.arch; vendor = of.vendor; provides = of.provides; requires_ = with_need_all (λ o. nat_lt o (length pool.nodes)) d true a.requires_ within of.requires_; conflicts = of.conflicts; obsoletes = of.obsoletes; recommends = of.recommends; suggests = of.suggests; supplements = of.supplements; enhances = of.enhances; files = of.files }
  entry_of_pool Con a of = record { name = of.name; evr = of.evr; arch = of.arch; vendor = of.vendor; provides = of.provides; requires_ = of.requires_; conflicts = with_id_all (λ o. nat_lt o (length pool.nodes)) d a.conflicts within of.conflicts; obsoletes = of.obsoletes; recommends = of.recommends; suggests = of.suggests; supplements = of.supplements; enhances = of.enhances; files = of.files }
  entry_of_pool Obs a of = record { name = of.name; evr = of.evr; arch = of.arch; vendor = of.vendor; provides = of.provides; requires_ = of.requires_; conflicts = of.conflicts; obsoletes = with_id_all (λ o. nat_lt o (length pool.nodes)) d a.obsoletes within of.obsoletes; recommends = of.recommends; suggests = of.suggests; supplements = of.supplements; enhances = of.enhances; files = of.files }
  entry_of_pool Rec a of = record { name = of.name; evr = of.evr; arch = of.arch; vendor = of.vendor; provides = of.provides; requires_ = of.requires_; conflicts = of.conflicts; obsoletes = of.obsoletes; recommends = with_id_all (λ o. nat_lt o (length pool.nodes)) d a.recommends within of.recommends; suggests = of.suggests; supplements = of.supplements; enhances = of.enhances; files = of.files }
  entry_of_pool Sug a of = record { name = of.name; evr = of.evr; arch = of.arch; vendor = of.vendor; provides = of.provides; requires_ = of.requires_; conflicts = of.conflicts; obsoletes = of.obsoletes; recommends = of.recommends; suggests = with_id_all (λ o. nat_lt o (length pool.nodes)) d a.suggests within of.suggests; supplements = of.supplements; enhances = of.enhances; files = of.files }
  entry_of_pool Sup a of = record { name = of.name; evr = of.evr; arch = of.arch; vendor = of.vendor; provides = of.provides; requires_ = of.requires_; conflicts = of.conflicts; obsoletes = of.obsoletes; recommends = of.recommends; suggests = of.suggests; supplements = with_id_all (λ o. nat_lt o (length pool.nodes)) d a.supplements within of.supplements; enhances = of.enhances; files = of.files }
  entry_of_pool Enh a of = record { name = of.name; evr = of.evr; arch = of.arch; vendor = of.vendor; provides = of.provides; requires_ = of.requires_; conflicts = of.conflicts; obsoletes = of.obsoletes; recommends = of.recommends; suggests = of.suggests; supplements = of.supplements; enhances = with_id_all (λ o. nat_lt o (length pool.nodes)) d a.enhances within of.enhances; files = of.files }
  entry_of_pool Pkg a of = of
  entry_of_pool Vnd a of = of
  entry_of_pool Fls a of = of

  written_need : Need → WrittenNeed
  written_need need = record { dep = text_tree pool need.dep; pre = need.pre }

  same_tree : (o : ℕ) → nat_lt o (length pool.nodes) ≡ true → is_same (text_tree pool d) (text_tree pool o) ≡ (d == o)
  same_tree o k = same_id is_same same_dependency dependency_itself (text_tree pool) (length pool.nodes) apart d o (ltb-true d (length pool.nodes) within) k

  list_at : (xs : List ℕ) → list_all (λ o. nat_lt o (length pool.nodes)) xs ≡ true → with_dependency (text_tree pool d) (map (text_tree pool) xs) ≡ map (text_tree pool) (with_id d xs)
  list_at xs k = with_id_at is_same same_dependency dependency_itself (text_tree pool) (length pool.nodes) apart d xs (ltb-true d (length pool.nodes) within) k

  any_need : (needs : List Need) → list_all (λ need. nat_lt need.dep (length pool.nodes)) needs ≡ true
      → list_any (λ (need : WrittenNeed). is_same (text_tree pool d) need.dep) (map (λ (need : Need). record { dep = text_tree pool need.dep; pre = need.pre }) needs) ≡ list_any (λ (need : Need). d == need.dep) needs
  any_need [] k = refl
  any_need (need ∷ needs) k =
      rw (
        same_tree need.dep (first_of_both (nat_lt need.dep (length pool.nodes)) (list_all (λ n. nat_lt n.dep (length pool.nodes)) needs) k),
        any_need needs (second_of_both (nat_lt need.dep (length pool.nodes)) (list_all (λ n. nat_lt n.dep (length pool.nodes)) needs) k),
      ) refl

  also_one : (pre : Bool) (need : Need) → nat_lt need.dep (length pool.nodes) ≡ true
      → also_pre (text_tree pool d) pre (record { dep = text_tree pool need.dep; pre = need.pre }) ≡ record { dep = text_tree pool (also_pre_id d pre need).dep; pre = (also_pre_id d pre need).pre }
  also_one pre need k =
      let w : Need → WrittenNeed = λ n. record { dep = text_tree pool n.dep; pre = n.pre } in
      let y : WrittenNeed = record { dep = text_tree pool need.dep; pre = need.pre || pre } in
      let marked : Need = record { dep = need.dep; pre = need.pre || pre } in
      rw (same_tree need.dep k) (elim (d == need.dep) as (λ b. (if b then y else w need) ≡ w (if b then marked else need)) [ true ↦ refl | false ↦ refl ])

  also_at : (pre : Bool) (needs : List Need) → list_all (λ need. nat_lt need.dep (length pool.nodes)) needs ≡ true
      → map (also_pre (text_tree pool d) pre) (map (λ need. record { dep = text_tree pool need.dep; pre = need.pre }) needs) ≡ map (λ need. record { dep = text_tree pool need.dep; pre = need.pre }) (map (also_pre_id d pre) needs)
  also_at pre [] k = refl
  also_at pre (need ∷ needs) k =
      rw (
        also_one pre need (first_of_both (nat_lt need.dep (length pool.nodes)) (list_all (λ n. nat_lt n.dep (length pool.nodes)) needs) k),
        also_at pre needs (second_of_both (nat_lt need.dep (length pool.nodes)) (list_all (λ n. nat_lt n.dep (length pool.nodes)) needs) k),
      ) refl

  needs_at : (pre : Bool) (needs : List Need) → list_all (λ need. nat_lt need.dep (length pool.nodes)) needs ≡ true
      → with_need (text_tree pool d) pre (map (λ need. record { dep = text_tree pool need.dep; pre = need.pre }) needs) ≡ map (λ need. record { dep = text_tree pool need.dep; pre = need.pre }) (with_need_id d pre needs)
  needs_at pre needs k =
      let w : Need → WrittenNeed = λ need. record { dep = text_tree pool need.dep; pre = need.pre } in
      rw (any_need needs k) (elim (list_any (λ need. d == need.dep) needs) as (λ b.
      (if b then map (also_pre (text_tree pool d) pre) (map w needs) else map w needs ++ record { dep = text_tree pool d; pre = pre } ∷ [])
      ≡ map w (if b then map (also_pre_id d pre) needs else needs ++ record { dep = d; pre = pre } ∷ [])) [
        | true ↦ also_at pre needs k
        | false ↦ sym (map-append w needs (record { dep = d; pre = pre } ∷ []))
      ])

  -- a relation more is an entry more
  pub entry_at : (t : Tag) (a : Package) → IsOf pool a → with_entry t (text_tree pool d) (written_package pool a) ≡ written_package pool (with_entry_id t d a)
  entry_at Prv a of = ap (λ (l : List (Dep (List ℕ))). record (written_package pool a) { provides = l }) (list_at a.provides of.provides)
  entry_at Req a of = ap (λ (l : List WrittenNeed). record (written_package pool a) { requires_ = l }) (needs_at false a.requires_ of.requires_)
  entry_at Prq a of = ap (λ (l : List WrittenNeed). record (written_package pool a) { requires_ = l }) (needs_at true a.requires_ of.requires_)
  entry_at Con a of = ap (λ (l : List (Dep (List ℕ))). record (written_package pool a) { conflicts = l }) (list_at a.conflicts of.conflicts)
  entry_at Obs a of = ap (λ (l : List (Dep (List ℕ))). record (written_package pool a) { obsoletes = l }) (list_at a.obsoletes of.obsoletes)
  entry_at Rec a of = ap (λ (l : List (Dep (List ℕ))). record (written_package pool a) { recommends = l }) (list_at a.recommends of.recommends)
  entry_at Sug a of = ap (λ (l : List (Dep (List ℕ))). record (written_package pool a) { suggests = l }) (list_at a.suggests of.suggests)
  entry_at Sup a of = ap (λ (l : List (Dep (List ℕ))). record (written_package pool a) { supplements = l }) (list_at a.supplements of.supplements)
  entry_at Enh a of = ap (λ (l : List (Dep (List ℕ))). record (written_package pool a) { enhances = l }) (list_at a.enhances of.enhances)
  entry_at Pkg a of = refl
  entry_at Vnd a of = refl
  entry_at Fls a of = refl
