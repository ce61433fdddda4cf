-- The lines of a package by its ids are those of the package with its texts.
use Rattle.std.proofs.Common.{◌≡◌, ℕ, Bool, true, false, ◌&&◌, List, [], ◌∷◌, ◌++◌, map, length, slice_get, drop, ◌+◌, ◌==◌, Option, Some, None, refl, sym, ap, ◌∙◌, append_assoc, nat_lt}
use Rattle.std.specs.Prelude.{codes, option_to_list, option_map, if◌then◌else◌}
use Rattle.std.specs.List.{list_all}
use Rattle.std.proofs.lemmas.Bool.{ltb-true}
use Rattle.std.proofs.lemmas.List.Elements.{filter-append}
use Rattle.solv_base.specs.Pool.{Held, text_at, text_tree}
use Rattle.solv_deps.specs.Canonical.{text}
use Rattle.solv_pool.specs.Prelude.{names_of, relations_of, fits, IsOver, WrittenNeed, WrittenPackage, written_package}
use Rattle.solv_pool.specs.Contents.{Contents}
use Rattle.solv_pool.specs.declared.packages.Need.{Need}
use Rattle.solv_pool.specs.declared.packages.Package.{Package}
use Rattle.solv_tags.specs.declared.tag.Tag.{Tag}
use Rattle.solv_tags.specs.declared.tag.Tag.TheVariants.{Prv, Req, Prq, Con, Obs, Rec, Sug, Sup, Enh, Vnd, Fls}
use Rattle.solv_list.proofs.Booleans.{first_of_both, second_of_both}
use Rattle.solv_list.proofs.Lists.{all_left, all_right, all_at, drop_get}
use Rattle.solv_writing.specs.Inner.TagParts.{Entry, letters_of, tag_line, entry_line, text_entry, dep_entry, entries_of, package_lines, tag_lines}
use Rattle.solv_writing.specs.Inner.LineNames.{need_entry, package_entry}
use Rattle.solv_writing.specs.Inner.ScriptParts.{packages_of}
use Rattle.solv_writing.specs.Inner.PackageLines.{HasNames, HasRelations, dep_lines, need_lines, strong_lines, weak_lines}

module _ (pool : Held) where
  deps_same : (t : Tag) (ds : List ℕ) → dep_lines pool (letters_of t) ds ≡ map entry_line (map (dep_entry t) (map (text_tree pool) ds))
  deps_same t [] = refl
  deps_same t (d ∷ ds) = ap (λ ls. tag_line (letters_of t) (text (text_tree pool d)) ∷ ls) (deps_same t ds)

  names_same : (t : Tag) (ns : List ℕ) → map (λ n. tag_line (letters_of t) (text_at pool n)) ns ≡ map entry_line (map (text_entry t) (map (text_at pool) ns))
  names_same t [] = refl
  names_same t (n ∷ ns) = ap (λ ls. tag_line (letters_of t) (text_at pool n) ∷ ls) (names_same t ns)

  vendor_same : (v : Option ℕ) → map (λ n. tag_line (codes "Vnd") (text_at pool n)) (option_to_list v) ≡ map entry_line (map (text_entry Vnd) (option_to_list (option_map (text_at pool) v)))
  vendor_same None = refl
  vendor_same (Some n) = refl

  need_same : (pre : Bool) (x : List ℕ) → tag_line (if pre then codes "Prq" else codes "Req") x ≡ tag_line (letters_of (if pre then Prq else Req)) x
  need_same true x = refl
  need_same false x = refl

  needs_same : (needs : List Need) → need_lines pool needs ≡ map entry_line (map need_entry (map (λ (need : Need). let n : WrittenNeed = record { dep = text_tree pool need.dep; pre = need.pre } in n) needs))
  needs_same [] = refl
  needs_same (need ∷ needs) =
      ap (λ l. l ∷ need_lines pool needs) (need_same need.pre (text (text_tree pool need.dep)))
      ∙ ap (λ ls. tag_line (letters_of (if need.pre then Prq else Req)) (text (text_tree pool need.dep)) ∷ ls) (needs_same needs)

lines_both : (xs ys : List Entry) → map entry_line (xs ++ ys) ≡ map entry_line xs ++ map entry_line ys
lines_both [] ys = refl
lines_both (x ∷ xs) ys = ap (λ ls. entry_line x ∷ ls) (lines_both xs ys)

-- after a front: ten parts of lines are the lines of ten parts
parts : (xs ys : List Entry) (l m : List (List ℕ)) → l ≡ map entry_line xs → m ≡ map entry_line ys → l ++ m ≡ map entry_line (xs ++ ys)
parts xs ys l m e f = ap (λ x. x ++ m) e ∙ ap (λ y. map entry_line xs ++ y) f ∙ sym (lines_both xs ys)

-- what the five calls have appended
pub package_is : (pool : Held) (a : Package) (l0 l1 l2 l3 l4 l5 : List (List ℕ))
    → l1 ≡ l0 ++ entry_line (package_entry (written_package pool a)) ∷ []
    → l2 ≡ l1 ++ map (λ n. tag_line (codes "Vnd") (text_at pool n)) (option_to_list a.vendor)
    → l3 ≡ l2 ++ strong_lines pool a
    → l4 ≡ l3 ++ weak_lines pool a
    → l5 ≡ l4 ++ map (λ n. tag_line (codes "Fls") (text_at pool n)) a.files
    → l5 ≡ l0 ++ package_lines (written_package pool a)
package_is pool a l0 l1 l2 l3 l4 l5 e1 e2 e3 e4 e5 =
    let b = written_package pool a in
    let first : List (List ℕ) = entry_line (package_entry b) ∷ [] in
    let v : List (List ℕ) = map (λ n. tag_line (codes "Vnd") (text_at pool n)) (option_to_list a.vendor) in
    let f : List (List ℕ) = map (λ n. tag_line (codes "Fls") (text_at pool n)) a.files in
    let p1 = dep_lines pool (codes "Prv") a.provides in
    let p2 = need_lines pool a.requires_ in
    let p3 = dep_lines pool (codes "Con") a.conflicts in
    let p4 = dep_lines pool (codes "Obs") a.obsoletes in
    let q1 = dep_lines pool (codes "Rec") a.recommends in
    let q2 = dep_lines pool (codes "Sug") a.suggests in
    let q3 = dep_lines pool (codes "Sup") a.supplements in
    let q4 = dep_lines pool (codes "Enh") a.enhances in
    let rest : v ++ (p1 ++ (p2 ++ (p3 ++ (p4 ++ (q1 ++ (q2 ++ (q3 ++ (q4 ++ f)))))))) ≡ map entry_line (entries_of b) =
    parts _ _ v _ (vendor_same pool a.vendor) (parts _ _ p1 _ (deps_same pool Prv a.provides) (parts _ _ p2 _ (needs_same pool a.requires_) (parts _ _ p3 _ (deps_same pool Con a.conflicts) (parts _ _ p4 _ (deps_same pool Obs a.obsoletes)
    (parts _ _ q1 _ (deps_same pool Rec a.recommends) (parts _ _ q2 _ (deps_same pool Sug a.suggests) (parts _ _ q3 _ (deps_same pool Sup a.supplements) (parts _ _ q4 f (deps_same pool Enh a.enhances) (names_same pool Fls a.files))))))))) in
    let strong : (p1 ++ (p2 ++ (p3 ++ p4))) ++ ((q1 ++ (q2 ++ (q3 ++ q4))) ++ f) ≡ p1 ++ (p2 ++ (p3 ++ (p4 ++ (q1 ++ (q2 ++ (q3 ++ (q4 ++ f))))))) =
    ap (λ x. (p1 ++ (p2 ++ (p3 ++ p4))) ++ x) (four q1 q2 q3 q4 f) ∙ four p1 p2 p3 p4 (q1 ++ (q2 ++ (q3 ++ (q4 ++ f)))) in
    e5 ∙ ap (λ x. x ++ f) (e4 ∙ ap (λ x. x ++ weak_lines pool a) (e3 ∙ ap (λ x. x ++ strong_lines pool a) (e2 ∙ ap (λ x. x ++ v) e1)))
    ∙ five l0 first v (strong_lines pool a) (weak_lines pool a) f
    ∙ ap (λ x. l0 ++ (first ++ (v ++ x))) strong ∙ ap (λ x. l0 ++ (first ++ x)) rest
  where
    four : (a b c d e : List (List ℕ)) → (a ++ (b ++ (c ++ d))) ++ e ≡ a ++ (b ++ (c ++ (d ++ e)))
    four a b c d e = append_assoc a (b ++ (c ++ d)) e ∙ ap (λ x. a ++ x) (append_assoc b (c ++ d) e ∙ ap (λ x. b ++ x) (append_assoc c d e))

    five : (a b c d e f : List (List ℕ)) → ((((a ++ b) ++ c) ++ d) ++ e) ++ f ≡ a ++ (b ++ (c ++ (d ++ (e ++ f))))
    five a b c d e f =
        append_assoc (((a ++ b) ++ c) ++ d) e f ∙ append_assoc ((a ++ b) ++ c) d (e ++ f) ∙ append_assoc (a ++ b) c (d ++ (e ++ f)) ∙ append_assoc a b (c ++ (d ++ (e ++ f)))

-- a package that fits
pub names_are : (pool : Held) (repos : ℕ) (a : Package) → fits (length pool.names) (length pool.nodes) repos a ≡ true → HasNames pool a
names_are pool repos a h =
    let named = λ (n : ℕ). nat_lt n (length pool.names) in
    let names = first_of_both (list_all named (names_of a)) _ h in
    let n1 = second_of_both (named a.name) _ names in
    let n2 = second_of_both (named a.evr) _ n1 in
    let n3 = second_of_both (named a.arch) (list_all named (option_to_list a.vendor ++ a.files)) n2 in
    record {
      name = ltb-true a.name (length pool.names) (first_of_both (named a.name) _ names);
      evr = ltb-true a.evr (length pool.names) (first_of_both (named a.evr) _ n1);
      arch = ltb-true a.arch (length pool.names) (first_of_both (named a.arch) _ n2);
      vendor = all_left named (option_to_list a.vendor) a.files n3;
      files = all_right named (option_to_list a.vendor) a.files n3;
    }

needs_are : (n : ℕ) (needs : List Need) → list_all (λ d. nat_lt d n) (map (λ need. need.dep) needs) ≡ true → list_all (λ (need : Need). nat_lt need.dep n) needs ≡ true
needs_are n [] h = refl
needs_are n (need ∷ needs) h =
    let more : List ℕ = map (λ need. need.dep) needs in
    both (nat_lt need.dep n) _ (first_of_both (nat_lt need.dep n) (list_all (λ d. nat_lt d n) more) h) (needs_are n needs (second_of_both (nat_lt need.dep n) (list_all (λ d. nat_lt d n) more) h))
  where
    both : (a b : Bool) → a ≡ true → b ≡ true → (a && b) ≡ true
    both a b h k = rw (h, k) refl

pub relations_are : (pool : Held) (repos : ℕ) (a : Package) → fits (length pool.names) (length pool.nodes) repos a ≡ true → HasRelations pool a
relations_are pool repos a h =
    let related = λ (d : ℕ). nat_lt d (length pool.nodes) in
    let relations = first_of_both (list_all related (relations_of a)) (nat_lt a.repo repos) (second_of_both (list_all (λ n. nat_lt n (length pool.names)) (names_of a)) (list_all related (relations_of a) && nat_lt a.repo repos) h) in
    let needs : List ℕ = map (λ need. need.dep) a.requires_ in
    let r7 : List ℕ = a.supplements ++ a.enhances in
    let r6 : List ℕ = a.suggests ++ r7 in
    let r5 : List ℕ = a.recommends ++ r6 in
    let r4 : List ℕ = a.obsoletes ++ r5 in
    let r3 : List ℕ = a.conflicts ++ r4 in
    let r2 : List ℕ = needs ++ r3 in
    let k2 : list_all related r2 ≡ true = all_right related a.provides r2 relations in
    let k3 : list_all related r3 ≡ true = all_right related needs r3 k2 in
    let k4 : list_all related r4 ≡ true = all_right related a.conflicts r4 k3 in
    let k5 : list_all related r5 ≡ true = all_right related a.obsoletes r5 k4 in
    let k6 : list_all related r6 ≡ true = all_right related a.recommends r6 k5 in
    let k7 : list_all related r7 ≡ true = all_right related a.suggests r7 k6 in
    record {
      provides = all_left related a.provides r2 relations;
      requires_ = needs_are (length pool.nodes) a.requires_ (all_left related needs r3 k2);
      conflicts = all_left related a.conflicts r4 k3;
      obsoletes = all_left related a.obsoletes r5 k4;
      recommends = all_left related a.recommends r6 k5;
      suggests = all_left related a.suggests r7 k6;
      supplements = all_left related a.supplements a.enhances k7;
      enhances = all_right related a.supplements a.enhances k7;
    }

-- a package of a universe whose ids are of the pool
pub names_there : (pool : Held) (contents : Contents) (k : ℕ) (a : Package) → IsOver pool contents → slice_get contents.packages k ≡ Some a → HasNames pool a
names_there pool contents k a over at = names_are pool (length contents.repos) a (all_at (fits (length pool.names) (length pool.nodes) (length contents.repos)) contents.packages k a over.packages at)

pub relations_there : (pool : Held) (contents : Contents) (k : ℕ) (a : Package) → IsOver pool contents → slice_get contents.packages k ≡ Some a → HasRelations pool a
relations_there pool contents k a over at = relations_are pool (length contents.repos) a (all_at (fits (length pool.names) (length pool.nodes) (length contents.repos)) contents.packages k a over.packages at)

-- one package more
pub tags_both : (xs ys : List WrittenPackage) → tag_lines (xs ++ ys) ≡ tag_lines xs ++ tag_lines ys
tags_both [] ys = refl
tags_both (x ∷ xs) ys = ap (λ l. package_lines x ++ l) (tags_both xs ys) ∙ sym (append_assoc (package_lines x) (tag_lines xs) (tag_lines ys))

pub own_first : (repo : ℕ) (a : WrittenPackage) (others : List WrittenPackage) → packages_of repo (a ∷ others) ≡ packages_of repo (a ∷ []) ++ packages_of repo others
own_first repo a others = filter-append (λ (x : WrittenPackage). x.repo == repo) (a ∷ []) others

pub package_turn : (pool : Held) (repo : ℕ) (packages : List Package) (k : ℕ) (a : Package) (old new whole : List (List ℕ)) → slice_get packages k ≡ Some a
    → new ≡ old ++ tag_lines (packages_of repo (written_package pool a ∷ []))
    → old ++ tag_lines (packages_of repo (map (written_package pool) (drop k packages))) ≡ whole
    → new ++ tag_lines (packages_of repo (map (written_package pool) (drop (k + 1) packages))) ≡ whole
package_turn pool repo packages k a old new whole at e before =
    let rest : List WrittenPackage = map (written_package pool) (drop (k + 1) packages) in
    let b : WrittenPackage = written_package pool a in
    let here : tag_lines (packages_of repo (map (written_package pool) (drop k packages))) ≡ tag_lines (packages_of repo (b ∷ [])) ++ tag_lines (packages_of repo rest) =
    ap (λ l. tag_lines (packages_of repo (map (written_package pool) l))) (drop_get packages k a at)
    ∙ ap tag_lines (own_first repo b rest) ∙ tags_both (packages_of repo (b ∷ [])) (packages_of repo rest) in
    ap (λ l. l ++ tag_lines (packages_of repo rest)) e ∙ append_assoc old (tag_lines (packages_of repo (b ∷ []))) (tag_lines (packages_of repo rest)) ∙ ap (λ l. old ++ l) (sym here) ∙ before
