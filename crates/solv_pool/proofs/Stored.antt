-- Packages that lie in rows.
use Rattle.std.proofs.Common.{◌≡◌, ◌<◌, ◌≤◌, ◌+◌, ◌*◌, ℕ, zero, suc, List, [], ◌∷◌, ◌++◌, length, take, Some, refl, sym, ap, ◌∙◌, arith, add-zero, length-append}
use Rattle.std.proofs.lemmas.List.{length-take-le}
use Rattle.std.specs.Prelude.{slice_get}
use Rattle.solv_list.specs.Inner.Layout.{row_at}
use Rattle.solv_list.proofs.Layouts.{row_front, row_end, row_kept}
use Rattle.solv_pool.specs.Inner.Stored.{kinds, relation_rows, head_of, package_of, packages_from, with_lists, first_lists, AreOfAll}
use Rattle.solv_pool.specs.declared.package_list.Head.{Head}
use Rattle.solv_pool.specs.declared.package_list.Lists.{Lists}
use Rattle.solv_pool.specs.declared.packages.Package.{Package}

pub length-packages : (lists : Lists) (k : ℕ) (heads : List Head) → length (packages_from lists k heads) ≡ length heads
length-packages lists k [] = refl
length-packages lists k (head ∷ heads) = ap (λ n. suc n) (length-packages lists (suc k) heads)

package_from : (lists : Lists) (k : ℕ) (heads : List Head) (i : ℕ) (head : Head) → slice_get heads i ≡ Some head → slice_get (packages_from lists k heads) i ≡ Some (package_of lists (k + i) head)
package_from lists k [] i head e = absurd (cc)
package_from lists k (h ∷ heads) zero head e =
    let same : h ≡ head = cc in
    rw (same, add-zero k) refl
package_from lists k (h ∷ heads) (suc i) head e =
    let next : suc k + i ≡ k + suc i = omega arith in
    package_from lists (suc k) heads i head e ∙ ap (λ n. Some (package_of lists n head)) next

-- the package at a place
pub package_there : (lists : Lists) (heads : List Head) (i : ℕ) (head : Head) → slice_get heads i ≡ Some head → slice_get (packages_from lists 0 heads) i ≡ Some (package_of lists i head)
package_there lists heads i head e = let here : 0 + i ≡ i = omega arith in package_from lists 0 heads i head e ∙ ap (λ n. Some (package_of lists n head)) here

-- lists that agree on the first so many packages
abbrev Agree : Lists → Lists → ℕ → Type 0
Agree old new count = (k : ℕ) → k < count → (head : Head) → package_of new k head ≡ package_of old k head

packages_agree : (old new : Lists) (count k : ℕ) (heads : List Head) → Agree old new count → k + length heads ≤ count → packages_from new k heads ≡ packages_from old k heads
packages_agree old new count k [] same le = refl
packages_agree old new count k (head ∷ heads) same le =
    rw (same k (omega (arith, le)) head, packages_agree old new count (suc k) heads same (omega (arith, le))) refl

packages_end : (lists : Lists) (k : ℕ) (heads : List Head) (head : Head) → packages_from lists k (heads ++ head ∷ []) ≡ packages_from lists k heads ++ package_of lists (k + length heads) head ∷ []
packages_end lists k [] head = rw (add-zero k) refl
packages_end lists k (h ∷ heads) head =
    let next : suc k + length heads ≡ k + suc (length heads) = omega arith in
    ap (λ l. package_of lists k h ∷ l) (packages_end lists (suc k) heads head ∙ ap (λ n. packages_from lists (suc k) heads ++ package_of lists n head ∷ []) next)

packages_take : (lists : Lists) (k : ℕ) (heads : List Head) (count : ℕ) → packages_from lists k (take count heads) ≡ take count (packages_from lists k heads)
packages_take lists k heads zero = refl
packages_take lists k [] (suc n) = refl
packages_take lists k (h ∷ heads) (suc n) = ap (λ l. package_of lists k h ∷ l) (packages_take lists (suc k) heads n)

-- a row after others
row_behind : {X : Type 0} (rows more : List (List X)) (j n : ℕ) → n ≡ length rows → row_at (rows ++ more) (n + j) ≡ row_at more j
row_behind [] more j n e = let here : n + j ≡ j = omega (arith, e) in rw here refl
row_behind (row ∷ rows) more j n e = let next : n + j ≡ suc (length rows + j) = omega (arith, e) in rw next (row_behind rows more j (length rows) refl)

module _ (lists : Lists) (a : Package) (count : ℕ) (h : AreOfAll count lists) where
  front_rows : Agree lists (with_lists lists a) count
  front_rows k lt head =
      let rows = λ (j : ℕ) (small : j < kinds). row_front lists.relations (relation_rows a) (k * kinds + j) (rw h.relations (omega (arith, lt, small))) in
      rw (
        rows 0 (omega arith),
        rows 1 (omega arith),
        rows 2 (omega arith),
        rows 3 (omega arith),
        rows 4 (omega arith),
        rows 5 (omega arith),
        rows 6 (omega arith),
        row_front lists.needs (a.requires_ ∷ []) k (rw h.needs lt),
        row_front lists.files (a.files ∷ []) k (rw h.files lt),
      ) refl

  last_package : package_of (with_lists lists a) count (head_of a) ≡ a
  last_package =
      let rows = λ (j : ℕ). row_behind lists.relations (relation_rows a) j (count * kinds) (sym h.relations) in
      rw (
        rows 0,
        rows 1,
        rows 2,
        rows 3,
        rows 4,
        rows 5,
        rows 6,
        rw h.needs at (row_end lists.needs a.requires_),
        rw h.files at (row_end lists.files a.files),
      ) refl

  AreOfAll-with : AreOfAll (suc count) (with_lists lists a)
  AreOfAll-with = record {
    relations = omega (arith, h.relations, length-append lists.relations (relation_rows a));
    needs = omega (arith, h.needs, length-append lists.needs (a.requires_ ∷ []));
    files = omega (arith, h.files, length-append lists.files (a.files ∷ []));
  }

pub record IsWith (lists new : Lists) (heads others : List Head) (a : Package) : Type 0 where
  pub packages : packages_from new 0 others ≡ packages_from lists 0 heads ++ a ∷ []
  pub of_all : AreOfAll (length others) new

-- one more package
pub package_more : (lists : Lists) (heads : List Head) (a : Package) → AreOfAll (length heads) lists → IsWith lists (with_lists lists a) heads (heads ++ head_of a ∷ []) a
package_more lists heads a h =
    let many : length (heads ++ head_of a ∷ []) ≡ suc (length heads) = omega (arith, length-append heads (head_of a ∷ [])) in
    record {
      packages =
          packages_end (with_lists lists a) 0 heads (head_of a)
          ∙ ap (λ n. packages_from (with_lists lists a) 0 heads ++ package_of (with_lists lists a) n (head_of a) ∷ []) (let here : 0 + length heads ≡ length heads = omega arith in here)
          ∙ ap (λ p. packages_from (with_lists lists a) 0 heads ++ p ∷ []) (last_package lists a (length heads) h)
          ∙ ap (λ l. l ++ a ∷ []) (packages_agree lists (with_lists lists a) (length heads) 0 heads (front_rows lists a (length heads) h) (omega arith));
      of_all = rw many (AreOfAll-with lists a (length heads) h);
    }

first_rows : (lists : Lists) (count : ℕ) → Agree lists (first_lists count lists) count
first_rows lists count k lt head =
    let rows = λ (j : ℕ) (small : j < kinds). row_kept lists.relations (count * kinds) (k * kinds + j) (omega (arith, lt, small)) in
    rw (
      rows 0 (omega arith),
      rows 1 (omega arith),
      rows 2 (omega arith),
      rows 3 (omega arith),
      rows 4 (omega arith),
      rows 5 (omega arith),
      rows 6 (omega arith),
      row_kept lists.needs count k lt,
      row_kept lists.files count k lt,
    ) refl

pub record IsFirst (lists new : Lists) (heads others : List Head) (count : ℕ) : Type 0 where
  pub packages : packages_from new 0 others ≡ take count (packages_from lists 0 heads)
  pub of_all : AreOfAll (length others) new

-- the first packages alone
pub packages_cut : (lists : Lists) (heads : List Head) (count : ℕ) → AreOfAll (length heads) lists → count ≤ length heads → IsFirst lists (first_lists count lists) heads (take count heads) count
packages_cut lists heads count h le =
    let size : length (take count heads) ≡ count = length-take-le count heads le in
    record {
      packages = packages_agree lists (first_lists count lists) count 0 (take count heads) (first_rows lists count) (omega arith) ∙ packages_take lists 0 heads count;
      of_all = rw size (record {
        relations = length-take-le (count * kinds) lists.relations (omega (arith, h.relations, le));
        needs = length-take-le count lists.needs (omega (arith, h.needs, le));
        files = length-take-le count lists.files (omega (arith, h.files, le));
      });
    }
