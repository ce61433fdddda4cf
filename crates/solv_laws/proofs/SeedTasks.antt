-- The task of a seed asks by name, and has few packages of one name.
use Rattle.std.proofs.Common.{◌≡◌, ◌≤◌, ◌<◌, ◌+◌, ◌*◌, ◌/◌, ℕ, zero, suc, Bool, true, false, cond, List, [], ◌∷◌, ◌++◌, map, length, Result, Ok, Err, inl, inr, refl, sym, ap, ◌∙◌, arith}
use Rattle.std.specs.Prelude.{filter, flat_map, slice_get, unwrap_or, sum_by, ◌==◌, IsOkAnd}
use Rattle.std.specs.List.{list_all, range_with_len}
use Rattle.std.specs.Str.{bytes_eq}
use Rattle.std.proofs.lemmas.Bool.{cases_Bool, eqb-true, false≢true}
use Rattle.std.proofs.lemmas.List.{length-map}
use Rattle.std.proofs.lemmas.List.Folds.{list_all-map}
use Rattle.std.proofs.lemmas.List.Sums.{sum_by-cons}
use Rattle.solv_list.proofs.Lists.{bytes_themselves, same_bytes}
use Rattle.solv_base.specs.Pool.{Held, text_at, text_tree}
use Rattle.solv_pool.specs.Prelude.{catalog_of, hard_rules, WrittenNeed, WrittenPackage, written_package}
use Rattle.solv_pool.specs.declared.packages.Package.{Package}
use Rattle.solv_pool.specs.declared.tasks.Task.{Task}
use Rattle.solv_questions.proofs.Asking.{in_range}
use Rattle.solv_rules.specs.Books.{first_fault}
use Rattle.solv_script.specs.Generator.{digit, name_text, first_numbers, grown_text}
use Rattle.solv_script.specs.Grammar.{Bad, script_read}
use Rattle.solv_script.specs.GrownTasks.{HasAll, GrownTextIsRead, asks_by_name, asks, grown_names}
use Rattle.solv_script.specs.Reads.{WrittenRound, WrittenScript}
use Rattle.solv_script.specs.ScriptsOf.{IsScriptOf}
use Rattle.solv_script.specs.States.{State, script_given, with_rounds}
use Rattle.solv_script.specs.Inner.LineParts.{in_hand}
use Rattle.solv_script.specs.declared.scripts.Script.{Script}
use Rattle.solv_script.proofs.GrownTasks.{all_there}
use Rattle.solv_script.proofs.GrownTexts.{first_are}
use Rattle.solv_laws.specs.Seeds.{SeedsPassNoLimit}
use Rattle.solv_laws.proofs.FewOfOneName.{IsModest, asked}
use Rattle.solv_laws.proofs.FewWords.{none_pass, modest_fits}
use Rattle.solv_leaving.proofs.Totals.{total}

-- names are apart
text_number : (j k : ℕ) → j < 10000 → k < 10000 → name_text j ≡ name_text k → j ≡ k
text_number j k low high same =
    let a : digit (j / 1000) ≡ digit (k / 1000) = ap (λ l. unwrap_or (slice_get l 1) 0) same in
    let b : digit (j / 100) ≡ digit (k / 100) = ap (λ l. unwrap_or (slice_get l 2) 0) same in
    let c : digit (j / 10) ≡ digit (k / 10) = ap (λ l. unwrap_or (slice_get l 3) 0) same in
    let d : digit j ≡ digit k = ap (λ l. unwrap_or (slice_get l 4) 0) same in
    omega (arith, low, high, a, b, c, d)

-- one number of a range passes, where those that do are one
one_passes : (test : ℕ → Bool) (a n : ℕ) → ((j k : ℕ) → j < a + n → k < a + n → test j ≡ true → test k ≡ true → j ≡ k) → length (filter test (range_with_len a n)) ≤ 1
one_passes test a zero h = omega arith
one_passes test a (suc n) h = step (test a) refl (one_passes test (a + 1) n (λ j k low high. h j k (omega (arith, low)) (omega (arith, high))))
  where
    step : (b : Bool) → test a ≡ b → length (filter test (range_with_len (a + 1) n)) ≤ 1 → length (cond b (a ∷ filter test (range_with_len (a + 1) n)) (filter test (range_with_len (a + 1) n))) ≤ 1
    step false is k = k
    step true is k =
        let none : filter test (range_with_len (a + 1) n) ≡ [] = none_pass test (range_with_len (a + 1) n) (λ x there. elim (cases_Bool (test x)) [
          | inl y ↦ let r = in_range (a + 1) n x there in let low = r.0 in let high = r.1 in let same = h a x (omega arith) (omega (arith, high)) is y in absurd (omega (arith, same, low))
          | inr no_more ↦ no_more
        ]) in
        rw none (omega arith)

-- those that pass of two lists, of each number twice, and of what is made
passing_join : (test : ℕ → Bool) (xs ys : List ℕ) → length (filter test (xs ++ ys)) ≡ length (filter test xs) + length (filter test ys)
passing_join test [] ys = omega arith
passing_join test (x ∷ xs) ys = step (test x) (passing_join test xs ys)
  where
    step : (b : Bool) → length (filter test (xs ++ ys)) ≡ length (filter test xs) + length (filter test ys)
        → length (cond b (x ∷ filter test (xs ++ ys)) (filter test (xs ++ ys))) ≡ length (cond b (x ∷ filter test xs) (filter test xs)) + length (filter test ys)
    step true h = omega (arith, h)
    step false h = h

passing_twice : (test : ℕ → Bool) (xs : List ℕ) → length (filter test (flat_map (λ k. k ∷ k ∷ []) xs)) ≡ 2 * length (filter test xs)
passing_twice test [] = refl
passing_twice test (x ∷ xs) = step (test x) (passing_twice test xs)
  where
    others : List ℕ
    others = filter test (flat_map (λ k. k ∷ k ∷ []) xs)

    step : (b : Bool) → length (filter test (flat_map (λ k. k ∷ k ∷ []) xs)) ≡ 2 * length (filter test xs)
        → length (cond b (x ∷ cond b (x ∷ filter test (flat_map (λ k. k ∷ k ∷ []) xs)) (filter test (flat_map (λ k. k ∷ k ∷ []) xs))) (cond b (x ∷ filter test (flat_map (λ k. k ∷ k ∷ []) xs)) (filter test (flat_map (λ k. k ∷ k ∷ []) xs)))) ≡ 2 * length (cond b (x ∷ filter test xs) (filter test xs))
    step true h = omega (arith, h)
    step false h = h

fewer_made : {X Y : Type 0} (f : X → Bool) (g : Y → Bool) (make : X → Y) → ((x : X) → f x ≡ true → g (make x) ≡ true) → (xs : List X) → length (filter f xs) ≤ length (filter g (map make xs))
fewer_made f g make h [] = omega arith
fewer_made f g make h (x ∷ xs) = step (f x) (g (make x)) (h x) (fewer_made f g make h xs)
  where
    step : (s t : Bool) → (s ≡ true → t ≡ true) → length (filter f xs) ≤ length (filter g (map make xs)) → length (cond s (x ∷ filter f xs) (filter f xs)) ≤ length (cond t (make x ∷ filter g (map make xs)) (filter g (map make xs)))
    step true true k fewer = omega (arith, fewer)
    step true false k fewer = absurd (false≢true (k refl))
    step false true k fewer = omega (arith, fewer)
    step false false k fewer = fewer

passing_made : {X Y : Type 0} (g : Y → Bool) (make : X → Y) (xs : List X) → length (filter g (map make xs)) ≡ length (filter (λ x. g (make x)) xs)
passing_made g make [] = refl
passing_made g make (x ∷ xs) = step (g (make x)) (passing_made g make xs)
  where
    step : (b : Bool) → length (filter g (map make xs)) ≡ length (filter (λ x. g (make x)) xs) → length (cond b (make x ∷ filter g (map make xs)) (filter g (map make xs))) ≡ length (cond b (x ∷ filter (λ x. g (make x)) xs) (filter (λ x. g (make x)) xs))
    step true h = ap suc h
    step false h = h

-- a text is the name of three packages at most
names_few : (text : List ℕ) → length (filter (λ t. bytes_eq t text) grown_names) ≤ 3
names_few text =
    let test : ℕ → Bool = λ k. bytes_eq (name_text k) text in
    let all = passing_made (λ t. bytes_eq t text) name_text (map (λ k. 10 * k) (first_numbers 300) ++ flat_map (λ k. k ∷ k ∷ []) (first_numbers 3000)) in
    let both = passing_join test (map (λ k. 10 * k) (first_numbers 300)) (flat_map (λ k. k ∷ k ∷ []) (first_numbers 3000)) in
    let tens = passing_made test (λ k. 10 * k) (first_numbers 300) in
    let twice = passing_twice test (first_numbers 3000) in
    let one_ten : length (filter (λ k. test (10 * k)) (first_numbers 300)) ≤ 1 = rw (first_are 300) (one_passes (λ k. test (10 * k)) 0 300 (λ j k low high h l. let same = numbers_same (10 * j) (10 * k) (omega (arith, low)) (omega (arith, high)) h l in omega (arith, same))) in
    let one_each : length (filter test (first_numbers 3000)) ≤ 1 = rw (first_are 3000) (one_passes test 0 3000 (λ j k low high h l. numbers_same j k (omega (arith, low)) (omega (arith, high)) h l)) in
    omega (arith, all, both, tens, twice, one_ten, one_each)
  where
    numbers_same : (j k : ℕ) → j < 10000 → k < 10000 → bytes_eq (name_text j) text ≡ true → bytes_eq (name_text k) text ≡ true → j ≡ k
    numbers_same j k low high h l = text_number j k low high (same_bytes (name_text j) text h ∙ sym (same_bytes (name_text k) text l))

-- as much is asked for as is written
asked_is : (pool : Held) (ps : List Package) → sum_by asks (map (written_package pool) ps) ≡ total asked ps
asked_is pool [] = refl
asked_is pool (a ∷ ps) =
    let here = sum_by-cons asks (written_package pool a) (map (written_package pool) ps) in
    let needs : length (written_package pool a).requires_ ≡ length a.requires_ = length-map {B = WrittenNeed} a.requires_ (λ need. record { dep = text_tree pool need.dep; pre = need.pre }) in
    let conflicts = length-map a.conflicts (text_tree pool) in
    let rest = asked_is pool ps in
    omega (arith, here, needs, conflicts, rest)

names_written : (pool : Held) (ps : List Package) → map (λ (a : Package). text_at pool a.name) ps ≡ map (λ (w : WrittenPackage). w.name) (map (written_package pool) ps)
names_written pool [] = refl
names_written pool (a ∷ ps) = ap (λ ns. text_at pool a.name ∷ ns) (names_written pool ps)

of_script : (r : Result State Bad) (script : Script) → IsOkAnd r HasAll → IsOkAnd r (λ s. IsScriptOf s script) → IsModest script.task
of_script (Ok s) script h is =
    let pool = script.task.pool in
    let ps = script.task.universe.packages in
    let given : script_given s ≡ record { task = s.task; kinds = s.kinds; wanted = s.wanted; checks = s.checks; later = [] } = ap (λ (l : List WrittenRound). with_rounds s (l ++ in_hand s ∷ [])) h.one_round in
    let packages : map (written_package pool) ps ≡ s.task.packages = ap (λ (w : WrittenScript). w.task.packages) (is.written ∙ given) in
    let counts = all_there (Ok s) script h is in
    let few : sum_by asks (map (written_package pool) ps) ≤ 40000 = rw packages h.few in
    let same_total = asked_is pool ps in
    record {
      count = counts.0;
      jobs = counts.1;
      by_name = sym (list_all-map asks_by_name (written_package pool) ps) ∙ ap (list_all asks_by_name) packages ∙ h.by_name;
      few = omega (arith, few, same_total);
      of_name = λ n.
          let names : map (λ (a : Package). text_at pool a.name) ps ≡ grown_names = names_written pool ps ∙ ap (map (λ (w : WrittenPackage). w.name)) packages ∙ h.named in
          let fewer = fewer_made (λ a. a.name == n) (λ t. bytes_eq t (text_at pool n)) (λ (a : Package). text_at pool a.name) (λ a e. ap (λ m. bytes_eq (text_at pool m) (text_at pool n)) (eqb-true a.name n e) ∙ bytes_themselves (text_at pool n)) ps in
          let all : length (filter (λ t. bytes_eq t (text_at pool n)) (map (λ (a : Package). text_at pool a.name) ps)) ≤ 3 = rw names (names_few (text_at pool n)) in
          omega (arith, fewer, all);
    }
of_script (Err e) script h is = absurd h

pub seeds_fit : GrownTextIsRead → SeedsPassNoLimit
seeds_fit law seed task grown =
    let modest : IsModest (grown.script).task = of_script (script_read [] [] (grown_text seed)) grown.script (law seed [] []).given grown.read in
    ap (λ (t : Task). first_fault (catalog_of t) 0 (hard_rules t)) (sym grown.is) ∙ modest_fits (grown.script).task modest
