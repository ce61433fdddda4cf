-- What the rounds of a script share.
use Rattle.std.proofs.Common.{◌≡◌, ℕ, Bool, true, false, ◌&&◌, List, [], ◌++◌, length, map, take, drop, Option, None, refl, sym, ap, subst, ◌∙◌, append_assoc, arith}
use Rattle.std.specs.Prelude.{Result, Ok, Err, IfOk, IfSome}
use Rattle.std.proofs.Math.Bool.{beq}
use Rattle.solv_list.proofs.Booleans.{first_of_both, second_of_both}
use Rattle.std.proofs.lemmas.List.{append-nil, length-take, take-map}
use Rattle.solv_pool.specs.Prelude.{Catalog, catalog_of, hard_rules, package_rules, infarch_rules, update_rules, feature_rules, job_rules, best_job_rules, best_update_rules, hard_rules_by, HardRule, rule_with, marks_of}
use Rattle.solv_pool.specs.declared.hard_rules.Rule.{Rule}
use Rattle.solv_pool.specs.declared.hard_rules.Rules.{Rules}
use Rattle.solv_pool.specs.declared.job_marks.Marks.{Marks}
use Rattle.solv_pool.specs.declared.jobs.Job.{Job}
use Rattle.solv_pool.specs.declared.tasks.Flags.{Flags}
use Rattle.solv_pool.specs.declared.tasks.Task.{Task}
use Rattle.std.specs.List.{list_all}
use Rattle.solv_jobs.specs.Marking.{HasMarks}
use Rattle.solv_plan.specs.declared.plans.Rest.{Rest}
use Rattle.solv_rules.specs.Books.{first_fault, is_bookable, read_rules, IsDue}
use Rattle.solv_rules.specs.Inner.Drafting.{IsBegun, IsDraft, IsFront}
use Rattle.solv_rules.specs.declared.drafts.Draft.{Draft}
use Rattle.solv_rules.specs.declared.fault.BookFault.{BookFault}
use Rattle.solv_rules.proofs.Fronts.{both_parts, due_of_all}
use Rattle.solv_answers.specs.Answers.{IsPrepared}
use Rattle.solv_answers.specs.Inner.Fronts.{HasFront, IsBookedBy, Reads, front_rules}
use Rattle.solv_decide.specs.Inner.Rests.{IsRestFor}
use Rattle.solv_answers.specs.declared.preparing.Prepared.{Prepared}
use Rattle.solv_answers.specs.declared.preparing.Front.{Front}

-- the first of some rules
pub has_front : (made : List HardRule) (first all : Rules) (front : Front) → Reads first made → front.rules ≡ length first.list → front.sets ≡ length first.sets
    → take (length first.list) all.list ≡ first.list → take (length first.sets) all.sets ≡ first.sets → HasFront made all front
has_front made first all front reads rules sets list kept = record {
  enough = (
      let short : length (take (length first.list) all.list) ≡ length first.list = ap length list in
      let cut = length-take (length first.list) all.list in
      omega (arith, short, cut, rules));
  enough_sets = (
      let short : length (take (length first.sets) all.sets) ≡ length first.sets = ap length kept in
      let cut = length-take (length first.sets) all.sets in
      omega (arith, short, cut, sets));
  reads = subst (λ (r : Rules). Reads r made) (sym same) reads;
}
  where
    same : (record { list = take front.rules all.list; sets = take front.sets all.sets }) ≡ first
    same =
        ap (λ (l : List Rule). record { list = l; sets = take front.sets all.sets }) (ap (λ n. take n all.list) rules ∙ list)
        ∙ ap (λ (s : List (List ℕ)). record { list = first.list; sets = s }) (ap (λ n. take n all.sets) sets ∙ kept)

-- rules that were cut there
pub reads_first : (made : List HardRule) (rules first : Rules) (front : Front) → HasFront made rules front → first.list ≡ take front.rules rules.list → first.sets ≡ take front.sets rules.sets → Reads first made
reads_first made rules first front has list sets =
    subst (λ (l : List Rule). Reads (record { list = l; sets = first.sets }) made) (sym list)
    (subst (λ (s : List (List ℕ)). Reads (record { list = take front.rules rules.list; sets = s }) made) (sym sets) has.reads)

-- they are the first of all that are read
pub front_read : (made : List HardRule) (rules : Rules) (front : Front) → HasFront made rules front → take front.rules (read_rules rules) ≡ made
front_read made rules front has =
    take-map (rule_with rules.sets) front.rules rules.list
    ∙ ap (λ (s : List (List ℕ)). map (rule_with s) (take front.rules rules.list)) (sym (both_parts front.sets rules.sets))
    ∙ has.reads (drop front.sets rules.sets)

-- the other hard rules come after the first ones
behind_first : (a b c d e f : List HardRule) → a ++ b ++ c ++ d ++ e ++ f ≡ a ++ (b ++ (c ++ (d ++ (e ++ f))))
behind_first a b c d e f =
    append_assoc (a ++ b ++ c ++ d) e f ∙ append_assoc (a ++ b ++ c) d (e ++ f) ∙ append_assoc (a ++ b) c (d ++ (e ++ f)) ∙ append_assoc a b (c ++ (d ++ (e ++ f)))

module _ (catalog : Catalog) (flags : Flags) (jobs : List Job) (marks : Marks) where
  pub other_rules : List HardRule
  other_rules = update_rules catalog flags marks jobs ++ (feature_rules catalog flags marks ++ (job_rules catalog jobs ++ (best_job_rules catalog jobs ++ best_update_rules catalog flags marks jobs)))

  pub front_first : hard_rules_by catalog flags jobs marks ≡ front_rules catalog flags marks ++ other_rules
  unfolding other_rules
  front_first =
      behind_first (front_rules catalog flags marks) (update_rules catalog flags marks jobs) (feature_rules catalog flags marks) (job_rules catalog jobs) (best_job_rules catalog jobs) (best_update_rules catalog flags marks jobs)

  -- a fault of the rules of packages is that of all hard rules
  pub due_of_packages : (fault : BookFault) → IsDue (first_fault catalog 0 (package_rules catalog marks)) fault → IsDue (first_fault catalog 0 (hard_rules_by catalog flags jobs marks)) fault
  due_of_packages fault due =
      subst (λ (l : List HardRule). IsDue (first_fault catalog 0 l) fault) (sym front_first)
      (due_of_all catalog 0 (front_rules catalog flags marks) other_rules fault (due_of_all catalog 0 (package_rules catalog marks) (infarch_rules catalog flags) fault due))

-- where flags and marks count alike, the first rules are the same
pub front_alike : (catalog : Catalog) (f g : Flags) (m n : Marks) → f.no_infarch_check ≡ g.no_infarch_check → m.verify ≡ n.verify → m.multiversion ≡ n.multiversion → m.left_out ≡ n.left_out → front_rules catalog f m ≡ front_rules catalog g n
front_alike catalog f g m n checks verify multiversion left_out =
    ap (λ b. package_rules catalog m ++ infarch_rules catalog (record f { no_infarch_check = b })) checks
    ∙ ap (λ v. package_rules catalog (record m { verify = v }) ++ infarch_rules catalog g) verify
    ∙ ap (λ v. package_rules catalog (record m { verify = n.verify; multiversion = v }) ++ infarch_rules catalog g) multiversion
    ∙ ap (λ v. package_rules catalog (record m { verify = n.verify; multiversion = n.multiversion; left_out = v }) ++ infarch_rules catalog g) left_out

-- with no clause there yet a book may begin
pub begins_empty : (catalog : Catalog) (made : List HardRule) (draft : Draft) → IsDraft draft → draft.memory.rules ≡ [] → draft.owners.items ≡ [] → draft.spans.items ≡ [] → IsBegun catalog made draft
begins_empty catalog made draft counted rules owners spans =
    record { front = []; rest = made; are = refl; is = record { has = record { clauses = rules; owners = owners; spans = spans; fits = refl }; counted = counted } }

-- and with the clauses of all these rules
pub begins_with : (catalog : Catalog) (made old : List HardRule) (n : ℕ) (draft : Draft) → take n old ≡ made → IsFront catalog (take n old) draft → IsBegun catalog made draft
begins_with catalog made old n draft same is = record { front = made; rest = []; are = sym (append-nil made); is = subst (λ (l : List HardRule). IsFront catalog l draft) same is }

-- and so where more rules come after them
pub begins_before : (catalog : Catalog) (made more all : List HardRule) (draft : Draft) → all ≡ made ++ more → IsBegun catalog made draft → IsBegun catalog all draft
begins_before catalog made more all draft are begun =
    record { front = begun.front; rest = begun.rest ++ more; are = are ∙ ap (λ l. l ++ more) begun.are ∙ append_assoc begun.front begun.rest more; is = begun.is }

-- what is prepared by the marks of a task has all its hard rules
pub is_prepared : (task : Task) (marks : Marks) (prepared : Prepared) → marks ≡ marks_of task → HasMarks (length task.universe.packages) marks → IsBookedBy task marks prepared → IsPrepared task prepared
is_prepared task marks prepared same each booked =
    let catalog = catalog_of task in
    let are : hard_rules_by catalog task.flags task.jobs marks ≡ hard_rules task = ap (hard_rules_by catalog task.flags task.jobs) same in
    record {
      index = booked.index;
      flags = booked.flags;
      marks = booked.marks_are ∙ same;
      each = subst (λ (m : Marks). HasMarks (length task.universe.packages) m) (sym booked.marks_are) each;
      book = booked.book;
      rules = booked.rules ∙ are;
      bookable = subst (λ (l : List HardRule). list_all (is_bookable catalog) l ≡ true) are booked.bookable;
      fits = subst (λ (l : List HardRule). first_fault catalog 0 l ≡ None) are booked.fits;
    }

pub prepared_if : (task : Task) (marks : Marks) (o : Result Prepared BookFault) → marks ≡ marks_of task → HasMarks (length task.universe.packages) marks → IfOk o (IsBookedBy task marks) → IfOk o (IsPrepared task)
prepared_if task marks (Ok prepared) same each booked = is_prepared task marks prepared same each booked
prepared_if task marks (Err fault) same each booked = tt

-- what an answer left serves where flags and marks are equal, and else nothing is kept
pub left_serves : (catalog : Catalog) (alike : Bool) (f g : Flags) (m n : Marks) (old new : Option Rest) → (alike ≡ true → (f ≡ g) × (m ≡ n)) → (alike ≡ true → new ≡ old) → (alike ≡ false → new ≡ None)
    → IfSome old (IsRestFor catalog f m) → IfSome new (IsRestFor catalog g n)
left_serves catalog true f g m n old new same kept none is =
    let both = same refl in
    let P : Flags → Marks → Type 0 = λ a b. IfSome old (IsRestFor catalog a b) in
    subst (λ (o : Option Rest). IfSome o (IsRestFor catalog g n)) (sym (kept refl)) (subst (λ (b : Marks). P g b) both.1 (subst (λ (a : Flags). P a m) both.0 is))
left_serves catalog false f g m n old new same kept none is = subst (λ (o : Option Rest). IfSome o (IsRestFor catalog g n)) (sym (none refl)) tt

-- flags that are equal one by one
same_by : (a b : Bool) → beq a b ≡ true → a ≡ b
same_by true true e = refl
same_by true false e = sym e
same_by false true e = e
same_by false false e = refl

pub flags_equal : (f g : Flags) → (beq f.allow_downgrade g.allow_downgrade && (beq f.allow_name_change g.allow_name_change && (beq f.allow_arch_change g.allow_arch_change && (beq f.allow_vendor_change g.allow_vendor_change
    && (beq f.allow_uninstall g.allow_uninstall && (beq f.ignore_recommended g.ignore_recommended && beq f.no_infarch_check g.no_infarch_check)))))) ≡ true → f ≡ g
flags_equal f g all =
    let a = first_of_both _ _ all in
    let later = second_of_both (beq f.allow_downgrade g.allow_downgrade) _ all in
    let b = first_of_both _ _ later in
    let third = second_of_both (beq f.allow_name_change g.allow_name_change) _ later in
    let c = first_of_both _ _ third in
    let fourth = second_of_both (beq f.allow_arch_change g.allow_arch_change) _ third in
    let d = first_of_both _ _ fourth in
    let fifth = second_of_both (beq f.allow_vendor_change g.allow_vendor_change) _ fourth in
    let e = first_of_both _ _ fifth in
    let sixth = second_of_both (beq f.allow_uninstall g.allow_uninstall) _ fifth in
    let h = first_of_both _ _ sixth in
    let k = second_of_both (beq f.ignore_recommended g.ignore_recommended) _ sixth in
    λ i. record {
      allow_downgrade = same_by f.allow_downgrade g.allow_downgrade a i;
      allow_name_change = same_by f.allow_name_change g.allow_name_change b i;
      allow_arch_change = same_by f.allow_arch_change g.allow_arch_change c i;
      allow_vendor_change = same_by f.allow_vendor_change g.allow_vendor_change d i;
      allow_uninstall = same_by f.allow_uninstall g.allow_uninstall e i;
      ignore_recommended = same_by f.ignore_recommended g.ignore_recommended h i;
      no_infarch_check = same_by f.no_infarch_check g.no_infarch_check k i;
    }
