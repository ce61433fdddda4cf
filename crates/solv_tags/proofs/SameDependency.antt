-- The test of equal dependencies says that they are equal.
use Rattle.std.proofs.Common.{◌≡◌, ℕ, true, ◌&&◌, List, refl, ap, ◌∙◌, rules}
use Rattle.std.specs.Str.{bytes_eq}
use Rattle.solv_base.specs.contracts.comparison.CmpPartialEq.TheImpl.{eq-value}
use Rattle.solv_base.specs.declared.comparison.Cmp.{Cmp}
use Rattle.solv_base.specs.Dependency.{Dep, Connective, Condition, plain, versioned, one, namespace, and, or, with, without, if_holds, unless_holds, joined, under, under_else, missing}
use Rattle.solv_deps.specs.Grammar.{Operator, joins, conditions, spellings}
use Rattle.solv_tags.specs.Entries.{is_same, is_same_operator}
use Rattle.solv_list.proofs.Booleans.{first_of_both, second_of_both}
use Rattle.solv_list.proofs.Lists.{bytes_themselves, same_bytes}
use Rattle.std.proofs.lemmas.Bool.{and_from}

comparison_itself : (c : Cmp) → eq-value.it c c ≡ true
comparison_itself c = search rules

same_comparison : (c d : Cmp) → eq-value.it c d ≡ true → c ≡ d
same_comparison c d h = search rules

operator_itself : (o : Operator) → is_same_operator o o ≡ true
operator_itself o = bytes_themselves (spellings o).0

same_connective : (i j : Connective) → is_same_operator (joins i) (joins j) ≡ true → i ≡ j
same_connective and and h = refl
same_connective or or h = refl
same_connective with with h = refl
same_connective without without h = refl
same_connective and or h = cc
same_connective and with h = cc
same_connective and without h = cc
same_connective or and h = cc
same_connective or with h = cc
same_connective or without h = cc
same_connective with and h = cc
same_connective with or h = cc
same_connective with without h = cc
same_connective without and h = cc
same_connective without or h = cc
same_connective without with h = cc

same_condition : (i j : Condition) → is_same_operator (conditions i) (conditions j) ≡ true → i ≡ j
same_condition if_holds if_holds h = refl
same_condition unless_holds unless_holds h = refl
same_condition if_holds unless_holds h = cc
same_condition unless_holds if_holds h = cc

same_pair : {A : Type 0} (a b c d : Dep (List ℕ)) (f : Dep (List ℕ) → Dep (List ℕ) → A) → (is_same a c ≡ true → a ≡ c) → (is_same b d ≡ true → b ≡ d)
    → (is_same a c && is_same b d) ≡ true → f a b ≡ f c d
same_pair a b c d f p q h = rw (p (first_of_both (is_same a c) (is_same b d) h), q (second_of_both (is_same a c) (is_same b d) h)) refl

same_triple : {A : Type 0} (a b e c d g : Dep (List ℕ)) (f : Dep (List ℕ) → Dep (List ℕ) → Dep (List ℕ) → A) → (is_same a c ≡ true → a ≡ c) → (is_same b d ≡ true → b ≡ d) → (is_same e g ≡ true → e ≡ g)
    → (is_same a c && (is_same b d && is_same e g)) ≡ true → f a b e ≡ f c d g
same_triple a b e c d g f p q r h =
    let rest : (is_same b d && is_same e g) ≡ true = second_of_both (is_same a c) (is_same b d && is_same e g) h in
    rw (p (first_of_both (is_same a c) (is_same b d && is_same e g) h), q (first_of_both (is_same b d) (is_same e g) rest), r (second_of_both (is_same b d) (is_same e g) rest)) refl

pub dependency_itself : (a : Dep (List ℕ)) → is_same a a ≡ true
dependency_itself (one (plain a)) = bytes_themselves a
dependency_itself (one (versioned a c e)) = and_from (bytes_eq a a) (eq-value.it c c && bytes_eq e e) (bytes_themselves a) (and_from (eq-value.it c c) (bytes_eq e e) (comparison_itself c) (bytes_themselves e))
dependency_itself (namespace n) = bytes_themselves n
dependency_itself (joined j a b) = and_from (is_same_operator (joins j) (joins j)) _ (operator_itself (joins j)) (and_from (is_same a a) (is_same b b) (dependency_itself a) (dependency_itself b))
dependency_itself (under k a b) = and_from (is_same_operator (conditions k) (conditions k)) _ (operator_itself (conditions k)) (and_from (is_same a a) (is_same b b) (dependency_itself a) (dependency_itself b))
dependency_itself (under_else k a b e) =
    and_from (is_same_operator (conditions k) (conditions k)) _ (operator_itself (conditions k))
    (and_from (is_same a a) (is_same b b && is_same e e) (dependency_itself a) (and_from (is_same b b) (is_same e e) (dependency_itself b) (dependency_itself e)))
dependency_itself missing = refl

pub same_dependency : (a b : Dep (List ℕ)) → is_same a b ≡ true → a ≡ b
same_dependency (one (plain a)) (one (plain b)) h = ap (λ w. one (plain w)) (same_bytes a b h)
same_dependency (one (versioned a c e)) (one (versioned b d f)) h =
    let t = same_bytes a b (first_of_both (bytes_eq a b) (eq-value.it c d && bytes_eq e f) h) in
    let r = second_of_both (bytes_eq a b) (eq-value.it c d && bytes_eq e f) h in
    rw (t, same_comparison c d (first_of_both (eq-value.it c d) (bytes_eq e f) r), same_bytes e f (second_of_both (eq-value.it c d) (bytes_eq e f) r)) refl
same_dependency (namespace m) (namespace n) h = ap namespace (same_bytes m n h)
same_dependency (joined i a b) (joined j c d) h =
    let e = same_connective i j (first_of_both (is_same_operator (joins i) (joins j)) (is_same a c && is_same b d) h) in
    ap (λ k. joined k a b) e ∙ same_pair a b c d (joined j) (same_dependency a c) (same_dependency b d) (second_of_both (is_same_operator (joins i) (joins j)) (is_same a c && is_same b d) h)
same_dependency (under i a b) (under j c d) h =
    let e = same_condition i j (first_of_both (is_same_operator (conditions i) (conditions j)) (is_same a c && is_same b d) h) in
    ap (λ k. under k a b) e ∙ same_pair a b c d (under j) (same_dependency a c) (same_dependency b d) (second_of_both (is_same_operator (conditions i) (conditions j)) (is_same a c && is_same b d) h)
same_dependency (under_else i a b e) (under_else j c d g) h =
    let same = same_condition i j (first_of_both (is_same_operator (conditions i) (conditions j)) (is_same a c && (is_same b d && is_same e g)) h) in
    ap (λ k. under_else k a b e) same
    ∙ same_triple a b e c d g (under_else j) (same_dependency a c) (same_dependency b d) (same_dependency e g) (second_of_both (is_same_operator (conditions i) (conditions j)) (is_same a c && (is_same b d && is_same e g)) h)
same_dependency missing missing h = refl
same_dependency a b h = cc
