-- Kinds with commas between them.
use Rattle.std.proofs.Common.{◌≡◌, ℕ, Bool, true, false, List, [], ◌∷◌, ◌++◌, refl, sym, ap, ◌∙◌, append_assoc}
use Rattle.std.specs.Prelude.{codes}
use Rattle.solv_io.specs.Lines.{ended_lines}
use Rattle.solv_script.specs.Grammar.{inline}
use Rattle.solv_script.specs.declared.scripts.Kinds.{Kinds}
use Rattle.solv_writing.specs.Inner.KindWords.{more, kinds_so_far}
use Rattle.solv_writing.specs.Inner.ScriptParts.{kind_names, with_commas}
use Rattle.solv_io.specs.JoinedWords.{joined}

all_kinds : (k : Kinds) → kinds_so_far k ≡ with_commas (kind_names k)
all_kinds k = of k.transaction k.problems k.order k.reason k.userinstalled k.unneeded
  where
    of : (a b c d e f : Bool) → kinds_so_far (record { transaction = a; problems = b; order = c; reason = d; userinstalled = e; unneeded = f }) ≡ with_commas (kind_names (record { transaction = a; problems = b; order = c; reason = d; userinstalled = e; unneeded = f }))
    of true true true true true true = refl
    of true true true true true false = refl
    of true true true true false true = refl
    of true true true true false false = refl
    of true true true false true true = refl
    of true true true false true false = refl
    of true true true false false true = refl
    of true true true false false false = refl
    of true true false true true true = refl
    of true true false true true false = refl
    of true true false true false true = refl
    of true true false true false false = refl
    of true true false false true true = refl
    of true true false false true false = refl
    of true true false false false true = refl
    of true true false false false false = refl
    of true false true true true true = refl
    of true false true true true false = refl
    of true false true true false true = refl
    of true false true true false false = refl
    of true false true false true true = refl
    of true false true false true false = refl
    of true false true false false true = refl
    of true false true false false false = refl
    of true false false true true true = refl
    of true false false true true false = refl
    of true false false true false true = refl
    of true false false true false false = refl
    of true false false false true true = refl
    of true false false false true false = refl
    of true false false false false true = refl
    of true false false false false false = refl
    of false true true true true true = refl
    of false true true true true false = refl
    of false true true true false true = refl
    of false true true true false false = refl
    of false true true false true true = refl
    of false true true false true false = refl
    of false true true false false true = refl
    of false true true false false false = refl
    of false true false true true true = refl
    of false true false true true false = refl
    of false true false true false true = refl
    of false true false true false false = refl
    of false true false false true true = refl
    of false true false false true false = refl
    of false true false false false true = refl
    of false true false false false false = refl
    of false false true true true true = refl
    of false false true true true false = refl
    of false false true true false true = refl
    of false false true true false false = refl
    of false false true false true true = refl
    of false false true false true false = refl
    of false false true false false true = refl
    of false false true false false false = refl
    of false false false true true true = refl
    of false false false true true false = refl
    of false false false true false true = refl
    of false false false true false false = refl
    of false false false false true true = refl
    of false false false false true false = refl
    of false false false false false true = refl
    of false false false false false false = refl

pub kinds_are : (k : Kinds) (t1 t2 t3 t4 t5 t6 : List ℕ) → t1 ≡ more [] k.transaction (codes "transaction") → t2 ≡ more t1 k.problems (codes "problems") → t3 ≡ more t2 k.order (codes "order")
    → t4 ≡ more t3 k.reason (codes "reason") → t5 ≡ more t4 k.userinstalled (codes "userinstalled") → t6 ≡ more t5 k.unneeded (codes "unneeded") → t6 ≡ with_commas (kind_names k)
kinds_are k t1 t2 t3 t4 t5 t6 e1 e2 e3 e4 e5 e6 =
    e6 ∙ ap (λ t. more t k.unneeded (codes "unneeded")) (e5 ∙ ap (λ t. more t k.userinstalled (codes "userinstalled")) (e4 ∙ ap (λ t. more t k.reason (codes "reason")) (e3 ∙ ap (λ t. more t k.order (codes "order")) (e2 ∙ ap (λ t. more t k.problems (codes "problems")) e1))))
    ∙ all_kinds k

-- a `result` line with its block
pub expected_are : (names : List ℕ) (block : List (List ℕ)) → codes "result " ++ (names ++ (codes " <inline>\n" ++ ended_lines block)) ≡ ended_lines (joined (codes "result" ∷ names ∷ inline ∷ []) ∷ block)
expected_are names block =
    ap (λ t. codes "result " ++ t) (sym (append_assoc names (codes " <inline>") (10 ∷ ended_lines block)))
