use Rattle.std.proofs.Common.{◌≡◌, ℕ, ◌+◌, Bool, true, false, List, [], ◌∷◌, ◌++◌, refl, sym, ap, ◌∙◌, arith, add-one, rules, if◌then◌else◌}
use Rattle.std.proofs.lemmas.Bool.{cond-true, cond-false}
use Rattle.solv_derive.specs.Inner.Trimming.{is_on}
use Rattle.solv_core.specs.Inner.Holding.{entry_of, numbers_on}
use Rattle.solv_core.proofs.Closing.{numbers_more}
use Rattle.solv_core.proofs.keeping.kept_of.Goals as goal
use Rattle.solv_core.proofs.keeping.kept_of.Goals.{then-flag+in_ok-push, else-flag}

pub loop-rule-preserved : goal.loop-rule-preserved
loop-rule-preserved c =
    let on : ℕ → Bool = is_on c.args.flags.now in
    let number : ℕ → ℕ = entry_of c.args.numbers.now.kept.items c.args.numbers.now.first in
    let i = c.loop-rule.rule in
    let z : 0 + i ≡ i = omega arith in
    let more : numbers_on on number 0 (i + 1) ≡ numbers_on on number 0 i ++ (if on i then number i ∷ [] else []) =
    ap (numbers_on on number 0) (add-one i) ∙ numbers_more on number 0 i ∙ ap (λ m. numbers_on on number 0 i ++ (if on m then number m ∷ [] else [])) z in
    elim c.if-flag.branch [
      | then-flag+in_ok-push w ↦
          let y : on i ≡ true = search rules in
          let e : c.if-flag.kept.items ≡ c.loop-rule.kept.items ++ number i ∷ [] = ap (λ v. v.items) w.kept-is ∙ w.in_ok-push.ensures.items ∙ ap (λ n. c.loop-rule.kept.items ++ n ∷ []) w.entry_of.ensures in
          record { kept = e ∙ ap (λ v. v ++ number i ∷ []) c.loop-rule.invariant.kept ∙ sym (more ∙ ap (λ v. numbers_on on number 0 i ++ v) (cond-true (on i) (number i ∷ []) [] y)) }
      | else-flag w ↦
          let n : on i ≡ false = search rules in
          let e : c.if-flag.kept.items ≡ c.loop-rule.kept.items = ap (λ v. v.items) w.kept-is in
          record { kept = e ∙ c.loop-rule.invariant.kept ∙ sym (more ∙ ap (λ v. numbers_on on number 0 i ++ v) (cond-false (on i) (number i ∷ []) [] n) ∙ none (numbers_on on number 0 i)) }
    ]
  where
    none : (xs : List ℕ) → xs ++ [] ≡ xs
    none [] = refl
    none (x ∷ xs) = ap (λ v. x ∷ v) (none xs)
