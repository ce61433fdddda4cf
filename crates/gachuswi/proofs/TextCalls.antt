-- What is handed out as a text.
use Rattle.std.proofs.Common.{◌≡◌, ℕ, ℤ, List, Some, Ok, Err, Option, pos, sym, subst}
use Rattle.std.specs.Prelude.{IfOk, IfSome, IsOk, IsSomeAnd, Result}
use Rattle.std.specs.declared.alloc.AllocError.{AllocError}
use Rattle.solv_solved.specs.declared.outcomes.Held.{Held}
use Rattle.gachuswi.specs.TaskTexts.{IsGoodProofOf, IsTextCall, given, names_none, ran_out}

pub handed : (made : Result (Option (List ℕ)) AllocError) (text : List ℕ) → made ≡ Ok (Some text) → (named : Option (List ℕ)) → IfOk made (λ t. t ≡ named) → named ≡ Some text
handed made text is named h = sym (subst (λ (m : Result (Option (List ℕ)) AllocError). IfOk m (λ t. t ≡ named)) is h)

-- what is asked of what is held is asked of the handle's value
pub asked_of : (ask : Option Held → Option (List ℕ)) (value : Option Held) (kept : Held) (made : Result (Option (List ℕ)) AllocError) → Some kept ≡ value → IfOk made (λ t. t ≡ ask (Some kept)) → IfOk made (λ t. t ≡ ask value)
asked_of ask value kept made is h = subst (λ (v : Option Held). IfOk made (λ t. t ≡ ask v)) is h

pub good_of : (value : Option Held) (kept : Held) (made : Result (Option (List ℕ)) AllocError) → Some kept ≡ value → IfOk made (λ t. IfSome t (IsGoodProofOf (Some kept))) → IfOk made (λ t. IfSome t (IsGoodProofOf value))
good_of value kept made is h = subst (λ (v : Option Held). IfOk made (λ t. IfSome t (IsGoodProofOf v))) is h

-- where a text is handed out, what is known of the one that was made holds of it
pub good_text : (P : List ℕ → Type 0) (made : Result (Option (List ℕ)) AllocError) (named : Option (List ℕ)) {old new : List ℕ} {before told : ℕ} {code : ℤ} → IsTextCall named old new before told code → code ≡ pos 0 → IsOk made
    → IfOk made (λ t. t ≡ named) → IfOk made (λ t. IfSome t P) → IsSomeAnd named P
good_text P (Err e) named call done ok is good = absurd (cc)
good_text P (Ok t) named (names_none none kept same code) done ok is good = absurd (cc)
good_text P (Ok t) named (ran_out kept same code) done ok is good = absurd (cc)
good_text P (Ok t) named (given bytes some copied told code) done ok is good =
    let here : IfSome named P = subst (λ (o : Option (List ℕ)). IfSome o P) is good in
    let there : IfSome (Some bytes) P = subst (λ (o : Option (List ℕ)). IfSome o P) some here in
    subst (λ (o : Option (List ℕ)). IsSomeAnd o P) (sym some) there
