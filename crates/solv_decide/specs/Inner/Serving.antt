-- What is remembered serves on where more becomes known.
use Rattle.std.specs.Prelude.{◌≡◌, ◌≤◌, ◌==◌, ℕ, ℤ, pos, true, List, length, take, filter, Option}
use Rattle.std.specs.Option.{IfSome}
use Rattle.std.proofs.Common.{ap, sym, arith, ◌∙◌}
use Rattle.std.proofs.lemmas.List.{take-take, length-take}
use Rattle.std.proofs.lemmas.Option.{IfSome_then}
use Rattle.solv_pool.specs.Prelude.{is_fact}
use Rattle.solv_trail.proofs.Walk.{take_known}
use Rattle.solv_plan.specs.Inner.Settling.{AreFit, IsFloor, known_in}
use Rattle.solv_plan.specs.declared.floors.Floor.{Floor}
use Rattle.solv_plan.specs.declared.memory.Memory.{Memory}
use Rattle.solv_plan.specs.declared.plans.Plan.{Plan}
use Rattle.solv_plan.specs.declared.plans.Relations.{Relations}
use Rattle.solv_plan.specs.declared.plans.Want.{Want}
use Rattle.solv_plan.proofs.Below.{all_more}
use Rattle.solv_plan.proofs.AllOut.{demands_stay, keeps_stay}

known_still : (before after : List ℤ) → take (length before) after ≡ before → (l : ℤ) → is_fact before l ≡ true → is_fact after l ≡ true
known_still before after grown l h = take_known after (length before) l (ap (λ v. is_fact v l) grown ∙ h)

-- what the first literals say is said of them alone where more is known
first_still : (before after : List ℤ) (n : ℕ) → take (length before) after ≡ before → n ≤ length before → take n after ≡ take n before
first_still before after n grown few = sym (take-take n (length before) after few) ∙ ap (take n) grown

floor_stays : (relations : Relations) (wants : List Want) (floor : Floor) (before after : List ℤ) → take (length before) after ≡ before → IsFloor relations wants before floor → IsFloor relations wants after floor
floor_stays relations wants floor before after grown is = record {
  seen = let long : length (take (length before) after) ≡ length before = ap length grown in omega (arith, is.seen, length-take (length before) after);
  met = λ k some low h.
      all_more relations (known_in before) (known_in after) (λ p e. known_still before after grown (pos p) e) (filter (λ w. w.pack == k) wants)
      (is.met k some low (ap (λ l. known_in l k) (sym (first_still before after floor.seen grown is.seen)) ∙ h));
}

pub still_fits : (plan : Plan) (memory : Memory) (before after : List ℤ) → take (length before) after ≡ before → AreFit plan before memory → AreFit plan after memory
still_fits plan memory before after grown fits = record {
  demands = λ p h. known_still before after grown (pos p) (fits.demands p h);
  keeps = λ p h. known_still before after grown (pos p) (fits.keeps p h);
  required = λ p h. known_still before after grown (pos p) (fits.required p h);
  recommended = λ p h. known_still before after grown (pos p) (fits.recommended p h);
  names = λ p h. known_still before after grown (pos p) (fits.names p h);
  required_floor = floor_stays plan.relations plan.required memory.required_floor before after grown fits.required_floor;
  recommended_floor = floor_stays plan.relations plan.recommended memory.recommended_floor before after grown fits.recommended_floor;
  quiet_demands = λ i h. demands_stay (is_fact before) (is_fact after) (known_still before after grown) plan.demands i (fits.quiet_demands i h);
  quiet_keeps = λ i h. keeps_stay (is_fact before) (is_fact after) (known_still before after grown) plan.keeps i (fits.quiet_keeps i h);
}

pub serves_on : {X : Type 0} (lent : Option X) {P Q : X → Type 0} → IfSome lent P → ((x : X) → P x → Q x) → IfSome lent Q
serves_on lent serves each = IfSome_then lent serves each
