-- What is said on both sinks.
use Rattle.std.proofs.Common.{ℕ, ◌≡◌, List, Option, ap, ◌∙◌, arith, take, length}
use Rattle.std.proofs.lemmas.Grind.{common_steps}
use Rattle.solv_io.specs.Writes.{then_bytes, WritesPrefix}

-- all of it was
pub all_prefix : (before after : Option (List ℕ)) (text : List ℕ) → after ≡ then_bytes before text → WritesPrefix before after text
all_prefix before after text h = (length text, omega arith, h ∙ ap (then_bytes before) (whole_text text))
  where
    whole_text : (xs : List ℕ) → xs ≡ take (length xs) xs
    whole_text xs = grind (arith, common_steps)
