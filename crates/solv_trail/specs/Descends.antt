-- What a run of choices and propagation ends with.
use Rattle.std.specs.Prelude.{ℕ, ℤ, Bool, Option, option_map}
use Rattle.solv_trail.specs.declared.questions.Ask.{Ask}

-- the package that is asked for
abbrev pub asked_pack : ((ℤ → Bool) → Option Ask) → (ℤ → Bool) → Option ℕ
asked_pack asks known = option_map (λ a. a.pack) (asks known)
