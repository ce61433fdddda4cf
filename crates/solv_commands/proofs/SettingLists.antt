-- Settings of a solver one after the other.
use Rattle.std.proofs.Common.{◌≡◌, ◌<◌, ◌+◌, ℕ, suc, List, [], ◌∷◌, ◌++◌, map, drop, length, get_or, Option, Some, None, refl, sym, ap, ◌∙◌, drop-cons, add-one, Bor}
use Rattle.std.specs.Prelude.{flat_map, option_and_then}
use Rattle.solv_pool.specs.declared.tasks.Flags.{Flags}
use Rattle.solv_commands.specs.Commas.{between_commas}
use Rattle.solv_commands.specs.Inner.FlagWords.{with_words}
use Rattle.solv_commands.specs.SolverFlags.{with_setting, with_settings}

pub settings_behind : (front rest : List (List ℕ)) (flags : Flags) → with_settings (front ++ rest) flags ≡ option_and_then (with_settings rest) (with_settings front flags)
settings_behind [] rest flags = refl
settings_behind (setting ∷ front) rest flags = by (with_setting setting flags) (settings_behind front rest)
  where
    by : (o : Option Flags) → ((now : Flags) → with_settings (front ++ rest) now ≡ option_and_then (with_settings rest) (with_settings front now))
        → option_and_then (with_settings (front ++ rest)) o ≡ option_and_then (with_settings rest) (option_and_then (with_settings front) o)
    by None same = refl
    by (Some now) same = same now

-- a word's settings, and then those of the other words
pub words_behind : (word : List ℕ) (words : List (List ℕ)) (flags : Flags) → with_words (word ∷ words) flags ≡ option_and_then (with_words words) (with_settings (between_commas word) flags)
words_behind word words flags = settings_behind (between_commas word) (flat_map between_commas words) flags

abbrev pub texts : List (Bor (List ℕ)) → List (List ℕ)
texts words = map (λ word. word.now) words

-- the settings of the words from this one on
pub words_from : (words : List (Bor (List ℕ))) (i : ℕ) (none : Bor (List ℕ)) (flags : Flags) (got : Option Flags) → i < length words → got ≡ with_settings (between_commas (get_or words i none).now) flags
    → with_words (texts (drop i words)) flags ≡ option_and_then (with_words (texts (drop (i + 1) words))) got
words_from words i none flags got within is =
    ap (λ (l : List (Bor (List ℕ))). with_words (texts l) flags) (drop-cons words i none within)
    ∙ words_behind (get_or words i none).now (texts (drop (suc i) words)) flags
    ∙ ap (option_and_then (with_words (texts (drop (suc i) words)))) (sym is)
    ∙ ap (λ (k : ℕ). option_and_then (with_words (texts (drop k words))) got) (sym (add-one i))
