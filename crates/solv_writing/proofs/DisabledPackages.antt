-- Lines of disabled packages, appended one after another.
use Rattle.std.proofs.Common.{◌≡◌, ◌<◌, ℕ, Bool, true, false, List, [], ◌∷◌, ◌++◌, ◌+◌, drop, length, slice_get, Some, refl, sym, ap, ◌∙◌, add-one, append_assoc}
use Rattle.std.specs.Prelude.{unwrap_or}
use Rattle.solv_io.specs.Lines.{ended_lines}
use Rattle.solv_base.specs.Pool.{Held}
use Rattle.solv_pool.specs.Contents.{Contents}
use Rattle.solv_pool.specs.Installable.{is_disabled}
use Rattle.solv_pool.specs.Inner.Catalog.{alone}
use Rattle.solv_pool.specs.Prelude.{when}
use Rattle.solv_list.proofs.Lists.{drop_get, some_there}
use Rattle.solv_writing.specs.Inner.ByIds.{disable_text, disabled_texts}
use Rattle.solv_io.proofs.WrittenLines.{ended_lines-append}

module _ (pool : Held) (contents : Contents) where
  first_mark : (p : ℕ) (mark : Bool) (marks : List Bool) → ended_lines (disabled_texts pool contents p (mark ∷ marks)) ≡ ended_lines (when mark (disable_text pool contents p ∷ [])) ++ ended_lines (disabled_texts pool contents (p + 1) marks)
  first_mark p true marks = ended_lines-append (disable_text pool contents p ∷ []) (disabled_texts pool contents (p + 1) marks)
  first_mark p false marks = refl

  mark_is : (k : ℕ) (mark : Bool) → slice_get contents.disabled k ≡ Some mark → is_disabled (alone pool contents) (k + 1) ≡ mark
  mark_is k mark at = ap (is_disabled (alone pool contents)) (add-one k) ∙ ap (λ o. unwrap_or o false) at

  -- one package more
  pub disabled_turn : (k : ℕ) (old new whole : List ℕ) → k < length contents.disabled
      → new ≡ old ++ ended_lines (when (is_disabled (alone pool contents) (k + 1)) (disable_text pool contents (k + 1) ∷ []))
      → old ++ ended_lines (disabled_texts pool contents (k + 1) (drop k contents.disabled)) ≡ whole
      → new ++ ended_lines (disabled_texts pool contents (k + 1 + 1) (drop (k + 1) contents.disabled)) ≡ whole
  disabled_turn k old new whole within put before =
      let there = some_there contents.disabled k within in
      let mark : Bool = there.0 in
      let rest : List Bool = drop (k + 1) contents.disabled in
      let here : List ℕ = ended_lines (when mark (disable_text pool contents (k + 1) ∷ [])) in
      let behind : List ℕ = ended_lines (disabled_texts pool contents (k + 1 + 1) rest) in
      let is : ended_lines (disabled_texts pool contents (k + 1) (drop k contents.disabled)) ≡ here ++ behind =
      ap (λ marks. ended_lines (disabled_texts pool contents (k + 1) marks)) (drop_get contents.disabled k mark there.1) ∙ first_mark (k + 1) mark rest in
      ap (λ l. l ++ behind) (put ∙ ap (λ b. old ++ ended_lines (when b (disable_text pool contents (k + 1) ∷ []))) (mark_is k mark there.1))
      ∙ append_assoc old here behind ∙ ap (λ l. old ++ l) (sym is) ∙ before
