use Rattle.std.proofs.Common.{◌≡◌, ◌∙◌, ap, sym, map, List, [], ℕ, true≢false, inl, inr}
use Rattle.std.specs.Prelude.{string_bytes}
use Rattle.clap.specs.Words.{app_of, fault_of, is_simple, is_simple_and_free, matches_of}
use Rattle.solv_list.proofs.Answers.{ok_map}
use Rattle.solv_words.specs.Inner.Clap.{form}
use Rattle.solv_words.proofs.ClapArguments.{is_calm}
use Rattle.solv_words.proofs.NamedArguments.{said_by_names}
use Rattle.solv_words.proofs.ClapForm.{Taken, among, refused, small_budget, taken, text_behind}
use Rattle.solv_words.proofs.command_line.command_of.Goals as goal

pub returns-in-Ok-clause-said : goal.returns-in-Ok-clause-said
returns-in-Ok-clause-said g =
    let words : List (List ℕ) = map string_bytes g.args.words.now in
    let is : app_of g.in_ok-form.field-0 ≡ form = g.in_ok-form.ensures in
    let calm : fault_of form words ≡ [] = ap (λ a. fault_of a words) (sym is) ∙ g.in-Ok.ensures.kinds (ap is_simple_and_free is) in
    let t : Taken words = taken words (text_behind g.args.words.now) calm in
    let rows = (g.in-Ok.ensures.matches (ap is_simple is)).0 ∙ ap (λ a. matches_of a words) is ∙ t.rows in
    ok_map _ _ g.command_in.result (λ command h. h ∙ sym (said_by_names words ∙ t.command)) (g.command_in.ensures t.args rows t.accepted)

pub returns-in-Err-2-clause-said : goal.returns-in-Err-2-clause-said
returns-in-Err-2-clause-said g =
    let words : List (List ℕ) = map string_bytes g.args.words.now in
    let is : app_of g.in_ok-form.field-0 ≡ form = g.in_ok-form.ensures in
    elim (g.in-Err.ensures.kinds (ap is_simple_and_free is)) [
      | inl memory ↦ let same = rw (g.kind.ensures, memory) at g.eq.ensures in absurd (true≢false (sym same ∙ g.if-eq.false))
      | inr kind ↦ sym (said_by_names words ∙ refused words (text_behind g.args.words.now) (ap (λ a. is_calm (fault_of a words)) (sym is) ∙ among _ _ kind))
    ]

pub returns-in-Ok-clause-within : goal.returns-in-Ok-clause-within
returns-in-Ok-clause-within g =
    let words : List (List ℕ) = map string_bytes g.args.words.now in
    let is : app_of g.in_ok-form.field-0 ≡ form = g.in_ok-form.ensures in
    let calm : fault_of form words ≡ [] = ap (λ a. fault_of a words) (sym is) ∙ g.in-Ok.ensures.kinds (ap is_simple_and_free is) in
    let t : Taken words = taken words (text_behind g.args.words.now) calm in
    let rows = (g.in-Ok.ensures.matches (ap is_simple is)).0 ∙ ap (λ a. matches_of a words) is ∙ t.rows in
    ok_map _ _ g.command_in.result (λ command h. small_budget t.args command t.accepted h) (g.command_in.ensures t.args rows t.accepted)
