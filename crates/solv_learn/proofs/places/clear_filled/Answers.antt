use Rattle.std.proofs.Common.{ℕ, ◌<◌, ◌/◌, length, sym, ◌∙◌, inl, inr, rules, arith}
use Rattle.std.proofs.lemmas.Bool.{false≢true, cases_eq, cases_lt}
use Rattle.solv_learn.proofs.Lasts.{has_within, other_word, empty_word}
use Rattle.solv_learn.proofs.places.clear_filled.Goals as goal

pub loop-place-init : goal.loop-place-init
loop-place-init c = record {
  within = omega arith;
  left = λ k t. (c.requires k t, has_within c.args.words.now k t);
}

pub loop-place-preserved : goal.loop-place-preserved
loop-place-preserved c =
    let words = c.loop-place.words in
    let p : ℕ = c.in-Some.place in
    let last = c.in-Some.ensures in
    let i = c.loop-place.invariant in
    let low : p < c.loop-place.end = last.1 in
    let fits = i.within in
    let within : p < length words = omega arith in
    record {
      within = search rules;
      left = λ k t. elim (cases_eq (k / 64) p) [
        | inl e ↦ absurd (false≢true (sym (empty_word words p k within e) ∙ t))
        | inr differ ↦
            let a = i.left k (sym (other_word words p k differ) ∙ t) in
            (a.0, elim (cases_lt p (k / 64)) [ inl h ↦ absurd (false≢true (sym (last.3 (k / 64) h a.1) ∙ a.0)) | inr h ↦ omega arith ])
      ];
    }
