-- Why the packages of a set come.
use Rattle.std.proofs.Common.{◌≡◌, ℕ, Bool, true, false, not, ◌&&◌, cond, List, [], ◌∷◌, ◌++◌, length, Option, Some, None, refl, ap, ◌∙◌}
use Rattle.std.specs.Prelude.{codes, filter, filter_map, find, int_lt, nat_abs, pos, option_map, ◌==◌, if◌then◌else◌}
use Rattle.std.specs.BTreeMap.{BTreeMap}
use Rattle.std.specs.List.{cons_option, list_all}
use Rattle.std.proofs.lemmas.Bool.{and_parts}
use Rattle.solv_core.specs.declared.verdicts.Event.{Event}
use Rattle.solv_core.specs.declared.verdicts.Event.TheVariants.{Known, Took}
use Rattle.solv_pool.specs.Prelude.{Catalog, is_installed, is_pack, is_among, passes}
use Rattle.solv_pool.proofs.Lists.{among_itself}
use Rattle.solv_trans.specs.Moving.{comes}
use Rattle.solv_lines.specs.Inner.LineNames.{reason_lines}
use Rattle.solv_lines.specs.Inner.Reasons.{HasReasons, brought, event_word, line_by, reason_word, told_line, word_in}
use Rattle.solv_lines.specs.ResultLines.{reason_line, reason_of}
use Rattle.solv_lines.specs.RuleTexts.{named}
use Rattle.solv_lines.specs.declared.reasons.Reason.{Reason}

-- the reason of an event, where it is that of p
abbrev of_pack : ℕ → ℕ × List ℕ → Bool
of_pack p why = why.0 == p

abbrev word : ℕ × List ℕ → List ℕ
word why = why.1

-- the first event that puts p into the set gives the first reason that is p's
event_first : (p : ℕ) (e : Event) (rest : Option Event) (others : List (ℕ × List ℕ)) → option_map event_word rest ≡ option_map word (find (of_pack p) others)
    → option_map event_word (cond (passes (brought e) (λ q. q == p)) (Some e) rest) ≡ option_map word (find (of_pack p) (cons_option (reason_of e) others))
event_first p (Took q r) rest others h = by (r == p)
  where
    by : (b : Bool) → option_map event_word (cond b (Some (Took q r)) rest) ≡ option_map word (cond b (Some (r, event_word (Took q r))) (find (of_pack p) others))
    by true = refl
    by false = h
event_first p (Known l) rest others h = by (int_lt (pos 0) l)
  where
    named_so : (b : Bool) → option_map event_word (cond b (Some (Known l)) rest) ≡ option_map word (cond b (Some (nat_abs l, codes "follows")) (find (of_pack p) others))
    named_so true = refl
    named_so false = h

    by : (b : Bool) → option_map event_word (cond (passes (if b then Some (nat_abs l) else None) (λ q. q == p)) (Some (Known l)) rest)
        ≡ option_map word (find (of_pack p) (cons_option (if b then Some (nat_abs l, codes "follows") else None) others))
    by true = named_so (nat_abs l == p)
    by false = h

words_same : (p : ℕ) (events : List Event) → reason_word events p ≡ option_map word (find (of_pack p) (filter_map reason_of events))
words_same p [] = refl
words_same p (e ∷ events) = event_first p e (find (λ e. passes (brought e) (λ q. q == p)) events) (filter_map reason_of events) (words_same p events)

module _ (catalog : Catalog) (reasons : BTreeMap ℕ Reason) (events : List Event) (has : HasReasons reasons events) where
  told_same : (p : ℕ) (o : Option (ℕ × List ℕ)) → option_map (told_line catalog p) (option_map word o) ≡ option_map (λ why. codes "reason " ++ (named catalog p ++ (codes " " ++ why.1))) o
  told_same p None = refl
  told_same p (Some why) = refl

  line_same : (p : ℕ) → option_map (told_line catalog p) (word_in reasons p) ≡ reason_line catalog events p
  line_same p = ap (option_map (told_line catalog p)) (has p ∙ words_same p events) ∙ told_same p (find (of_pack p) (filter_map reason_of events))

  -- a package of the set comes where it is new
  one_line : (set : ℕ → Bool) (p : ℕ) (ps : List ℕ) → set p ≡ true → filter_map (line_by catalog (word_in reasons)) ps ≡ filter_map (reason_line catalog events) (filter (comes catalog set) ps)
      → filter_map (line_by catalog (word_in reasons)) (p ∷ ps) ≡ filter_map (reason_line catalog events) (filter (comes catalog set) (p ∷ ps))
  one_line set p ps within rest = by (is_pack (length catalog.universe.packages) p) (set p) (not (is_installed catalog p)) within
    where
      by : (a b c : Bool) → b ≡ true → cons_option (if a && c then option_map (told_line catalog p) (word_in reasons p) else None) (filter_map (line_by catalog (word_in reasons)) ps)
          ≡ filter_map (reason_line catalog events) (cond (a && (b && c)) (p ∷ filter (comes catalog set) ps) (filter (comes catalog set) ps))
      by true true true h = ap (cons_option (option_map (told_line catalog p) (word_in reasons p))) rest ∙ ap (λ o. cons_option o (filter_map (reason_line catalog events) (filter (comes catalog set) ps))) (line_same p)
      by true true false h = rest
      by true false c h = absurd (cc)
      by false b c h = rest

  lines_same : (set : ℕ → Bool) (ps : List ℕ) → list_all set ps ≡ true → filter_map (line_by catalog (word_in reasons)) ps ≡ filter_map (reason_line catalog events) (filter (comes catalog set) ps)
  lines_same set [] h = refl
  lines_same set (p ∷ ps) h = let parts = and_parts (set p) (list_all set ps) h in one_line set p ps parts.0 (lines_same set ps parts.1)

pub reasons_same : (catalog : Catalog) (reasons : BTreeMap ℕ Reason) (events : List Event) (set : List ℕ) → HasReasons reasons events → filter_map (line_by catalog (word_in reasons)) set ≡ reason_lines catalog set events
reasons_same catalog reasons events set has = lines_same catalog reasons events has (is_among set) set (among_itself set)
