use Rattle.std.proofs.Common.{◌≡◌, ◌<◌, ◌-◌, ◌++◌, ◌∷◌, [], ℕ, List, length, map, filter, sym, ap, ◌∙◌, subst, arith}
use Rattle.std.specs.Prelude.{ℤ}
use Rattle.std.specs.List.{range_with_len}
use Rattle.std.proofs.lemmas.List.{length-map}
use Rattle.solv_derive.specs.declared.logs.Step.{Step}
use Rattle.solv_pack.specs.Inner.Packing.{kept}
use Rattle.solv_derive.specs.Inner.Trimming.{is_on}
use Rattle.solv_core.specs.Ledgers.{rests_on_enabled}
use Rattle.solv_core.specs.Inner.Holding.{IsBegun, entry_of, numbers_on}
use Rattle.solv_core.specs.declared.ledger.Entry.{Entry}
use Rattle.solv_core.proofs.Beginning.{begun, numbers_kept}
use Rattle.solv_core.proofs.Holding.{number_within}
use Rattle.solv_core.proofs.core_run.begin.Goals as goal
use Rattle.solv_core.proofs.core_run.begin.Goals.{In_ok-flags, In_ok-kept}

steps_many : (clauses : List (List ℤ)) (steps : List Step) → clauses ≡ map (λ s. s.clause) steps → length steps ≡ length clauses
steps_many clauses steps e = sym (ap length e ∙ length-map steps (λ s. s.clause))

pub flags_of-requires-clause-within : goal.flags_of-requires-clause-within
flags_of-requires-clause-within c = λ rule less.
    let h = c.requires.held in
    let many : length h.steps ≡ length c.args.parts.now.learnt.rules = steps_many c.args.parts.now.learnt.rules h.steps h.derived.are in
    let P : List Entry → Type 0 = λ v. entry_of c.args.parts.now.numbers.kept.items c.args.parts.now.numbers.first rule < length v in
    subst P (sym c.held.ensures) (number_within c.args.ledger.now.entries (entry_of c.args.parts.now.numbers.kept.items c.args.parts.now.numbers.first) h.steps h.held rule (omega (arith, less, many, c.len-count.ensures.count)))

pub kept_of-requires-clause-within : goal.kept_of-requires-clause-within
kept_of-requires-clause-within c = λ rule less.
    let h = c.requires.held in
    let many : length h.steps ≡ length c.args.parts.now.learnt.rules = steps_many c.args.parts.now.learnt.rules h.steps h.derived.are in
    let size : length c.deref.result.now ≡ length c.args.parts.now.learnt.rules = ap length c.deref.ensures.value ∙ c.in_ok-flags.ensures.size ∙ c.len-count.ensures.count in
    let w = number_within c.args.ledger.now.entries (entry_of c.args.parts.now.numbers.kept.items c.args.parts.now.numbers.first) h.steps h.held rule (omega (arith, less, many, size)) in
    omega (arith, w, c.requires.few)

size_is : (c : In_ok-flags) → length c.in_ok-flags.flags.items ≡ length c.args.parts.now.learnt.rules
size_is c = c.in_ok-flags.ensures.size ∙ c.len-count.ensures.count

flagged : (c : In_ok-flags) (rule : ℕ) → rule < length c.args.parts.now.learnt.rules
    → is_on c.in_ok-flags.flags.items rule ≡ rests_on_enabled c.args.used.now.book.now.rules c.args.used.now.owners.now c.args.used.now.enabled.now c.args.ledger.now.entries (entry_of c.args.parts.now.numbers.kept.items c.args.parts.now.numbers.first rule)
flagged c rule less =
    c.in_ok-flags.ensures.each c.args.used.now.book.now.rules c.requires.each rule (omega (arith, less, c.len-count.ensures.count))
    ∙ ap (λ v. rests_on_enabled c.args.used.now.book.now.rules c.args.used.now.owners.now c.args.used.now.enabled.now v (entry_of c.args.parts.now.numbers.kept.items c.args.parts.now.numbers.first rule)) c.held.ensures

kept_is : (c : In_ok-kept) → c.in_ok-kept.kept.items ≡ numbers_on (is_on c.in_ok-flags.flags.items) (entry_of c.args.parts.now.numbers.kept.items c.args.parts.now.numbers.first) 0 (length c.in_ok-flags.flags.items)
kept_is c = c.in_ok-kept.ensures ∙ ap (λ v. numbers_on (is_on v) (entry_of c.args.parts.now.numbers.kept.items c.args.parts.now.numbers.first) 0 (length v)) c.deref.ensures.value

pub returns-clause-begun : goal.returns-clause-begun
returns-clause-begun c =
    let h = c.requires.held in
    let d = (goal.at.returns-clause-begun c).In_ok-flags in
    let k = (goal.at.returns-clause-begun c).In_ok-kept in
    let book = c.args.used.now.book.now.rules in
    let owners = c.args.used.now.owners.now in
    let packages = c.args.parts.now.known.count in
    let enabled = c.args.used.now.enabled.now in
    let entries = c.args.ledger.now.entries in
    let before = c.args.parts.now.numbers.kept.items in
    let start = c.args.parts.now.numbers.first in
    let learnt = c.args.parts.now.learnt.rules in
    let flags = c.in_ok-flags.flags.items in
    let noted : List ℕ = filter (rests_on_enabled book owners enabled entries) (before ++ range_with_len start (length learnt - length before)) in
    let left : c.keep_only.new.self.rules ≡ kept flags learnt = c.keep_only.ensures.rules ∙ ap (λ v. kept v learnt) c.deref-3.ensures.value in
    let P : List ℕ → Type 0 = λ v. IsBegun book owners packages enabled entries noted v c.len.result c.keep_only.new.self.rules in
    let Q : ℕ → Type 0 = λ v. IsBegun book owners packages enabled entries noted (numbers_on (is_on flags) (entry_of before start) 0 (length flags)) v c.keep_only.new.self.rules in
    let R : List (List ℤ) → Type 0 = λ v. IsBegun book owners packages enabled entries noted (numbers_on (is_on flags) (entry_of before start) 0 (length flags)) (length entries) v in
    subst P (sym (kept_is k)) (subst Q (sym c.len.ensures) (subst R (sym left)
    (begun book owners packages enabled entries before start learnt h.steps flags c.requires.each h.derived h.held h.few (size_is d) (flagged d))))

pub returns-clause-added : goal.returns-clause-added
returns-clause-added c =
    let h = c.requires.held in
    let d = (goal.at.returns-clause-added c).In_ok-flags in
    let k = (goal.at.returns-clause-added c).In_ok-kept in
    let enabled = c.args.used.now.enabled.now in
    let before = c.args.parts.now.numbers.kept.items in
    let start = c.args.parts.now.numbers.first in
    let learnt = c.args.parts.now.learnt.rules in
    let noted : List ℕ = filter (rests_on_enabled c.args.used.now.book.now.rules c.args.used.now.owners.now enabled c.args.ledger.now.entries) (before ++ range_with_len start (length learnt - length before)) in
    let list : c.wrap.result ≡ noted =
    c.wrap.ensures ∙ c.in_ok-noted.ensures.items ∙ c.deref-2.ensures.value ∙ kept_is k
    ∙ numbers_kept c.args.used.now.book.now.rules c.args.used.now.owners.now c.args.parts.now.known.count enabled c.args.ledger.now.entries before start learnt h.steps c.in_ok-flags.flags.items c.requires.each h.derived h.held h.few (size_is d) (flagged d) in
    c.in_ok-push.ensures.ok
    ∙ ap (λ v. c.args.ledger.now.runs ++ (record { enabled = c.in_ok-enabled.enabled; kept = v }) ∷ []) list
    ∙ ap (λ v. c.args.ledger.now.runs ++ (record { enabled = v; kept = noted }) ∷ []) c.in_ok-enabled.ensures
