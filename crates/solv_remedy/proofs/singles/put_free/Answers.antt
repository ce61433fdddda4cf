use Rattle.std.proofs.Common.{◌≡◌, ◌<◌, ◌∙◌, ◌||◌, ◌&&◌, ℕ, List, not, true, false, sym, ap, arith, length}
use Rattle.std.specs.List.{list_all}
use Rattle.std.proofs.lemmas.Bool.{and_parts, eqb-false}
use Rattle.solv_pool.specs.Prelude.{is_among}
use Rattle.solv_pool.proofs.Members.{all_at, among_has}
use Rattle.solv_list.proofs.Booleans.{false_of_not}
use Rattle.solv_trail.specs.Asked.{is_enabled}
use Rattle.solv_remedy.specs.Inner.Conflicts.{listed_of, put_in, AreApart, AreMore, AreSettled}
use Rattle.solv_remedy.specs.declared.smallest.Conflict.{Conflict}
use Rattle.solv_remedy.proofs.Beside.{among_put, apart_put, settled_put}
use Rattle.solv_remedy.proofs.Ledgers.{on_put}
use Rattle.solv_remedy.proofs.More.{more_put}
use Rattle.solv_remedy.proofs.singles.put_free.Goals as goal
use Rattle.solv_remedy.proofs.singles.put_free.Goals.{After-put}

pub put-requires : goal.put-requires
put-requires c = c.requires.apart

none_listed : (c : After-put) (k : ℕ) → is_among c.args.one.rules k ≡ true → is_among (listed_of c.args.conflicts.now.items) k ≡ false
none_listed c k h =
    let all : list_all (is_enabled c.args.free.now) c.args.one.rules ≡ true = ap (list_all (is_enabled c.args.free.now)) (sym c.held.ensures) ∙ sym c.are_enabled.ensures ∙ c.if-not-are_enabled.false in
    c.requires.free k (all_at (is_enabled c.args.free.now) c.args.one.rules k all (among_has c.args.one.rules k h))

some_rule : (c : After-put) → 0 < length c.args.one.rules
some_rule c =
    let none : length c.args.one.rules ≡ 0 → ⊥ = eqb-false (length c.args.one.rules) 0 (sym c.is_empty.ensures ∙ c.if-is_empty.false) in
    omega (arith, none)

pub returns-clause-free : goal.returns-clause-free
returns-clause-free c =
    let P : List Conflict → Type 0 = λ l. (k : ℕ) → is_enabled c.switch_off.new.enabled k ≡ true → is_among (listed_of l) k ≡ false in
    on_put c.put.result P c.put.new.conflicts.items (put_in c.args.one c.args.conflicts.now.items) c.put.ensures (λ k on.
    let both = and_parts (is_enabled c.args.free.now k) (not (is_among c.args.one.rules k)) (sym (still k) ∙ on) in
    among_put c.args.one c.args.conflicts.now.items k ∙ ap (λ b. b || is_among (listed_of c.args.conflicts.now.items) k) (false_of_not (is_among c.args.one.rules k) both.1) ∙ c.requires.free k both.0)
  where
    still : (k : ℕ) → is_enabled c.switch_off.new.enabled k ≡ (is_enabled c.args.free.now k && not (is_among c.args.one.rules k))
    still k = c.switch_off.ensures.on k ∙ ap (λ l. is_enabled c.args.free.now k && not (is_among l k)) c.held-2.ensures

pub returns-clause-apart : goal.returns-clause-apart
returns-clause-apart c = λ fixed apart own.
    let P : List Conflict → Type 0 = λ l. AreApart fixed l in
    let d = (goal.at.returns-clause-apart c).After-put in
    on_put c.put.result P c.put.new.conflicts.items _ c.put.ensures (apart_put fixed c.args.one c.args.conflicts.now.items (some_rule d) own (none_listed d) apart)

pub returns-clause-more : goal.returns-clause-more
returns-clause-more c =
    let P : List Conflict → Type 0 = λ l. AreMore c.args.conflicts.now.items l in
    on_put c.put.result P c.put.new.conflicts.items _ c.put.ensures (more_put c.args.one c.args.conflicts.now.items)

pub returns-clause-settled : goal.returns-clause-settled
returns-clause-settled c = λ r core all one.
    let P : List Conflict → Type 0 = λ l. AreSettled r core l in
    on_put c.put.result P c.put.new.conflicts.items _ c.put.ensures (settled_put r core c.args.one c.args.conflicts.now.items one all)
