use Rattle.std.proofs.Common.{◌≡◌, ◌∙◌, ℕ, List, Bool, not, true, false, sym, ap, arith, length, rules, eq-eqb}
use Rattle.std.specs.List.{list_all}
use Rattle.solv_pool.specs.Prelude.{is_among}
use Rattle.solv_rules.specs.Books.{rises}
use Rattle.solv_remedy.specs.Inner.Conflicts.{listed_of, first_rules, is_single, AreApart, AreSettled}
use Rattle.solv_remedy.specs.declared.smallest.Conflict.{Conflict}
use Rattle.solv_pool.proofs.Members.{all_at}
use Rattle.solv_list.proofs.Booleans.{false_of_not}
use Rattle.solv_remedy.proofs.Beside.{all_put, apart_put, settled_put}
use Rattle.solv_remedy.proofs.ByHalves.{in_order}
use Rattle.solv_remedy.proofs.Ledgers.{on_put}
use Rattle.solv_remedy.proofs.singles.put_single.Goals as goal
use Rattle.solv_remedy.proofs.singles.put_single.Goals.{After-put}
use Rattle.solv_pool.proofs.Members.{among_has}

pub is_new_single-requires-clause-singles : goal.is_new_single-requires-clause-singles
is_new_single-requires-clause-singles c = ap (list_all is_single) c.deref.ensures.value ∙ c.requires.singles

pub is_new_single-requires-clause-in_order : goal.is_new_single-requires-clause-in_order
is_new_single-requires-clause-in_order c = ap (λ l. rises 0 (first_rules l)) c.deref.ensures.value ∙ in_order c.requires.apart.0 c.args.conflicts.now.items c.requires.apart.1

pub put-requires : goal.put-requires
put-requires c = c.requires.apart

it_is : (c : After-put) → c.is_new_single.result ≡ true
it_is c = search rules

alone : (c : After-put) → length c.args.one.rules ≡ 1
alone c = ap length (sym c.held.ensures) ∙ c.is_new_single.ensures.one (it_is c)

none_listed : (c : After-put) (k : ℕ) → is_among c.args.one.rules k ≡ true → is_among (listed_of c.args.conflicts.now.items) k ≡ false
none_listed c k h =
    let t : ℕ → Bool = λ j. not (is_among (listed_of c.args.conflicts.now.items) j) in
    let all : list_all t c.args.one.rules ≡ true =
    ap (list_all t) (sym c.held.ensures) ∙ ap (λ l. list_all (λ j. not (is_among (listed_of l) j)) c.held.result.now) (sym c.deref.ensures.value) ∙ c.is_new_single.ensures.new (it_is c) in
    false_of_not (is_among (listed_of c.args.conflicts.now.items) k) (all_at t c.args.one.rules k all (among_has c.args.one.rules k h))

pub returns-clause-singles : goal.returns-clause-singles
returns-clause-singles c =
    let P : List Conflict → Type 0 = λ l. list_all is_single l ≡ true in
    on_put c.put.result P c.put.new.conflicts.items _ c.put.ensures (all_put is_single c.args.one c.args.conflicts.now.items (eq-eqb (length c.args.one.rules) 1 (alone ((goal.at.returns-clause-singles c).After-put))) c.requires.singles)

pub returns-clause-apart : goal.returns-clause-apart
returns-clause-apart c = λ fixed apart own.
    let P : List Conflict → Type 0 = λ l. AreApart fixed l in
    let d = (goal.at.returns-clause-apart c).After-put in
    let one = alone d in
    on_put c.put.result P c.put.new.conflicts.items _ c.put.ensures (apart_put fixed c.args.one c.args.conflicts.now.items (omega (arith, one)) own (none_listed d) apart)

pub returns-clause-settled : goal.returns-clause-settled
returns-clause-settled c = λ r core all one.
    let P : List Conflict → Type 0 = λ l. AreSettled r core l in
    on_put c.put.result P c.put.new.conflicts.items _ c.put.ensures (settled_put r core c.args.one c.args.conflicts.now.items one all)
