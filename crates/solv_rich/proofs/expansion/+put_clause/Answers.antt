use Rattle.std.proofs.Common.{◌≡◌, ◌≤◌, ◌∙◌, ◌-◌, ◌++◌, option_map, ◌∷◌, append_assoc, subst, OnOk, [], map, sym, ap, length, true, ◌&&◌, Some}
use Rattle.std.specs.Prelude.{◌==◌, slice_get, unwrap_or}
use Rattle.std.proofs.lemmas.List.{map_push}
use Rattle.std.proofs.lemmas.Option.{slice_get-map}
use Rattle.solv_pool.specs.Prelude.{Clause, times, is_out}
use Rattle.solv_rich.specs.Counts.{saturated}
use Rattle.solv_rich.specs.Inner.Expansions.{clauses_in, are_counted, literal_of}
use Rattle.solv_rich.proofs.Numbered.{joined_front, joined_back, there_is}
use Rattle.solv_rich.proofs.Counted.{count_at}
use Rattle.solv_rich.proofs.expansion.+put_clause.Goals as goal

pub returns-in_ok-push-in-EachOut : goal.returns-in_ok-push-in-EachOut
returns-in_ok-push-in-EachOut t c = λ d e.
    let at : slice_get (map (λ q. is_out q ∷ []) (c.in-EachOut.first.now ++ c.in-EachOut.others.now)) c.args.number ≡ Some d = rw c.in-EachOut.is at e in
    let here : Some (is_out c.at-pack.result ∷ []) ≡ Some d = sym (slice_get-map (λ q. is_out q ∷ []) (c.in-EachOut.first.now ++ c.in-EachOut.others.now) c.args.number ∙ ap (λ o. option_map (λ q. is_out q ∷ []) o) c.at-pack.ensures) ∙ at in
    let own : is_out c.at-pack.result ∷ [] ≡ d = cc in
    ap (map literal_of) c.in_ok-push-in-EachOut.ensures.ok ∙ map_push literal_of c.args.said.now.items _ ∙ ap (λ t. map literal_of c.args.said.now.items ++ t) own

pub returns-then-number-count : goal.returns-then-number-count
returns-then-number-count t c = λ d e.
    let first = c.in-Joined.first.value in
    let second = c.in-Joined.second.value in
    let counted : (c.in-Joined.count == saturated (length (clauses_in first)) && (are_counted first && are_counted second)) ≡ true = rw c.in-Joined.is at c.requires.counted in
    let own : c.in-Joined.count ≡ saturated (length (clauses_in first)) = count_at c.in-Joined.count (saturated (length (clauses_in first))) (are_counted first && are_counted second) counted in
    let at : slice_get (clauses_in first ++ clauses_in second) c.args.number ≡ Some d = rw c.in-Joined.is at e in
    c.put_clause.ensures d (ap (λ x. slice_get (clauses_in x) c.args.number) c.deref.ensures ∙ joined_front (clauses_in first) (clauses_in second) c.in-Joined.count c.args.number d own c.if-number-count.true at)

pub returns-else-number-count : goal.returns-else-number-count
returns-else-number-count t c = λ d e.
    let first = c.in-Joined.first.value in
    let second = c.in-Joined.second.value in
    let counted : (c.in-Joined.count == saturated (length (clauses_in first)) && (are_counted first && are_counted second)) ≡ true = rw c.in-Joined.is at c.requires.counted in
    let own : c.in-Joined.count ≡ saturated (length (clauses_in first)) = count_at c.in-Joined.count (saturated (length (clauses_in first))) (are_counted first && are_counted second) counted in
    let few : length (clauses_in first ++ clauses_in second) ≤ 65536 = rw c.in-Joined.is at c.requires.few in
    let at : slice_get (clauses_in first ++ clauses_in second) c.args.number ≡ Some d = rw c.in-Joined.is at e in
    c.put_clause-else-number-count.ensures d (ap (λ x. slice_get (clauses_in x) (c.args.number - c.in-Joined.count)) c.deref-else-number-count.ensures ∙ joined_back (clauses_in first) (clauses_in second) c.in-Joined.count c.args.number d own few c.if-number-count.false at)

pub returns-in_ok-put_clause-in-Crossed : goal.returns-in_ok-put_clause-in-Crossed
returns-in_ok-put_clause-in-Crossed t c = λ d e.
    let own = there_is (clauses_in c.deref-in-Crossed.result.now) c.numbers_of-own.result.0 c.numbers_of-own.ensures.first_there in
    let other = there_is (clauses_in c.deref-in-Crossed-2.result.now) c.numbers_of-own.result.1 c.numbers_of-own.ensures.second_there in
    let at : slice_get (times (clauses_in c.in-Crossed.first.value) (clauses_in c.in-Crossed.second.value)) c.args.number ≡ Some d = rw c.in-Crossed.is at e in
    let whole : Some (own.0 ++ other.0) ≡ Some d =
    sym (c.numbers_of-own.ensures.joined own.0 other.0 own.1 other.1)
    ∙ ap (λ x. slice_get (times (clauses_in x) (clauses_in c.deref-in-Crossed-2.result.now)) c.args.number) c.deref-in-Crossed.ensures
    ∙ ap (λ x. slice_get (times (clauses_in c.in-Crossed.first.value) (clauses_in x)) c.args.number) c.deref-in-Crossed-2.ensures ∙ at in
    let same : own.0 ++ other.0 ≡ d = ap (λ o. unwrap_or o d) whole in
    let put_own : map literal_of c.put_clause-in-Crossed.new.said.items ≡ map literal_of c.args.said.now.items ++ own.0 =
    c.in_ok-put_clause-in-Crossed.ensures own.0 (ap (λ x. slice_get (clauses_in x) c.numbers_of-own.result.0) (c.deref-in-Crossed-3.ensures ∙ sym c.deref-in-Crossed.ensures) ∙ own.1) in
    let put_other : OnOk c.put_clause-in-Crossed-2.result (map literal_of c.put_clause-in-Crossed-2.new.said.items ≡ map literal_of c.put_clause-in-Crossed.new.said.items ++ other.0) =
    c.put_clause-in-Crossed-2.ensures other.0 (ap (λ x. slice_get (clauses_in x) c.numbers_of-own.result.1) (c.deref-in-Crossed-4.ensures ∙ sym c.deref-in-Crossed-2.ensures) ∙ other.1) in
    subst (λ (t : Clause). OnOk c.put_clause-in-Crossed-2.result (map literal_of c.put_clause-in-Crossed-2.new.said.items ≡ t))
    (ap (λ t. t ++ other.0) put_own ∙ append_assoc (map literal_of c.args.said.now.items) own.0 other.0 ∙ ap (λ t. map literal_of c.args.said.now.items ++ t) same) put_other
