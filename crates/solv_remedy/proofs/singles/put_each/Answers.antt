use Rattle.std.proofs.Common.{◌≡◌, ◌∷◌, ℕ, List, sym, subst, rules}
use Rattle.std.specs.Vec.Iter.{into_iter_items}
use Rattle.solv_core.specs.Inner.Contradictions.{AreRefuted}
use Rattle.solv_core.specs.Cores.{CoreOf}
use Rattle.solv_core.specs.declared.refuting.RefutedRule.{RefutedRule}
use Rattle.solv_remedy.proofs.More.{more_none, more_then}
use Rattle.solv_remedy.proofs.singles.put_each.Goals as goal

pub put_free-requires-clause-apart : goal.put_free-requires-clause-apart
put_free-requires-clause-apart c = (c.args.fixed.now, c.loop-one.invariant.apart)

pub loop-one-init : goal.loop-one-init
loop-one-init c = record {
  apart = c.requires.apart;
  free = c.requires.free;
  more = more_none c.args.conflicts.now.items;
  settled = λ r asker core asked up all old. old;
  left = λ core asked all. all;
  long = search rules;
}

pub loop-one-preserved : goal.loop-one-preserved
loop-one-preserved c =
    let inv = c.loop-one.invariant in
    let fixed = c.args.fixed.now in
    let next : into_iter_items c.loop-one.one-iterator ≡ c.in-Some.one ∷ into_iter_items c.next.new.self = search rules in
    let first = λ (core : CoreOf) (asked : List ℕ) (h : AreRefuted core.clauses core.owners core.packages fixed asked (into_iter_items c.loop-one.one-iterator)).
    (let P : List RefutedRule → Type 0 = λ l. AreRefuted core.clauses core.owners core.packages fixed asked l in subst P next h) in
    record {
      apart = c.in_ok-put_free.ensures.apart fixed inv.apart c.in_ok-single.ensures.rules;
      free = c.in_ok-put_free.ensures.free;
      more = more_then c.args.conflicts.now.items c.loop-one.conflicts.items c.put_free.new.conflicts.items inv.more c.in_ok-put_free.ensures.more;
      settled = λ r asker core asked up all old. c.in_ok-put_free.ensures.settled r core (inv.settled r asker core asked up all old) (c.in_ok-single.ensures.settled r asker core asked up (first core asked (inv.left core asked all)).0);
      left = λ core asked all. (first core asked (inv.left core asked all)).1;
      long = search rules;
    }

pub returns-clause-settled : goal.returns-clause-settled
returns-clause-settled c = λ r asker core asked up all old.
    let P : List RefutedRule → Type 0 = λ l. AreRefuted core.clauses core.owners core.packages c.args.fixed.now asked l in
    c.loop-one.invariant.settled r asker core asked up (subst P (sym c.into_iter-one-iterator.ensures.into_iter_gives.0) all) old
