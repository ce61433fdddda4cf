use Rattle.std.proofs.Common.{◌≡◌, ℕ, List, ◌++◌, refl, sym, ◌∙◌, subst, arith, length, ◌<◌, ◌≤◌, ◌+◌}
use Rattle.std.specs.Prelude.{ℤ}
use Rattle.solv_trail.specs.Propagated.{in_use}
use Rattle.solv_trail.specs.Inner.Propagated.{IsGrown, clash}
use Rattle.solv_watch.specs.Inner.Watching.{IsPart, AreChained, IsKeptAtChoices, IsKeptUpto, always}
use Rattle.solv_watch.proofs.Keeping.{part_book, part_learnt, learnt_used, grown_then, held_kept, held_narrow, held_choices, held_moved, over_behind, done, head_stays}
use Rattle.solv_watch.proofs.propagation.follow.Goals as goal
use Rattle.solv_watch.proofs.propagation.follow.Goals.{After-walk_book, After-walk_learnt}

-- the walk through the book
grown_one : (c : After-walk_book) → IsGrown (c.args.book.now.rules ++ c.args.learnt.now.rules) (in_use c.args.owners.now c.args.enabled.now) c.loop-at.known c.walk_book.new.known
grown_one c =
    c.walk_book.ensures.grown (c.args.book.now.rules ++ c.args.learnt.now.rules) (in_use c.args.owners.now c.args.enabled.now) ((part_book c.args.book.now.rules c.args.learnt.now.rules (in_use c.args.owners.now c.args.enabled.now)))

book_one : (c : After-walk_book) → IsKeptAtChoices c.args.book.now.rules (in_use c.args.owners.now c.args.enabled.now) c.walk_book.new.chains.watched.items c.walk_book.new.known.lits c.walk_book.new.known.marks
book_one c =
    held_moved (c.args.book.now.rules ++ c.args.learnt.now.rules) (in_use c.args.owners.now c.args.enabled.now) c.loop-at.known c.walk_book.new.known (grown_one c) c.args.book.now.rules (in_use c.args.owners.now c.args.enabled.now) c.loop-at.watches.book.watched.items c.walk_book.new.chains.watched.items c.loop-at.invariant.book_choices (c.walk_book.ensures.choices)

learnt_one : (c : After-walk_book) → IsKeptAtChoices c.args.learnt.now.rules always c.loop-at.watches.learnt.watched.items c.walk_book.new.known.lits c.walk_book.new.known.marks
learnt_one c = held_choices (c.args.book.now.rules ++ c.args.learnt.now.rules) (in_use c.args.owners.now c.args.enabled.now) c.loop-at.known c.walk_book.new.known (grown_one c) c.args.learnt.now.rules always c.loop-at.watches.learnt.watched.items c.loop-at.invariant.learnt_choices

pub returns-in-Some-clause-grown : goal.returns-in-Some-clause-grown
returns-in-Some-clause-grown c = grown_then (c.args.book.now.rules ++ c.args.learnt.now.rules) (in_use c.args.owners.now c.args.enabled.now) c.args.known.now c.loop-at.known c.walk_book.new.known c.loop-at.invariant.grown (grown_one (goal.at.returns-in-Some-clause-grown c).After-walk_book)

pub returns-in-Some-clause-book_choices : goal.returns-in-Some-clause-book_choices
returns-in-Some-clause-book_choices c = book_one (goal.at.returns-in-Some-clause-book_choices c).After-walk_book

pub returns-in-Some-clause-learnt_choices : goal.returns-in-Some-clause-learnt_choices
returns-in-Some-clause-learnt_choices c = learnt_one (goal.at.returns-in-Some-clause-learnt_choices c).After-walk_book

pub returns-in-Some-clause-done : goal.returns-in-Some-clause-done
returns-in-Some-clause-done c =
    let m = c.in-Some.ensures.clash (c.args.book.now.rules ++ c.args.learnt.now.rules) (in_use c.args.owners.now c.args.enabled.now) ((part_book c.args.book.now.rules c.args.learnt.now.rules (in_use c.args.owners.now c.args.enabled.now))) in
    clash c.in-Some.rule m.0 m.1 m.2

pub walk_learnt-requires-clause-over : goal.walk_learnt-requires-clause-over
walk_learnt-requires-clause-over c = rw ((grown_one (goal.at.walk_learnt-requires-clause-over c).After-walk_book).count, c.loop-at.invariant.count) (over_behind c.args.known.now.count c.args.book.now.rules c.args.learnt.now.rules c.requires.over)

pub walk_learnt-requires-clause-at : goal.walk_learnt-requires-clause-at
walk_learnt-requires-clause-at c = let g : length c.loop-at.known.lits ≤ length c.walk_book.new.known.lits = (grown_one (goal.at.walk_learnt-requires-clause-at c).After-walk_book).longer in let k : c.len.result ≡ length c.loop-at.known.lits = c.len.ensures.many in omega arith

pub walk_learnt-requires-clause-chained : goal.walk_learnt-requires-clause-chained
walk_learnt-requires-clause-chained c = rw ((grown_one (goal.at.walk_learnt-requires-clause-chained c).After-walk_book).count, c.loop-at.invariant.count) (c.loop-at.invariant.learnt)

pub walk_learnt-requires-clause-guards : goal.walk_learnt-requires-clause-guards
walk_learnt-requires-clause-guards c =
    (held_kept (c.args.book.now.rules ++ c.args.learnt.now.rules) (in_use c.args.owners.now c.args.enabled.now) c.loop-at.known c.walk_book.new.known (grown_one (goal.at.walk_learnt-requires-clause-guards c).After-walk_book) c.args.learnt.now.rules always c.loop-at.watches.learnt.watched.items c.loop-at.at c.loop-at.invariant.at c.loop-at.invariant.learnt_kept).guards

pub walk_learnt-requires-clause-choices : goal.walk_learnt-requires-clause-choices
walk_learnt-requires-clause-choices c =
    (learnt_one (goal.at.walk_learnt-requires-clause-choices c).After-walk_book).guards

-- the walk through the learnt rules
part_two : (c : After-walk_learnt) → IsPart (c.args.book.now.rules ++ c.args.learnt.now.rules) (in_use c.args.owners.now c.args.enabled.now) c.len-base.result c.args.learnt.now.rules always
part_two c =
    let Q : ℕ → Type 0 = λ n. IsPart (c.args.book.now.rules ++ c.args.learnt.now.rules) (in_use c.args.owners.now c.args.enabled.now) n c.args.learnt.now.rules always in
    subst Q (sym c.len-base.ensures.count) ((part_learnt c.args.book.now.rules c.args.learnt.now.rules (in_use c.args.owners.now c.args.enabled.now) (λ r. learnt_used c.args.owners.now c.args.enabled.now (length c.args.book.now.rules) r c.requires.each)))

grown_two : (c : After-walk_learnt) → IsGrown (c.args.book.now.rules ++ c.args.learnt.now.rules) (in_use c.args.owners.now c.args.enabled.now) c.walk_book.new.known c.walk_learnt.new.known
grown_two c = c.walk_learnt.ensures.grown (c.args.book.now.rules ++ c.args.learnt.now.rules) (in_use c.args.owners.now c.args.enabled.now) (part_two c)

book_two : (c : After-walk_learnt) → IsKeptAtChoices c.args.book.now.rules (in_use c.args.owners.now c.args.enabled.now) c.walk_book.new.chains.watched.items c.walk_learnt.new.known.lits c.walk_learnt.new.known.marks
book_two c =
    let g : IsGrown (c.args.book.now.rules ++ c.args.learnt.now.rules) (in_use c.args.owners.now c.args.enabled.now) c.loop-at.known c.walk_book.new.known = (let Q : List (List ℤ) → Type 0 = λ rs. IsPart (c.args.book.now.rules ++ c.args.learnt.now.rules) (in_use c.args.owners.now c.args.enabled.now) 0 rs (in_use c.args.owners.now c.args.enabled.now) in c.walk_book.ensures.grown (c.args.book.now.rules ++ c.args.learnt.now.rules) (in_use c.args.owners.now c.args.enabled.now) ((part_book c.args.book.now.rules c.args.learnt.now.rules (in_use c.args.owners.now c.args.enabled.now)))) in
    held_choices (c.args.book.now.rules ++ c.args.learnt.now.rules) (in_use c.args.owners.now c.args.enabled.now) c.walk_book.new.known c.walk_learnt.new.known (grown_two c) c.args.book.now.rules (in_use c.args.owners.now c.args.enabled.now) c.walk_book.new.chains.watched.items
    (held_moved (c.args.book.now.rules ++ c.args.learnt.now.rules) (in_use c.args.owners.now c.args.enabled.now) c.loop-at.known c.walk_book.new.known g c.args.book.now.rules (in_use c.args.owners.now c.args.enabled.now) c.loop-at.watches.book.watched.items c.walk_book.new.chains.watched.items c.loop-at.invariant.book_choices (c.walk_book.ensures.choices))

learnt_two : (c : After-walk_learnt) → IsKeptAtChoices c.args.learnt.now.rules always c.walk_learnt.new.chains.watched.items c.walk_learnt.new.known.lits c.walk_learnt.new.known.marks
learnt_two c =
    let g : IsGrown (c.args.book.now.rules ++ c.args.learnt.now.rules) (in_use c.args.owners.now c.args.enabled.now) c.loop-at.known c.walk_book.new.known = (let Q : List (List ℤ) → Type 0 = λ rs. IsPart (c.args.book.now.rules ++ c.args.learnt.now.rules) (in_use c.args.owners.now c.args.enabled.now) 0 rs (in_use c.args.owners.now c.args.enabled.now) in c.walk_book.ensures.grown (c.args.book.now.rules ++ c.args.learnt.now.rules) (in_use c.args.owners.now c.args.enabled.now) ((part_book c.args.book.now.rules c.args.learnt.now.rules (in_use c.args.owners.now c.args.enabled.now)))) in
    held_moved (c.args.book.now.rules ++ c.args.learnt.now.rules) (in_use c.args.owners.now c.args.enabled.now) c.walk_book.new.known c.walk_learnt.new.known (grown_two c) c.args.learnt.now.rules always c.loop-at.watches.learnt.watched.items c.walk_learnt.new.chains.watched.items
    (held_choices (c.args.book.now.rules ++ c.args.learnt.now.rules) (in_use c.args.owners.now c.args.enabled.now) c.loop-at.known c.walk_book.new.known g c.args.learnt.now.rules always c.loop-at.watches.learnt.watched.items c.loop-at.invariant.learnt_choices) (c.walk_learnt.ensures.choices)

chained_two : (c : After-walk_learnt) → AreChained c.args.known.now.count c.args.learnt.now.rules c.walk_learnt.new.chains.heads.items c.walk_learnt.new.chains.links.items c.walk_learnt.new.chains.watched.items
chained_two c =
    let g : IsGrown (c.args.book.now.rules ++ c.args.learnt.now.rules) (in_use c.args.owners.now c.args.enabled.now) c.loop-at.known c.walk_book.new.known = (let Q : List (List ℤ) → Type 0 = λ rs. IsPart (c.args.book.now.rules ++ c.args.learnt.now.rules) (in_use c.args.owners.now c.args.enabled.now) 0 rs (in_use c.args.owners.now c.args.enabled.now) in c.walk_book.ensures.grown (c.args.book.now.rules ++ c.args.learnt.now.rules) (in_use c.args.owners.now c.args.enabled.now) ((part_book c.args.book.now.rules c.args.learnt.now.rules (in_use c.args.owners.now c.args.enabled.now)))) in
    let n : c.walk_book.new.known.count ≡ c.args.known.now.count = g.count ∙ c.loop-at.invariant.count in
    let Q : ℕ → Type 0 = λ v. AreChained v c.args.learnt.now.rules c.walk_learnt.new.chains.heads.items c.walk_learnt.new.chains.links.items c.walk_learnt.new.chains.watched.items in
    (subst Q n c.walk_learnt.ensures.chained)

grown_both : (c : After-walk_learnt) → IsGrown (c.args.book.now.rules ++ c.args.learnt.now.rules) (in_use c.args.owners.now c.args.enabled.now) c.loop-at.known c.walk_learnt.new.known
grown_both c =
    let g : IsGrown (c.args.book.now.rules ++ c.args.learnt.now.rules) (in_use c.args.owners.now c.args.enabled.now) c.loop-at.known c.walk_book.new.known = (let Q : List (List ℤ) → Type 0 = λ rs. IsPart (c.args.book.now.rules ++ c.args.learnt.now.rules) (in_use c.args.owners.now c.args.enabled.now) 0 rs (in_use c.args.owners.now c.args.enabled.now) in c.walk_book.ensures.grown (c.args.book.now.rules ++ c.args.learnt.now.rules) (in_use c.args.owners.now c.args.enabled.now) ((part_book c.args.book.now.rules c.args.learnt.now.rules (in_use c.args.owners.now c.args.enabled.now)))) in
    grown_then (c.args.book.now.rules ++ c.args.learnt.now.rules) (in_use c.args.owners.now c.args.enabled.now) c.loop-at.known c.walk_book.new.known c.walk_learnt.new.known g (grown_two c)

pub returns-in-Some-walk_learnt-clause-grown : goal.returns-in-Some-walk_learnt-clause-grown
returns-in-Some-walk_learnt-clause-grown c = grown_then (c.args.book.now.rules ++ c.args.learnt.now.rules) (in_use c.args.owners.now c.args.enabled.now) c.args.known.now c.loop-at.known c.walk_learnt.new.known c.loop-at.invariant.grown (grown_both (goal.at.returns-in-Some-walk_learnt-clause-grown c).After-walk_learnt)

pub returns-in-Some-walk_learnt-clause-done : goal.returns-in-Some-walk_learnt-clause-done
returns-in-Some-walk_learnt-clause-done c =
    let m = c.in-Some-walk_learnt.ensures.clash (c.args.book.now.rules ++ c.args.learnt.now.rules) (in_use c.args.owners.now c.args.enabled.now) (part_two (goal.at.returns-in-Some-walk_learnt-clause-done c).After-walk_learnt) in
    clash c.in-Some-walk_learnt.rule m.0 m.1 m.2

pub returns-in-Some-walk_learnt-clause-learnt : goal.returns-in-Some-walk_learnt-clause-learnt
returns-in-Some-walk_learnt-clause-learnt c = chained_two (goal.at.returns-in-Some-walk_learnt-clause-learnt c).After-walk_learnt

pub returns-in-Some-walk_learnt-clause-book_choices : goal.returns-in-Some-walk_learnt-clause-book_choices
returns-in-Some-walk_learnt-clause-book_choices c = book_two (goal.at.returns-in-Some-walk_learnt-clause-book_choices c).After-walk_learnt

pub returns-in-Some-walk_learnt-clause-learnt_choices : goal.returns-in-Some-walk_learnt-clause-learnt_choices
returns-in-Some-walk_learnt-clause-learnt_choices c = learnt_two (goal.at.returns-in-Some-walk_learnt-clause-learnt_choices c).After-walk_learnt

pub loop-at-smaller : goal.loop-at-smaller
loop-at-smaller c =
    let n : c.walk_learnt.new.known.count ≡ c.loop-at.known.count = (grown_both (goal.at.loop-at-smaller c).After-walk_learnt).count in
    let k : c.len.result ≡ length c.loop-at.known.lits = c.len.ensures.many in
    let r : c.len.result ≤ c.loop-at.known.count = c.len.ensures.room in
    let t : c.loop-at.at < c.len.result = c.loop-at-test.true in
    omega arith

pub loop-at-preserved : goal.loop-at-preserved
loop-at-preserved c =
    let g1 : IsGrown (c.args.book.now.rules ++ c.args.learnt.now.rules) (in_use c.args.owners.now c.args.enabled.now) c.loop-at.known c.walk_book.new.known = (let Q : List (List ℤ) → Type 0 = λ rs. IsPart (c.args.book.now.rules ++ c.args.learnt.now.rules) (in_use c.args.owners.now c.args.enabled.now) 0 rs (in_use c.args.owners.now c.args.enabled.now) in c.walk_book.ensures.grown (c.args.book.now.rules ++ c.args.learnt.now.rules) (in_use c.args.owners.now c.args.enabled.now) ((part_book c.args.book.now.rules c.args.learnt.now.rules (in_use c.args.owners.now c.args.enabled.now)))) in
    let g2 : IsGrown (c.args.book.now.rules ++ c.args.learnt.now.rules) (in_use c.args.owners.now c.args.enabled.now) c.walk_book.new.known c.walk_learnt.new.known = grown_two (goal.at.loop-at-preserved c).After-walk_learnt in
    let g : IsGrown (c.args.book.now.rules ++ c.args.learnt.now.rules) (in_use c.args.owners.now c.args.enabled.now) c.loop-at.known c.walk_learnt.new.known = grown_both (goal.at.loop-at-preserved c).After-walk_learnt in
    let a : c.loop-at.at < length c.loop-at.known.lits = (let k : c.len.result ≡ length c.loop-at.known.lits = c.len.ensures.many in let t : c.loop-at.at < c.len.result = c.loop-at-test.true in omega arith) in
    let b : length c.loop-at.known.lits ≤ length c.walk_book.new.known.lits = g1.longer in
    let d : length c.walk_book.new.known.lits ≤ length c.walk_learnt.new.known.lits = g2.longer in
    record {
      narrow = c.loop-at.invariant.narrow;
      count = g.count ∙ c.loop-at.invariant.count;
      grown = grown_then (c.args.book.now.rules ++ c.args.learnt.now.rules) (in_use c.args.owners.now c.args.enabled.now) c.args.known.now c.loop-at.known c.walk_learnt.new.known c.loop-at.invariant.grown g;
      at = omega arith;
      book = (let T : ℕ → Type 0 = λ v. AreChained v c.args.book.now.rules c.walk_book.new.chains.heads.items c.walk_book.new.chains.links.items c.walk_book.new.chains.watched.items in
          (subst T c.loop-at.invariant.count c.walk_book.ensures.chained));
      learnt = chained_two (goal.at.loop-at-preserved c).After-walk_learnt;
      book_choices = book_two (goal.at.loop-at-preserved c).After-walk_learnt;
      learnt_choices = learnt_two (goal.at.loop-at-preserved c).After-walk_learnt;
      book_kept = held_kept (c.args.book.now.rules ++ c.args.learnt.now.rules) (in_use c.args.owners.now c.args.enabled.now) c.walk_book.new.known c.walk_learnt.new.known g2 c.args.book.now.rules (in_use c.args.owners.now c.args.enabled.now) c.walk_book.new.chains.watched.items (c.loop-at.at + 1) (omega arith)
          (record { guards = (c.in_default.ensures.guards refl); narrow = held_narrow (c.args.book.now.rules ++ c.args.learnt.now.rules) (in_use c.args.owners.now c.args.enabled.now) c.loop-at.known c.walk_book.new.known g1 c.args.book.now.rules (in_use c.args.owners.now c.args.enabled.now) c.walk_book.new.chains.watched.items c.loop-at.invariant.book_kept.narrow });
      learnt_kept = record { guards = (c.in_default-walk_learnt.ensures.guards refl); narrow = held_narrow (c.args.book.now.rules ++ c.args.learnt.now.rules) (in_use c.args.owners.now c.args.enabled.now) c.loop-at.known c.walk_learnt.new.known g c.args.learnt.now.rules always c.walk_learnt.new.chains.watched.items c.loop-at.invariant.learnt_kept.narrow };
      first = c.read_head-first.ensures;
    }

pub read_head-first-requires-clause-room : goal.read_head-first-requires-clause-room
read_head-first-requires-clause-room c = rw ((grown_both (goal.at.read_head-first-requires-clause-room c).After-walk_learnt).count) c.walk_book.ensures.chained.room

pub read_head-first-requires-clause-read : goal.read_head-first-requires-clause-read
read_head-first-requires-clause-read c = λ small.
    let k : c.len-count.result ≡ length c.loop-at.known.lits = c.len-count.ensures.many in
    let before : c.loop-at.at + 1 < length c.loop-at.known.lits = omega (arith, small) in
    head_stays c.loop-at.known.lits c.walk_learnt.new.known.lits c.loop-at.at c.head_at-read.result c.loop-at.watches.book.heads.items c.walk_book.new.chains.heads.items (grown_both (goal.at.read_head-first-requires-clause-read c).After-walk_learnt).front before (c.head_at-read.ensures.once before) c.head_at-read.ensures.head c.walk_book.ensures.heads

pub returns-clause-done : goal.returns-clause-done
returns-clause-done c =
    let k : c.len.result ≡ length c.loop-at.known.lits = c.len.ensures.many in
    let a : c.loop-at.at ≤ length c.loop-at.known.lits = c.loop-at.invariant.at in
    let e : c.loop-at.at ≡ length c.loop-at.known.lits = omega (arith, c.loop-at-test.false) in
    let P : ℕ → Type 0 = λ n. IsKeptUpto c.args.book.now.rules (in_use c.args.owners.now c.args.enabled.now) c.loop-at.watches.book.watched.items c.loop-at.known.lits n in
    let Q : ℕ → Type 0 = λ n. IsKeptUpto c.args.learnt.now.rules always c.loop-at.watches.learnt.watched.items c.loop-at.known.lits n in
    done c.args.book.now.rules c.args.learnt.now.rules (in_use c.args.owners.now c.args.enabled.now) c.loop-at.watches.book.watched.items c.loop-at.watches.learnt.watched.items c.loop-at.known.lits (record { apart = c.keep_apart.ensures.apart }) c.loop-at.invariant.book.pairs c.loop-at.invariant.learnt.pairs (subst P e c.loop-at.invariant.book_kept) (subst Q e c.loop-at.invariant.learnt_kept)
