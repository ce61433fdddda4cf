use Rattle.std.proofs.Common.{◌≡◌, ℕ, Bool, true, List, [], ◌∷◌, ◌++◌, Some, refl, sym, ap, ◌∙◌, subst, arith, length, set, get_or, ◌<◌, ◌+◌, ◌*◌, ◌/◌}
use Rattle.std.specs.Prelude.{ℤ, pos, neg_ℤ, slice_get}
use Rattle.std.proofs.lemmas.List.{get_or_read, length_push}
use Rattle.solv_pool.specs.Prelude.{is_fact, names_package, is_over}
use Rattle.solv_pack.specs.Inner.Literals.{place_of}
use Rattle.solv_derive.proofs.Facts.{neg-neg, all_member, forces_from, forced_member, open_parts}
use Rattle.solv_derive.proofs.Tables.{names_neg, place_within, place_of-injective}
use Rattle.solv_derive.proofs.Hints.{forced_over, clause_over}
use Rattle.solv_trail.specs.Inner.Held.{Held}
use Rattle.solv_trail.specs.Propagated.{in_use}
use Rattle.solv_trail.specs.Inner.Propagated.{IsUsed, IsGrown}
use Rattle.solv_trail.proofs.Growth.{grown_self, grown_push}
use Rattle.solv_watch.specs.Inner.Chains.{no_link, other, heads_past, links_past}
use Rattle.solv_watch.specs.Inner.Spares.{AreTwoOf}
use Rattle.solv_watch.specs.Inner.Watching.{literal_of, AreHeadsKept, IsPart, Visited}
use Rattle.solv_watch.specs.declared.walking.Visit.TheVariants.{Stays, Falsified, Forces, Moves}
use Rattle.solv_watch.proofs.Pairs.{of_others}
use Rattle.solv_watch.proofs.Walks.{IsWalk, walk_at, walk_start, walk_end, walk_past, walk_moved, walk_more, walk_beside, walk_last, visited_stays, visited_false, visited_forces, visited_moves, used_among, beside_few, beside_within, rule_within, pushed_known, still_known, heads_moved}
use Rattle.solv_watch.proofs.walking.walk.Goals as goal
use Rattle.solv_watch.proofs.walking.walk.Given.{Over}
use Rattle.solv_watch.proofs.walking.walk.Goals.{After-index-watched-beside, In-loop-watch}

pub loop-watch-init : goal.loop-watch-init
loop-watch-init g c =
    let placed : c.place-place.result ≡ place_of c.negated.result = c.place-place.ensures.number in
    let named : names_package c.args.known.now.count c.negated.result ≡ true = rw (c.negated.ensures.number) (names_neg c.args.known.now.count c.lit_at.result c.lit_at.ensures.over) in
    let within : c.place-place.result < length c.args.heads.now = let m : place_of c.negated.result < 2 * c.args.known.now.count + 2 = place_within c.args.known.now.count c.negated.result named in omega (arith, c.requires.chained.room, placed) in
    let stands : get_or c.args.known.now.lits c.args.at (pos 0) ≡ neg_ℤ c.negated.result = sym c.lit_at.ensures.lit ∙ sym (neg-neg c.lit_at.result) ∙ ap neg_ℤ (sym c.negated.ensures.number) in
    let begins : get_or c.args.heads.now c.place-place.result 0 ≡ c.args.first = ap (λ v. get_or c.args.heads.now v 0) placed ∙ c.requires.first c.negated.result c.requires.at stands in
    let P : ℕ → Type 0 = λ v. IsWalk c.args.known.now.count c.args.part.rules.now.rules (in_use c.args.part.owners.now c.args.part.enabled.now) c.args.heads.now c.args.links.now c.args.watched.now c.args.known.now.lits c.args.known.now.marks c.args.at c.place-place.result no_link v in
    record {
      walk = subst P begins (walk_start c.args.known.now.count c.args.part.rules.now.rules (in_use c.args.part.owners.now c.args.part.enabled.now) c.args.heads.now c.args.links.now c.args.watched.now c.args.known.now.lits c.args.known.now.marks c.args.at c.place-place.result c.negated.result placed within c.requires.at stands c.requires.chained c.requires.guards c.requires.choices);
      grown = λ all used part. grown_self all used c.args.known.now;
      count = refl;
      within = c.requires.at;
      kept = λ x h. h;
      heads = λ l r away. refl;
    }

bound : (g : Over) (c : In-loop-watch g) → c.loop-watch.watch < 2 * length c.args.part.rules.now.rules
bound g c = (walk_at c.args.known.now.count c.args.part.rules.now.rules (in_use c.args.part.owners.now c.args.part.enabled.now) c.loop-watch.heads c.loop-watch.links c.loop-watch.watched c.loop-watch.known.lits c.loop-watch.known.marks c.args.at c.place-place.result c.loop-watch.last c.loop-watch.watch c.loop-watch.invariant.walk c.loop-watch-test.true).0

pub bounds-links-watch : goal.bounds-links-watch
bounds-links-watch g c = let m : c.loop-watch.watch < 2 * length c.args.part.rules.now.rules = bound g (goal.at.bounds-links-watch g c).In-loop-watch in let e : length c.loop-watch.links ≡ 2 * length c.args.part.rules.now.rules = c.loop-watch.invariant.walk.linked in omega arith

pub beside-requires : goal.beside-requires
beside-requires g c = beside_few (length c.args.part.rules.now.rules) c.loop-watch.watch (bound g (goal.at.beside-requires g c).In-loop-watch) c.loop-watch.invariant.walk.few

pub bounds-watched-beside : goal.bounds-watched-beside
bounds-watched-beside g c = let m : other c.loop-watch.watch < 2 * length c.args.part.rules.now.rules = beside_within (length c.args.part.rules.now.rules) c.loop-watch.watch (bound g (goal.at.bounds-watched-beside g c).In-loop-watch) in let e : length c.loop-watch.watched ≡ 2 * length c.args.part.rules.now.rules = c.loop-watch.invariant.walk.two in omega (arith, c.beside.ensures)

pub visit_rule-requires-clause-rule : goal.visit_rule-requires-clause-rule
visit_rule-requires-clause-rule g c = (rule_within (length c.args.part.rules.now.rules) c.loop-watch.watch (bound g (goal.at.visit_rule-requires-clause-rule g c).In-loop-watch))

-- the other watched literal
beside_is : (g : Over) (c : After-index-watched-beside g) → c.index-watched-beside.result ≡ literal_of c.loop-watch.watched (other c.loop-watch.watch)
beside_is g c =
    let m : other c.loop-watch.watch < 2 * length c.args.part.rules.now.rules = beside_within (length c.args.part.rules.now.rules) c.loop-watch.watch (walk_at c.args.known.now.count c.args.part.rules.now.rules (in_use c.args.part.owners.now c.args.part.enabled.now) c.loop-watch.heads c.loop-watch.links c.loop-watch.watched c.loop-watch.known.lits c.loop-watch.known.marks c.args.at c.place-place.result c.loop-watch.last c.loop-watch.watch c.loop-watch.invariant.walk c.loop-watch-test.true).0 in
    let e : length c.loop-watch.watched ≡ 2 * length c.args.part.rules.now.rules = c.loop-watch.invariant.walk.two in
    let within : c.beside.result < length c.loop-watch.watched = omega (arith, c.beside.ensures) in
    get_or_read c.loop-watch.watched c.beside.result c.index-watched-beside.result within c.index-watched-beside.is (pos 0) ∙ ap (literal_of c.loop-watch.watched) c.beside.ensures

pub visit_rule-requires-clause-beside : goal.visit_rule-requires-clause-beside
visit_rule-requires-clause-beside g c = λ clause found.
    let f : slice_get c.args.part.rules.now.rules (c.loop-watch.watch / 2) ≡ Some clause = found in
    rw (beside_is g (goal.at.visit_rule-requires-clause-beside g c).After-index-watched-beside) (walk_beside c.args.known.now.count c.args.part.rules.now.rules (in_use c.args.part.owners.now c.args.part.enabled.now) c.loop-watch.heads c.loop-watch.links c.loop-watch.watched c.loop-watch.known.lits c.loop-watch.known.marks c.args.at c.place-place.result c.loop-watch.last c.loop-watch.watch c.loop-watch.invariant.walk c.loop-watch-test.true clause f)

pub returns-clause-guards : goal.returns-clause-guards
returns-clause-guards g c = λ e.
    let stop : c.loop-watch.watch ≡ no_link = c.loop-watch-test.false in
    let P : ℕ → Type 0 = λ v. IsWalk c.args.known.now.count c.args.part.rules.now.rules (in_use c.args.part.owners.now c.args.part.enabled.now) c.loop-watch.heads c.loop-watch.links c.loop-watch.watched c.loop-watch.known.lits c.loop-watch.known.marks c.args.at c.place-place.result c.loop-watch.last v in
    walk_end c.args.known.now.count c.args.part.rules.now.rules (in_use c.args.part.owners.now c.args.part.enabled.now) c.loop-watch.heads c.loop-watch.links c.loop-watch.watched c.loop-watch.known.lits c.loop-watch.known.marks c.args.at c.place-place.result c.loop-watch.last (subst P stop c.loop-watch.invariant.walk)

pub rewatch-requires-clause-watch : goal.rewatch-requires-clause-watch
rewatch-requires-clause-watch g c = let m = bound g (goal.at.rewatch-requires-clause-watch g c).In-loop-watch in omega (arith, m, c.loop-watch.invariant.walk.linked)

pub rewatch-requires-clause-last : goal.rewatch-requires-clause-last
rewatch-requires-clause-last g c = λ h.
    let m : c.loop-watch.last < 2 * length c.args.part.rules.now.rules = (walk_last c.args.known.now.count c.args.part.rules.now.rules (in_use c.args.part.owners.now c.args.part.enabled.now) c.loop-watch.heads c.loop-watch.links c.loop-watch.watched c.loop-watch.known.lits c.loop-watch.known.marks c.args.at c.place-place.result c.loop-watch.last c.loop-watch.watch c.loop-watch.invariant.walk h) in
    omega (arith, m, c.loop-watch.invariant.walk.linked)

pub rewatch-requires-clause-to : goal.rewatch-requires-clause-to
rewatch-requires-clause-to g c =
    let l : Visited c.args.part.rules.now.rules (in_use c.args.part.owners.now c.args.part.enabled.now) c.loop-watch.known.lits (c.loop-watch.watch / 2) c.index-watched-beside.result (Moves c.in-Moves.to) = c.in-Moves.ensures in
    let m = visited_moves l in
    let over : is_over c.args.known.now.count m.0 ≡ true = clause_over c.args.known.now.count c.args.part.rules.now.rules (c.loop-watch.watch / 2) m.0 c.requires.over m.1.found in
    let named : names_package c.args.known.now.count c.in-Moves.to ≡ true = all_member (names_package c.args.known.now.count) m.0 over c.in-Moves.to (of_others c.index-watched-beside.result c.in-Moves.to m.0 m.2.first) in
    let small : place_of c.in-Moves.to < 2 * c.args.known.now.count + 2 = place_within c.args.known.now.count c.in-Moves.to named in
    omega (arith, c.loop-watch.invariant.walk.room)

pub push-requires-clause-over : goal.push-requires-clause-over
push-requires-clause-over g c =
    let l : Visited c.args.part.rules.now.rules (in_use c.args.part.owners.now c.args.part.enabled.now) c.loop-watch.known.lits (c.loop-watch.watch / 2) c.index-watched-beside.result Forces = c.in-Forces.ensures in
    let m = visited_forces l in
    let over : is_over c.args.known.now.count m.0 ≡ true = clause_over c.args.known.now.count c.args.part.rules.now.rules (c.loop-watch.watch / 2) m.0 c.requires.over m.1.found in
    rw (c.loop-watch.invariant.count) (forced_over c.args.known.now.count (is_fact c.loop-watch.known.lits) m.0 c.index-watched-beside.result over m.2)

pub push-requires-clause-unknown : goal.push-requires-clause-unknown
push-requires-clause-unknown g c =
    let l : Visited c.args.part.rules.now.rules (in_use c.args.part.owners.now c.args.part.enabled.now) c.loop-watch.known.lits (c.loop-watch.watch / 2) c.index-watched-beside.result Forces = c.in-Forces.ensures in
    let m = visited_forces l in
    (open_parts c.loop-watch.known.lits c.index-watched-beside.result (forced_member c.loop-watch.known.lits m.0 c.index-watched-beside.result (forces_from c.loop-watch.known.lits m.0 c.index-watched-beside.result m.2)).1).0

pub push-requires-clause-not_false : goal.push-requires-clause-not_false
push-requires-clause-not_false g c =
    let l : Visited c.args.part.rules.now.rules (in_use c.args.part.owners.now c.args.part.enabled.now) c.loop-watch.known.lits (c.loop-watch.watch / 2) c.index-watched-beside.result Forces = c.in-Forces.ensures in
    let m = visited_forces l in
    (open_parts c.loop-watch.known.lits c.index-watched-beside.result (forced_member c.loop-watch.known.lits m.0 c.index-watched-beside.result (forces_from c.loop-watch.known.lits m.0 c.index-watched-beside.result m.2)).1).1

pub returns-in-Falsified-clause-clash : goal.returns-in-Falsified-clause-clash
returns-in-Falsified-clause-clash g c = λ all used part.
    let l : Visited c.args.part.rules.now.rules (in_use c.args.part.owners.now c.args.part.enabled.now) c.loop-watch.known.lits (c.loop-watch.watch / 2) c.index-watched-beside.result Falsified = c.in-Falsified.ensures in
    let m = visited_false l in
    (m.0, used_among all used c.args.part.base c.args.part.rules.now.rules (in_use c.args.part.owners.now c.args.part.enabled.now) part (c.loop-watch.watch / 2) m.0 m.1, m.2)

pub loop-watch-smaller-in-Stays : goal.loop-watch-smaller-in-Stays
loop-watch-smaller-in-Stays g c =
    let l : Visited c.args.part.rules.now.rules (in_use c.args.part.owners.now c.args.part.enabled.now) c.loop-watch.known.lits (c.loop-watch.watch / 2) c.index-watched-beside.result Stays = c.in-Stays.ensures in
    let beside : c.index-watched-beside.result ≡ literal_of c.loop-watch.watched (other c.loop-watch.watch) = beside_is g (goal.at.loop-watch-smaller-in-Stays g c).After-index-watched-beside in
    let w = walk_past c.args.known.now.count c.args.part.rules.now.rules (in_use c.args.part.owners.now c.args.part.enabled.now) c.loop-watch.heads c.loop-watch.links c.loop-watch.watched c.loop-watch.known.lits c.loop-watch.known.marks c.args.at c.place-place.result c.loop-watch.last c.loop-watch.watch c.loop-watch.invariant.walk c.loop-watch-test.true (λ on. ap (is_fact c.loop-watch.known.lits) (sym beside) ∙ visited_stays l on) in
    w.1

pub loop-watch-preserved-in-Stays : goal.loop-watch-preserved-in-Stays
loop-watch-preserved-in-Stays g c =
    let l : Visited c.args.part.rules.now.rules (in_use c.args.part.owners.now c.args.part.enabled.now) c.loop-watch.known.lits (c.loop-watch.watch / 2) c.index-watched-beside.result Stays = c.in-Stays.ensures in
    let beside : c.index-watched-beside.result ≡ literal_of c.loop-watch.watched (other c.loop-watch.watch) = beside_is g (goal.at.loop-watch-preserved-in-Stays g c).After-index-watched-beside in
    let w = walk_past c.args.known.now.count c.args.part.rules.now.rules (in_use c.args.part.owners.now c.args.part.enabled.now) c.loop-watch.heads c.loop-watch.links c.loop-watch.watched c.loop-watch.known.lits c.loop-watch.known.marks c.args.at c.place-place.result c.loop-watch.last c.loop-watch.watch c.loop-watch.invariant.walk c.loop-watch-test.true (λ on. ap (is_fact c.loop-watch.known.lits) (sym beside) ∙ visited_stays l on) in
    record {
      walk = w.0;
      grown = c.loop-watch.invariant.grown;
      count = c.loop-watch.invariant.count;
      within = c.loop-watch.invariant.within;
      kept = c.loop-watch.invariant.kept;
      heads = c.loop-watch.invariant.heads;
    }

pub loop-watch-smaller-in-Forces : goal.loop-watch-smaller-in-Forces
loop-watch-smaller-in-Forces g c =
    let l : Visited c.args.part.rules.now.rules (in_use c.args.part.owners.now c.args.part.enabled.now) c.loop-watch.known.lits (c.loop-watch.watch / 2) c.index-watched-beside.result Forces = c.in-Forces.ensures in
    let m = visited_forces l in
    let x : ℤ = c.index-watched-beside.result in
    let e : c.push.new.self ≡ record c.loop-watch.known { lits = c.loop-watch.known.lits ++ x ∷ []; reasons = c.loop-watch.known.reasons ++ (c.args.part.base + c.loop-watch.watch / 2) ∷ [] } = c.push.ensures.added in
    let beside : x ≡ literal_of c.loop-watch.watched (other c.loop-watch.watch) = beside_is g (goal.at.loop-watch-smaller-in-Forces g c).After-index-watched-beside in
    let more : IsWalk c.args.known.now.count c.args.part.rules.now.rules (in_use c.args.part.owners.now c.args.part.enabled.now) c.loop-watch.heads c.loop-watch.links c.loop-watch.watched (c.loop-watch.known.lits ++ c.index-watched-beside.result ∷ []) c.loop-watch.known.marks c.args.at c.place-place.result c.loop-watch.last c.loop-watch.watch = walk_more c.args.known.now.count c.args.part.rules.now.rules (in_use c.args.part.owners.now c.args.part.enabled.now) c.loop-watch.heads c.loop-watch.links c.loop-watch.watched c.loop-watch.known.lits c.loop-watch.known.marks c.args.at c.place-place.result c.loop-watch.last c.loop-watch.watch x c.loop-watch.invariant.walk c.loop-watch.invariant.within in
    let there : is_fact (c.loop-watch.known.lits ++ x ∷ []) x ≡ true = pushed_known c.loop-watch.known.lits x in
    let w = walk_past c.args.known.now.count c.args.part.rules.now.rules (in_use c.args.part.owners.now c.args.part.enabled.now) c.loop-watch.heads c.loop-watch.links c.loop-watch.watched (c.loop-watch.known.lits ++ c.index-watched-beside.result ∷ []) c.loop-watch.known.marks c.args.at c.place-place.result c.loop-watch.last c.loop-watch.watch more c.loop-watch-test.true (λ on. ap (is_fact (c.loop-watch.known.lits ++ x ∷ [])) (sym beside) ∙ there) in
    w.1

pub loop-watch-preserved-in-Forces : goal.loop-watch-preserved-in-Forces
loop-watch-preserved-in-Forces g c =
    let l : Visited c.args.part.rules.now.rules (in_use c.args.part.owners.now c.args.part.enabled.now) c.loop-watch.known.lits (c.loop-watch.watch / 2) c.index-watched-beside.result Forces = c.in-Forces.ensures in
    let m = visited_forces l in
    let x : ℤ = c.index-watched-beside.result in
    let e : c.push.new.self ≡ record c.loop-watch.known { lits = c.loop-watch.known.lits ++ x ∷ []; reasons = c.loop-watch.known.reasons ++ (c.args.part.base + c.loop-watch.watch / 2) ∷ [] } = c.push.ensures.added in
    let beside : x ≡ literal_of c.loop-watch.watched (other c.loop-watch.watch) = beside_is g (goal.at.loop-watch-preserved-in-Forces g c).After-index-watched-beside in
    let more : IsWalk c.args.known.now.count c.args.part.rules.now.rules (in_use c.args.part.owners.now c.args.part.enabled.now) c.loop-watch.heads c.loop-watch.links c.loop-watch.watched (c.loop-watch.known.lits ++ c.index-watched-beside.result ∷ []) c.loop-watch.known.marks c.args.at c.place-place.result c.loop-watch.last c.loop-watch.watch = walk_more c.args.known.now.count c.args.part.rules.now.rules (in_use c.args.part.owners.now c.args.part.enabled.now) c.loop-watch.heads c.loop-watch.links c.loop-watch.watched c.loop-watch.known.lits c.loop-watch.known.marks c.args.at c.place-place.result c.loop-watch.last c.loop-watch.watch x c.loop-watch.invariant.walk c.loop-watch.invariant.within in
    let there : is_fact (c.loop-watch.known.lits ++ x ∷ []) x ≡ true = pushed_known c.loop-watch.known.lits x in
    let w = walk_past c.args.known.now.count c.args.part.rules.now.rules (in_use c.args.part.owners.now c.args.part.enabled.now) c.loop-watch.heads c.loop-watch.links c.loop-watch.watched (c.loop-watch.known.lits ++ c.index-watched-beside.result ∷ []) c.loop-watch.known.marks c.args.at c.place-place.result c.loop-watch.last c.loop-watch.watch more c.loop-watch-test.true (λ on. ap (is_fact (c.loop-watch.known.lits ++ x ∷ [])) (sym beside) ∙ there) in
    let long : length (c.loop-watch.known.lits ++ x ∷ []) ≡ length c.loop-watch.known.lits + 1 = length_push c.loop-watch.known.lits x in
    let P : Held → Type 0 = λ h. record {
      walk : IsWalk c.args.known.now.count c.args.part.rules.now.rules (in_use c.args.part.owners.now c.args.part.enabled.now) c.loop-watch.heads c.loop-watch.links c.loop-watch.watched h.lits h.marks c.args.at c.place-place.result c.loop-watch.watch (get_or c.loop-watch.links c.loop-watch.watch 0);
      grown : (all : List (List ℤ)) (used : ℕ → Bool) → IsPart all used c.args.part.base c.args.part.rules.now.rules (in_use c.args.part.owners.now c.args.part.enabled.now) → IsGrown all used c.args.known.now h;
      count : h.count ≡ c.args.known.now.count;
      within : c.args.at < length h.lits;
      kept : (y : ℤ) → is_fact c.args.known.now.lits y ≡ true → is_fact h.lits y ≡ true;
      heads : AreHeadsKept c.args.known.now.lits c.args.at c.args.heads.now c.loop-watch.heads;
    } in
    subst P (sym e) (record {
      walk = w.0;
      grown = λ all used part.
          let u : IsUsed all used (c.args.part.base + c.loop-watch.watch / 2) m.0 = used_among all used c.args.part.base c.args.part.rules.now.rules (in_use c.args.part.owners.now c.args.part.enabled.now) part (c.loop-watch.watch / 2) m.0 m.1 in
          grown_push all used c.args.known.now c.loop-watch.known (c.args.part.base + c.loop-watch.watch / 2) m.0 x u m.2 (c.loop-watch.invariant.grown all used part);
      count = c.loop-watch.invariant.count;
      within = let k : c.args.at < length c.loop-watch.known.lits = c.loop-watch.invariant.within in omega arith;
      kept = λ y k. still_known c.loop-watch.known.lits x y (c.loop-watch.invariant.kept y k);
      heads = c.loop-watch.invariant.heads;
    })

pub loop-watch-smaller : goal.loop-watch-smaller
loop-watch-smaller g c =
    let l : Visited c.args.part.rules.now.rules (in_use c.args.part.owners.now c.args.part.enabled.now) c.loop-watch.known.lits (c.loop-watch.watch / 2) c.index-watched-beside.result (Moves c.in-Moves.to) = c.in-Moves.ensures in
    let m = visited_moves l in
    let beside : c.index-watched-beside.result ≡ literal_of c.loop-watch.watched (other c.loop-watch.watch) = beside_is g (goal.at.loop-watch-smaller g c).After-index-watched-beside in
    let Q : ℤ → Type 0 = λ b. AreTwoOf c.in-Moves.to b m.0 in
    let over : is_over c.args.known.now.count m.0 ≡ true = clause_over c.args.known.now.count c.args.part.rules.now.rules (c.loop-watch.watch / 2) m.0 c.requires.over m.1.found in
    let named : names_package c.args.known.now.count c.in-Moves.to ≡ true = all_member (names_package c.args.known.now.count) m.0 over c.in-Moves.to (of_others c.index-watched-beside.result c.in-Moves.to m.0 m.2.first) in
    let small : place_of c.in-Moves.to < 2 * c.args.known.now.count + 2 = place_within c.args.known.now.count c.in-Moves.to named in
    let w = walk_moved c.args.known.now.count c.args.part.rules.now.rules (in_use c.args.part.owners.now c.args.part.enabled.now) c.loop-watch.heads c.loop-watch.links c.loop-watch.watched c.loop-watch.known.lits c.loop-watch.known.marks c.args.at c.place-place.result c.loop-watch.last c.loop-watch.watch c.in-Moves.to m.0 c.loop-watch.invariant.walk c.loop-watch-test.true (record { apart = c.keep_apart.ensures.apart }) m.3 (omega (arith, c.loop-watch.invariant.walk.room)) m.1.found (subst Q beside m.2) in
    let links : c.rewatch.new.links ≡ set (links_past c.loop-watch.links c.loop-watch.last (get_or c.loop-watch.links c.loop-watch.watch 0)) c.loop-watch.watch (get_or (heads_past c.loop-watch.heads c.place-place.result c.loop-watch.last (get_or c.loop-watch.links c.loop-watch.watch 0)) (place_of c.in-Moves.to) 0) = c.rewatch.ensures.links in
    rw (links) (w.1)

pub loop-watch-preserved : goal.loop-watch-preserved
loop-watch-preserved g c =
    let l : Visited c.args.part.rules.now.rules (in_use c.args.part.owners.now c.args.part.enabled.now) c.loop-watch.known.lits (c.loop-watch.watch / 2) c.index-watched-beside.result (Moves c.in-Moves.to) = c.in-Moves.ensures in
    let m = visited_moves l in
    let beside : c.index-watched-beside.result ≡ literal_of c.loop-watch.watched (other c.loop-watch.watch) = beside_is g (goal.at.loop-watch-preserved g c).After-index-watched-beside in
    let Q : ℤ → Type 0 = λ b. AreTwoOf c.in-Moves.to b m.0 in
    let over : is_over c.args.known.now.count m.0 ≡ true = clause_over c.args.known.now.count c.args.part.rules.now.rules (c.loop-watch.watch / 2) m.0 c.requires.over m.1.found in
    let named : names_package c.args.known.now.count c.in-Moves.to ≡ true = all_member (names_package c.args.known.now.count) m.0 over c.in-Moves.to (of_others c.index-watched-beside.result c.in-Moves.to m.0 m.2.first) in
    let small : place_of c.in-Moves.to < 2 * c.args.known.now.count + 2 = place_within c.args.known.now.count c.in-Moves.to named in
    let w = walk_moved c.args.known.now.count c.args.part.rules.now.rules (in_use c.args.part.owners.now c.args.part.enabled.now) c.loop-watch.heads c.loop-watch.links c.loop-watch.watched c.loop-watch.known.lits c.loop-watch.known.marks c.args.at c.place-place.result c.loop-watch.last c.loop-watch.watch c.in-Moves.to m.0 c.loop-watch.invariant.walk c.loop-watch-test.true (record { apart = c.keep_apart.ensures.apart }) m.3 (omega (arith, c.loop-watch.invariant.walk.room)) m.1.found (subst Q beside m.2) in
    let links : c.rewatch.new.links ≡ set (links_past c.loop-watch.links c.loop-watch.last (get_or c.loop-watch.links c.loop-watch.watch 0)) c.loop-watch.watch (get_or (heads_past c.loop-watch.heads c.place-place.result c.loop-watch.last (get_or c.loop-watch.links c.loop-watch.watch 0)) (place_of c.in-Moves.to) 0) = c.rewatch.ensures.links in
    record {
      walk = rw (c.rewatch.ensures.heads, links, c.rewatch.ensures.watched) (w.0);
      grown = c.loop-watch.invariant.grown;
      count = c.loop-watch.invariant.count;
      within = c.loop-watch.invariant.within;
      kept = c.loop-watch.invariant.kept;
      heads = rw (c.rewatch.ensures.heads) (heads_moved c.args.known.now.lits c.loop-watch.known.lits c.args.at c.place-place.result c.loop-watch.last (get_or c.loop-watch.links c.loop-watch.watch 0) c.loop-watch.watch c.in-Moves.to c.args.heads.now c.loop-watch.heads c.loop-watch.invariant.kept
          (λ x e. sym c.lit_at.ensures.lit ∙ sym (neg-neg c.lit_at.result) ∙ ap neg_ℤ (sym c.negated.ensures.number) ∙ ap neg_ℤ (sym (place_of-injective x c.negated.result (e ∙ c.place-place.ensures.number)))) m.3 c.loop-watch.invariant.heads);
    }
