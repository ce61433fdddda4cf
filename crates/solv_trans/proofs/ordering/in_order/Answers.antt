use Rattle.std.proofs.Common.{◌≡◌, ◌<◌, ◌∙◌, ℕ, true, length, map, sym, subst, refl, arith, rules}
use Rattle.solv_graph.specs.Inner.Graphs.{edge_to}
use Rattle.solv_graph.specs.Inner.Classes.{TellClasses}
use Rattle.solv_graph.specs.Classes.{AreClasses}
use Rattle.solv_graph.specs.Inner.Orders.{part_of, late_of}
use Rattle.solv_trans.specs.Inner.Parting.{parts_at}
use Rattle.solv_trans.proofs.Apart.{no_cycle, good_order, counts_edge}
use Rattle.solv_trans.proofs.ordering.in_order.Goals as goal
use Rattle.solv_graph.proofs.Steps.{turn_bound}

pub in_order-requires-clause-starts : goal.in_order-requires-clause-starts
in_order-requires-clause-starts c = λ p q h.
    let ends : (a b : ℕ) → edge_to c.args.edges.now.all a b ≡ true → b < length c.args.edges.now.all = λ a b e. omega (arith, turn_bound c.args.turns.now b (c.requires.ends a b e), c.requires.size) in
    let tells_pre : TellClasses (edge_to c.args.edges.now.pre) (length c.args.edges.now.all) c.in_ok-pre_classes.pre_classes.marks = subst (λ (n : ℕ). TellClasses (edge_to c.args.edges.now.pre) n c.in_ok-pre_classes.pre_classes.marks) c.requires.pre_size c.in_ok-pre_classes.ensures.numbers in
    c.requires.starts p q
    (counts_edge c.args.edges.now.all c.args.edges.now.pre c.in_ok-counting.counting (length c.args.edges.now.all) c.in_ok-classes.classes.marks c.in_ok-pre_classes.pre_classes.marks refl c.requires.pre_size c.in_ok-classes.ensures.numbers tells_pre c.requires.within ends c.in_ok-counting.ensures.joined p q h)

pub in_order-requires-clause-acyclic : goal.in_order-requires-clause-acyclic
in_order-requires-clause-acyclic c =
    let ends : (a b : ℕ) → edge_to c.args.edges.now.all a b ≡ true → b < length c.args.edges.now.all = λ a b e. omega (arith, turn_bound c.args.turns.now b (c.requires.ends a b e), c.requires.size) in
    let tells_pre : TellClasses (edge_to c.args.edges.now.pre) (length c.args.edges.now.all) c.in_ok-pre_classes.pre_classes.marks = subst (λ (n : ℕ). TellClasses (edge_to c.args.edges.now.pre) n c.in_ok-pre_classes.pre_classes.marks) c.requires.pre_size c.in_ok-pre_classes.ensures.numbers in
    no_cycle c.args.edges.now.all c.args.edges.now.pre c.in_ok-counting.counting (length c.args.edges.now.all) c.in_ok-classes.classes.marks c.in_ok-pre_classes.pre_classes.marks refl c.requires.pre_size c.in_ok-classes.ensures.numbers tells_pre c.requires.within ends c.in_ok-counting.ensures.joined

pub returns : goal.returns
returns c =
    let ends : (a b : ℕ) → edge_to c.args.edges.now.all a b ≡ true → b < length c.args.edges.now.all = λ a b e. omega (arith, turn_bound c.args.turns.now b (c.requires.ends a b e), c.requires.size) in
    let tells_pre : TellClasses (edge_to c.args.edges.now.pre) (length c.args.edges.now.all) c.in_ok-pre_classes.pre_classes.marks = subst (λ (n : ℕ). TellClasses (edge_to c.args.edges.now.pre) n c.in_ok-pre_classes.pre_classes.marks) c.requires.pre_size c.in_ok-pre_classes.ensures.numbers in
    let parts : c.in_ok-placed.placed ≡ parts_at c.args.parts.now c.in_ok-order.order.items = search rules in
    let pre_lists : c.in_ok-pre_cycles.pre_cycles ≡ map (parts_at c.args.parts.now) c.in_ok-pre_classes.pre_classes.lists = search rules in
    let lists : c.in_ok-cycles.cycles ≡ map (parts_at c.args.parts.now) c.in_ok-classes.classes.lists = search rules in
    record {
      own = record { parts = c.in_ok-order.order.items; pre_cycles = c.in_ok-pre_classes.pre_classes.lists; cycles = c.in_ok-classes.classes.lists };
      ordered = record {
        order = good_order c.args.edges.now.all c.args.edges.now.pre c.in_ok-counting.counting (length c.args.edges.now.all) c.in_ok-classes.classes.marks c.in_ok-pre_classes.pre_classes.marks refl c.requires.pre_size c.in_ok-classes.ensures.numbers tells_pre c.requires.within ends c.in_ok-counting.ensures.joined (part_of c.args.turns.now) (late_of c.args.turns.now) c.in_ok-order.order.items c.in_ok-order.ensures;
        pre_cycles = subst (λ (n : ℕ). AreClasses (edge_to c.args.edges.now.pre) n c.in_ok-pre_classes.pre_classes.lists) (c.requires.pre_size ∙ sym c.requires.parts) c.in_ok-pre_classes.ensures.lists;
        cycles = subst (λ (n : ℕ). AreClasses (edge_to c.args.edges.now.all) n c.in_ok-classes.classes.lists) (sym c.requires.parts) c.in_ok-classes.ensures.lists;
      };
      is = λ i. record { parts = parts i; pre_cycles = pre_lists i; cycles = lists i };
    }
