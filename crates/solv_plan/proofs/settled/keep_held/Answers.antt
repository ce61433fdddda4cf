use Rattle.std.proofs.Common.{◌≡◌, ◌+◌, ◌≤◌, ◌<◌, ℕ, Bool, false, not, ◌||◌, List, [], ◌∷◌, ◌++◌, length, take, drop, get_or, set, sym, ap, ◌∙◌, subst, arith}
use Rattle.std.proofs.lemmas.List.{take-take, drop_all, length-take-le}
use Rattle.std.specs.List.{list_all}
use Rattle.solv_trail.specs.Inner.Numbers.{has}
use Rattle.solv_list.proofs.Booleans.{true_of_not, or_false}
use Rattle.solv_plan.specs.Inner.Entries.{is_held, is_settled, are_right}
use Rattle.solv_plan.specs.declared.settled.Entry.{Entry}
use Rattle.solv_plan.specs.declared.settled.Entry.TheVariants.{Rests, Settles}
use Rattle.solv_plan.proofs.Grouped.{IsKept, kept_rests, kept_whole, kept_without, front_of, behind_of, still_behind, one_kept, front_kept}
use Rattle.solv_plan.proofs.Resting.{right_front}
use Rattle.solv_plan.proofs.settled.keep_held.Goals.{in-Rests+then-lost, in-Rests+else-lost, in-Settles+then-lost-2, in-Settles+else-lost-2}
use Rattle.solv_plan.proofs.settled.keep_held.Goals as goal

pub loop-place-preserved : goal.loop-place-preserved
loop-place-preserved c =
    let xs : List Entry = c.args.entries.now in
    let ys : List Entry = c.loop-place.entries in
    let place : ℕ = c.loop-place.place in
    let end : ℕ = c.loop-place.end in
    let group : ℕ = c.loop-place.group in
    let i = c.loop-place.invariant in
    let size : length ys ≡ length xs = c.loop-place.auto.entries in
    let short : place < length ys = omega arith in
    let d : Entry = Rests 0 in
    let e : Entry = get_or ys place d in
    let ins : ℕ → Bool = has c.args.rests.now in
    let had : ℕ → Bool = has c.args.done.now in
    let now : ℕ → Bool = has c.loop-place.done in
    let long : group ≤ length (take end ys) = omega (arith, length-take-le end ys (omega arith)) in
    let behind : drop (place + 1) (set ys end e) ≡ drop (place + 1) xs = still_behind xs ys place end d i.end short size i.behind in
    let same_end : length (take end ys) ≡ end = length-take-le end ys (omega arith) in
    elim c.match-entry.branch [
      | in-Rests+then-lost w ↦
          let q : ℕ = w.in-Rests.pack in
          record {
            group = omega (arith, w.group-is, w.end-is);
            end = omega (arith, w.end-is);
            behind = behind;
            kept =
                rw (w.done-is, w.group-is, w.end-is, w.lost-is)
                (subst (λ l. IsKept xs ins had now l group (place + 1) c.loop-place.lost) (one_kept xs ys place end d i.end short size i.behind (Rests q) w.in-Rests.is)
                (kept_rests xs ins had now (take end ys) group place c.loop-place.lost i.kept q c.loop-place.lost long
                (front_of xs ys place end d i.end short size i.behind (Rests q) w.in-Rests.is) (behind_of xs ys place end d i.end short size i.behind (Rests q) w.in-Rests.is) (λ f. (f, cc))));
          }
      | in-Rests+else-lost w ↦
          let q : ℕ = w.in-Rests.pack in
          record {
            group = omega (arith, w.group-is, w.end-is);
            end = omega (arith, w.end-is);
            behind = behind;
            kept =
                rw (w.done-is, w.group-is, w.end-is, w.lost-is)
                (subst (λ l. IsKept xs ins had now l group (place + 1) (not w.has.result)) (one_kept xs ys place end d i.end short size i.behind (Rests q) w.in-Rests.is)
                (kept_rests xs ins had now (take end ys) group place c.loop-place.lost i.kept q (not w.has.result) long
                (front_of xs ys place end d i.end short size i.behind (Rests q) w.in-Rests.is) (behind_of xs ys place end d i.end short size i.behind (Rests q) w.in-Rests.is)
                (λ f. (w.if-lost.false, sym w.has.ensures ∙ true_of_not w.has.result f))));
          }
      | in-Settles+then-lost-2 w ↦
          let q : ℕ = w.in-Settles.item in
          record {
            group = omega (arith, w.group-is, w.end-is);
            end = omega (arith, w.end-is);
            behind = behind;
            kept =
                rw (w.done-is, w.group-is, w.end-is, w.lost-is)
                (subst (λ l. IsKept xs ins had (has w.remove.new.self) l group (place + 1) false) (front_kept xs ys place end d i.end short size i.behind group i.group)
                (kept_without xs ins had now (take end ys) group place c.loop-place.lost i.kept q (has w.remove.new.self) w.remove.ensures.taken
                (front_of xs ys place end d i.end short size i.behind (Settles q) w.in-Settles.is) (behind_of xs ys place end d i.end short size i.behind (Settles q) w.in-Settles.is)));
          }
      | in-Settles+else-lost-2 w ↦
          let q : ℕ = w.in-Settles.item in
          let not_lost : c.match-entry.lost ≡ false = w.lost-is ∙ w.if-lost-2.false in
          record {
            group = omega (arith, w.group-is, w.end-is);
            end = omega (arith, w.end-is);
            behind = behind;
            kept =
                rw (w.done-is, w.group-is, w.end-is, not_lost)
                (subst (λ l. IsKept xs ins had now l (end + 1) (place + 1) false) (one_kept xs ys place end d i.end short size i.behind (Settles q) w.in-Settles.is)
                (subst (λ n. IsKept xs ins had now (take end ys ++ Settles q ∷ []) (n + 1) (place + 1) false) same_end
                (kept_whole xs ins had now (take end ys) group place c.loop-place.lost i.kept q w.if-lost-2.false
                (front_of xs ys place end d i.end short size i.behind (Settles q) w.in-Settles.is) (behind_of xs ys place end d i.end short size i.behind (Settles q) w.in-Settles.is))));
          }
    ]

pub returns-clause-right : goal.returns-clause-right
returns-clause-right c = λ by right.
    let group : ℕ = c.loop-place.group in
    let ys : List Entry = c.loop-place.entries in
    ap (are_right by) (sym (take-take group c.loop-place.end ys c.loop-place.invariant.group)) ∙ right_front group (take c.loop-place.end ys) by (c.loop-place.invariant.kept.right by right)

pub returns-clause-held : goal.returns-clause-held
returns-clause-held c = ap (list_all (is_held (has c.args.rests.now))) (sym (take-take c.loop-place.group c.loop-place.end c.loop-place.entries c.loop-place.invariant.group)) ∙ c.loop-place.invariant.kept.held

pub returns-clause-done : goal.returns-clause-done
returns-clause-done c = λ was k h.
    let group : ℕ = c.loop-place.group in
    let ys : List Entry = c.loop-place.entries in
    let front : take group (take c.loop-place.end ys) ≡ take group ys = take-take group c.loop-place.end ys c.loop-place.invariant.group in
    let none : drop c.loop-place.place c.args.entries.now ≡ [] = drop_all c.loop-place.place c.args.entries.now (omega arith) in
    sym (ap (λ l. is_settled l k || is_settled (drop c.loop-place.place c.args.entries.now) k) front ∙ ap (λ l. is_settled (take group ys) k || is_settled l k) none ∙ or_false (is_settled (take group ys) k))
    ∙ c.loop-place.invariant.kept.done was k h
