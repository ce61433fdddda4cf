use Rattle.std.proofs.Common.{◌≡◌, ◌==◌, ◌<◌, ◌++◌, ℕ, List, false, length, rules, arith, sym, ap, subst, ◌∙◌}
use Rattle.std.specs.List.{list_any, position_or_len}
use Rattle.std.proofs.lemmas.List.{length-map}
use Rattle.solv_script.specs.Inner.Namespaces.{names_of}
use Rattle.solv_script.proofs.NamespaceLists.{first_named, put_at, put_behind, same_names}
use Rattle.solv_script.proofs.whole.namespace_lines.put_packages.Goals as goal
use Rattle.solv_list.proofs.Answers.{on_ok}

pub returns-in-Some-clause-packages : goal.returns-in-Some-clause-packages
returns-in-Some-clause-packages c =
    let ns = c.args.namespaces.now.items in
    let here = c.index_mut.result.now in
    let first : c.in-Some.place ≡ first_named c.args.name ns = subst (λ (l : List ℕ). c.in-Some.place ≡ position_or_len (λ other. c.args.name == other) l) c.requires c.in-Some.ensures.some in
    let within : c.in-Some.place < length (names_of ns) = subst (λ (l : List ℕ). c.in-Some.place < length l) c.requires c.in-Some.ensures.within in
    let below : c.in-Some.place < length ns = omega (arith, within, length-map ns (λ (n : ℕ × List ℕ). n.0)) in
    on_ok c.append_packages.result
    (λ h. put_at c.args.name c.args.packs ns c.in-Some.place here c.append_packages.new.namespace (h ∙ ap (λ ps. (here.0, here.1 ++ ps)) c.held.ensures) first below c.index_mut.ensures.value)
    c.append_packages.ensures

pub returns-in-Some-clause-names : goal.returns-in-Some-clause-names
returns-in-Some-clause-names c =
    on_ok c.append_packages.result
    (λ h. c.requires ∙ sym (same_names c.args.namespaces.now.items c.in-Some.place c.index_mut.result.now c.append_packages.new.namespace c.index_mut.ensures.value (ap (λ (k : ℕ × List ℕ). k.0) h)))
    c.append_packages.ensures

pub returns-clause-packages : goal.returns-clause-packages
returns-clause-packages c =
    let none : list_any (λ other. c.args.name == other) c.args.names.now ≡ false = search rules in
    c.in_ok-push-2.ensures.items ∙ sym (put_behind c.args.name c.args.packs c.args.namespaces.now.items (subst (λ (l : List ℕ). list_any (λ other. c.args.name == other) l ≡ false) c.requires none))
