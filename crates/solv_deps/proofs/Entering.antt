-- What a pool's calls do is the entering of texts and relations.
use Rattle.std.proofs.Common.{◌≡◌, ℕ, ◌≤◌, true, false, List, [], ◌∷◌, ◌++◌, length, Some, Ok, Err, refl, ap, ◌∙◌, arith, nat_lt, Contains, slice_get}
use Rattle.std.proofs.lemmas.Bool.Decides.{nat_tests}
use Rattle.std.proofs.lemmas.Map.Views.{Contains-from_any}
use Rattle.solv_base.specs.contracts.relation.DepNodePartialEq.TheImpl.{eq-value}
use Rattle.solv_base.specs.declared.relation.DepNode.{DepNode}
use Rattle.std.proofs.lemmas.Option.{slice_get-get_or}
use Rattle.solv_base.specs.declared.interning.PoolFault.{PoolFault}
use Rattle.solv_base.specs.declared.interning.PoolFault.TheVariants as PoolFull
use Rattle.solv_base.specs.Pool.{Held, HasOneId, most, is_name, name_id, with_name}
use Rattle.solv_base.proofs.Places.{place_found, absent}
use Rattle.solv_base.proofs.Pools.{same_relation, relation_itself}
use Rattle.solv_deps.specs.declared.fault.DepFault.TheVariants.{FullRelations}
use Rattle.solv_deps.specs.Inner.Entering.{is_relation, relation_id}
use Rattle.solv_deps.specs.Entering.{text_entered, relation_entered}
use Rattle.solv_deps.specs.Inner.Entering.{IsRefusal, refusal}
use Rattle.solv_list.proofs.Lists.{at_end, place_none, place_within}

below_most : (n : ℕ) → n ≤ most → (n ≡ most → ⊥) → nat_lt n most ≡ true
below_most n le ne = grind (arith, nat_tests)

not_most : nat_lt most most ≡ false
not_most = refl

-- a text for which there is room
pub text_fits : (old new : Held) (text : List ℕ) (id : ℕ) → length old.names ≤ most → (((is_name old.names text ≡ false) × (length old.names ≡ most)) → ⊥)
    → id ≡ name_id old.names text → new ≡ record old { names = with_name old.names text } → text_entered text old ≡ Ok (record { id = id; held = new })
text_fits old new text id fit full e f =
    elim (is_name old.names text) as (λ b. is_name old.names text ≡ b → text_entered text old ≡ Ok (record { id = id; held = new })) [
      | true ↦ λ k. rw (e, f, k) refl
      | false ↦ λ k. let l = below_most (length old.names) fit (λ s. full (k, s)) in rw (e, f, k, l) refl
    ] refl

not_there : (nodes : List DepNode) (node : DepNode) → is_relation nodes node ≡ false → Contains nodes node → ⊥
not_there nodes node none h = absent eq-value.it relation_itself node nodes h.0 none (slice_get-get_or nodes h.0 node h.1 ∙ ap Some h.2)

-- a relation for which there is room
pub relation_fits : (old new : Held) (node : DepNode) (id : ℕ) → length old.nodes ≤ most → HasOneId new.nodes → slice_get new.nodes id ≡ Some node
    → (Contains old.nodes node → new ≡ old) → ((Contains old.nodes node → ⊥) → new ≡ record old { nodes = old.nodes ++ node ∷ [] })
    → (((Contains old.nodes node → ⊥) × (length old.nodes ≡ most)) → ⊥) → relation_entered node old ≡ Ok (record { id = id; held = new })
relation_fits old new node id fit once here known added full =
    elim (is_relation old.nodes node) as (λ b. is_relation old.nodes node ≡ b → relation_entered node old ≡ Ok (record { id = id; held = new })) [
      | true ↦ λ k.
          let same : new ≡ old = known (Contains-from_any same_relation node old.nodes k) in
          let place : slice_get old.nodes (relation_id old.nodes node) ≡ Some node =
          place_found eq-value.it same_relation node old.nodes (relation_id old.nodes node) refl (place_within (eq-value.it node) old.nodes k) in
          let at : slice_get new.nodes (relation_id old.nodes node) ≡ Some node = rw same place in
          let number : id ≡ relation_id old.nodes node = once id (relation_id old.nodes node) node here at in
          rw (number, same, k) refl
      | false ↦ λ k.
          let none = not_there old.nodes node k in
          let more : new ≡ record old { nodes = old.nodes ++ node ∷ [] } = added none in
          let last : relation_id old.nodes node ≡ length old.nodes = place_none (eq-value.it node) old.nodes k in
          let at : slice_get new.nodes (length old.nodes) ≡ Some node = rw more (at_end old.nodes node) in
          let number : id ≡ length old.nodes = once id (length old.nodes) node here at in
          let l = below_most (length old.nodes) fit (λ s. full (none, s)) in
          rw (number, more, k, l, last) refl
    ] refl

-- a relation for which there is none
relation_full : (old : Held) (node : DepNode) → (Contains old.nodes node → ⊥) → length old.nodes ≡ most → relation_entered node old ≡ Err FullRelations
relation_full old node none e =
    elim (is_relation old.nodes node) as (λ b. is_relation old.nodes node ≡ b → relation_entered node old ≡ Err FullRelations) [
      | true ↦ λ k. absurd (none (Contains-from_any same_relation node old.nodes k))
      | false ↦ λ k. rw (k, e) refl
    ] refl

pub relation_refused : (old : Held) (node : DepNode) (fault : PoolFault) → (fault ≡ PoolFull.FullRelations → (Contains old.nodes node → ⊥) × (length old.nodes ≡ most))
    → (fault ≡ PoolFull.FullNames → ⊥) → IsRefusal (refusal fault) (relation_entered node old)
relation_refused old node PoolFull.FullNames full no_name = absurd (no_name refl)
relation_refused old node PoolFull.FullRelations full no_name = let h = full refl in relation_full old node h.0 h.1
relation_refused old node PoolFull.Memory full no_name = tt
