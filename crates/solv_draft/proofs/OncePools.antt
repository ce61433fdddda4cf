-- What a pool holds comes into a copy under the same ids.
use Rattle.std.proofs.Common.{◌≡◌, ◌<◌, ◌+◌, ◌∙◌, ℕ, zero, suc, true, false, List, [], ◌∷◌, ◌++◌, take, slice_get, Contains, Some, refl, sym, ap, subst, arith}
use Rattle.std.specs.Str.{bytes_eq}
use Rattle.std.proofs.lemmas.Option.{slice_get-get_or, slice_get_within, get_or_from_slice_get}
use Rattle.solv_base.specs.Pool.{HasOneId, Held, IsPool, is_name, name_id, with_name}
use Rattle.solv_base.specs.declared.relation.DepNode.{DepNode}
use Rattle.solv_base.proofs.Pools.{name_at}
use Rattle.solv_list.proofs.Lists.{place_within, take_next}

-- what stands among the first stands there in the whole
of_first : {X : Type 0} (xs : List X) (i m : ℕ) (x : X) → slice_get (take i xs) m ≡ Some x → (m < i) × (slice_get xs m ≡ Some x)
of_first xs zero m x h = absurd (cc)
of_first [] (suc i) m x h = absurd (cc)
of_first (y ∷ xs) (suc i) zero x h = (omega arith, h)
of_first (y ∷ xs) (suc i) (suc m) x h =
    let rest = of_first xs i m x h in
    (omega (arith, rest.0), rest.1)

-- what is held once does not stand before its place
not_before : {X : Type 0} (xs : List X) (i m : ℕ) (x : X) → HasOneId xs → slice_get xs i ≡ Some x → slice_get (take i xs) m ≡ Some x → ⊥
not_before xs i m x once at before =
    let first = of_first xs i m x before in
    let same : m ≡ i = once m i x first.1 at in
    absurd (omega (arith, first.0, same))

next : {X : Type 0} (xs : List X) (i : ℕ) (x : X) → slice_get xs i ≡ Some x → take (i + 1) xs ≡ take i xs ++ x ∷ []
next xs i x at = take_next xs i x (slice_get_within xs i x at) (sym (get_or_from_slice_get xs i x x at))

-- the next name is new to the copy
new_name : (names : List (List ℕ)) (i : ℕ) (text : List ℕ) → HasOneId names → slice_get names i ≡ Some text → is_name (take i names) text ≡ false
new_name names i text once at =
    elim (is_name (take i names) text) as (λ b. is_name (take i names) text ≡ b → is_name (take i names) text ≡ false) [
      | true ↦ λ found. absurd (not_before names i (name_id (take i names) text) text once at (name_at (take i names) text (name_id (take i names) text) refl (place_within (bytes_eq text) (take i names) found)))
      | false ↦ λ none. none
    ] refl

name_copied : (names : List (List ℕ)) (i : ℕ) (text : List ℕ) → HasOneId names → slice_get names i ≡ Some text → with_name (take i names) text ≡ take (i + 1) names
name_copied names i text once at = rw (new_name names i text once at) (sym (next names i text at))

-- and so is the next relation
new_relation : (nodes : List DepNode) (i : ℕ) (node : DepNode) → HasOneId nodes → slice_get nodes i ≡ Some node → Contains (take i nodes) node → ⊥
new_relation nodes i node once at (k, few, same) = not_before nodes i k node once at (slice_get-get_or (take i nodes) k node few ∙ ap Some same)

abbrev held_of : List (List ℕ) → List DepNode → Held
held_of names nodes = record { names = names; nodes = nodes }

module _ (pool copy new : Held) (is_pool : IsPool pool) (i : ℕ) where
  -- one more name, and one more relation
  pub name_added : (text : List ℕ) → copy ≡ held_of (take i pool.names) [] → slice_get pool.names i ≡ Some text → new ≡ record copy { names = with_name copy.names text } → new ≡ held_of (take (i + 1) pool.names) []
  name_added text is at added =
      added ∙ ap (λ (h : Held). record h { names = with_name h.names text }) is ∙ ap (λ (ns : List (List ℕ)). held_of ns []) (name_copied pool.names i text is_pool.names_once at)

  pub relation_added : (node : DepNode) → copy ≡ held_of pool.names (take i pool.nodes) → slice_get pool.nodes i ≡ Some node → ((Contains copy.nodes node → ⊥) → new ≡ record copy { nodes = copy.nodes ++ node ∷ [] })
      → new ≡ held_of pool.names (take (i + 1) pool.nodes)
  relation_added node is at added =
      let fresh : Contains copy.nodes node → ⊥ = subst (λ (h : Held). Contains h.nodes node → ⊥) (sym is) (new_relation pool.nodes i node is_pool.nodes_once at) in
      added fresh ∙ ap (λ (h : Held). record h { nodes = h.nodes ++ node ∷ [] }) is ∙ ap (held_of pool.names) (sym (next pool.nodes i node at))
