-- Edges that are put to others one after another.
use Rattle.std.proofs.Common.{◌≡◌, ℕ, Bool, true, ◌||◌, List, [], ◌++◌, refl, sym, ap, ◌∙◌}
use Rattle.std.specs.List.{list_any}
use Rattle.std.proofs.lemmas.List.Folds.{list_any-append}
use Rattle.solv_pool.specs.declared.packages.Need.{Need}
use Rattle.solv_graph.specs.Inner.Graphs.{edge_to}
use Rattle.solv_trans.specs.Inner.Joining.{linked, pre_linked, Extends, Adds, Joins}
use Rattle.solv_trans.specs.declared.edges.Link.{Link}
use Rattle.solv_list.proofs.Booleans.{or_assoc, with_or_false}

module _ {X : Type 0} (asks : X → ℕ → ℕ → Bool) where
  extends_none : (old : ℕ → ℕ → Bool) → Extends asks [] old old
  extends_none old = λ a b. with_or_false (old a b)

  extends_more : (xs ys : List X) (old mid new : ℕ → ℕ → Bool) → Extends asks xs old mid → Extends asks ys mid new → Extends asks (xs ++ ys) old new
  extends_more xs ys old mid new f g = λ a b.
      g a b ∙ ap (λ t. t || list_any (λ x. asks x a b) ys) (f a b) ∙ or_assoc (old a b) (list_any (λ x. asks x a b) xs) (list_any (λ x. asks x a b) ys)
      ∙ ap (λ t. old a b || t) (sym (list_any-append (λ x. asks x a b) xs ys))

  -- what asks for the same edges in another way
  extends_same : {Y : Type 0} (others : Y → ℕ → ℕ → Bool) (xs : List X) (ys : List Y) (old new : ℕ → ℕ → Bool) → ((a b : ℕ) → list_any (λ x. asks x a b) xs ≡ list_any (λ y. others y a b) ys) → Extends asks xs old new → Extends others ys old new
  extends_same others xs ys old new same f = λ a b. f a b ∙ ap (λ t. old a b || t) (same a b)

  pub adds_none : (old : List (List ℕ)) → Adds asks [] old old
  adds_none old = record { size = refl; edges = extends_none (edge_to old) }

  pub adds_more : (xs ys : List X) (old mid new : List (List ℕ)) → Adds asks xs old mid → Adds asks ys mid new → Adds asks (xs ++ ys) old new
  adds_more xs ys old mid new f g = record { size = g.size ∙ f.size; edges = extends_more xs ys (edge_to old) (edge_to mid) (edge_to new) f.edges g.edges }

  pub adds_same : {Y : Type 0} (others : Y → ℕ → ℕ → Bool) (xs : List X) (ys : List Y) (old new : List (List ℕ)) → ((a b : ℕ) → list_any (λ x. asks x a b) xs ≡ list_any (λ y. others y a b) ys) → Adds asks xs old new → Adds others ys old new
  adds_same others xs ys old new same f = record { size = f.size; edges = extends_same others xs ys (edge_to old) (edge_to new) same f.edges }

module _ {X : Type 0} (asks : (Need → Bool) → X → ℕ → ℕ → Bool) where
  pub joins_none : (old : List Link) → Joins asks [] old old
  joins_none old = record { all = extends_none (asks (λ need. true)) (linked old); pre = extends_none (asks (λ need. need.pre)) (pre_linked old) }

  pub joins_more : (xs ys : List X) (old mid new : List Link) → Joins asks xs old mid → Joins asks ys mid new → Joins asks (xs ++ ys) old new
  joins_more xs ys old mid new f g = record {
    all = extends_more (asks (λ need. true)) xs ys (linked old) (linked mid) (linked new) f.all g.all;
    pre = extends_more (asks (λ need. need.pre)) xs ys (pre_linked old) (pre_linked mid) (pre_linked new) f.pre g.pre;
  }

  pub joins_same : {Y : Type 0} (others : (Need → Bool) → Y → ℕ → ℕ → Bool) (xs : List X) (ys : List Y) (old new : List Link)
      → ((these : Need → Bool) (a b : ℕ) → list_any (λ x. asks these x a b) xs ≡ list_any (λ y. others these y a b) ys) → Joins asks xs old new → Joins others ys old new
  joins_same others xs ys old new same f = record {
    all = extends_same (asks (λ need. true)) (others (λ need. true)) xs ys (linked old) (linked new) (same (λ need. true)) f.all;
    pre = extends_same (asks (λ need. need.pre)) (others (λ need. need.pre)) xs ys (pre_linked old) (pre_linked new) (same (λ need. need.pre)) f.pre;
  }

  -- what asks for the same edges in another way, by the requirements and by the pre-requirements
  pub joins_by : (xs ys : List X) (old new : List Link)
      → ((a b : ℕ) → list_any (λ x. asks (λ need. true) x a b) xs ≡ list_any (λ y. asks (λ need. true) y a b) ys)
      → ((a b : ℕ) → list_any (λ x. asks (λ need. need.pre) x a b) xs ≡ list_any (λ y. asks (λ need. need.pre) y a b) ys)
      → Joins asks xs old new → Joins asks ys old new
  joins_by xs ys old new same pre f = record {
    all = extends_same (asks (λ need. true)) (asks (λ need. true)) xs ys (linked old) (linked new) same f.all;
    pre = extends_same (asks (λ need. need.pre)) (asks (λ need. need.pre)) xs ys (pre_linked old) (pre_linked new) pre f.pre;
  }
