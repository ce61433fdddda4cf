-- What a Vec owns is taken apart and made, and a `&mut` to a Vec is opened and closed, at any element type. Assumes `Logic`.
use mathlib.Core.Path.{◌≡◌, refl, sym, subst}
use mathlib.Core.Bool.{Bool, true, not}
use Prim.Native.Nat.{ℕ, ◌+◌, ◌-◌, ◌*◌, ◌<◌, ◌^◌}
use native.Mathlib.Nat.{lt_irrefl}
use mathlib.Core.List.{List, [], ◌∷◌}
use seplogic.Ra.Ura.{Ura}
use base.Fraction.{full_share}
use lib.Dec.{T, T_not, eqb, eqb→eq}
use mir.Syntax.{w64, ty_array}
use mir.Val.{Val, vint, vptr, vstruct}
use base.Stored.{Gv}
use base.Fml.{Lft, GName, Share, Fml, fsep, froom, flft, fobs, fauth, fbor, fobor}
use types.Logic.{Logic}
use types.Kit.{Goal, Soaks, Step, step, Seq, Item, ‵, ◌$◌, move, rewrite, fsplit, fjoin, flt_l, flt_i}
use types.SemTy.{Body}
use denote.RattleType.{RattleType}
use denote.Memory.{cell_at, part_at, mem}
use denote.Array.{Array}
use denote.RawPtr.{Ptr, block_ptr, in_block, in_a_block}
use denote.Steps.{opens, closes}
use denote.Struct.Struct.{Struct}
use denote.Struct.Owning.{shape}
use Rattle.std.specs.Vec.Ownership.{has_block, vec_owns, owns_if}
use Rattle.std.specs.Allocator.{block_with_items}
use Rattle.std.proofs.Flags.{T_true}
use Rattle.solv_pack.proofs.BlockEl.{El, el_x, elτ, el_d, el_ptr, el_len, el_cap, el_items, R, Vr, sz, owning, Has, vec_val, words_val, Hd, handle, el_heap}
use base.Logic.{id⊢, never}
use types.Kit.{fpick, fpack, feq_i, drop}
use base.Fml.{fsep}
use denote.RattleType.{Valss}
use denote.Steps.{nothing}
use mathlib.Core.Path.{ap, ◌∙◌}
use mathlib.Core.List.{◌++◌}
use mir.Val.{of_list}
use types.Kit.{feq_l}
use denote.Struct.Struct.{within}
use Rattle.std.proofs.alloc.Calls.{token, Fits, handle_tells}
use mir.Raw.{raw as bare}
use Rattle.std.proofs.RawLayout.{as_raw, as_written}

by_bool : (X : Type 0) (y : Bool) → (T y → X) → (T (not y) → X) → X
by_bool X true f g = f tt
by_bool X mathlib.Core.Bool.false f g = g tt

pub is_live : (c : ℕ) → 0 < c → has_block c ≡ true
is_live c pos = by_bool (has_block c ≡ true) (eqb c 0) (λ t. let z : c ≡ 0 = eqb→eq c 0 t in absurd (lt_irrefl 0 (subst (λ (j : ℕ). 0 < j) z pos))) (λ t. T_true (has_block c) t)

pub not_live : (c : ℕ) → T (not (has_block c)) → c ≡ 0
not_live c t = by_bool (c ≡ 0) (eqb c 0) (eqb→eq c 0) (λ n. absurd (T_not (has_block c) t n))

module _ (E : El) where
  -- the block, where there is one
  abbrev pub Blk : Hd E → ℕ → ℕ → ℕ → ℕ → List (el_x E) → Fml
  Blk a b o n c xs = owns_if (has_block c) (block_with_items (token E.al a) (R E) (block_ptr b o) n c xs)

  -- the three data fields, as a plain struct
  abbrev Words : RattleType
  Words = Struct (shape (owning E))

  abbrev Owns : Hd E → List Val → Ptr → ℕ → ℕ → List (el_x E) → Fml
  Owns a vs p n c xs = fsep (Words.own_val (p, (n, (c, (a, tt)))) vs) (vec_owns (token E.al a) (R E) p n c xs)

module _ (E : El) {M : Type 1} {𝓤 : Ura M} {𝓛 : Logic 𝓤} {K : Type 0} {Γ : List (Item 𝓤)} {G : Goal 𝓤 𝓛.H} where
  pub blk_out : K → (a : Hd E) (b o n c : ℕ) (xs : List (el_x E)) → 0 < c → Step K 𝓛 (‵ (part_at (Array (R E) n) full_share xs b o) ∷ ‵ (froom (ty_array (elτ E) (c - n)) b (o + n * sz E)) ∷ ‵ (token E.al a (bare (ty_array (elτ E) c)) (block_ptr b o)) ∷ Γ) G (‵ (Blk E a b o n c xs) ∷ Γ) G
  blk_out t a b o n c xs pos = step (λ s.
      rewrite t 0 (λ (y : Bool). ‵ (owns_if y (block_with_items (token E.al a) (R E) (block_ptr b o) n c xs))) (is_live c pos) refl $
      fsplit t $ move t (1 ∷ []) $ fsplit t $ as_written t (ty_array (elτ E) (c - n)) b (o + n * sz E) $ move t (2 ∷ 0 ∷ 1 ∷ []) $ s)

  pub blk_in : K → (a : Hd E) (b o n c : ℕ) (xs : List (el_x E)) → 0 < c → Step K 𝓛 (‵ (Blk E a b o n c xs) ∷ Γ) G (‵ (part_at (Array (R E) n) full_share xs b o) ∷ ‵ (froom (ty_array (elτ E) (c - n)) b (o + n * sz E)) ∷ ‵ (token E.al a (bare (ty_array (elτ E) c)) (block_ptr b o)) ∷ Γ) G
  blk_in t a b o n c xs pos = step (λ s.
      move t (1 ∷ 2 ∷ []) $ as_raw t (ty_array (elτ E) (c - n)) b (o + n * sz E) $ fjoin t $ move t (1 ∷ 0 ∷ []) $ fjoin t $
      rewrite t 0 (λ (y : Bool). ‵ (owns_if y (block_with_items (token E.al a) (R E) (block_ptr b o) n c xs))) (sym (is_live c pos)) refl $ s)

  -- what the type owns at vs, taken apart: [Blk], and vs is the three words
  pub vec_had : K → (d : el_d E) (vs : List Val)
      → ((b o : ℕ) (hv : Val) → el_ptr E d ≡ block_ptr b o → vs ≡ vec_val E hv b o (el_len E d) (el_cap E d) ∷ [] → el_len E d < 2 ^ 64 → el_cap E d < 2 ^ 64 → el_cap E d * sz E < 2 ^ 63 → Fits E.al hv
      → Seq K 𝓛 (‵ (Blk E (el_heap E d) b o (el_len E d) (el_cap E d) (el_items E d)) ∷ ‵ (handle E (el_heap E d) hv) ∷ Γ) G)
      → Seq K 𝓛 (‵ ((Vr E).own_val d vs) ∷ Γ) G
  vec_had t d vs k =
      fsplit t $ fpick t (λ vss. fsplit t $ feq_l t (λ all. fsplit t $ feq_l t (λ e₀. fsplit t $ fsplit t $ feq_l t (λ e₁. flt_l t (λ fn. fsplit t $ fsplit t $ feq_l t (λ e₂. flt_l t (λ fc.
      fsplit t $ handle_tells E.al t (el_heap E d) vss.1.1.1.0 (λ hv e₃ fa. move t (1 ∷ []) $ drop t $ move t (1 ∷ []) $ fsplit t $ flt_l t (λ fit.
      in_a_block t (el_ptr E d) (λ p. in_block p (owns_if (has_block (el_cap E d)) (block_with_items (token E.al (el_heap E d)) (R E) p (el_len E d) (el_cap E d) (el_items E d)))) (id⊢ 𝓤 (never 𝓤)) (λ b o e.
      k b o hv e (all ∙ ((λ i. vstruct (of_list (e₀ i ++ (e₁ i ++ (e₂ i ++ (e₃ i ++ []))))) ∷ []) ∙ ap (λ (p : Ptr). words_val E hv p (el_len E d) (el_cap E d) ∷ []) e)) fn fc fit fa))))))))))

  -- and made of it, at any record d that has these fields
  pub vec_made : K → {hv : Val} (d : el_d E) (b o n c : ℕ) (xs : List (el_x E)) → Has E d (block_ptr b o) n c xs → n < 2 ^ 64 → c < 2 ^ 64 → c * sz E < 2 ^ 63
      → Step K 𝓛 (‵ ((Vr E).own_val d (vec_val E hv b o n c ∷ [])) ∷ Γ) G (‵ (Blk E (el_heap E d) b o n c xs) ∷ ‵ (handle E (el_heap E d) hv) ∷ Γ) G
  vec_made t {hv} d b o n c xs has fn fc fit = step (λ s.
      flt_i t (c * sz E) (2 ^ 63) fit $ fjoin t $
      nothing t $ move t (2 ∷ 0 ∷ []) $ fjoin t $
      flt_i t c (2 ^ 64) fc $ feq_i t (List Val) (vint w64 c ∷ []) (vint w64 c ∷ []) refl $ fjoin t $ fjoin t $ flt_i t n (2 ^ 64) fn $ feq_i t (List Val) (vint w64 n ∷ []) (vint w64 n ∷ []) refl $ fjoin t $ fjoin t $
      feq_i t (List Val) (vptr b o ∷ []) (vptr b o ∷ []) refl $ fjoin t $ feq_i t (List Val) (vec_val E hv b o n c ∷ []) (vec_val E hv b o n c ∷ []) refl $ fjoin t $
      fpack t (Valss (shape (owning E)).fields) (within (shape (owning E)) (block_ptr b o, (n, (c, (el_heap E d, tt)))) (vec_val E hv b o n c ∷ [])) (vptr b o ∷ [], (vint w64 n ∷ [], (vint w64 c ∷ [], (hv ∷ [], tt)))) $ fjoin t $
      rewrite t 0 (λ (z : Ptr). ‵ (Owns E (el_heap E d) (vec_val E hv b o n c ∷ []) z n c xs)) (sym has.0) refl $
      rewrite t 0 (λ (z : ℕ). ‵ (Owns E (el_heap E d) (vec_val E hv b o n c ∷ []) (el_ptr E d) z c xs)) (sym has.1) refl $
      rewrite t 0 (λ (z : ℕ). ‵ (Owns E (el_heap E d) (vec_val E hv b o n c ∷ []) (el_ptr E d) (el_len E d) z xs)) (sym has.2) refl $
      rewrite t 0 (λ (z : List (el_x E)). ‵ (Owns E (el_heap E d) (vec_val E hv b o n c ∷ []) (el_ptr E d) (el_len E d) (el_cap E d) z)) (sym has.3) refl $ s)

module _ (E : El) {M : Type 1} {𝓤 : Ura M} {𝓛 : Logic 𝓤} {K : Type 0} {Γ : List (Item 𝓤)} {G : Goal 𝓤 𝓛.H} where
  -- [Blk; the three words; the open borrow; obs; auth]
  pub vec_opens⁰ : K → Soaks G → {κ : Lft} {q : Share} {γ : GName} (d : el_d E) (rb ro : ℕ)
      → ((b o : ℕ) (hv : Val) → el_ptr E d ≡ block_ptr b o → el_len E d < 2 ^ 64 → el_cap E d < 2 ^ 64 → el_cap E d * sz E < 2 ^ 63
      → Seq K 𝓛 (‵ (Blk E (el_heap E d) b o (el_len E d) (el_cap E d) (el_items E d)) ∷ ‵ (cell_at full_share (Vr E).mir (vec_val E hv b o (el_len E d) (el_cap E d) ∷ []) rb ro) ∷ ‵ (fsep (fobor κ q (Body (mem (Vr E)) rb ro γ)) (handle E (el_heap E d) hv)) ∷ ‵ (fobs γ ((Vr E).coded.code d)) ∷ ‵ (fauth γ ((Vr E).coded.code d)) ∷ Γ) G)
      → Seq K 𝓛 (‵ (fobs γ ((Vr E).coded.code d)) ∷ ‵ (fbor κ (Body (mem (Vr E)) rb ro γ)) ∷ ‵ (flft κ q) ∷ Γ) G
  vec_opens⁰ t z d rb ro k =
      opens t z (Vr E) {h = d} rb ro (λ vs. move t (1 ∷ []) $ vec_had E t d vs (λ b o hv e is fn fc fit fa.
      rewrite t 2 (λ (ws : List Val). ‵ (cell_at full_share (Vr E).mir ws rb ro)) is refl $ move t (3 ∷ 1 ∷ []) $ fjoin t $ move t (1 ∷ 2 ∷ []) $ k b o hv e fn fc fit))

  pub vec_closes⁰ : K → Soaks G → {κ : Lft} {q : Share} {u v : Gv} {γ : GName} {hv : Val} (d : el_d E) (b o n c : ℕ) (xs : List (el_x E)) (rb ro : ℕ) → Has E d (block_ptr b o) n c xs → n < 2 ^ 64 → c < 2 ^ 64 → c * sz E < 2 ^ 63
      → Step K 𝓛 (‵ (fobs γ ((Vr E).coded.code d)) ∷ ‵ (fbor κ (Body (mem (Vr E)) rb ro γ)) ∷ ‵ (flft κ q) ∷ Γ) G (‵ (Blk E (el_heap E d) b o n c xs) ∷ ‵ (cell_at full_share (Vr E).mir (vec_val E hv b o n c ∷ []) rb ro) ∷ ‵ (fsep (fobor κ q (Body (mem (Vr E)) rb ro γ)) (handle E (el_heap E d) hv)) ∷ ‵ (fobs γ u) ∷ ‵ (fauth γ v) ∷ Γ) G
  vec_closes⁰ t z {hv = hv} d b o n c xs rb ro has fn fc fit = step (λ s.
      move t (2 ∷ []) $ fsplit t $ move t (2 ∷ 1 ∷ []) $ vec_made E t d b o n c xs has fn fc fit $ move t (2 ∷ 0 ∷ []) $ closes t z (Vr E) d (vec_val E hv b o n c ∷ []) rb ro $ s)

module _ (E : El) {M : Type 1} {𝓤 : Ura M} {𝓛 : Logic 𝓤} {K : Type 0} {Γ : List (Item 𝓤)} {G : Goal 𝓤 𝓛.H} where
  -- [the elements; the spare room; the token; the three words; the open borrow; obs; auth]
  pub vec_opens : K → Soaks G → {κ : Lft} {q : Share} {γ : GName} (d : el_d E) (rb ro : ℕ) → 0 < el_cap E d
      → ((b o : ℕ) (hv : Val) → el_ptr E d ≡ block_ptr b o → el_len E d < 2 ^ 64 → el_cap E d < 2 ^ 64 → el_cap E d * sz E < 2 ^ 63
      → Seq K 𝓛 (‵ (part_at (Array (R E) (el_len E d)) full_share (el_items E d) b o) ∷ ‵ (froom (ty_array (elτ E) ((el_cap E d) - (el_len E d))) b (o + (el_len E d) * sz E)) ∷ ‵ (token E.al (el_heap E d) (bare (ty_array (elτ E) (el_cap E d))) (block_ptr b o)) ∷ ‵ (cell_at full_share (Vr E).mir (vec_val E hv b o (el_len E d) (el_cap E d) ∷ []) rb ro) ∷ ‵ (fsep (fobor κ q (Body (mem (Vr E)) rb ro γ)) (handle E (el_heap E d) hv)) ∷ ‵ (fobs γ ((Vr E).coded.code d)) ∷ ‵ (fauth γ ((Vr E).coded.code d)) ∷ Γ) G)
      → Seq K 𝓛 (‵ (fobs γ ((Vr E).coded.code d)) ∷ ‵ (fbor κ (Body (mem (Vr E)) rb ro γ)) ∷ ‵ (flft κ q) ∷ Γ) G
  vec_opens t z d rb ro pos k =
      vec_opens⁰ E t z d rb ro (λ b o hv e fn fc fit. blk_out E t (el_heap E d) b o (el_len E d) (el_cap E d) (el_items E d) pos $ k b o hv e fn fc fit)

  pub vec_closes : K → Soaks G → {κ : Lft} {q : Share} {u v : Gv} {γ : GName} {hv : Val} (d : el_d E) (b o n c : ℕ) (xs : List (el_x E)) (rb ro : ℕ) → Has E d (block_ptr b o) n c xs → n < 2 ^ 64 → c < 2 ^ 64 → c * sz E < 2 ^ 63 → 0 < c
      → Step K 𝓛 (‵ (fobs γ ((Vr E).coded.code d)) ∷ ‵ (fbor κ (Body (mem (Vr E)) rb ro γ)) ∷ ‵ (flft κ q) ∷ Γ) G (‵ (part_at (Array (R E) n) full_share xs b o) ∷ ‵ (froom (ty_array (elτ E) (c - n)) b (o + n * sz E)) ∷ ‵ (token E.al (el_heap E d) (bare (ty_array (elτ E) c)) (block_ptr b o)) ∷ ‵ (cell_at full_share (Vr E).mir (vec_val E hv b o n c ∷ []) rb ro) ∷ ‵ (fsep (fobor κ q (Body (mem (Vr E)) rb ro γ)) (handle E (el_heap E d) hv)) ∷ ‵ (fobs γ u) ∷ ‵ (fauth γ v) ∷ Γ) G
  vec_closes t z d b o n c xs rb ro has fn fc fit pos = step (λ s.
      blk_in E t (el_heap E d) b o n c xs pos $ vec_closes⁰ E t z d b o n c xs rb ro has fn fc fit $ s)
