-- A block at its parameters, under the names by which the walks go.
use mathlib.Core.Path.{◌≡◌, refl, sym, ap, ◌∙◌}
use Prim.Native.Nat.{ℕ, ◌≤◌, ◌<◌, ◌^◌}
use mathlib.Core.List.{List, [], ◌++◌}
use lib.ListN.{length, take, drop}
use lib.Dec.{T}
use mir.Syntax.{Ty, w64, ty_int, ty_ptr, ty_struct, ty_ref, ty_named, ty_param, named, mut, tnil, tcons}
use mir.Val.{Val, vint, vstruct, vnil, vcons, has_ty, WT}
use denote.RattleType.{RattleType, RowLaws}
use denote.RawPtr.{Ptr, block_ptr, ptr_val, ptr_row_laws}
use denote.Struct.Owning.{Owning, shape}
use denote.SharingLaws.{beside_shr_laws}
use denote.Plain.{uint_row_laws}
use denote.Struct.Struct.{Struct, Struct-row_laws}
use Rattle.std.proofs.alloc.Calls.{α, Fits}
use Rattle.std.specs.Vec.Ownership.{vec_shares}
use Rattle.std.proofs.ResultValues.{and_tt}
use Rattle.std.proofs.SharedLaws.{lent_shr_laws}
pub use Rattle.std.proofs.VecSteps.El.{El, R, args, P, Hd, handle, el_x, elτ, el_own, el_lawful, sz, Good, wider, align_fits}
use Rattle.std.proofs.VecSteps.Gaps.{take-front}
use Rattle.solv_pack.specs.Inner.Lending.{with_words}
use Rattle.solv_pack.specs.declared.block.Block.{Block}
use Rattle.solv_pack.specs.contracts.block.Block as B-type

module _ (E : El) where
  abbrev pub owning : Owning
  owning = B-type.the_type (R E) (P E) E.al.g

  abbrev pub Vr : RattleType
  Vr = B-type.the_row (R E) (P E) E.al.g

  pub vec_row_laws : RowLaws Vr
  vec_row_laws d b o = beside_shr_laws ((Struct (shape owning)).shr_at (d.ptr, (d.len, (d.cap, (d.alloc, tt)))) b o) (vec_shares (R E) d.ptr d.len d.cap d.items)
      (Struct-row_laws (shape owning) (ptr_row_laws, (uint_row_laws w64, (uint_row_laws w64, (E.al.laws.shr_laws, tt)))) (d.ptr, (d.len, (d.cap, (d.alloc, tt)))) b o) (lent_shr_laws (R E) E.laws.shr_laws d.ptr d.len d.cap d.items)

  abbrev pub vec_ty : Ty
  vec_ty = ty_struct owning.name (tcons ty_ptr (tcons (ty_int w64) (tcons (ty_int w64) (tcons (α E.al) tnil))))

  abbrev pub ref_ty : Ty
  ref_ty = ty_ref (named 0) mut (ty_named (owning.name, []) (tcons (ty_param 0) (tcons (ty_param 1) tnil)))

  abbrev pub el_d : Type 0
  el_d = Block (el_x E) (Hd E)

  abbrev pub el_heap : el_d → Hd E
  el_heap d = d.alloc

  abbrev pub el_ptr : el_d → Ptr
  el_ptr d = d.ptr

  abbrev pub el_len : el_d → ℕ
  el_len d = d.len

  abbrev pub el_cap : el_d → ℕ
  el_cap d = d.cap

  abbrev pub el_items : el_d → List (el_x E)
  el_items d = d.items

  abbrev pub el_ok : (d : el_d) → (el_len d ≡ length (el_items d)) × (el_len d ≤ el_cap d)
  el_ok d = d.ok

  abbrev pub Has : el_d → Ptr → ℕ → ℕ → List (el_x E) → Type 0
  Has d p n c xs = (el_ptr d ≡ p) × (el_len d ≡ n) × (el_cap d ≡ c) × (el_items d ≡ xs)

  abbrev pub el_make : (a : Hd E) (p : Ptr) (n c : ℕ) (xs : List (el_x E)) → (n ≡ length xs) × (n ≤ c) → c < 2 ^ 32 → (d : el_d) × (el_ptr d ≡ p) × (el_len d ≡ n) × (el_cap d ≡ c) × (el_items d ≡ xs)
  el_make a p n c xs ok small = (record { ptr = p; len = n; cap = c; alloc = a; items = xs; ok = ok; small = small }, refl, refl, refl, refl)

abbrev pub words_val : (E : El) → Val → Ptr → ℕ → ℕ → Val
words_val E hv p n c = vstruct (vcons (ptr_val p) (vcons (vint w64 n) (vcons (vint w64 c) (vcons hv vnil))))

abbrev pub vec_val : (E : El) → Val → ℕ → ℕ → ℕ → ℕ → Val
vec_val E hv b o n c = words_val E hv (block_ptr b o) n c

pub vec_typed : (E : El) (hv : Val) (b o n c : ℕ) → Fits E.al hv → n < 2 ^ 64 → c < 2 ^ 64 → T (has_ty (vec_ty E) (vec_val E hv b o n c)) × WT (vec_val E hv b o n c)
vec_typed E hv b o n c fa fn fc = (and_tt (has_ty (α E.al) hv) fa.0, (tt, (record { fits = fn }, (record { fits = fc }, (fa.1, tt)))))

pub with_words_is : {X Z : Type 0} (v : Block X Z) (ws : List X) → length ws ≡ v.len → (with_words v ws).items ≡ ws
with_words_is {X} v ws e = ap (λ (k : ℕ). take k (ws ++ drop (length ws) v.items)) (sym e) ∙ take-front ws (drop (length ws) v.items)
