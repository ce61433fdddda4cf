-- What a `&` to the fields of a `Vec` shows of each. Assumes `Logic`.
use mathlib.Core.List.{[], ◌∷◌}
use Prim.Native.Nat.{ℕ, ◌+◌}
use seplogic.Ra.Ura.{Ura}
use mir.Syntax.{w64}
use base.Logic.{ent, sep}
use base.Fml.{Lft, Fml}
use prog.Memory.{align, up}
use types.Logic.{Logic, sem}
use types.Kit.{‵, ◌$◌, ◌∵◌, !, qed, keep, drop, fsplit, done}
use denote.Builtin.{usize}
use denote.RattleType.{RattleType, RowLaws}
use denote.Memory.{hidden_shr}
use denote.Opens.{shr_dup, unhide, hide}
use denote.Plain.{uint_row_laws}
use denote.RawPtr.{RawPtr, ptr_row_laws}
use denote.Struct.Struct.{Struct, Struct-row_laws}
use denote.Struct.Owning.{shape}
use Rattle.std.proofs.alloc.Calls.{α}
use Rattle.solv_pack.proofs.BlockEl.{El, P, el_d, owning}

abbrev pub heap_at : El → ℕ
heap_at E = up (align (α E.al)) 24

module _ (E : El) {M : Type 1} {𝓤 : Ura M} (𝓛 : Logic 𝓤) (κ : Lft) (b o : ℕ) (d : el_d E) where
  abbrev Words : RattleType
  Words = Struct (shape (owning E))

  abbrev fields : Words.Denot
  fields = (d.ptr, (d.len, (d.cap, (d.alloc, tt))))

  abbrev S : Fml
  S = hidden_shr Words κ fields b o

  laws : RowLaws Words
  laws = Struct-row_laws (shape (owning E)) (ptr_row_laws, (uint_row_laws w64, (uint_row_laws w64, (E.al.laws.shr_laws, tt))))

  pub shows_ptr : ent 𝓤 (sem 𝓛 S) (sep 𝓤 (sem 𝓛 (hidden_shr RawPtr κ d.ptr b (o + 0))) (sem 𝓛 S))
  shows_ptr = qed 𝓛 (‵ S ∷ []) ∵ shr_dup ! Words laws fields b o κ $ unhide ! $ fsplit ! $ fsplit ! $ hide ! $ keep ! (0 ∷ 3 ∷ []) $ done !

  pub shows_len : ent 𝓤 (sem 𝓛 S) (sep 𝓤 (sem 𝓛 (hidden_shr usize κ d.len b (o + 8))) (sem 𝓛 S))
  shows_len = qed 𝓛 (‵ S ∷ []) ∵ shr_dup ! Words laws fields b o κ $ unhide ! $ fsplit ! $ fsplit ! $ drop ! $ fsplit ! $ hide ! $ keep ! (0 ∷ 3 ∷ []) $ done !

  pub shows_cap : ent 𝓤 (sem 𝓛 S) (sep 𝓤 (sem 𝓛 (hidden_shr usize κ d.cap b (o + 16))) (sem 𝓛 S))
  shows_cap = qed 𝓛 (‵ S ∷ []) ∵ shr_dup ! Words laws fields b o κ $ unhide ! $ fsplit ! $ fsplit ! $ drop ! $ fsplit ! $ drop ! $ fsplit ! $ hide ! $ keep ! (0 ∷ 3 ∷ []) $ done !

  pub shows_heap : ent 𝓤 (sem 𝓛 S) (sep 𝓤 (sem 𝓛 (hidden_shr (P E) κ d.alloc b (o + heap_at E))) (sem 𝓛 S))
  shows_heap = qed 𝓛 (‵ S ∷ []) ∵ shr_dup ! Words laws fields b o κ $ unhide ! $ fsplit ! $ fsplit ! $ drop ! $ fsplit ! $ drop ! $ fsplit ! $ drop ! $ fsplit ! $ hide ! $ keep ! (0 ∷ 3 ∷ []) $ done !
