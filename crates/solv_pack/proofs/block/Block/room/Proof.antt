-- `room` reads through a `&`, for every element type. Assumes `Logic`.
use mathlib.Core.Path.{◌≡◌, refl}
use Prim.Native.Nat.{ℕ, ◌<◌, ◌^◌}
use mathlib.Core.List.{List, [], ◌∷◌}
use seplogic.Ra.Ura.{Ura}
use mir.Syntax.{Fn, named, imm, w64, ty_int, ty_ref, ty_param, ty_named, tnil, tcons}
use mir.Val.{Val, vint, vptr}
use base.Logic.{SProp, ent, sep, emp, via, fst∗}
use base.Fml.{Lft, Share, ftrue, fhide, flft}
use prog.Wp.{Env, Calls, Loops, WpFn, Tables}
use types.Logic.{Logic, sem}
use sound.WpLaws.{WpFn-mono}
use types.Kit.{‵, ◌⊛◌, ◌$◌, ◌∵◌, !, qed, by, move, keep, use1, drop, split, join, fsplit, fjoin, feq_i, flt_i, flt_l, raw, suffices, frame, done}
use types.Run.{look, init, forget, stop, hop, fld, from, load, of_opd, assigns, returns, enter, alloc1, alloc0, params1, pass1, pass0, free1, free0}
use contract.Monad.{fact}
use denote.Exit.{yes}
use denote.RattleType.{RattleType, owns}
use denote.Memory.{hidden_shr}
use denote.Opens.{shr_dup, unhide, hide}
use denote.RawPtr.{block_of, count_of, InBlock}
use denote.Ref.{Bor, ShrRef, shr_vals, shr_Tells}
use denote.Signature.{plain}
use denote.Steps.{heard, nothing}
use denote.Struct.Struct.{Struct}
use denote.Struct.Owning.{shape}
use denote.Struct.Lending.{in_block_says, lent_out}
use denote.Triple.Entry.{on_entry}
use denote.Triple.Spec.{Meets}
use denote.Triple.Clauses.{Clauses, Ended, closing}
use denote.Triple.Walked.{says, Stays, stay_none_ref, walk_of, ends_at, walked, Goes-none_ref, walk_Meets}
use mir.MapTy.{inst_fn}
use denote.Builtin.{RefOf, usize}
use contract.Running.{tables, tables_of}
use denote.Triple.Spec.{triple_of}
use denote.Triple.Table.{entered, run_framed}
use denote.Triple.Carry.{spared}
use Rattle.solv_pack.proofs.BlockEl.{El, args, el_x, el_d, R, Vr, vec_row_laws, owning, P}
use Rattle.solv_pack.specs.contracts.block.Block as vec-type
use Rattle.solv_pack.specs.contracts.block.Block.room.Key.{name as #self}
use Rattle.solv_pack.proofs.block.Block.room.Statement as stated
use Rattle.solv_pack.proofs.block.Block.room.Code as code
use Prim.Native.Nat.{◌+◌}
use Rattle.std.proofs.Words.{word_in, word_out}
use Rattle.solv_pack.proofs.BlockShows as seen

module _ (E : El) where
  abbrev fn' : Fn
  fn' = inst_fn (args E) code.function

  abbrev ended : Ended
  ended = record { signature = record { lifetimes = 1; outlives = []; params = RefOf (0 ∷ []) tt (plain (λ _. Vr E)) (λ _. tt) ∷ []; result = plain (λ _. usize) }; kept = (yes, tt) }

  abbrev stayed : Stays ended.signature.params ended.kept
  stayed = (stay_none_ref (0 ∷ []) tt (plain (λ _. Vr E)) yes, tt)

  abbrev spec : {M : Type 1} (𝓤 : Ura M) → Clauses 𝓤 ended
  spec 𝓤 κs a = record { ghost = Unit {0}; requires = λ _. emp 𝓤; ensures = λ _ r _. fact 𝓤 (r ≡ a.0.now.cap) }

module _ (E : El) {M : Type 1} {𝓤 : Ura M} (𝓛 : Logic 𝓤) where
  open 𝓛 use {H, A}

  abbrev Words : RattleType
  Words = Struct (shape (owning E))

  module _ (κ : Lft) (q : Share) (b o : ℕ) (d : el_d E) where
    abbrev self : Bor (el_d E)
    self = record { ref_ptr = (b, o); now = d }

    abbrev bound : (walk_of 𝓛 (ended E) (stayed E) (spec E 𝓤)).Ghost
    bound = (((κ, tt), (q, tt), tt, (self, tt), (vptr b o ∷ [], tt)), tt)

    abbrev Post : Val → SProp 𝓤
    Post = (walk_of 𝓛 (ended E) (stayed E) (spec E 𝓤)).post bound

    abbrev at : ℕ × ℕ
    at = (block_of d.ptr, count_of d.ptr)

    abbrev fields : Words.Denot
    fields = (d.ptr, (d.len, (d.cap, (d.alloc, tt))))

    exits : d.cap < 2 ^ 64 → ent 𝓤 (sep 𝓤 (A.lft κ q) (sem 𝓛 (hidden_shr (Vr E) κ d b o))) (Post (vint w64 d.cap))
    exits fn =
        qed 𝓛 (‵ (flft κ q) ∷ ‵ (hidden_shr (Vr E) κ d b o) ∷ []) ∵
        suffices ! _ (ends_at 𝓛 (ended E) (stayed E) (spec E 𝓤) bound (vint w64 d.cap) d.cap (tt, tt) (tt, tt)) $ says ! refl $
        nothing ! $ move ! (1 ∷ 0 ∷ []) $ join ! $ frame ! $ feq_i ! (List Val) (vptr b o ∷ []) (vptr b o ∷ []) refl $ fjoin ! $ nothing ! $ move ! (1 ∷ 0 ∷ []) $ fjoin ! $ flt_i ! d.cap (2 ^ 64) fn $ feq_i ! (List Val) (vint w64 d.cap ∷ []) (vint w64 d.cap ∷ []) refl $ fjoin ! $ move ! (1 ∷ 0 ∷ []) $ done !

    module _ (C : Calls 𝓤 H) (Λ : Loops 𝓤 H) where
      walk : ent 𝓤 (on_entry 𝓛 (ended E).signature (κ, tt) (q, tt) (self, tt) (vptr b o ∷ [], tt)) (WpFn 𝓤 H C Λ (fn' E) (vptr b o ∷ []) Post)
      walk =
          qed 𝓛 ((‵ (flft κ q) ⊛ ‵ ftrue) ∷ ‵ (owns (ShrRef (named 0) κ (Vr E) ∷ []) (self, tt) (vptr b o ∷ [], tt)) ∷ []) ∵ enter ! C Λ (fn' E) (vptr b o ∷ []) _ $
          alloc1 ! (λ l₀. alloc1 ! (λ l₁. alloc0 ! $ params1 ! $ pass1 ! (init ! 0 refl (tt, tt)) $ pass0 ! $
          let En : Env 𝓤 H = ((ty_int w64, l₀) ∷ (ty_ref (named 0) imm (ty_named ((owning E).name, []) (tcons (ty_param 0) (tcons (ty_param 1) tnil))), l₁) ∷ []) in
          move ! (5 ∷ []) $
          fsplit ! $ fsplit ! $ drop ! $ shr_dup ! (Vr E) (vec_row_laws E) d b o κ $
          use1 𝓛 (‵ (hidden_shr Words κ fields b o) ⊛ ‵ (fhide (vec-type.the_lent (R E) (P E) E.al.g d d.ptr κ))) (lent_out 𝓛 (vec-type.struct (R E) (P E) E.al.g) (vec-type.the_codes (el_x E) (P E).Denot (R E).coded (P E).coded) (vec-type.the_heap (R E) (P E) E.al.g) (vec-type.the_lent (R E) (P E) E.al.g) κ d b o) $ split ! $
          move ! (1 ∷ []) $
          unhide ! $ fsplit ! $ flt_l ! (λ fit. fsplit ! $ use1 𝓛 (raw (fact 𝓤 (InBlock d.ptr))) (in_block_says 𝓛 d.ptr) $ heard ! (InBlock d.ptr) (λ inb. fsplit ! $ drop ! $ hide ! $
          move ! (8 ∷ []) $
          split ! $
          move ! (3 ∷ 0 ∷ []) $
          word_in ! tt d.cap b (o + 16) (seen.shows_cap E 𝓛 κ b o d) (λ q' fn.
          assigns ! (of_opd ! (load ! (from ! (hop ! (look ! 8 refl) (fld ! refl (stop !)))) (look ! 1 refl))) (from ! (stop !)) (init ! 10 refl (tt, record { fits = fn })) $
          word_out ! tt d.cap b (o + 16) fn $
          returns ! (look ! 8 refl) $
          forget ! 6 refl $ forget ! 8 refl $ move ! (8 ∷ 9 ∷ []) $ free1 ! $ move ! (6 ∷ 7 ∷ []) $ free1 ! $ free0 ! $
          keep ! (0 ∷ 4 ∷ []) $
          by ! (exits fn))))))

  meets : (𝓣 : Tables 𝓤 H) → Meets 𝓛 (ended E).signature (WpFn 𝓤 H 𝓣.C 𝓣.Λ (fn' E)) (closing 𝓛 (ended E) (spec E 𝓤))
  meets 𝓣 =
      walk_Meets 𝓛 (ended E) (stayed E) (Goes-none_ref 𝓛 1 (0 ∷ []) tt (plain (λ _. Vr E)) yes, tt) (spec E 𝓤) (WpFn 𝓤 H 𝓣.C 𝓣.Λ (fn' E)) (WpFn-mono 𝓤 H 𝓛.laws 𝓣 (fn' E))
      (walked 𝓛 (ended E) (stayed E) (spec E 𝓤) (WpFn 𝓤 H 𝓣.C 𝓣.Λ (fn' E)) (λ κs. (shr_vals, tt)) (λ κs. (shr_Tells (named 0) κs.0 (Vr E), tt))
      (λ κs qs bounds a g are. via 𝓤 _ (fst∗ 𝓤 _ (emp 𝓤)) (walk κs.0 qs.0 a.0.ref_ptr.0 a.0.ref_ptr.1 a.0.now 𝓣.C 𝓣.Λ)))

pub room_spec : {M : Type 1} → stated.statement M
unfolding tables_of
room_spec 𝓤 𝓛 𝓜 𝓡 wired Y Z L LZ g d dd met md y =
    let E : El = record { row = Y; laws = L; al = record { row = Z; laws = LZ; g = g; d = d; drops = dd } } in
    let A = 𝓛.A in
    let 𝓣 : Tables 𝓤 𝓛.H = tables_of 𝓤 𝓛.H 𝓜 (tables 𝓤 𝓛.H 𝓜 𝓡 𝓡.env) in
    spared 𝓛 (ended E).signature (𝓡.run (𝓡.env (#self (args E)))) (run_framed 𝓤 𝓛.H 𝓜 𝓡 (𝓡.env (#self (args E)))) 2 (Y.lives, (Z.lives, tt)) (closing 𝓛 (ended E) (spec E 𝓤))
    (entered 𝓤 𝓛.H (triple_of 𝓛 (ended E).signature (closing 𝓛 (ended E) (spec E 𝓤))) 𝓣.C 𝓣.Λ (#self (args E)) (fn' E) (code.unfolded 𝓤 𝓛.H 𝓜 𝓡 wired (Y, (Z, tt)) d dd) (meets E 𝓛 𝓣))
    ((y.0.0, y.0.1, tt, y.0.3, y.0.4), y.1)
