-- The code of `as_mut_slice`, which is `deref_mut`'s too, lends the elements, and the Vec follows them. Assumes `Logic`.
use mathlib.Core.Path.{◌≡◌, refl, sym, subst, ◌∙◌}
use Prim.Native.Nat.{ℕ, ◌+◌, ◌*◌, ◌≤◌, ◌<◌, ◌^◌}
use native.Mathlib.Omega.{arith}
use mathlib.Core.List.{List, [], ◌∷◌}
use lib.ListN.{length}
use seplogic.Ra.Ura.{Ura}
use base.Fraction.{full_share}
use mir.Syntax.{Fn, w64, named}
use mir.MapTy.{inst_fn}
use mir.Val.{Val, vptr}
use base.Logic.{SProp, ent, sep}
use base.Fml.{Lft, GName, Share, Fml, ftrue, flft}
use prog.Wp.{Env, Calls, Loops, WpFn, Tables}
use types.Logic.{Logic, sem}
use sound.WpLaws.{WpFn-mono}
use types.Kit.{‵, ◌⊛◌, some, given, at_ret, ◌$◌, ◌∵◌, !, qed, by, move, keep, use1, use2, drop, split, join, pick, learn, rewrite, fsplit, fsplit3, fjoin, suffices, frame, done}
use types.Part.{whole, sub, look_in}
use types.Run.{stop, fld, load, of_opd, first, blocks, exec, returns, enter}
use types.ByLocal.{alloc_all, pass_all, free_all, look_at, get, through, sets, env}
use denote.RattleType.{owns}
use denote.Memory.{part_at, mem}
use denote.Array.{Array}
use denote.RawPtr.{block_ptr}
use denote.Ref.{MutRef, mut_vals, mut_Tells}
use denote.Signature.{plain}
use denote.Steps.{nothing}
use denote.Triple.Clauses.{closing}
use denote.Triple.Entry.{on_entry}
use denote.Triple.Spec.{Meets}
use denote.Triple.Walked.{Stays, stay_dropped, walk_of, ends_at, walked, walk_Meets}
use Rattle.std.proofs.alloc.Calls.{token}
use Rattle.solv_pack.specs.Inner.Lending.{with_words}
use Rattle.solv_pack.proofs.BlockEl.{El, args, el_x, elτ, el_d, el_heap, el_len, el_cap, el_items, el_ok, R, Vr, sz, handle, owning, vec_val}
use Rattle.std.proofs.ptr.Rows.{times_below}
use Rattle.std.proofs.VecSteps.Rows.{apart, whole as whole_row}
use Rattle.solv_pack.proofs.BlockEl.{with_words_is}
use Rattle.solv_pack.proofs.BlockOpens.{not_live, vec_opens⁰, vec_made}
use Rattle.std.proofs.VecSteps.Shapes.{after}
use mir.Syntax.{Sym, Ty, erased, mut, ty_int, ty_ptr, ty_ref, ty_param, ty_named, tcons, tnil, a_type, local, value_local, place, deref, field, copy, rv_opd, aggregate, seq, assign, block, return}
use mir.MapTy.{spell_fn}
use mir.Table.{fields}
use Prim.Native.Nat.{◌-◌}
use mir.Syntax.{ty_array}
use mir.Raw.{raw as bare}
use base.Fml.{fsep, froom}
use contract.Monad.{fact}
use types.Kit.{raw, later, await, group, fpack}
use types.ByLocal.{sets_last}
use denote.Exit.{no}
use denote.Memory.{cell_at, part_of}
use denote.Index.{row, whole_in, whole_out}
use denote.Builtin.{RefMutOf, SliceRefMutOf}
use denote.Signature.{mut_ref_to}
use denote.Follow.{follows}
use denote.Triple.Clauses.{Clauses, Ended}
use denote.Triple.Walked.{Goes-spent_ref}
use mathlib.Core.Bool.{Bool, true, false, not}
use native.Mathlib.Nat.{not-suc-le-zero}
use Prim.Native.Nat.{suc}
use lib.Dec.{T}
use base.Logic.{emp, id⊢, via, fst∗}
use types.Kit.{use0}
use types.Part.{agg}
use types.Run.{and_then, no_more}
use types.SemTy.{cells}
use denote.Slice.{MutSlice, slice_ty, slice_val}
use denote.FollowSlice.{Elements, lends_Elements}
use Rattle.std.specs.Vec.Ownership.{owns_if, has_block}
use Rattle.std.specs.Allocator.{block_with_items}
use Rattle.std.proofs.mem.Facts.{says_two}

abbrev at_both : Sym → Ty
at_both v = ty_named (v, []) (tcons (ty_param 0) (tcons (ty_param 1) tnil))

-- the code as it is generated, at the type's name
abbrev written : Sym → Fn
written v = spell_fn ((v, a_type ∷ a_type ∷ [], fields (tcons ty_ptr (tcons (ty_int w64) (tcons (ty_int w64) (tcons (ty_param 1) tnil))))) ∷ []) (record {
  lifetimes = 1;
  outlives = (1, 0) ∷ (2, 0) ∷ [];
  ty_params = a_type ∷ a_type ∷ [];
  givens = 1;
  params = 1;
  locals = local (slice_ty (ty_ref (named 0) mut (ty_param 0))) value_local ∷ local (ty_ref (named 0) mut (at_both v)) value_local ∷ local (slice_ty (ty_ref erased mut (ty_param 0))) value_local ∷ local ty_ptr value_local ∷ local (ty_int w64) value_local ∷ [];
  body = seq (block (seq (assign (place 3 []) (rv_opd (copy (place 1 (deref (at_both v) ∷ field 0 ∷ []))))) (seq (assign (place 4 []) (rv_opd (copy (place 1 (deref (at_both v) ∷ field 1 ∷ []))))) (assign (place 2 []) (aggregate (copy (place 3 []) ∷ copy (place 4 []) ∷ []))))))
      (seq (assign (place 0 []) (rv_opd (copy (place 2 [])))) return);
})

module _ (E : El) where
  abbrev pub fn' : Fn
  fn' = inst_fn (args E) (written (owning E).name)

  abbrev pub ended : Ended
  ended = record { signature = record { lifetimes = 1; outlives = []; params = RefMutOf (0 ∷ []) tt (plain (λ _. Vr E)) (λ _. tt) ∷ []; result = SliceRefMutOf (0 ∷ []) tt (plain (λ _. R E)) (λ _. tt) }; kept = (no, tt) }

  abbrev stayed : Stays ended.signature.params ended.kept
  stayed = (stay_dropped (mut_ref_to (0 ∷ []) tt (plain (λ _. Vr E))) no, tt)

  abbrev pub spec : {M : Type 1} {𝓤 : Ura M} (𝓛 : Logic 𝓤) → Clauses 𝓤 ended
  spec {𝓤 = 𝓤} 𝓛 κs a = record { ghost = Unit {0}; requires = λ _. emp 𝓤; ensures = λ _ r _. sep 𝓤 (sem 𝓛 (follows (Vr E) (Array (R E) 0) a.0.ghost_name r.ghost_name (with_words a.0.now))) (sep 𝓤 (fact 𝓤 (r.now ≡ a.0.now.items)) (fact 𝓤 (length r.now ≡ a.0.now.len))) }

module _ (E : El) {M : Type 1} {𝓤 : Ura M} (𝓛 : Logic 𝓤) (κ : Lft) (q : Share) (rb ro : ℕ) (γ : GName) (h : el_d E) where
  open 𝓛 use {H, A}

  abbrev bound : (walk_of 𝓛 (ended E) (stayed E) (spec E 𝓛)).Ghost
  bound = (((κ, tt), (q, tt), tt, (record { ref_ptr = (rb, ro); ghost_name = γ; now = h }, tt), (vptr rb ro ∷ [], tt)), tt)

  abbrev Post : Val → SProp 𝓤
  Post = (walk_of 𝓛 (ended E) (stayed E) (spec E 𝓛)).post bound

  abbrev n : ℕ
  n = el_len E h

  abbrev c : ℕ
  c = el_cap E h

  abbrev xs : List (el_x E)
  xs = el_items E h

  abbrev s : ℕ
  s = sz E

  module _ (b o : ℕ) where
    -- the block but for the elements, where there is one
    abbrev pub Spare : Bool → Fml
    Spare y = owns_if y (fsep (froom (bare (ty_array (elτ E) (c - n))) b (o + n * s)) (token E.al (el_heap E h) (bare (ty_array (elτ E) c)) (block_ptr b o)))

    abbrev pub Block : Bool → List (el_x E) → Fml
    Block y ys = owns_if y (block_with_items (token E.al (el_heap E h)) (R E) (block_ptr b o) n c ys)

    no_row : (ys : List (el_x E)) → length ys ≡ 0 → ent 𝓤 (emp 𝓤) (sem 𝓛 (row (R E) full_share ys b o))
    no_row [] e = id⊢ 𝓤 (emp 𝓤)
    no_row (y ∷ ys) e = absurd (not-suc-le-zero (subst (λ (j : ℕ). suc (length ys) ≤ j) e (omega arith)))

    pub rows_out : (y : Bool) → (T (not y) → length xs ≡ 0) → ent 𝓤 (sem 𝓛 (Block y xs)) (sep 𝓤 (sem 𝓛 (row (R E) full_share xs b o)) (sem 𝓛 (Spare y)))
    rows_out true none = qed 𝓛 (‵ (Block true xs) ∷ []) ∵ fsplit ! $ use1 𝓛 (given (length xs ≡ n) (‵ (row (R E) full_share xs b o))) (apart E 𝓛 full_share n xs b o) $ learn ! (λ _. done !)
    rows_out false none = qed 𝓛 (‵ ftrue ∷ []) ∵ use0 𝓛 (‵ (row (R E) full_share xs b o)) (no_row xs (none tt)) $ done !

    rows_in : (y : Bool) (ys : List (el_x E)) → length ys ≡ n → ent 𝓤 (sep 𝓤 (sem 𝓛 (row (R E) full_share ys b o)) (sem 𝓛 (Spare y))) (sem 𝓛 (Block y ys))
    rows_in true ys l = qed 𝓛 (‵ (row (R E) full_share ys b o) ∷ ‵ (Spare true) ∷ []) ∵ use1 𝓛 (‵ (part_at (Array (R E) n) full_share ys b o)) (whole_row E 𝓛 full_share n ys b o l) $ done !
    rows_in false ys l = qed 𝓛 (‵ (row (R E) full_share ys b o) ∷ ‵ ftrue ∷ []) ∵ drop ! $ done !

    abbrev pub Rest : Val → Fml
    Rest hv = fsep (Spare (has_block c)) (fsep (handle E (el_heap E h) hv) (cell_at full_share (Vr E).mir (vec_val E hv b o n c ∷ []) rb ro))

    pub back : (hv : Val) → h.ptr ≡ block_ptr b o → n < 2 ^ 64 → c < 2 ^ 64 → c * s < 2 ^ 63 → (ws : List (el_x E)) → length ws ≡ length xs
        → ent 𝓤 (sep 𝓤 (sem 𝓛 (cells (mem (R E)) ws b o)) (sem 𝓛 (Rest hv))) (sem 𝓛 ((mem (Vr E)).own_at (with_words h ws) rb ro))
    unfolding part_of
    back hv at_b fl fc fit ws e =
        let l : length ws ≡ n = e ∙ sym (el_ok E h).0 in
        qed 𝓛 (‵ (cells (mem (R E)) ws b o) ∷ ‵ (Rest hv) ∷ []) ∵ use1 𝓛 (‵ (row (R E) full_share ws b o)) (whole_out 𝓛 (R E) ws b o) $ move ! (1 ∷ []) $ fsplit3 ! $ move ! (3 ∷ 0 ∷ []) $
        use2 𝓛 (‵ (Block (has_block c) ws)) (rows_in (has_block c) ws l) $
        vec_made E ! (with_words h ws) b o n c ws (at_b, refl, refl, with_words_is h ws l) fl fc fit $ move ! (1 ∷ 0 ∷ []) $ fjoin ! $
        fpack ! (List Val) (λ us. fsep (cell_at full_share (Vr E).mir us rb ro) ((Vr E).own_val (with_words h ws) us)) (vec_val E hv b o n c ∷ []) $ done !

    exits : (γ' : GName)
        → ent 𝓤 (sep 𝓤 (sem 𝓛 ((MutSlice (named 0) κ (R E)).own_val (record { ref_ptr = (b, o); ghost_name = γ'; now = xs }) (slice_val (b, o) (length xs) ∷ []))) (sep 𝓤 (A.lft κ q) (sem 𝓛 (follows (Vr E) (Array (R E) 0) γ γ' (with_words h))))) (Post (slice_val (b, o) n))
    exits γ' =
        qed 𝓛 (‵ ((MutSlice (named 0) κ (R E)).own_val (record { ref_ptr = (b, o); ghost_name = γ'; now = xs }) (slice_val (b, o) (length xs) ∷ [])) ∷ ‵ (flft κ q) ∷ ‵ (follows (Vr E) (Array (R E) 0) γ γ' (with_words h)) ∷ []) ∵
        rewrite ! 0 (λ (j : ℕ). ‵ ((MutSlice (named 0) κ (R E)).own_val (record { ref_ptr = (b, o); ghost_name = γ'; now = xs }) (slice_val (b, o) j ∷ []))) (sym (el_ok E h).0) refl $
        suffices ! _ (ends_at 𝓛 (ended E) (stayed E) (spec E 𝓛) bound (slice_val (b, o) n) (record { ref_ptr = (b, o); ghost_name = γ'; now = xs }) (tt, tt) (tt, tt)) $
        nothing ! $ nothing ! $ fjoin ! $ join ! $ nothing ! $ move ! (2 ∷ 0 ∷ []) $ join ! $ join ! $ frame ! $ says_two ! (refl, sym (el_ok E h).0) $ done !

  module _ (C : Calls 𝓤 H) (Λ : Loops 𝓤 H) where
    walk : ent 𝓤 (on_entry 𝓛 (ended E).signature (κ, tt) (q, tt) (record { ref_ptr = (rb, ro); ghost_name = γ; now = h }, tt) (vptr rb ro ∷ [], tt)) (WpFn 𝓤 H C Λ (fn' E) (vptr rb ro ∷ []) Post)
    walk =
        let lens : n ≡ length xs = (el_ok E h).0 in
        let le : n ≤ c = (el_ok E h).1 in
        qed 𝓛 ((‵ (flft κ q) ⊛ ‵ ftrue) ∷ ‵ (owns (MutRef (named 0) κ (Vr E) ∷ []) (record { ref_ptr = (rb, ro); ghost_name = γ; now = h }, tt) (vptr rb ro ∷ [], tt)) ∷ []) ∵
        enter ! C Λ (fn' E) (vptr rb ro ∷ []) _ $
        alloc_all ! (λ l. pass_all ! refl ((tt, tt), tt) $
        let En : Env 𝓤 H = env (fn' E).locals l in
        move ! (1 ∷ []) $ fsplit ! $ fsplit3 ! $ drop ! $ move ! (3 ∷ []) $ split ! $ move ! (2 ∷ 3 ∷ 0 ∷ []) $
        vec_opens⁰ E ! tt h rb ro (λ b o hv at_b fl fc fit.
        let roomy : length xs < 2 ^ 64 = omega arith in
        let fitting : length xs * s < 2 ^ 63 = times_below (length xs) c s (2 ^ 63) (omega arith) fit in
        first ! $ blocks ! $
        sets ! (of_opd ! (load ! (through ! refl (fld ! refl (stop !))) (look_in ! 1 (sub ! 0 refl (whole !))))) refl (tt, tt) $
        sets ! (of_opd ! (load ! (through ! refl (fld ! refl (stop !))) (look_in ! 1 (sub ! 1 refl (whole !))))) refl (tt, record { fits = fl }) $
        sets_last ! (agg ! (and_then ! (get ! refl) (and_then ! (get ! refl) (no_more !)))) refl (tt, (tt, (record { fits = fl }, tt))) $
        exec ! C Λ En (after 1 (fn' E).body) (at_ret En Post) $
        sets ! (of_opd ! (get ! refl)) refl (tt, (tt, (record { fits = fl }, tt))) $
        use1 𝓛 (‵ (row (R E) full_share xs b o) ⊛ ‵ (Spare b o (has_block c))) (rows_out b o (has_block c) (λ t. let none : c ≡ 0 = not_live c t in omega arith)) $ split ! $
        use1 𝓛 (‵ (cells (mem (R E)) xs b o)) (whole_in 𝓛 (R E) xs b o) $ move ! (3 ∷ []) $ fsplit ! $
        -- [the open borrow; the handle; the elements; the spare; the words; obs; auth]
        move ! (1 ∷ 4 ∷ []) $ fjoin ! $ move ! (3 ∷ 0 ∷ []) $ fjoin ! $ move ! (1 ∷ 3 ∷ 4 ∷ 2 ∷ 0 ∷ []) $ group ! 5 $
        use1 𝓛 (later (some (λ (γ' : GName). raw (Elements 𝓛 (Vr E) (R E) (with_words h) (named 0) κ q rb ro b o γ xs (roomy, fitting) (sem 𝓛 (Rest b o hv)) (back b o hv at_b fl fc fit) γ'))))
        (lends_Elements 𝓛 (Vr E) (R E) (with_words h) (named 0) κ q rb ro b o γ xs (roomy, fitting) (sem 𝓛 (Rest b o hv)) (back b o hv at_b fl fc fit) ((Vr E).coded.code h) ((Vr E).coded.code h)) $ await ! tt $ pick ! (λ γ'.
        returns ! (look_at ! 0 refl) $ free_all ! refl $
        keep ! (0 ∷ []) $ by ! (exits b o γ'))))

pub meets : (E : El) {M : Type 1} {𝓤 : Ura M} (𝓛 : Logic 𝓤) (𝓣 : Tables 𝓤 𝓛.H)
    → Meets 𝓛 (ended E).signature (WpFn 𝓤 𝓛.H 𝓣.C 𝓣.Λ (fn' E)) (closing 𝓛 (ended E) (spec E 𝓛))
meets E {𝓤 = 𝓤} 𝓛 𝓣 =
    walk_Meets 𝓛 (ended E) (stayed E) (Goes-spent_ref 𝓛 1 (0 ∷ []) tt (plain (λ _. Vr E)), tt) (spec E 𝓛) (WpFn 𝓤 𝓛.H 𝓣.C 𝓣.Λ (fn' E)) (WpFn-mono 𝓤 𝓛.H 𝓛.laws 𝓣 (fn' E))
    (walked 𝓛 (ended E) (stayed E) (spec E 𝓛) (WpFn 𝓤 𝓛.H 𝓣.C 𝓣.Λ (fn' E)) (λ κs. (mut_vals, tt)) (λ κs. (mut_Tells (named 0) κs.0 (Vr E), tt))
    (λ κs qs bounds a g are. via 𝓤 _ (fst∗ 𝓤 _ (emp 𝓤)) (walk E 𝓛 κs.0 qs.0 a.0.ref_ptr.0 a.0.ref_ptr.1 a.0.ghost_name a.0.now 𝓣.C 𝓣.Λ)))
