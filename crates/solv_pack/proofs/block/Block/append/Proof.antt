-- `append` looks into the slice, copies its bits into the first room, and owns each value twice. Assumes `Logic`.
use mathlib.Core.Path.{◌≡◌, refl, sym, subst, ◌∙◌}
use Prim.Native.Nat.{ℕ, ◌+◌, ◌-◌, ◌*◌, ◌≤◌, ◌<◌, ◌^◌}
use native.Mathlib.Nat.{add_comm}
use native.Mathlib.Omega.{arith}
use mathlib.Core.List.{List, [], ◌∷◌, ◌++◌}
use lib.ListN.{length, length-append}
use lib.Dec.{T}
use seplogic.Ra.Ura.{Ura}
use base.Fraction.{full_share}
use mir.Syntax.{Ty, Fn, Args, Dict, a_type, dcons, dnil, ty_array, ty_unit, named}
use mir.Val.{Val, WT, has_ty, vunit, vptr}
use mir.MapTy.{inst_fn}
use base.Logic.{SProp, ent}
use base.Fml.{ftrue, froom, flft}
use contract.BorrowLft.{◌⊑◌}
use prog.Memory.{Memory}
use prog.Routine.{Routine}
use prog.Wp.{Env, WpFn, Tables}
use types.Logic.{Logic}
use contract.Monad.{Fun, fact}
use contract.Running.{tables, tables_of}
use sound.WpLaws.{WpFn-mono, fm_of}
use types.Kit.{‵, raw, ◌⊛◌, some, given, later, at_ret, ◌$◌, ◌∵◌, !, qed, move, keep, use1, use2, use3, split, split3, join, pick, learn, await, rewrite, fsplit, fsplit3, fjoin, fjoin3, feq_i, suffices, done}
use types.Part.{whole, sub, look_in, store_in}
use types.Run.{stop, fld, hop, from, load, addr, size_lit, unit_lit, of_opd, bin, no_more, and_then, assigns, first, blocks, exec, returns, enter}
use types.ByLocal.{alloc_all, pass_all, free_all, look_at, look_in_at, get, get_in, through, sets, lands_last, env}
use denote.Exit.{yes}
use denote.Builtin.{SliceRefOf}
use denote.RattleType.{RattleType, owns}
use denote.Memory.{part_at}
use denote.Array.{Array}
use denote.Index.{row, looks_slice, shuts_slice}
use denote.Param.{bounded, copied}
use denote.Param.Laws.{IsCopy, copied_copy}
use denote.RawPtr.{block_ptr}
use denote.Ref.{mut_vals, mut_Tells}
use denote.Signature.{plain, types_at}
use denote.Slice.{Room, shr_slice_vals, shr_slice_Tells}
use denote.Steps.{heard, nothing}
use denote.Triple.Statement.{Triple}
use denote.Triple.Clauses.{Clauses, Ended, closing}
use denote.Triple.Spec.{Meets, triple_of}
use denote.Triple.Walked.{Stays, stay_dropped, stay_ref, walk_of, ends_at, walked, Goes-dropped, Goes-ref, walk_Meets}
use denote.Triple.Table.{entered}
use denote.Triple.Call.{calls_at_last}
use Rattle.std.specs.declared.clone.Clone.{Ghosts as Clones}
use Rattle.std.specs.Ptr.{bits_at}
use Rattle.std.proofs.ptr.Rows as arrays
use Rattle.std.proofs.VecSteps.Rows as rows
use Rattle.std.proofs.VecSteps.Gaps.{joined}
use Rattle.std.proofs.VecSteps.Shapes.{after}
use Rattle.std.proofs.VecSteps.Facts.{last_fact, and_fact, Says-All}
use Rattle.solv_pack.proofs.BlockCopies.{bits_key, owned, twice, bits_out, bits_in, Bits, at_bits, Bits-goes, Bits-gives}
use Rattle.solv_pack.proofs.BlockEl.{El, P, el_x, elτ, el_d, el_len, el_cap, el_items, el_ok, el_heap, el_make, R, sz, wider}
use Rattle.solv_pack.proofs.BlockOpens.{vec_opens, vec_closes}
use Rattle.solv_pack.proofs.block.copy_words.Met as copy_met
use Rattle.solv_pack.specs.contracts.block.Block as B-type
use Rattle.solv_pack.specs.contracts.block.Block.append as F
use Rattle.solv_pack.specs.contracts.block.Block.append.Key.{name as #self}
use Rattle.solv_pack.proofs.block.Block.append.Statement as stated
use Rattle.solv_pack.proofs.block.Block.append.Code as code

module _ (E : El) (copy' : IsCopy E.row) (g₀ : Clones (el_x E)) (d₀ : Dict) where
  abbrev args : Args
  args = bounded (a_type ∷ a_type ∷ []) (E.row, (E.al.row, tt)) (dcons E.al.d (dcons E.al.drops (dcons d₀ dnil)))

  abbrev here : Fn
  here = inst_fn args code.function

  abbrev ended : Ended
  ended = F.ended E.row E.al.row E.al.g E.al.d E.al.drops g₀ d₀

  abbrev Y : RattleType
  Y = copied 0 E.row

  abbrev Br : RattleType
  Br = B-type.the_row Y (P E) E.al.g

  abbrev stayed : Stays ended.signature.params ended.kept
  stayed = (stay_ref (0 ∷ []) tt (plain (λ _. Br)), (stay_dropped (SliceRefOf (1 ∷ []) tt (plain (λ _. Y)) (λ _. tt)) yes, tt))

  module _ {M : Type 1} {𝓤 : Ura M} (𝓛 : Logic 𝓤) (at_mem : Memory → SProp 𝓤) (run : Routine → Fun 𝓤) (𝓣 : Tables 𝓤 𝓛.H)
      (callee : Triple 𝓤 (𝓣.C (bits_key E.row)) (Bits E.row 𝓛 at_mem run)) where
    open 𝓛 use {H}

    abbrev held : Clauses 𝓤 ended
    held = F.clauses E.row E.al.row E.al.g E.al.d E.al.drops g₀ d₀ 𝓛 at_mem run

    abbrev Bound : Type 0
    Bound = (walk_of 𝓛 ended stayed held).Ghost

    abbrev spelled : Bound → Bound
    spelled z = let a = z.0.3 in ((z.0.0, z.0.1, z.0.2, a, (mut_vals a.0, (shr_slice_vals a.1.0, tt))), z.1)

    walk : (z : Bound) → Room Y (length z.0.3.1.0.now)
        → ent 𝓤 ((walk_of 𝓛 ended stayed held).pre (spelled z)) (WpFn 𝓤 H 𝓣.C 𝓣.Λ here ((walk_of 𝓛 ended stayed held).args (spelled z)) ((walk_of 𝓛 ended stayed held).post (spelled z)))
    walk z rm =
        let κ₀ = z.0.0.0 in let κ₁ = z.0.0.1.0 in let κ₂ = z.0.0.1.1.0 in let κ₃ = z.0.0.1.1.1.0 in let q₀ = z.0.1.0 in let q₁ = z.0.1.1.0 in let q₂ = z.0.1.1.1.0 in let q₃ = z.0.1.1.1.1.0 in
        let a = z.0.3 in let h : el_d E = a.0.now in let n : ℕ = el_len E h in let c : ℕ = el_cap E h in let ys : List (el_x E) = el_items E h in
        let xs : List (el_x E) = a.1.0.now in let m : ℕ = length xs in
        let rb : ℕ = a.0.ref_ptr.0 in let ro : ℕ = a.0.ref_ptr.1 in let sb : ℕ = a.1.0.ref_ptr.0 in let so : ℕ = a.1.0.ref_ptr.1 in
        let Post : Val → SProp 𝓤 = (walk_of 𝓛 ended stayed held).post (spelled z) in
        let X = E.row in let E' : arrays.El = record { row = X; laws = E.laws } in let s : ℕ = sz E in let τ : Ty = elτ E in
        let fn : m < 2 ^ 64 = rm.0 in let wide : m * s < 2 ^ 63 = rm.1 in
        let lens : n ≡ length ys = (el_ok E h).0 in
        let all : length (ys ++ xs) ≡ n + m = length-append ys xs ∙ (λ i. sym lens i + m) in
        qed 𝓛 (((‵ (flft κ₀ q₀) ⊛ ‵ (flft κ₁ q₁) ⊛ ‵ (flft κ₂ q₂) ⊛ ‵ (flft κ₃ q₃) ⊛ ‵ ftrue) ⊛ ‵ (owns (types_at ended.signature.params z.0.0) a (spelled z).0.4)) ∷ (raw (fact 𝓤 (κ₂ ⊑ X.lives)) ⊛ raw (fact 𝓤 (κ₃ ⊑ E.al.row.lives)) ⊛ raw (fact 𝓤 ((0 < m) × (n + m ≤ c)))) ∷ []) ∵
        move ! (1 ∷ []) $ split3 ! $ heard ! (κ₂ ⊑ X.lives) (λ lives. heard ! (κ₃ ⊑ E.al.row.lives) (λ _. heard ! ((0 < m) × (n + m ≤ c)) (λ asked.
        let more : 0 < m = asked.0 in let fits_in : n + m ≤ c = asked.1 in let pos : 0 < c = omega arith in
        split ! $ split3 ! $ move ! (3 ∷ []) $ fsplit3 ! $ fsplit3 ! $ move ! (3 ∷ []) $ fsplit ! $ keep ! (3 ∷ 4 ∷ 6 ∷ 1 ∷ 7 ∷ 8 ∷ []) $
        enter ! 𝓣.C 𝓣.Λ here ((walk_of 𝓛 ended stayed held).args (spelled z)) _ $
        alloc_all ! (λ l. pass_all ! refl ((tt, tt), ((tt, (tt, (record { fits = fn }, tt))), tt)) $
        let En : Env 𝓤 H = env here.locals l in
        vec_opens E ! tt h rb ro pos (λ b o hv at_b fl fc fit.
        -- [the words; the room; the token; the struct's words; the open borrow and the handle; obs; auth; the slice; its lifetime; ..]
        let tiny : s < 2 ^ 64 = wider s (arrays.one_below c s (2 ^ 63) pos fit) in
        let far : n * s < 2 ^ 64 = wider (n * s) (arrays.times_below n c s (2 ^ 63) (omega arith) fit) in
        let sum : n + m < 2 ^ 64 = omega arith in
        let at : ℕ = n * s + o in
        sets ! (of_opd ! (load ! (through ! refl (fld ! refl (stop !))) (look_in ! 3 (sub ! 1 refl (whole !))))) refl (tt, record { fits = fl }) $
        first ! $ blocks ! $
        sets ! (addr ! (from ! (fld ! refl (hop ! (look_in_at ! 2 (sub ! 0 refl (whole !))) (stop !))))) refl (tt, tt) $
        sets ! (of_opd ! (load ! (through ! refl (fld ! refl (stop !))) (look_in ! 3 (sub ! 0 refl (whole !))))) refl (tt, tt) $
        sets ! (bin ! (get ! refl) (size_lit ! (record { fits = tiny })) (record { fits = far })) refl (tt, record { fits = far }) $
        sets ! (bin ! (get ! refl) (get ! refl) tt) refl (tt, tt) $
        sets ! (of_opd ! (get_in ! (fld ! refl (stop !)) (sub ! 1 refl (whole !)))) refl (tt, record { fits = fn }) $
        move ! (7 ∷ 8 ∷ []) $ looks_slice ! tt Y ((copied_copy 0 X copy').copied M 𝓤 𝓛) xs sb so (λ p.
        use1 𝓛 (‵ (part_at (Array (R E) m) p xs sb so)) (arrays.whole E' 𝓛 p m xs sb so refl) $
        use1 𝓛 (some (λ (us : List Val). given ((length us ≡ m) × (length xs ≡ m)) (‵ (owned X 𝓛 xs us) ⊛ ‵ (bits_at (R E) p (block_ptr sb so) us)))) (bits_out X 𝓛 p m xs sb so) $ pick ! (λ us. learn ! (λ long. split ! $
        use1 𝓛 (‵ (owned X 𝓛 xs us) ⊛ ‵ (owned X 𝓛 xs us)) (twice X 𝓛 (copy'.copies M 𝓤 𝓛) xs us) $ split ! $ move ! (6 ∷ []) $
        rewrite ! 0 (λ (j : ℕ). ‵ (froom (ty_array τ (c - n)) b j)) (add_comm o (n * s)) refl $
        use1 𝓛 (‵ (froom (ty_array τ m) b at) ⊛ ‵ (froom (ty_array τ (c - n - m)) b (at + m * s))) (rows.room_split E 𝓛 m (c - n) b at (omega arith)) $ split ! $ move ! (13 ∷ []) $ split ! $ move ! (6 ∷ 2 ∷ 0 ∷ []) $
        let y = at_bits X 𝓛 at_mem run κ₂ q₂ p sb so b at m us in
        use3 𝓛 (raw ((Bits X 𝓛 at_mem run).pre y)) (Bits-goes X 𝓛 at_mem run κ₂ q₂ p sb so b at m us lives fn (omega arith, long.0)) $
        calls_at_last ! (fm_of 𝓤 H 𝓛.laws 𝓣) (Bits X 𝓛 at_mem run) callee y (and_then ! (get ! refl) (and_then ! (get ! refl) (and_then ! (get ! refl) (no_more !)))) (λ v.
        use1 𝓛 (later (given (v ≡ vunit) (‵ (bits_at (R E) p (block_ptr sb so) us) ⊛ ‵ (bits_at (R E) full_share (block_ptr b at) us) ⊛ ‵ (flft κ₂ q₂)))) (Bits-gives X 𝓛 at_mem run κ₂ q₂ p sb so b at m us v) $
        await ! tt $ learn ! (λ e. split3 ! $
        lands_last ! refl (subst (λ (u : Val). T (has_ty ty_unit u) × WT u) (sym e) (tt, tt)) $ exec ! 𝓣.C 𝓣.Λ En (after 2 here.body) (at_ret En Post) $
        sets ! (of_opd ! (get_in ! (fld ! refl (stop !)) (sub ! 1 refl (whole !)))) refl (tt, record { fits = fn }) $
        sets ! (bin ! (get ! refl) (get ! refl) (record { fits = sum })) refl (tt, record { fits = sum }) $
        assigns ! (of_opd ! (get ! refl)) (through ! refl (fld ! refl (stop !))) (store_in ! 11 (sub ! 1 refl (whole !)) (tt, record { fits = sum })) $
        sets ! (of_opd ! (unit_lit !)) refl (tt, tt) $
        let spread = arrays.add_times n m s in
        let there : at + m * s ≡ o + (n + m) * s = omega arith in
        let fewer : c - n - m ≡ c - (n + m) = omega arith in
        let new = el_make E (el_heap E h) (block_ptr b o) (n + m) c (ys ++ xs) (sym all, fits_in) h.small in
        -- the slice is given back
        move ! (5 ∷ 0 ∷ []) $ use2 𝓛 (‵ (part_at (Array (R E) m) p xs sb so)) (bits_in X 𝓛 p m xs sb so us long.0 refl) $
        use1 𝓛 (given (length xs ≡ m) (‵ (row Y p xs sb so))) (arrays.apart E' 𝓛 p m xs sb so) $ learn ! (λ _. move ! (0 ∷ 6 ∷ []) $ shuts_slice ! tt Y p xs sb so $
        -- and its copy joined to the words
        move ! (5 ∷ 1 ∷ []) $ use2 𝓛 (‵ (part_at (Array (R E) m) full_share xs b at)) (bits_in X 𝓛 full_share m xs b at us long.0 refl) $
        use1 𝓛 (given (length xs ≡ m) (‵ (row (R E) full_share xs b at))) (rows.apart E 𝓛 full_share m xs b at) $ learn ! (λ _. move ! (6 ∷ 0 ∷ []) $
        use2 𝓛 (‵ (part_at (Array (R E) (n + m)) full_share (ys ++ xs) b o)) (joined E 𝓛 b o (n + m) n ys xs all) $
        rewrite ! 4 (λ (j : ℕ). ‵ (froom (ty_array τ (c - n - m)) b j)) there refl $ rewrite ! 4 (λ (j : ℕ). ‵ (froom (ty_array τ j) b (o + (n + m) * s))) fewer refl $
        move ! (0 ∷ 4 ∷ 6 ∷ 7 ∷ 8 ∷ 9 ∷ 10 ∷ []) $
        vec_closes E ! tt new.0 b o (n + m) c (ys ++ xs) rb ro (new.1, new.2, new.3, new.4) sum fc fit pos $
        returns ! (look_at ! 0 refl) $ free_all ! refl $
        suffices ! _ (ends_at 𝓛 ended stayed held (spelled z) vunit tt (new.0, (tt, tt)) (tt, (tt, tt))) $
        Says-All ! (and_fact 𝓤 refl (and_fact 𝓤 refl (and_fact 𝓤 refl (last_fact 𝓤 (sym at_b))))) $
        feq_i ! (List Val) (vptr rb ro ∷ []) (vptr rb ro ∷ []) refl $ fjoin3 ! $ nothing ! $ nothing ! $ fjoin ! $ move ! (1 ∷ 0 ∷ []) $ fjoin ! $
        move ! (3 ∷ 4 ∷ []) $ join ! $ move ! (3 ∷ 0 ∷ []) $ join ! $ move ! (2 ∷ 0 ∷ []) $ join ! $ feq_i ! (List Val) (vunit ∷ []) (vunit ∷ []) refl $ keep ! (1 ∷ 2 ∷ 0 ∷ []) $ done !))))))))))))

    meets : Meets 𝓛 ended.signature (WpFn 𝓤 H 𝓣.C 𝓣.Λ here) (closing 𝓛 ended held)
    meets =
        walk_Meets 𝓛 ended stayed (
          Goes-ref 𝓛 4 0 tt (plain (λ _. Br)),
          (Goes-dropped 𝓛 4 (SliceRefOf (1 ∷ []) tt (plain (λ _. Y)) (λ _. tt)) yes (λ κs x f. refl), tt),
        ) held (WpFn 𝓤 H 𝓣.C 𝓣.Λ here) (WpFn-mono 𝓤 H 𝓛.laws 𝓣 here)
        (walked 𝓛 ended stayed held (WpFn 𝓤 H 𝓣.C 𝓣.Λ here) (λ κs. (mut_vals, (shr_slice_vals, tt)))
        (λ κs. (mut_Tells (named 0) κs.0 Br, (shr_slice_Tells (named 1) κs.1.0 Y, tt)))
        (λ κs qs bounds a g are. walk ((κs, qs, bounds, a, (mut_vals a.0, (shr_slice_vals a.1.0, tt))), g) are.1.0.0.1))

pub append_spec : {M : Type 1} → stated.statement M
unfolding tables_of
append_spec 𝓤 𝓛 𝓜 𝓡 wired X Z L LZ copy' g d dd g₀ d₀ _ _ _ =
    let E : El = record { row = X; laws = L; al = record { row = Z; laws = LZ; g = g; d = d; drops = dd } } in
    let 𝓣 : Tables 𝓤 𝓛.H = tables_of 𝓤 𝓛.H 𝓜 (tables 𝓤 𝓛.H 𝓜 𝓡 𝓡.env) in
    entered 𝓤 𝓛.H (triple_of 𝓛 (F.signature X Z g d dd g₀ d₀) (F.spec X Z g d dd g₀ d₀ 𝓛 𝓜.mem 𝓡.returns)) 𝓣.C 𝓣.Λ (#self (args E copy' g₀ d₀)) (here E copy' g₀ d₀) (code.unfolded 𝓤 𝓛.H 𝓜 𝓡 wired (X, (Z, tt)) d dd d₀)
    (meets E copy' g₀ d₀ 𝓛 𝓜.mem 𝓡.returns 𝓣 (copy_met.met 𝓤 𝓛 𝓜 𝓡 (code.calls-solv_pack::block::copy_words 𝓡.env wired) X L))
