-- `copy_words` reads each value and writes it, from the first on.
use mathlib.Core.Path.{◌≡◌, refl}
use mathlib.Core.List.{List, [], ◌∷◌}
use mathlib.Core.WellFounded.InvImage
use Prim.Native.Nat.{ℕ, zero, suc, ◌+◌, ◌-◌, ◌*◌, ◌≤◌, ◌<◌, ◌^◌}
use native.Mathlib.Omega.{arith}
use seplogic.Ra.Ura.{Ura}
use lib.Dec.{lit<, ltb→lt, nltb→le}
use lib.ListN.{length}
use lib.WfN.{lt-wf_rel}
use base.Fraction.{full_share}
use mir.Syntax.{Ty, Fn, Body, Args, a_type, w64, ty_int, ty_array}
use mir.MapTy.{inst_fn}
use mir.Val.{Val, vunit, vint, vptr}
use base.Logic.{SProp, ent, sep, never_e}
use base.Fml.{Lft, Share, ftrue, ffalse, fsep, fat, flft, froom}
use contract.BorrowLft.{◌⊑◌}
use prog.Memory.{Memory}
use prog.Routine.{Routine}
use prog.Wp.{Env, Out, Wp, WpFn, Tables, at_return, after_seq, after_block, after_turn}
use types.Logic.{Logic, sem}
use contract.Monad.{Fun, fact}
use contract.Running.{tables, tables_of}
use sound.WpLaws.{WpFn-mono}
use types.Kit.{Item, Sq, any_q, runs, ‵, raw, ◌⊛◌, given, at_ret, ◌$◌, ◌∵◌, !, qed, by, move, keep, drop, use1, use2, join, split, split3, learn, rewrite, fsplit, fjoin, feq_i, suffices, done}
use types.Run.{stop, look, load, lit, size_lit, bin, unit_lit, of_opd, init, assigns_last, first, blocks, skips, jumps, branches, exec, returns, enter, loops, again, Below}
use types.ByLocal.{alloc_all, pass_all, free_all, look_at, get, through, sets, sets_last, env, holding, forget_but, take_at, give_at}
use denote.RattleType.{RattleType, owns}
use denote.Exit.{yes}
use denote.Builtin.{usize}
use denote.Array.{Array}
use denote.Param.{layouts}
use denote.Plain.{uint_vals, uint_Tells}
use denote.RawPtr.{Ptr, RawPtr, block_ptr, null_ptr, ptr_val, room_at, rawptr_vals, rawptr_Tells}
use denote.Signature.{plain}
use denote.Steps.{heard, nothing}
use denote.Triple.Clauses.{Ended, Clauses}
use denote.Triple.Spec.{triple_of}
use denote.Triple.Table.{entered}
use denote.Triple.Walked.{Stays, stay_dropped, walk_of, ends_at, walked, Goes-dropped, walk_Meets}
use Rattle.std.proofs.ptr.Rows.{El, R, elτ, sz, Good, one_more, times_below, one_below, spare, take_snoc, drop-cons, take_all}
use mir.Syntax.{seq, assign, block, cond, skip, return, place, deref, copy, rv_opd, opd_unit, op2, mul, add, offset, unsigned, size_of, int}
use Rattle.std.specs.Ptr.{array_size, bits_at}
use Rattle.solv_pack.specs.contracts.block.copy_words as F
use Rattle.solv_pack.specs.contracts.block.copy_words.Key.{name as #self}
use Rattle.solv_pack.proofs.block.copy_words.Statement as stated
use Rattle.solv_pack.proofs.block.copy_words.Code as code
use mir.Syntax.{lt, exit}
use mathlib.Core.Path.{sym, subst}
use mathlib.Core.List.{◌++◌}
use native.Mathlib.Nat.{zero-mul, suc-mul}
use lib.ListN.{get_or, take, drop as drop_l, length-take}
use base.Logic.{id⊢}
use prog.Model.{elems}
use types.Kit.{frame, use0}

abbrev counts : El → Body
counts E = assign (place 4 []) (op2 (add unsigned) (copy (place 4 [])) (int w64 1))

abbrev moves : El → Body
moves E = seq (block (seq (assign (place 6 []) (op2 (mul unsigned) (copy (place 4 [])) (size_of (elτ E)))) (seq (assign (place 7 []) (op2 offset (copy (place 2 [])) (copy (place 6 [])))) (seq (assign (place 8 []) (op2 (mul unsigned) (copy (place 4 [])) (size_of (elτ E)))) (seq (assign (place 9 []) (op2 offset (copy (place 1 [])) (copy (place 8 [])))) (seq (assign (place 10 []) (rv_opd (copy (place 9 (deref (elτ E) ∷ []))))) (assign (place 7 (deref (elτ E) ∷ [])) (rv_opd (copy (place 10 [])))))))))) (counts E)

abbrev rest : Body
rest = seq (assign (place 0 []) (rv_opd opd_unit)) return

module _ (E : El) where
  abbrev args : Args
  args = layouts (a_type ∷ []) (E.row, tt)

  abbrev fn' : Fn
  fn' = inst_fn args code.function

  abbrev ended : Ended
  ended = F.ended E.row

  abbrev stayed : Stays ended.signature.params ended.kept
  stayed = (stay_dropped (plain (λ _. RawPtr)) yes, (stay_dropped (plain (λ _. RawPtr)) yes, (stay_dropped (plain (λ _. usize)) yes, tt)))

module _ (E : El) {M : Type 1} {𝓤 : Ura M} (𝓛 : Logic 𝓤) (at_mem : Memory → SProp 𝓤) (run : Routine → Fun 𝓤) (𝓣 : Tables 𝓤 𝓛.H) (κ : Lft) (q : Share) where
  open 𝓛 use {H, A}

  abbrev held : Clauses 𝓤 (ended E)
  held = F.clauses E.row 𝓛 at_mem run

  abbrev τ : Ty
  τ = elτ E

  abbrev s : ℕ
  s = sz E

  abbrev bound : Ptr → Ptr → ℕ → Share × List Val → (walk_of 𝓛 (ended E) (stayed E) held).Ghost
  bound src dst n g = (((κ, tt), (q, tt), tt, (src, (dst, (n, tt))), (ptr_val src ∷ [], (ptr_val dst ∷ [], (vint w64 n ∷ [], tt)))), g)

  abbrev Goes : Ptr → Ptr → ℕ → Share × List Val → SProp 𝓤
  Goes src dst n g = WpFn 𝓤 H 𝓣.C 𝓣.Λ (fn' E) (ptr_val src ∷ ptr_val dst ∷ vint w64 n ∷ []) ((walk_of 𝓛 (ended E) (stayed E) held).post (bound src dst n g))

  abbrev els : Share → ℕ → ℕ → List Val → SProp 𝓤
  els p = elems 𝓤 H p τ

  snoc : (p : Share) (b o : ℕ) (us : List Val) (u : Val) → ent 𝓤 (sep 𝓤 (els p b o us) (H.at p τ b (length us * s + o) u)) (els p b o (us ++ u ∷ []))
  snoc p b o [] u = let none = zero-mul s in let e : 0 * s + o ≡ o = omega arith in
      qed 𝓛 (‵ ftrue ∷ ‵ (fat p τ b (0 * s + o) u) ∷ []) ∵ rewrite ! 1 (λ (k : ℕ). ‵ (fat p τ b k u)) e refl $ move ! (1 ∷ 0 ∷ []) $ done !
  snoc p b o (x ∷ us) u = let more = suc-mul (length us) s in let e : suc (length us) * s + o ≡ length us * s + (o + s) = omega arith in
      qed 𝓛 ((‵ (fat p τ b o x) ⊛ raw (els p b (o + s) us)) ∷ ‵ (fat p τ b (suc (length us) * s + o) u) ∷ []) ∵ split ! $ frame ! $ rewrite ! 1 (λ (k : ℕ). ‵ (fat p τ b k u)) e refl $ by ! (snoc p b (o + s) us u)

  module _ (bs os bd od n : ℕ) (p : Share) (us : List Val) (fn : n < 2 ^ 64) (fb : n * s < 2 ^ 64) (ln : length us ≡ n) where
    abbrev Post : Val → SProp 𝓤
    Post = (walk_of 𝓛 (ended E) (stayed E) held).post (bound (block_ptr bs os) (block_ptr bd od) n (p, us))

    abbrev Left : Type 0
    Left = (i : ℕ) × (i ≤ n)

    abbrev Nearer : Left → Left → Type 0
    Nearer t u = n - t.0 < n - u.0

    exits : ent 𝓤 (sep 𝓤 (els p bs os us) (sep 𝓤 (els full_share bd od us) (A.lft κ q))) (Post vunit)
    exits =
        qed 𝓛 (raw (els p bs os us) ∷ raw (els full_share bd od us) ∷ ‵ (flft κ q) ∷ []) ∵
        use1 𝓛 (‵ (bits_at (R E) p (block_ptr bs os) us)) (𝓛.laws.elems_at p τ bs os us) $ move ! (1 ∷ []) $ use1 𝓛 (‵ (bits_at (R E) full_share (block_ptr bd od) us)) (𝓛.laws.elems_at full_share τ bd od us) $ move ! (1 ∷ 0 ∷ []) $ fjoin ! $
        suffices ! _ (ends_at 𝓛 (ended E) (stayed E) held (bound (block_ptr bs os) (block_ptr bd od) n (p, us)) vunit tt (tt, (tt, (tt, tt))) (tt, (tt, (tt, tt)))) $
        feq_i ! (List Val) (vunit ∷ []) (vunit ∷ []) refl $ nothing ! $ nothing ! $ fjoin ! $ nothing ! $ fjoin ! $ nothing ! $ fjoin ! $ join ! $ nothing ! $ move ! (3 ∷ 0 ∷ []) $ join ! $ join ! $ done !

    module _ (l : ℕ → ℕ) where
      abbrev En : Env 𝓤 H
      En = env (fn' E).locals l

      -- what is not yet read, the room that is left, and what was read and written
      abbrev Now : Left → List (Item 𝓤)
      Now t = raw (els p bs (t.0 * s + os) (drop_l t.0 us)) ∷ ‵ (froom (ty_array τ (n - t.0)) bd (od + t.0 * s)) ∷ raw (els p bs os (take t.0 us)) ∷ raw (els full_share bd od (take t.0 us)) ∷ ‵ (flft κ q)
          ∷ holding 𝓛 En ((1, vptr bs os) ∷ (2, vptr bd od) ∷ (3, vint w64 n) ∷ (4, vint w64 t.0) ∷ [])

      abbrev Turned : Left → Out → SProp 𝓤
      Turned t = after_turn 𝓤 H (Below 𝓛 Nearer Now t) (after_block 𝓤 H (after_seq 𝓤 H (Wp 𝓤 H 𝓣.C 𝓣.Λ En rest (at_return 𝓤 H En Post)) (at_return 𝓤 H En Post)))

      turns : (t : Left) → Sq 𝓛 (Now t) (runs 𝓣.C 𝓣.Λ En (seq (assign (place 5 []) (op2 (lt unsigned) (copy (place 4 [])) (copy (place 3 [])))) (seq (cond (copy (place 5 [])) skip (exit 1)) (moves E))) (any_q (Turned t)))
      unfolding after_turn
      turns t =
          let i : ℕ = t.0 in let le = t.1 in
          sets ! (bin ! (get ! refl) (get ! refl) tt) refl (tt, tt) $ first ! $ branches ! (get ! refl)
          (λ less. let h : i < n = ltb→lt i n less in let fs : s < 2 ^ 64 = one_below n s (2 ^ 64) (omega arith) fb in let f₁ : i + 1 < 2 ^ 64 = omega arith in
          let fm : i * s < 2 ^ 64 = times_below i n s (2 ^ 64) (omega arith) fb in
          let inside : i < length us = omega arith in let v : Val = get_or us i vunit in
          let counted = length-take i us in let long : length (take i us) ≡ i = omega arith in
          let more = suc-mul i s in let on : i * s + os + s ≡ suc i * s + os = omega arith in
          skips ! $ exec ! 𝓣.C 𝓣.Λ En (moves E) (any_q (Turned t)) $ first ! $ blocks ! $
          sets ! (bin ! (get ! refl) (size_lit ! (record { fits = fs })) (record { fits = fm })) refl (tt, record { fits = fm }) $ sets ! (bin ! (get ! refl) (get ! refl) tt) refl (tt, tt) $
          sets ! (bin ! (get ! refl) (size_lit ! (record { fits = fs })) (record { fits = fm })) refl (tt, record { fits = fm }) $ sets ! (bin ! (get ! refl) (get ! refl) tt) refl (tt, tt) $
          rewrite ! 0 (λ (ws : List Val). raw (els p bs (i * s + os) ws)) (drop-cons us i vunit inside) refl $
          use1 𝓛 (‵ (fat p τ bs (i * s + os) v) ⊛ raw (els p bs (i * s + os + s) (drop_l (suc i) us))) (id⊢ 𝓤 _) $ split ! $ rewrite ! 1 (λ (k : ℕ). raw (els p bs k (drop_l (suc i) us))) on refl $
          use1 𝓛 (given (Good E v) (‵ (fat p τ bs (i * s + os) v))) (𝓛.laws.at_wt p τ bs (i * s + os) v) $ learn ! (λ good.
          sets ! (of_opd ! (load ! (through ! refl (stop !)) (look ! 0 refl))) refl good $ move ! (2 ∷ []) $
          use1 𝓛 (‵ (froom τ bd (i * s + od)) ⊛ ‵ (froom (ty_array τ (n - (i + 1))) bd (od + (i + 1) * s))) (spare E 𝓛 bd od i n h) $ split ! $
          assigns_last ! (of_opd ! (get ! refl)) (through ! refl (stop !)) (init ! 0 refl good) $ exec ! 𝓣.C 𝓣.Λ En (counts E) (any_q (Turned t)) $
          sets_last ! (bin ! (get ! refl) (lit ! tt) (record { fits = f₁ })) refl (tt, record { fits = f₁ }) $
          rewrite ! 0 (λ (k : ℕ). ‵ (fat full_share τ bd (k * s + od) v)) (sym long) refl $ move ! (5 ∷ 0 ∷ []) $ use2 𝓛 (raw (els full_share bd od (take i us ++ v ∷ []))) (snoc full_share bd od (take i us) v) $
          rewrite ! 2 (λ (k : ℕ). ‵ (fat p τ bs (k * s + os) v)) (sym long) refl $ move ! (4 ∷ 2 ∷ []) $ use2 𝓛 (raw (els p bs os (take i us ++ v ∷ []))) (snoc p bs os (take i us) v) $
          rewrite ! 0 (λ (ws : List Val). raw (els p bs os ws)) (sym (take_snoc us i vunit inside)) refl $ rewrite ! 1 (λ (ws : List Val). raw (els full_share bd od ws)) (sym (take_snoc us i vunit inside)) refl $
          rewrite ! 2 (λ (k : ℕ). ‵ (froom (ty_array τ (n - k)) bd (od + k * s))) (one_more i) refl $ move ! (3 ∷ 2 ∷ 0 ∷ 1 ∷ []) $
          forget_but ! En (1 ∷ 2 ∷ 3 ∷ 4 ∷ []) refl $ take_at ! 4 $ rewrite ! 0 (λ (k : ℕ). ‵ (fat full_share (ty_int w64) (l 4) zero (vint w64 k))) (one_more i) refl $ give_at ! 4 $
          again ! Nearer Now t (suc i, omega arith) (omega arith)))
          (λ over. let ge : n ≤ i = nltb→le i n over in let all : take i us ≡ us = subst (λ (k : ℕ). take k us ≡ us) (omega arith) (take_all us) in
          jumps ! $ exec ! 𝓣.C 𝓣.Λ En rest (at_ret En Post) $ drop ! $ drop ! $ rewrite ! 0 (λ (ws : List Val). raw (els p bs os ws)) all refl $ rewrite ! 1 (λ (ws : List Val). raw (els full_share bd od ws)) all refl $
          sets ! (of_opd ! (unit_lit !)) refl (tt, tt) $ returns ! (look_at ! 0 refl) $ free_all ! refl $ by ! exits)

    runs_by : ent 𝓤 (sep 𝓤 (sem 𝓛 (fsep (bits_at (R E) p (block_ptr bs os) us) (froom (ty_array τ n) bd od))) (A.lft κ q)) (Goes (block_ptr bs os) (block_ptr bd od) n (p, us))
    runs_by =
        let none = zero-mul s in let from : os ≡ 0 * s + os = omega arith in let to : od ≡ od + 0 * s = omega arith in let all : n ≡ n - 0 = omega arith in
        qed 𝓛 (‵ (fsep (bits_at (R E) p (block_ptr bs os) us) (froom (ty_array τ n) bd od)) ∷ ‵ (flft κ q) ∷ []) ∵ fsplit ! $ use1 𝓛 (raw (els p bs os us)) (𝓛.laws.at_elems p τ (length us) bs os us) $
        rewrite ! 0 (λ (k : ℕ). raw (els p bs k us)) from refl $ rewrite ! 1 (λ (k : ℕ). ‵ (froom (ty_array τ n) bd k)) to refl $ rewrite ! 1 (λ (k : ℕ). ‵ (froom (ty_array τ k) bd (od + 0 * s))) all refl $
        use0 𝓛 (raw (els full_share bd od [])) (id⊢ 𝓤 _) $ use0 𝓛 (raw (els p bs os [])) (id⊢ 𝓤 _) $ move ! (2 ∷ 3 ∷ 0 ∷ 1 ∷ []) $
        enter ! 𝓣.C 𝓣.Λ (fn' E) (vptr bs os ∷ vptr bd od ∷ vint w64 n ∷ []) _ $ alloc_all ! (λ l. pass_all ! refl ((tt, tt), ((tt, tt), ((tt, record { fits = fn }), tt))) $
        sets ! (of_opd ! (lit ! tt)) refl (tt, record { fits = lit< tt }) $ forget_but ! (En l) (1 ∷ 2 ∷ 3 ∷ 4 ∷ []) refl $
        first ! $ blocks ! $ loops ! 𝓣 Nearer (InvImage.wf (λ (t : Left). n - t.0) lt-wf_rel.wf) (Now l) (turns l) (0, omega arith))

  each : (src dst : Ptr) (n : ℕ) (g : Share × List Val) → n < 2 ^ 64 → (n * s < 2 ^ 64) × (length g.1 ≡ n) → ent 𝓤 (sep 𝓤 (sem 𝓛 (fsep (bits_at (R E) g.0 src g.1) (room_at (Array (R E) n) dst))) (A.lft κ q)) (Goes src dst n g)
  each (block_ptr bs os) (block_ptr bd od) n g fn z = runs_by bs os bd od n g.0 g.1 fn z.0 z.1
  each (block_ptr bs os) null_ptr n g fn z = qed 𝓛 (‵ (fsep (bits_at (R E) g.0 (block_ptr bs os) g.1) ffalse) ∷ ‵ (flft κ q) ∷ []) ∵ fsplit ! $ keep ! (1 ∷ []) $ by ! (never_e 𝓤 _)
  each null_ptr dst n g fn z = qed 𝓛 (‵ (fsep ffalse (room_at (Array (R E) n) dst)) ∷ ‵ (flft κ q) ∷ []) ∵ fsplit ! $ keep ! (0 ∷ []) $ by ! (never_e 𝓤 _)

  walk : (src dst : Ptr) (n : ℕ) (g : Share × List Val) → n < 2 ^ 64 → ent 𝓤 ((walk_of 𝓛 (ended E) (stayed E) held).pre (bound src dst n g)) (Goes src dst n g)
  walk src dst n g fn =
      let Said : Type 0 = (array_size (R E) n < 2 ^ 64) × (length g.1 ≡ n) in
      qed 𝓛 (((‵ (flft κ q) ⊛ ‵ ftrue) ⊛ ‵ (owns (RawPtr ∷ RawPtr ∷ usize ∷ []) (src, (dst, (n, tt))) (bound src dst n g).0.4)) ∷ (raw (fact 𝓤 (κ ⊑ E.row.lives)) ⊛ raw (fact 𝓤 Said) ⊛ ‵ (fsep (bits_at (R E) g.0 src g.1) (room_at (Array (R E) n) dst))) ∷ []) ∵
      split ! $ split ! $ keep ! (3 ∷ 0 ∷ []) $ split3 ! $ drop ! $ heard ! Said (λ said. by ! (each src dst n g fn said))

pub copy_words_spec : {M : Type 1} → stated.statement M
unfolding tables_of
copy_words_spec 𝓤 𝓛 𝓜 𝓡 wired X L =
    let E : El = record { row = X; laws = L } in
    let A = 𝓛.A in
    let 𝓣 : Tables 𝓤 𝓛.H = tables_of 𝓤 𝓛.H 𝓜 (tables 𝓤 𝓛.H 𝓜 𝓡 𝓡.env) in
    let held' = F.clauses X 𝓛 𝓜.mem 𝓡.returns in
    let gone = λ (Y : RattleType). Goes-dropped 𝓛 1 (plain (λ _. Y)) yes in
    entered 𝓤 𝓛.H (triple_of 𝓛 (F.signature X) (F.spec X 𝓛 𝓜.mem 𝓡.returns)) 𝓣.C 𝓣.Λ (#self (args E)) (fn' E) (code.unfolded 𝓤 𝓛.H 𝓜 𝓡 wired (X, tt))
    (walk_Meets 𝓛 (ended E) (stayed E) (gone RawPtr (λ κs x f. refl), (gone RawPtr (λ κs x f. refl), (gone usize (λ κs x f. refl), tt))) held' (WpFn 𝓤 𝓛.H 𝓣.C 𝓣.Λ (fn' E)) (WpFn-mono 𝓤 𝓛.H 𝓛.laws 𝓣 (fn' E))
    (walked 𝓛 (ended E) (stayed E) held' (WpFn 𝓤 𝓛.H 𝓣.C 𝓣.Λ (fn' E)) (λ κs. (rawptr_vals, (rawptr_vals, (uint_vals w64, tt)))) (λ κs. (rawptr_Tells, (rawptr_Tells, (uint_Tells w64, tt))))
    (λ κs qs bounds a g are. walk E 𝓛 𝓜.mem 𝓡.returns 𝓣 κs.0 qs.0 a.0 a.1.0 a.1.1.0 g are.1.1.0.1)))
