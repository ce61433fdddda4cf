-- `none` meets its contract, for every element type. Assumes `Logic`.
use mathlib.Core.Path.{◌≡◌, refl}
use Prim.Native.Nat.{ℕ}
use native.Mathlib.Omega.{arith}
use mathlib.Core.List.{[], ◌∷◌}
use lib.Dec.{lit<}
use seplogic.Ra.Ura.{Ura}
use mir.Val.{Val}
use base.Logic.{SProp, ent, sep, emp, via, fst∗}
use base.Fml.{ftrue}
use prog.Wp.{Calls, Loops, WpFn, Tables}
use sound.WpLaws.{WpFn-mono}
use types.Kit.{‵, ◌⊛◌, ◌$◌, ◌∵◌, !, qed, by, keep, join, fjoin, suffices, done}
use types.Part.{agg}
use types.Run.{stop, from, lit, addr, no_more, and_then, returns, enter}
use denote.RattleType.{owns}
use denote.RawPtr.{block_ptr}
use denote.Signature.{plain}
use denote.Steps.{nothing}
use denote.Triple.Clauses.{Ended, Clauses, closing}
use denote.Triple.Entry.{on_entry}
use denote.Triple.Spec.{Meets}
use denote.Triple.Walked.{Stays, stay_dropped, walk_of, ends_at, Goes-dropped, walk_Meets}
use Rattle.solv_pack.proofs.BlockEl.{El, Vr, el_items, el_len, el_cap, el_make, vec_val, vec_typed, args, P, Hd, handle}
use Rattle.solv_pack.proofs.BlockOpens.{vec_made}
use mir.Syntax.{Fn}
use mir.MapTy.{inst_fn}
use contract.Monad.{fact}
use contract.Running.{tables, tables_of}
use denote.Triple.Spec.{triple_of}
use denote.Triple.Table.{entered}
use Rattle.solv_pack.specs.contracts.block.Block.none.Key.{name as #self}
use Rattle.solv_pack.proofs.block.Block.none.Statement as stated
use Rattle.solv_pack.proofs.block.Block.none.Code as code
use denote.Triple.Table.{run_framed}
use denote.Triple.Carry.{spared}
use Rattle.std.proofs.mem.Timeless.{timeless, timeless_laws}
use types.Kit.{split, drop, fsplit}
use denote.Exit.{no}
use Rattle.std.proofs.alloc.Calls.{Fits, handle_tells}
use mathlib.Core.Path.{sym, subst}
use mathlib.Core.List.{List, ◌++◌}
use types.Run.{of_opd}
use types.ByLocal.{alloc_all, pass_all, free_all, look_at, get, sets}
use types.Logic.{Logic, sem}
use Rattle.std.proofs.mem.Facts.{says_three}

module _ (E : El) where
  abbrev none_ended : Ended
  none_ended = record { signature = record { lifetimes = 0; outlives = []; params = plain (λ _. P E) ∷ []; result = plain (λ _. Vr E) }; kept = (no, tt) }

  abbrev none_clauses : {M : Type 1} {𝓤 : Ura M} (𝓛 : Logic 𝓤) → Clauses 𝓤 none_ended
  none_clauses {𝓤 = 𝓤} 𝓛 κs a = record { ghost = Unit {0}; requires = λ g. emp 𝓤; ensures = λ g r w. sep 𝓤 (fact 𝓤 (el_items E r ≡ [])) (sep 𝓤 (fact 𝓤 (el_len E r ≡ 0)) (fact 𝓤 (el_cap E r ≡ 0))) }

module _ (E : El) where
  abbrev new_in_function : Fn
  new_in_function = inst_fn (args E) code.function

abbrev stayed : (E : El) → Stays (none_ended E).signature.params (none_ended E).kept
stayed E = (stay_dropped (plain (λ _. P E)) no, tt)

module _ (E : El) {M : Type 1} {𝓤 : Ura M} (𝓛 : Logic 𝓤) (C : Calls 𝓤 𝓛.H) (Λ : Loops 𝓤 𝓛.H) (a : Hd E) (vs : List Val) where
  open 𝓛 use {H}

  abbrev Post : Val → SProp 𝓤
  Post = (walk_of 𝓛 (none_ended E) (stayed E) (none_clauses E 𝓛)).post ((tt, tt, tt, (a, tt), (vs, tt)), tt)

  exits : (hv : Val) (b : ℕ) → ent 𝓤 (sem 𝓛 (handle E a hv)) (Post (vec_val E hv b 0 0 0))
  exits hv b =
      let none = el_make E a (block_ptr b 0) 0 0 [] (refl, omega arith) (omega arith) in
      qed 𝓛 (‵ (handle E a hv) ∷ []) ∵ suffices ! _ (ends_at 𝓛 (none_ended E) (stayed E) (none_clauses E 𝓛) ((tt, tt, tt, (a, tt), (vs, tt)), tt) (vec_val E hv b 0 0 0) none.0 (tt, tt) (tt, tt)) $ says_three ! (refl, refl, refl) $
      nothing ! $ vec_made E ! none.0 b 0 0 0 [] (refl, refl, refl, refl) (lit< tt) (lit< tt) (omega arith) $ nothing ! $ nothing ! $ fjoin ! $ join ! $ nothing ! $ join ! $ done !

  walk : (hv : Val) → Fits E.al hv → ent 𝓤 (sem 𝓛 (handle E a hv)) (WpFn 𝓤 H C Λ (new_in_function E) (hv ∷ []) Post)
  walk hv fa =
      qed 𝓛 (‵ (handle E a hv) ∷ []) ∵ enter ! C Λ (new_in_function E) (hv ∷ []) _ $ alloc_all ! (λ l. pass_all ! refl (fa, tt) $
      sets ! (agg ! (no_more !)) refl (tt, tt) $
      sets ! (addr ! (from ! (stop !))) refl (tt, tt) $
      sets ! (of_opd ! (get ! refl)) refl fa $
      sets ! (agg ! (and_then ! (get ! refl) (and_then ! (lit ! tt) (and_then ! (lit ! tt) (and_then ! (get ! refl) (no_more !)))))) refl (vec_typed E hv (l 2) 0 0 0 fa (lit< tt) (lit< tt)) $
      returns ! (look_at ! 0 refl) $ free_all ! refl $ keep ! (0 ∷ []) $ by ! (exits hv (l 2)))

  entry : ent 𝓤 (on_entry 𝓛 (none_ended E).signature tt tt (a, tt) (vs, tt)) (WpFn 𝓤 H C Λ (new_in_function E) (vs ++ []) Post)
  entry =
      qed 𝓛 ((‵ ftrue ⊛ ‵ (owns (P E ∷ []) (a, tt) (vs, tt))) ∷ []) ∵ split ! $ drop ! $ fsplit ! $ handle_tells E.al ! a vs (λ hv is fa. keep ! (0 ∷ []) $
      by ! (subst (λ (ws : List Val). ent 𝓤 (sem 𝓛 (handle E a hv)) (WpFn 𝓤 H C Λ (new_in_function E) (ws ++ []) Post)) (sym is) (walk hv fa)))

meets : (E : El) {M : Type 1} {𝓤 : Ura M} (𝓛 : Logic 𝓤) (𝓣 : Tables 𝓤 𝓛.H) → Meets 𝓛 (none_ended E).signature (WpFn 𝓤 𝓛.H 𝓣.C 𝓣.Λ (new_in_function E)) (closing 𝓛 (none_ended E) (none_clauses E 𝓛))
meets E {𝓤 = 𝓤} 𝓛 𝓣 =
    walk_Meets 𝓛 (none_ended E) (stayed E) (Goes-dropped 𝓛 0 (plain (λ _. P E)) no (λ κs x f. refl), tt) (none_clauses E 𝓛) (WpFn 𝓤 𝓛.H 𝓣.C 𝓣.Λ (new_in_function E)) (WpFn-mono 𝓤 𝓛.H 𝓛.laws 𝓣 (new_in_function E))
    (λ z. via 𝓤 _ (fst∗ 𝓤 _ (emp 𝓤)) (entry E 𝓛 𝓣.C 𝓣.Λ z.0.3.0 z.0.4.0))

pub none_spec : {M : Type 1} → stated.statement M
unfolding tables_of
none_spec 𝓤 𝓛 𝓜 𝓡 wired X Z L LZ g d dd met md y =
    let E : El = record { row = timeless X; laws = timeless_laws X L; al = record { row = Z; laws = LZ; g = g; d = d; drops = dd } } in
    let A = 𝓛.A in
    let 𝓣 : Tables 𝓤 𝓛.H = tables_of 𝓤 𝓛.H 𝓜 (tables 𝓤 𝓛.H 𝓜 𝓡 𝓡.env) in
    spared 𝓛 (none_ended E).signature (𝓡.run (𝓡.env (#self (args E)))) (run_framed 𝓤 𝓛.H 𝓜 𝓡 (𝓡.env (#self (args E)))) 2 (X.lives, (Z.lives, tt)) (closing 𝓛 (none_ended E) (none_clauses E 𝓛))
    (entered 𝓤 𝓛.H (triple_of 𝓛 (none_ended E).signature (closing 𝓛 (none_ended E) (none_clauses E 𝓛))) 𝓣.C 𝓣.Λ (#self (args E)) (inst_fn (args E) code.function) (code.unfolded 𝓤 𝓛.H 𝓜 𝓡 wired (E.row, (Z, tt)) d dd)
    (meets E 𝓛 𝓣))
    ((y.0.0, y.0.1, tt, y.0.3, y.0.4), y.1)
