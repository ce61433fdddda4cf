-- What a learnt clause makes of the watches, from the cut on.
use Rattle.std.proofs.Common.{◌≡◌, ℕ, zero, suc, ◌+◌, ◌-◌, ◌*◌, ◌^◌, ◌<◌, ◌≤◌, Bool, true, false, List, [], ◌∷◌, ◌++◌, length, take, get_or, Option, Some, None, inl, inr, refl, sym, ap, ◌∙◌, subst, arith, take_at, take-take}
use Rattle.std.specs.Prelude.{ℤ, neg_ℤ, slice_get}
use Rattle.std.specs.List.{list_all}
use Rattle.std.proofs.lemmas.Bool.{and_parts, cases_Bool, cases_lt, false≢true}
use Rattle.std.proofs.lemmas.List.{length_push, length-take-le, get_or-take}
use Rattle.solv_pool.specs.Prelude.{is_fact, is_refuted, is_open}
use Rattle.solv_derive.specs.Forced.{forced}
use Rattle.solv_derive.proofs.Facts.{open_parts, known_here, same_self}
use Rattle.solv_watch.specs.Inner.Chains.{no_link}
use Rattle.solv_watch.specs.Inner.Spares.{AreTwoOf}
use Rattle.solv_watch.proofs.Pairs.{two_flip, without_here}
use Rattle.solv_trail.specs.Inner.Derivation.{IsConsistent, IsQuiet}
use Rattle.solv_trail.specs.Walk.{asserts}
use Rattle.solv_trail.proofs.Walk.{take_known}
use Rattle.solv_watch.specs.Inner.Watching.{literal_of, AreGuards, Each, IsKeptAtChoices, IsKeptUpto, always}
use Rattle.solv_watch.specs.Inner.Watching.{AreChained, AreChainedTo}
use Rattle.solv_watch.specs.Inner.Propagating.{AreKeptAtChoices, AreReady}
use Rattle.solv_watch.specs.declared.chains.Watches.{Watches}
use Rattle.solv_trail.specs.Inner.Held.{Held}
use Rattle.solv_watch.proofs.Chained.{chained_more, all_chained}
use Rattle.solv_watch.proofs.Keeping.{kept_cut, kept_grown, kept_choices_grown, lone_forces}
use Rattle.solv_watch.proofs.Learning.{learnt_wide, learnt_lone, last_late}

-- what is known after a cut and the asserted literal
abbrev pub lits_after : List ℤ → List ℕ → ℕ → ℤ → List ℤ
lits_after lits marks back x = take (get_or marks back 0) lits ++ x ∷ []

module _ (lits : List ℤ) (marks : List ℕ) (back : ℕ) (x : ℤ) (rest : List ℤ) (few : back < length marks) (rising : (i k : ℕ) → i < k → k < length marks → get_or marks i 0 < get_or marks k 0)
    (apart : IsConsistent lits) (asserted : asserts (take (get_or marks back 0) lits) (x ∷ rest) ≡ true) (quiet : (k : ℕ) → k < back → IsQuiet (take (get_or marks k 0) lits) (x ∷ rest)) where
  open_now : (is_fact (take (get_or marks back 0) lits) x ≡ false) × (is_refuted (take (get_or marks back 0) lits) x ≡ false)
  open_now = open_parts (take (get_or marks back 0) lits) x (and_parts (is_open (take (get_or marks back 0) lits) x) (list_all (is_refuted (take (get_or marks back 0) lits)) rest) asserted).0

  -- the rules that were there
  pub before_kept : (rules : List (List ℤ)) (used : ℕ → Bool) (watched : List ℤ) → IsKeptAtChoices rules used watched lits marks
      → IsKeptAtChoices rules used watched (lits_after lits marks back x) (take back marks) × IsKeptUpto rules used watched (lits_after lits marks back x) (length (lits_after lits marks back x) - 1)
  before_kept rules used watched kept =
      let K : List ℤ = take (get_or marks back 0) lits in
      let within : get_or marks back 0 ≤ length lits = (kept.guards back few).0 in
      let size : length K ≡ get_or marks back 0 = length-take-le (get_or marks back 0) lits within in
      let cut = kept_cut rules used watched lits marks back few rising kept in
      let long : length (K ++ x ∷ []) ≡ length K + 1 = length_push K x in
      let front : take (length K) (K ++ x ∷ []) ≡ K = take_at K (x ∷ []) (length K) refl in
      let more : length K ≤ length (K ++ x ∷ []) = omega arith in
      let P : ℕ → Type 0 = λ n. IsKeptUpto rules used watched (K ++ x ∷ []) n in
      let e : get_or marks back 0 ≡ length (K ++ x ∷ []) - 1 = omega arith in (
        kept_choices_grown K (K ++ x ∷ []) more front rules used watched (take back marks) cut.0,
        subst P e (kept_grown K (K ++ x ∷ []) more front rules used watched (get_or marks back 0) (omega arith) cut.1),
      )

  module _ (learnt : List (List ℤ)) (watched : List ℤ) (two : length watched ≡ 2 * length learnt) (kept : IsKeptAtChoices learnt always watched lits marks) where
    K : List ℤ
    K = take (get_or marks back 0) lits

    -- with another literal, which was known last
    pub entered_wide : (last : ℤ) → is_fact rest last ≡ true → ((e : ℕ) → is_refuted (take e lits) last ≡ true → (m : ℤ) → is_fact rest m ≡ true → is_refuted (take e lits) m ≡ true)
        → IsKeptAtChoices (learnt ++ (x ∷ rest) ∷ []) always (watched ++ x ∷ last ∷ []) (lits_after lits marks back x) (take back marks)
        × IsKeptUpto (learnt ++ (x ∷ rest) ∷ []) always (watched ++ x ∷ last ∷ []) (lits_after lits marks back x) (length (lits_after lits marks back x) - 1)
    entered_wide last among latest =
        let T : List ℤ = take (get_or marks back 0) lits in
        let within : get_or marks back 0 ≤ length lits = (kept.guards back few).0 in
        let size : length T ≡ get_or marks back 0 = length-take-le (get_or marks back 0) lits within in
        let cut = kept_cut learnt always watched lits marks back few rising kept in
        let U : ℕ → Type 0 = λ n. IsKeptUpto learnt always watched T n in
        let long : length (T ++ x ∷ []) ≡ length T + 1 = length_push T x in
        let count : length (take back marks) ≡ back = length-take-le back marks (omega arith) in
        let wide : 2 ≤ length (x ∷ rest) = some_more rest last among in
        let late : (k : ℕ) → k < length (take back marks) → is_refuted (take (get_or (take back marks) k 0) T) last ≡ false = λ k h.
        let below : k < back = omega arith in
        let order : get_or marks k 0 < get_or marks back 0 = rising k back below few in
        let same : take (get_or (take back marks) k 0) T ≡ take (get_or marks k 0) lits = ap (λ n. take n T) (get_or-take back marks k 0 below) ∙ take-take (get_or marks k 0) (get_or marks back 0) lits (omega arith) in
        ap (λ xs. is_refuted xs last) same ∙ last_late lits (x ∷ rest) rest x last (get_or marks k 0) (get_or marks back 0) (omega arith) apart refl asserted (quiet k below) (latest (get_or marks k 0)) in
        let r = learnt_wide learnt watched T (take back marks) x two cut.0 (subst U (sym size) cut.1) (x ∷ rest) last wide open_now.1 late in
        let P : ℕ → Type 0 = λ n. IsKeptUpto (learnt ++ (x ∷ rest) ∷ []) always (watched ++ x ∷ last ∷ []) (T ++ x ∷ []) n in
        let e : length T ≡ length (T ++ x ∷ []) - 1 = omega arith in
        (r.0, subst P e r.1)
      where
        some_more : (ls : List ℤ) (l : ℤ) → is_fact ls l ≡ true → 2 ≤ length (x ∷ ls)
        some_more [] l h = absurd (false≢true h)
        some_more (m ∷ ls) l h = omega arith

    -- alone: then no choice is left
    pub entered_lone : (a b : ℤ) → rest ≡ []
        → IsKeptAtChoices (learnt ++ (x ∷ rest) ∷ []) always (watched ++ a ∷ b ∷ []) (lits_after lits marks back x) (take back marks)
        × IsKeptUpto (learnt ++ (x ∷ rest) ∷ []) always (watched ++ a ∷ b ∷ []) (lits_after lits marks back x) (length (lits_after lits marks back x) - 1)
    entered_lone a b alone =
        let T : List ℤ = take (get_or marks back 0) lits in
        let within : get_or marks back 0 ≤ length lits = (kept.guards back few).0 in
        let size : length T ≡ get_or marks back 0 = length-take-le (get_or marks back 0) lits within in
        let cut = kept_cut learnt always watched lits marks back few rising kept in
        let U : ℕ → Type 0 = λ n. IsKeptUpto learnt always watched T n in
        let long : length (T ++ x ∷ []) ≡ length T + 1 = length_push T x in
        let first : back ≡ 0 = none_before in
        let none_left : take back marks ≡ [] = ap (λ n. take n marks) first in
        let r = learnt_lone learnt watched T (take back marks) x two cut.0 (subst U (sym size) cut.1) a b none_left in
        let e : length T ≡ length (T ++ x ∷ []) - 1 = omega arith in
        let C : List ℤ → Type 0 = λ t. IsKeptAtChoices (learnt ++ (x ∷ t) ∷ []) always (watched ++ a ∷ b ∷ []) (T ++ x ∷ []) (take back marks) in
        let P : ℕ → List ℤ → Type 0 = λ n t. IsKeptUpto (learnt ++ (x ∷ t) ∷ []) always (watched ++ a ∷ b ∷ []) (T ++ x ∷ []) n in
        (subst C (sym alone) r.0, subst (λ t. P (length (T ++ x ∷ []) - 1) t) (sym alone) (subst (λ n. P n []) e r.1))
      where
        none_before : back ≡ 0
        none_before = elim (cases_lt 0 back) [
          | inr h ↦ omega arith
          | inl h ↦
              let E : List ℤ = take (get_or marks 0 0) lits in
              let L : List ℤ = take (get_or marks back 0) lits in
              let order : get_or marks 0 0 < get_or marks back 0 = rising 0 back h few in
              let inside : (l : ℤ) → is_fact E l ≡ true → is_fact L l ≡ true = λ l k. take_known L (get_or marks 0 0) l (ap (λ xs. is_fact xs l) (take-take (get_or marks 0 0) (get_or marks back 0) lits (omega arith)) ∙ k) in
              let not_fact : is_fact E x ≡ false = elim (cases_Bool (is_fact E x)) [ inl k ↦ absurd (false≢true (sym open_now.0 ∙ inside x k)) | inr k ↦ k ] in
              let not_false : is_refuted E x ≡ false = elim (cases_Bool (is_refuted E x)) [ inl k ↦ absurd (false≢true (sym open_now.1 ∙ inside (neg_ℤ x) k)) | inr k ↦ k ] in
              let F : List ℤ → Type 0 = λ t. forced E (x ∷ t) ≡ None in
              let none_forced : forced E (x ∷ []) ≡ None = subst F alone (quiet 0 h).forces_none in
              absurd (clash (forced E (x ∷ [])) (lone_forces E x not_fact not_false) none_forced)
        ]
          where
            clash : (o : Option ℤ) → o ≡ Some x → o ≡ None → ⊥
            clash o e f = cc

-- the facts on both memories together
pub concluded : (book learnt2 learnt : List (List ℤ)) (used : ℕ → Bool) (watches : Watches) (new : Held) (lits watched : List ℤ) (marks : List ℕ) → learnt2 ≡ learnt → watches.learnt.watched.items ≡ watched → new.lits ≡ lits → new.marks ≡ marks
    → IsKeptAtChoices book used watches.book.watched.items lits marks × IsKeptUpto book used watches.book.watched.items lits (length lits - 1)
    → IsKeptAtChoices learnt always watched lits marks × IsKeptUpto learnt always watched lits (length lits - 1)
    → AreKeptAtChoices book learnt2 used watches new × AreReady book learnt2 used watches new
concluded book learnt2 learnt used watches new lits watched marks e f g h b l =
    let C : List (List ℤ) → List ℤ → Type 0 = λ rs w. IsKeptAtChoices rs always w new.lits new.marks in
    let U : List (List ℤ) → List ℤ → Type 0 = λ rs w. IsKeptUpto rs always w new.lits (length new.lits - 1) in
    let bc : IsKeptAtChoices book used watches.book.watched.items new.lits new.marks = rw (g, h) (b.0) in
    let bu : IsKeptUpto book used watches.book.watched.items new.lits (length new.lits - 1) = rw g (b.1) in
    let lc : C learnt watched = rw (g, h) (l.0) in
    let lu : U learnt watched = rw g (l.1) in
    let here : U learnt watched → U learnt2 watches.learnt.watched.items = λ u. subst (λ rs. U rs watches.learnt.watched.items) (sym e) (subst (U learnt) (sym f) u) in (
      record { book_choices = bc; learnt_choices = subst (λ rs. C rs watches.learnt.watched.items) (sym e) (subst (C learnt) (sym f) lc) },
      record { guards = bu.guards; narrow = λ k. bu.narrow; learnt_guards = (here lu).guards; learnt_narrow = λ k. (here lu).narrow },
    )

-- a rule was appended and hung
pub chained_after : (count n : ℕ) (rules : List (List ℤ)) (d : List ℤ) (heads links : List ℕ) (watched : List ℤ) (rules1 : List (List ℤ)) (links1 : List ℕ) (watched1 : List ℤ) (heads2 links2 : List ℕ) (watched2 : List ℤ)
    → AreChained count rules heads links watched → length rules < 2 ^ 28 → n ≡ length rules → rules1 ≡ rules ++ d ∷ [] → links1 ≡ links ++ no_link ∷ no_link ∷ [] → watched1 ≡ watched
    → (AreChainedTo count n rules1 heads links1 watched1 → AreChainedTo count (n + 1) rules1 heads2 links2 watched2) → AreChained count rules1 heads2 links2 watched2
chained_after count n rules d heads links watched rules1 links1 watched1 heads2 links2 watched2 chained few e f g h step =
    let before : AreChainedTo count n rules1 heads links1 watched1 = rw (e, f, g, h) (chained_more count rules heads links watched d no_link no_link few chained) in
    let long : length rules1 ≡ n + 1 = ap (λ v. length v) f ∙ length_push rules d ∙ ap (λ v. v + 1) (sym e) in
    let P : ℕ → Type 0 = λ v. AreChainedTo count v rules1 heads2 links2 watched2 in
    all_chained count rules1 heads2 links2 watched2 (subst P (sym long) (step before))

pub get_last : (rules : List (List ℤ)) (d : List ℤ) (r : ℕ) → r ≡ length rules → slice_get (rules ++ d ∷ []) r ≡ Some d
get_last [] d zero h = refl
get_last [] d (suc r) h = absurd (omega arith)
get_last (x ∷ rules) d zero h = absurd (omega arith)
get_last (x ∷ rules) d (suc r) h = get_last rules d r (omega arith)

pub two_of : (x l : ℤ) (rest : List ℤ) → is_fact rest l ≡ true → AreTwoOf x l (x ∷ rest)
two_of x l rest h = two_flip l x (x ∷ rest) (record { second = known_here x rest; first = ap (λ c. is_fact c l) (without_here x x rest (same_self x)) ∙ h })

pub some_behind : (x l : ℤ) (rest : List ℤ) → is_fact rest l ≡ true → 2 ≤ length (x ∷ rest)
some_behind x l [] h = absurd (false≢true h)
some_behind x l (m ∷ ls) h = omega arith

-- where nothing is known, all holds
pub nothing_known : (book learnt : List (List ℤ)) (used : ℕ → Bool) (watches : Watches) (held : Held) → held.lits ≡ [] → held.marks ≡ [] → AreKeptAtChoices book learnt used watches held × AreReady book learnt used watches held
nothing_known book learnt used watches held none_lits none_marks =
    let few : length held.marks ≡ 0 = ap (λ m. length m) none_marks in
    let short : length held.lits ≡ 0 = ap (λ m. length m) none_lits in
    let void : (rules : List (List ℤ)) (u : ℕ → Bool) (w : List ℤ) → AreGuards rules u w Each (take (length held.lits - 1) held.lits) held.lits = λ rules u w v is on h r.
    absurd (false≢true (ap (λ xs. is_fact xs (neg_ℤ (literal_of w v))) (sym none_lits) ∙ take_known held.lits (length held.lits - 1) (neg_ℤ (literal_of w v)) r)) in (
      record {
        book_choices = record { guards = λ k h. absurd (omega arith); narrow = λ k h. absurd (omega arith) };
        learnt_choices = record { guards = λ k h. absurd (omega arith); narrow = λ k h. absurd (omega arith) };
      },
      record {
        guards = void book used watches.book.watched.items;
        narrow = λ h. absurd (omega arith);
        learnt_guards = void learnt always watches.learnt.watched.items;
        learnt_narrow = λ h. absurd (omega arith);
      },
    )
