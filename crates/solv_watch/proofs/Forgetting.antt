-- Which heads lead somewhere.
use Rattle.std.proofs.Common.{◌≡◌, ℕ, ◌<◌, ◌≤◌, ◌⊎◌, List, [], ◌∷◌, length, get_or, inl, inr, refl, sym, subst, arith}
use Rattle.std.specs.Prelude.{ℤ}
use Rattle.solv_watch.specs.Inner.Chains.{no_link, Has, IsChain}
use Rattle.solv_watch.specs.Inner.Watching.{place_at, AreChained, AreHeads}

-- a head that leads somewhere leads to a watch, which is at its literal
pub heads_of : (count : ℕ) (rules : List (List ℤ)) (heads links : List ℕ) (watched : List ℤ) → AreChained count rules heads links watched → AreHeads count heads watched
heads_of count rules heads links watched h = record { room = h.room; each = λ p n. go p (h.chain p) refl (h.hung.linked p n) }
  where
    go : (p : ℕ) (ws : List ℕ) → h.chain p ≡ ws → IsChain links (get_or heads p 0) (h.chain p) → (get_or heads p 0 ≡ no_link) ⊎ ((w : ℕ) × ((0 ≤ w) × ((w < length watched) × (place_at watched w ≡ p))))
    go p [] e k = inl (let P : List ℕ → Type 0 = λ v. IsChain links (get_or heads p 0) v in subst P e k)
    go p (w ∷ ws) e k =
        let P : List ℕ → Type 0 = λ v. Has v w in
        let o = h.hung.own p w (subst P (sym e) (inl refl)) in
        let n : w < length links = o.0 in
        inr (w, (omega arith, (omega (arith, h.linked, h.two), o.2)))

-- where no rule hangs, no head leads somewhere
pub leads_nowhere : (count : ℕ) (heads links : List ℕ) (watched : List ℤ) → AreChained count [] heads links watched → (p : ℕ) → p < length heads → get_or heads p 0 ≡ no_link
leads_nowhere count heads links watched h p n = elim ((heads_of count [] heads links watched h).each p n) [
  | inl e ↦ e
  | inr f ↦ let less : f.0 < length watched = f.1.1.0 in absurd (omega (arith, less, h.two))
]

pub none_watched : (count : ℕ) (heads links : List ℕ) (watched : List ℤ) → AreChained count [] heads links watched → watched ≡ []
none_watched count heads links [] h = refl
none_watched count heads links (w ∷ ws) h = absurd (omega (arith, h.two))
