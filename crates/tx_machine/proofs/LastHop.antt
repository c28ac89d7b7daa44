-- The last hop.
use Rattle.tx_machine.proofs.Common.{◌≡◌, ℕ, suc, ◌-◌, List, [], ◌∷◌, length, Some, ap, subst, arith, slice_get, Hop, last_exchange}

pub last_is : (start : ℕ) (hops : List Hop) (h : Hop) → slice_get hops (length hops - 1) ≡ Some h → last_exchange start hops ≡ h.far
last_is start [] h e = let bad : ⊥ = cc in absurd bad
last_is start (k ∷ []) h e = let same : k ≡ h = cc in ap (λ (z : Hop). z.far) same
last_is start (k ∷ l ∷ hops) h e = last_is k.far (l ∷ hops) h (subst (λ n. slice_get (l ∷ hops) n ≡ Some h) (let q : length hops ≡ suc (length hops) - 1 = omega arith in q) (at_suc (length hops) (subst (λ n. slice_get (k ∷ l ∷ hops) n ≡ Some h) (let q : suc (suc (length hops)) - 1 ≡ suc (length hops) = omega arith in q) e)))
  where
    at_suc : (n : ℕ) → slice_get (k ∷ l ∷ hops) (suc n) ≡ Some h → slice_get (l ∷ hops) n ≡ Some h
    at_suc n e = e
