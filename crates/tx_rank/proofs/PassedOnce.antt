-- What is passed before the end of a walk.
use Rattle.tx_rank.proofs.Common.{ℕ, List, [], ◌∷◌, inl, inr, Among, AllDiffer, before_end, passed}
use Rattle.tx_rank.proofs.Ways.{once_first, once_cons}

before_passed : (x : ℕ) (steps : List (ℕ × ℕ)) (u : ℕ) → Among u (before_end x steps) → Among u (passed x steps)
before_passed x [] u m = absurd m
before_passed x (s ∷ steps) u (inl e) = inl e
before_passed x (s ∷ steps) u (inr m) = inr (before_passed s.1 steps u m)

-- where nothing repeats, nothing before the end does
pub before_once : (x : ℕ) (steps : List (ℕ × ℕ)) → AllDiffer (passed x steps) → AllDiffer (before_end x steps)
before_once x [] d = tt
before_once x (s ∷ steps) d = once_cons x (before_end s.1 steps) (λ m. once_first x (passed s.1 steps) d (before_passed s.1 steps x m)) (before_once s.1 steps d.1)
