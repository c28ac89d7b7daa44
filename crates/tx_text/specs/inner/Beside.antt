-- Lines that speak of something that stays as it is, as a plan.
use Rattle.std.specs.Prelude.{ℕ, List, Result}
use Rattle.std.specs.Result.{result_map_both}

-- what a line declares, where the state has beside it what the lines speak of
abbrev pub beside : {C S W : Type 0} → (C → ℕ → S → List (List ℕ) → Result S W)
    → ℕ → C × S → List (List ℕ) → Result (C × S) W
beside declare v s ws = result_map_both (λ r. (s.0, r)) (λ x. x) (declare s.0 v s.1 ws)

-- an answer without what stays as it is
abbrev pub without : {C S E : Type 0} → Result (C × S) E → Result S E
without r = result_map_both (λ s. s.1) (λ x. x) r
