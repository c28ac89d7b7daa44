-- What the ranking of one code adds to the findings, in each case.
use Rattle.tx_rank.proofs.Common.{◌≡◌, ℕ, List, [], ◌∷◌, ◌++◌, map, Option, Some, None, refl, sym, ap, ◌∙◌, append_assoc, append-nil, Among, Finding, Loop, Short, Long, Net, Walk, end_of, IsLoop, IsShort, IsLong, IsNet, end_at, looped, straight, AreSettled, IsJudged, LowOrigins, AddsShorts}
use Rattle.tx_rank.proofs.Walked.{loops_none, longs_none, certifies, heights}

abbrev shorts : {A : Type 0} → ℕ → List Walk → List (Finding A)
shorts code ws = map (Short code) ws

module _ {A : Type 0} (n : Net) (code limit spare : ℕ) where
  -- a walk is a loop
  pub judged_loop : (old : List (Finding A)) (ranks : ℕ → Option ℕ) (w : Walk) → IsLoop n w.start w.steps → IsJudged n code limit spare old (old ++ Loop code w ∷ []) ranks
  judged_loop old ranks w l =
      record { mine = Loop code w ∷ []; added = refl; listed = looped w l refl; heights = λ e. absurd (let bad : ⊥ = cc in bad); certified = λ e. absurd (let bad : ⊥ = cc in bad) }

  module _ (ranks : ℕ → Option ℕ) (done : AreSettled n ranks) (old new : List (Finding A)) (a : AddsShorts n code spare old new) where
    -- a walk is long
    pub judged_long : (w : Walk) → IsLong n limit w.start w.steps → IsJudged n code limit spare old (new ++ Long code w ∷ []) ranks
    judged_long w l =
        record {
          mine = map (Short code) a.walks ++ Long code w ∷ [];
          added = ap (λ k. k ++ Long code w ∷ []) a.added ∙ append_assoc old (map (Short code) a.walks) (Long code w ∷ []);
          listed = straight (loops_none n ranks done) a.walks a.found (Some w) l refl;
          heights = λ e. absurd (some_long (map (Short code) a.walks) e);
          certified = λ e. absurd (some_long (map (Short code) a.walks) e);
        }
      where
        some_long : (fs : List (Finding A)) → fs ++ Long code w ∷ [] ≡ [] → ⊥
        some_long [] e = cc
        some_long (f ∷ fs) e = cc

    -- none is
    pub judged_none : IsNet n → LowOrigins n ranks limit → IsJudged n code limit spare old new ranks
    judged_none net low =
        record {
          mine = map (Short code) a.walks;
          added = a.added;
          listed = straight (loops_none n ranks done) a.walks a.found None (longs_none n ranks done limit low) (sym (append-nil (map (Short code) a.walks)));
          heights = λ e. heights n ranks done net spare (no_short e);
          certified = λ e. certifies n ranks done limit spare low (no_short e);
        }
      where
        nothing : (ws : List Walk) → shorts {A = A} code ws ≡ [] → (y : ℕ) → Among y (map end_at ws) → ⊥
        nothing [] e y m = m
        nothing (w ∷ ws) e y m = cc

        no_short : shorts {A = A} code a.walks ≡ [] → (x : ℕ) (steps : List (ℕ × ℕ)) → IsShort n spare x steps → ⊥
        no_short e x steps s = nothing a.walks e (end_of x steps) (a.found.all x steps s)
