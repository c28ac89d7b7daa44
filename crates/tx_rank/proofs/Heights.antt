-- Ranks of a pass after which each ranked exchange but the home lists a group are heights.
use Rattle.tx_rank.proofs.Common.{◌≡◌, ◌≢◌, ℕ, zero, suc, true, false, eqb, List, [], ◌∷◌, length, Option, Some, refl, ap, arith, eqb-true, eqb-false, Among, Net, Goes, end_of, AreSettled}
use Rattle.tx_rank.specs.Heights.{IsHeight, RanksByHeight}
use Rattle.tx_rank.proofs.Ranks.{all_down, falling, reached_ranked, one_lower}

module _ (n : Net) (ranks : ℕ → Option ℕ) (done : AreSettled n ranks) where
  -- each exchange of a walk but the home lists a group
  abbrev pub Stocked : Type 0
  Stocked = (x r : ℕ) → ranks x ≡ Some r → x ≢ n.home → (g : ℕ) × Among g (n.list x)

  module _ (stocked : Stocked) where
    pub record IsWay (x h : ℕ) : Type 0 where
      pub steps : List (ℕ × ℕ)
      pub goes : Goes n x steps
      pub ends : end_of x steps ≡ n.home
      pub count : length steps ≡ h

    pub way : (h x : ℕ) → ranks x ≡ Some h → IsWay x h
    way zero x ranked =
        elim (eqb x n.home) as (λ b. eqb x n.home ≡ b → IsWay x zero) [
          | true ↦ λ e. record { steps = []; goes = tt; ends = eqb-true x n.home e; count = refl }
          | false ↦ λ e. absurd (let p = (done.settled x zero ranked (eqb-false x n.home e)).positive in omega arith)
        ] refl
    way (suc h) x ranked =
        elim (eqb x n.home) as (λ b. eqb x n.home ≡ b → IsWay x (suc h)) [
          | true ↦ λ e. let at : x ≡ n.home = eqb-true x n.home e in let bad : ⊥ = let z = ap ranks at in let d = done.home in cc in absurd bad
          | false ↦ λ e.
              let away = eqb-false x n.home e in
              let one = one_lower n ranks done x h (stocked x (suc h) ranked away).0 (stocked x (suc h) ranked away).1 away ranked in
              let rest = way h one.to one.ranked in
              record { steps = (one.group, one.to) ∷ rest.steps; goes = (away, one.listed, one.leads, rest.goes); ends = rest.ends; count = ap suc rest.count }
        ] refl

    pub height : (x h : ℕ) → ranks x ≡ Some h → IsHeight n x h
    height x h ranked =
        let w = way h x ranked in
        record {
          steps = w.steps;
          goes = w.goes;
          ends = w.ends;
          count = w.count;
          longest = λ ways go end. let down = all_down n ranks (falling n ranks done) x h ways ranked go in let b = down.within in omega arith;
        }

    pub ranking : RanksByHeight n ranks
    ranking = record { home = done.home; reached = λ x h. reached_ranked n ranks done x h; ranked = done.ranked; heights = height }
