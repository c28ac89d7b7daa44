-- What ranks that fall along each step say of all walks.
use Rattle.tx_rank.proofs.Common.{◌≡◌, ◌≢◌, ℕ, suc, ◌+◌, ◌≤◌, true, List, [], ◌∷◌, length, inl, inr, Option, Some, sym, ap, ◌∙◌, arith, Among, Net, AllDiffer, Goes, end_of, before_end, passed, IsLoop, IsReached, AreSettled}
use Rattle.tx_rank.specs.Nets.{LeadsBelow}
use Rattle.tx_rank.proofs.Ways.{once_cons}

-- each step from a ranked exchange leads to a smaller rank
pub record Falls (n : Net) (ranks : ℕ → Option ℕ) : Type 0 where
  pub lower : (x r : ℕ) → ranks x ≡ Some r → x ≢ n.home → (g : ℕ) → Among g (n.list x) → LeadsBelow n ranks x r g

-- x is ranked, and d steps or more above nothing
pub record IsAbove (ranks : ℕ → Option ℕ) (x d r : ℕ) : Type 0 where
  pub rank : ℕ
  pub ranked : ranks x ≡ Some rank
  pub within : d + rank ≤ r

module _ (n : Net) (ranks : ℕ → Option ℕ) (falls : Falls n ranks) where
  -- a step leads down
  pub one_down : (x r : ℕ) (g y : ℕ) → ranks x ≡ Some r → x ≢ n.home → Among g (n.list x) → n.far g x ≡ Some y → IsAbove ranks y 1 r
  one_down x r g y ranked away m leads =
      let low = falls.lower x r ranked away g m in
      let same : low.to ≡ y = let e = low.leads in cc in
      record { rank = low.rank; ranked = ap ranks (sym same) ∙ low.ranked; within = let b = low.below in omega arith }

  pub all_down : (x r : ℕ) (steps : List (ℕ × ℕ)) → ranks x ≡ Some r → Goes n x steps → IsAbove ranks (end_of x steps) (length steps) r
  all_down x r [] ranked go = record { rank = r; ranked = ranked; within = omega arith }
  all_down x r (s ∷ steps) ranked go =
      let one = one_down x r s.0 s.1 ranked go.0 go.1 go.2 in
      let rest = all_down s.1 one.rank steps one.ranked go.3 in
      record { rank = rest.rank; ranked = rest.ranked; within = let a = one.within in let b = rest.within in omega arith }

  -- an exchange before the last is ranked higher than the last
  pub before_down : (x r : ℕ) (steps : List (ℕ × ℕ)) (z : ℕ) → ranks x ≡ Some r → Goes n x steps → Among z (before_end x steps) → (m : ℕ) × (ranks z ≡ Some m) × IsAbove ranks (end_of x steps) 1 m
  before_down x r [] z ranked go m = absurd m
  before_down x r (s ∷ steps) z ranked go (inl e) =
      let all = all_down x r (s ∷ steps) ranked go in
      (r, ap ranks (sym e) ∙ ranked, record { rank = all.rank; ranked = all.ranked; within = let a = all.within in omega arith })
  before_down x r (s ∷ steps) z ranked go (inr h) =
      let one = one_down x r s.0 s.1 ranked go.0 go.1 go.2 in before_down s.1 one.rank steps z one.ranked go.3 h

  pub no_loop : (origins : (x : ℕ) → n.is_origin x ≡ true → (r : ℕ) × (ranks x ≡ Some r)) (x : ℕ) (steps : List (ℕ × ℕ)) → IsLoop n x steps → ⊥
  no_loop origins x steps loop =
      let o = origins x loop.walk.origin in
      let low = before_down x o.0 steps (end_of x steps) o.1 loop.walk.goes loop.again in
      let under = low.2 in
      let same : low.0 ≡ under.rank = let a = low.1 in let b = under.ranked in cc in
      absurd (let w = under.within in omega arith)

  -- where each exchange of a walk is ranked, no walk passes one twice
  pub once_down : (x r : ℕ) (steps : List (ℕ × ℕ)) → ranks x ≡ Some r → Goes n x steps → AllDiffer (passed x steps)
  once_down x r [] ranked go = (tt, tt)
  once_down x r (s ∷ steps) ranked go =
      let one = one_down x r s.0 s.1 ranked go.0 go.1 go.2 in
      let no : Among x (passed s.1 steps) → ⊥ = λ m. let p = passed_down s.1 one.rank steps x one.ranked go.3 m in let same : p.0 ≡ r = let a = p.1 in cc in absurd (let b = p.2 in let c = one.within in omega arith) in
      once_cons x (passed s.1 steps) no (once_down s.1 one.rank steps one.ranked go.3)
    where
      passed_down : (x r : ℕ) (steps : List (ℕ × ℕ)) (z : ℕ) → ranks x ≡ Some r → Goes n x steps → Among z (passed x steps) → (m : ℕ) × (ranks z ≡ Some m) × (m ≤ r)
      passed_down x r [] z ranked go m = elim m [ inl e ↦ (r, ap ranks (sym e) ∙ ranked, omega arith) | inr b ↦ absurd b ]
      passed_down x r (s ∷ steps) z ranked go (inl e) = (r, ap ranks (sym e) ∙ ranked, omega arith)
      passed_down x r (s ∷ steps) z ranked go (inr h) =
          let one = one_down x r s.0 s.1 ranked go.0 go.1 go.2 in
          let i = passed_down s.1 one.rank steps z one.ranked go.3 h in
          (i.0, i.1, let a = one.within in let b = i.2 in omega arith)

-- what settled ranks say
module _ (n : Net) (ranks : ℕ → Option ℕ) (done : AreSettled n ranks) where
  pub falling : Falls n ranks
  falling = record { lower = λ x r ranked away. (done.settled x r ranked away).lower }

  pub reached_ranked : (x : ℕ) → IsReached n x → (r : ℕ) × (ranks x ≡ Some r)
  reached_ranked x h =
      let o = done.origins h.start h.walk.origin in
      let down = all_down n ranks falling h.start o.0 h.steps o.1 h.walk.goes in
      (down.rank, ap ranks (sym h.ends) ∙ down.ranked)

  -- a next exchange one rank lower
  pub record OneLower (x m : ℕ) : Type 0 where
    pub group : ℕ
    pub to : ℕ
    pub listed : Among group (n.list x)
    pub leads : n.far group x ≡ Some to
    pub ranked : ranks to ≡ Some m

  -- where x lists a group and has rank m + 1, a group leads to rank m
  pub one_lower : (x m : ℕ) (g : ℕ) → Among g (n.list x) → x ≢ n.home → ranks x ≡ Some (suc m) → OneLower x m
  one_lower x m g listed away ranked =
      elim (done.settled x (suc m) ranked away).tight [
        | inl e ↦
            let low = (done.settled x (suc m) ranked away).lower g listed in
            let zero_rank : low.rank ≡ m = let b = low.below in omega arith in
            record { group = g; to = low.to; listed = listed; leads = low.leads; ranked = low.ranked ∙ ap (λ k. Some k) zero_rank }
        | inr t ↦
            let same : t.2 ≡ m = let e = t.6 in omega arith in
            record { group = t.0; to = t.1; listed = t.3; leads = t.4; ranked = t.5 ∙ ap (λ k. Some k) same }
      ]
