-- What is true of all walks for one code after a pass that met no loop.
use Rattle.std.proofs.Common.{◌≡◌, ◌≢◌, ℕ, ◌+◌, ◌<◌, ◌≤◌, true, false, eqb, eqb-true, leb, List, [], ◌∷◌, length, inl, Option, Some, refl, sym, ap, ◌∙◌, arith}
use Rattle.tx_rank.proofs.Common.{eqb-false, Among, Net, AllDiffer, end_of, passed, IsWalk, IsLoop, IsShort, IsLong, RanksByHeight, IsNet, Certifies, AreSettled, IsShortAt, LowOrigins}
use borrow.Author.Tests.{leb-true, leb-false}
use Rattle.tx_rank.proofs.Ranks.{Falls, falling, all_down, once_down, no_loop, reached_ranked}
use Rattle.tx_rank.proofs.Heights.{ranking}

first_of : (gs : List ℕ) → 0 < length gs → (g : ℕ) × Among g gs
first_of [] h = absurd (omega arith)
first_of (g ∷ gs) h = (g, inl refl)

module _ (n : Net) (ranks : ℕ → Option ℕ) (done : AreSettled n ranks) where
  pub walk_once : (x : ℕ) (steps : List (ℕ × ℕ)) → IsWalk n x steps → AllDiffer (passed x steps)
  walk_once x steps w = let o = done.origins x w.origin in once_down n ranks (falling n ranks done) x o.0 steps o.1 w.goes

  pub short_true : (spare x : ℕ) (start : ℕ) (steps : List (ℕ × ℕ)) → IsWalk n start steps → end_of start steps ≡ x → x ≢ n.home → n.fewest x ≤ spare → IsShort n spare start steps
  short_true spare x start steps w e away few =
      record { walk = w; once = walk_once start steps w; away = λ q. away (sym e ∙ q); few = let l = ap n.fewest e in omega arith }

  pub long_true : (limit : ℕ) (start : ℕ) (steps : List (ℕ × ℕ)) → IsWalk n start steps → length steps ≡ limit + 1 → end_of start steps ≢ n.home → IsLong n limit start steps
  long_true limit start steps w e away = record { walk = w; once = walk_once start steps w; away = away; long = e }

  -- a short walk ends where the list is short
  pub short_at : (spare x : ℕ) (steps : List (ℕ × ℕ)) → IsShort n spare x steps → IsShortAt n ranks spare (end_of x steps)
  short_at spare x steps s =
      let r = reached_ranked n ranks done (end_of x steps) (record { start = x; steps = steps; walk = s.walk; ends = refl }) in
      record { rank = r.0; ranked = r.1; away = s.away; few = let f = s.few in omega arith }

  pub loops_none : (x : ℕ) (steps : List (ℕ × ℕ)) → IsLoop n x steps → ⊥
  loops_none x steps l = no_loop n ranks (falling n ranks done) done.origins x steps l

  -- where no origin is ranked above limit + 1, nothing is, and no walk is long
  pub longs_none : (limit : ℕ) → LowOrigins n ranks limit → (x : ℕ) (steps : List (ℕ × ℕ)) → IsLong n limit x steps → ⊥
  longs_none limit low x steps l =
      let o = done.origins x l.walk.origin in
      let d = all_down n ranks (falling n ranks done) x o.0 steps o.1 l.walk.goes in
      let top = low x o.0 l.walk.origin o.1 in
      let e = l.long in
      let p = (done.settled (end_of x steps) d.rank d.ranked l.away).positive in
      let w = d.within in
      absurd (omega arith)

  pub all_low : (limit : ℕ) → LowOrigins n ranks limit → (x r : ℕ) → ranks x ≡ Some r → r ≤ limit + 1
  all_low limit low x r ranked =
      elim (eqb x n.home) as (λ b. eqb x n.home ≡ b → r ≤ limit + 1) [
        | true ↦ λ e. let z = ap ranks (eqb-true x n.home e) in let h = done.home in let zero_rank : r ≡ 0 = cc in omega arith
        | false ↦ λ e.
            let w = done.ranked x r ranked (eqb-false x n.home e) in
            let o = done.origins w.start w.walk.origin in
            let d = all_down n ranks (falling n ranks done) w.start o.0 w.steps o.1 w.walk.goes in
            let same : d.rank ≡ r = let a = d.ranked in let b = ap ranks w.ends in cc in
            let top = low w.start o.0 w.walk.origin o.1 in
            let i = d.within in
            omega arith
      ] refl

  -- where there is no short walk, each ranked exchange has groups enough
  pub enough_from : (spare : ℕ) → ((x : ℕ) (steps : List (ℕ × ℕ)) → IsShort n spare x steps → ⊥) → (x r : ℕ) → ranks x ≡ Some r → x ≢ n.home → spare < n.fewest x
  enough_from spare none x r ranked away =
      elim (leb (n.fewest x) spare) as (λ b. leb (n.fewest x) spare ≡ b → spare < n.fewest x) [
        | true ↦ λ e. let few : n.fewest x ≤ spare = omega (arith, leb-true) in let w = done.ranked x r ranked away in absurd (none w.start w.steps (short_true spare x w.start w.steps w.walk w.ends away few))
        | false ↦ λ e. omega (arith, leb-false)
      ] refl

  pub certifies : (limit spare : ℕ) → LowOrigins n ranks limit → ((x : ℕ) (steps : List (ℕ × ℕ)) → IsShort n spare x steps → ⊥) → Certifies n ranks limit spare
  certifies limit spare low none =
      record { home = done.home; origins = done.origins; low = all_low limit low; enough = enough_from spare none; lower = λ x r ranked away. (done.settled x r ranked away).lower }

  pub heights : IsNet n → (spare : ℕ) → ((x : ℕ) (steps : List (ℕ × ℕ)) → IsShort n spare x steps → ⊥) → RanksByHeight n ranks
  heights net spare none = ranking n ranks done (λ x r ranked away. first_of (n.list x) (let e = enough_from spare none x r ranked away in let l = net.listed x in omega arith))

-- where ranks certify a code, no finding of it is true
module _ (n : Net) (ranks : ℕ → Option ℕ) (limit spare : ℕ) (c : Certifies n ranks limit spare) where
  falls : Falls n ranks
  falls = record { lower = c.lower }

  pub certified_no_loop : (x : ℕ) (steps : List (ℕ × ℕ)) → IsLoop n x steps → ⊥
  certified_no_loop x steps l = no_loop n ranks falls c.origins x steps l

  pub certified_no_short : (x : ℕ) (steps : List (ℕ × ℕ)) → IsShort n spare x steps → ⊥
  certified_no_short x steps s =
      let o = c.origins x s.walk.origin in
      let d = all_down n ranks falls x o.0 steps o.1 s.walk.goes in
      let e = c.enough (end_of x steps) d.rank d.ranked s.away in
      let f = s.few in
      absurd (omega arith)

  pub certified_no_long : ((x : ℕ) → n.fewest x ≤ length (n.list x)) → (x : ℕ) (steps : List (ℕ × ℕ)) → IsLong n limit x steps → ⊥
  certified_no_long listed x steps l =
      let o = c.origins x l.walk.origin in
      let d = all_down n ranks falls x o.0 steps o.1 l.walk.goes in
      let top = c.low x o.0 o.1 in
      let e = l.long in
      let f = first_of (n.list (end_of x steps)) (let q = c.enough (end_of x steps) d.rank d.ranked l.away in let k = listed (end_of x steps) in omega arith) in
      let b = (c.lower (end_of x steps) d.rank d.ranked l.away f.0 f.1).below in
      let w = d.within in
      absurd (omega arith)
