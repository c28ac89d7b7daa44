-- A walk along a list, as far as an index.
use Rattle.tx_circuits.proofs.Common.{◌≡◌, ℕ, ◌+◌, ◌-◌, ◌<◌, ◌≤◌, inl, inr, Bool, true, Option, Some, None, arith, Way, Up, Down, IsFirst, IsLast, rank_of}
use Rattle.tx_circuits.proofs.Linked.{le_or}

-- how far the order goes on from here
abbrev pub left_from : (ℕ → ℕ) → Option ℕ → ℕ
left_from rank None = 0
left_from rank (Some p) = 256 - rank p

pub rank_below : (w : Way) (p : ℕ) → p < 256 → rank_of w p < 256
rank_below Up p h = h
rank_below Down p h = omega arith

module _ (free : ℕ → Bool) (rank : ℕ → ℕ) where
  -- what comes next is the first free index from `low` on, and `last` is the last one below `low`
  abbrev pub Reached : ℕ → Option ℕ → Option ℕ → Type 0
  Reached limit last rest = (low : ℕ) × (low ≤ limit) × IsFirst free rank low rest × IsLast free rank low last

  pub reached_none : (limit : ℕ) (rest : Option ℕ) → IsFirst free rank 0 rest → Reached limit None rest
  reached_none limit rest first = (0, omega arith, first, λ k f. omega arith)

  pub reached_next : (limit p : ℕ) (last rest : Option ℕ) → Reached limit last (Some p) → rank p < limit → IsFirst free rank (rank p + 1) rest → Reached limit (Some p) rest
  reached_next limit p last rest r below first = (rank p + 1, omega (arith, below), first, (r.2.0, omega arith, λ k f lt. omega (arith, lt)))

  -- what is last below `low` is last below the limit where no free index comes between
  settled : (limit low : ℕ) (last : Option ℕ) → low ≤ limit → ((k : ℕ) → free k ≡ true → low ≤ rank k → limit ≤ rank k) → IsLast free rank low last → IsLast free rank limit last
  settled limit low None le gap l = λ k f. gap k f (l k f)
  settled limit low (Some q) le gap l = (
    l.0,
    (let a : rank q < low = l.1 in omega arith),
    λ k f lt. elim (le_or low (rank k)) [ inl y ↦ absurd (let a : limit ≤ rank k = gap k f y in omega arith) | inr y ↦ l.2 k f y ],
  )

  pub reached_past : (limit p : ℕ) (last : Option ℕ) → Reached limit last (Some p) → limit ≤ rank p → IsLast free rank limit last
  reached_past limit p last r past = settled limit r.0 last r.1 (λ k f from. let a : rank p ≤ rank k = r.2.2 k f from in omega arith) r.3

  pub reached_end : (limit : ℕ) (last : Option ℕ) → Reached limit last None → IsLast free rank limit last
  reached_end limit last r = settled limit r.0 last r.1 (λ k f from. let a : rank k < r.0 = r.2 k f in absurd (omega arith)) r.3

  pub left_falls : (p : ℕ) (rest : Option ℕ) → IsFirst free rank (rank p + 1) rest → rank p < 256 → left_from rank rest < left_from rank (Some p)
  left_falls p None first fits = omega arith
  left_falls p (Some q) first fits = let a : rank p + 1 ≤ rank q = first.1 in omega arith
