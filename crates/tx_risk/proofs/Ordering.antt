-- Ranked exchanges, by their ranks.
use Rattle.tx_risk.proofs.Common.{◌≡◌, ◌≢◌, ℕ, zero, suc, ◌+◌, ◌<◌, ◌≤◌, nat_lt, Bool, true, false, not, List, [], ◌∷◌, inl, inr, length, take, Option, Some, None, refl, sym, ap, ◌∙◌, subst, arith, range_with_len, Among, Net, Goes, end_of, none_any, any_mem, Risk, left_of, without, LeadsHome, IsOrder, IsByRank, rank_or_0, is_above, AreDeadEnds, LeadsToDeadEnd}
use Rattle.std.specs.Prelude.{slice_get, slice_index_or, unwrap_or, is_some, filter, IsPermutation}
use Rattle.std.specs.List.Sorted.{IsNonDecreasingBy, IsPartitionedBy, IsPartitionPoint}
use Rattle.std.proofs.lemmas.Bool.{cases_lt, cases_eq, false≢true, ltb-true, ltb-false, not-true}
use Rattle.std.proofs.lemmas.Option.{slice_get_within, get_or_from_slice_get}
use Rattle.std.proofs.lemmas.List.Sorted.{Contains-permutation, IsPermutation-sym, length_permutation}
use Rattle.std.proofs.lemmas.List.Filters.{length-filter_both}
use Rattle.std.proofs.lemmas.List.FromFn.{length-range_with_len}
use Rattle.tx_plan.proofs.Among.{among_filter, filter_among, among_at}
use Rattle.tx_rank.specs.Nets.{IsNet, Certifies}
use Rattle.tx_rank.proofs.Ranks.{Falls, one_down, all_down}
use Rattle.tx_rank.proofs.Looks.{leads_within, among_at as listed}
use Rattle.tx_risk.proofs.LeftLists.{index_among}

-- a number that may be there
pub some_of : (o : Option ℕ) → is_some o ≡ true → (n : ℕ) × (o ≡ Some n)
some_of None t = absurd (false≢true t)
some_of (Some n) t = (n, refl)

pub none_of : (o : Option ℕ) → is_some o ≡ false → o ≡ None
none_of None t = refl
none_of (Some n) t = absurd (false≢true (sym t))

-- the first of a list
pub first_among : (xs : List ℕ) (i j x : ℕ) → slice_get xs j ≡ Some x → j < i → Among x (take i xs)
first_among [] i j x at less = let bad : ⊥ = cc in absurd bad
first_among (y ∷ xs) zero j x at less = absurd (omega arith)
first_among (y ∷ xs) (suc i) zero x at less = inl (let same : y ≡ x = cc in same)
first_among (y ∷ xs) (suc i) (suc j) x at less = inr (first_among xs i j x at (omega arith))

pub among_first : (xs : List ℕ) (i x : ℕ) → Among x (take i xs)
    → (j : ℕ) × (slice_get xs j ≡ Some x) × (j < i)
among_first [] zero x m = absurd m
among_first [] (suc i) x m = absurd m
among_first (y ∷ xs) zero x m = absurd m
among_first (y ∷ xs) (suc i) x (inl e) = (0, ap Some e, omega arith)
among_first (y ∷ xs) (suc i) x (inr m) =
    let r = among_first xs i x m in (suc r.0, r.1, let l = r.2 in omega arith)

-- what is left of a network
module _ (risk : Risk) (n : Net) where
  pub goes_left : (x : ℕ) (steps : List (ℕ × ℕ)) → Goes (without risk n) x steps → Goes n x steps
  goes_left x [] g = tt
  goes_left x (s ∷ steps) g =
      (g.0, (filter_among (λ h. not (risk h)) s.0 (n.list x) g.1).0, g.2, goes_left s.1 steps g.3)

  pub order_left : (order : List ℕ) → IsOrder n order → IsOrder (without risk n) order
  order_left order o = record {
    few = o.few;
    within = o.within;
    reached = λ x r. o.reached x (record {
      start = r.start;
      steps = r.steps;
      walk = record { origin = r.walk.origin; goes = goes_left r.start r.steps r.walk.goes };
      ends = r.ends;
    });
    back = λ i x at away g y m leads.
        o.back i x at away g y (filter_among (λ h. not (risk h)) g (n.list x) m).0 leads;
  }

  pub leads_left : IsNet n → (x g : ℕ) → Among g (left_of risk (n.list x)) → (y : ℕ) × (n.far g x ≡ Some y)
  leads_left net x g m =
      let l = net.leads x g (filter_among (λ h. not (risk h)) g (n.list x) m).0 in (l.0, l.1)

  pub falls_left : (ranks : ℕ → Option ℕ) (limit spare : ℕ) → Certifies n ranks limit spare → Falls (without risk n) ranks
  falls_left ranks limit spare cert = record {
    lower = λ x r ranked away g m.
        let l = cert.lower x r ranked away g (filter_among (λ h. not (risk h)) g (n.list x) m).0 in
        record { to = l.to; rank = l.rank; leads = l.leads; ranked = l.ranked; below = l.below };
  }

-- a way from one of the first exchanges has fewer steps
pub way_few : (n : Net) (order : List ℕ) → IsOrder n order → (i x : ℕ) (steps : List (ℕ × ℕ))
    → Among x (take i order) → Goes n x steps → length steps < i
way_few n order o i x [] m g = let p = among_first order i x m in let l = p.2 in omega arith
way_few n order o i x (s ∷ steps) m g =
    let p = among_first order i x m in
    let back = o.back p.0 x p.1 g.0 s.0 s.1 g.1 g.2 in
    let few = way_few n order o p.0 s.1 steps back g.3 in
    let l = p.2 in
    omega arith

-- a way from one of them leads to one of them
way_there : (n : Net) (order : List ℕ) → IsOrder n order → (x : ℕ) (steps : List (ℕ × ℕ))
    → Among x order → Goes n x steps → Among (end_of x steps) order
way_there n order o x [] m g = m
way_there n order o x (s ∷ steps) m g =
    let at = index_among x order m in
    let to = among_first order at.0 s.1 (o.back at.0 x at.1 g.0 s.0 s.1 g.1 g.2) in
    way_there n order o s.1 steps (listed order to.0 s.1 to.1) g.3

-- from one that leads to no dead end a way leads home
module _ (n : Net) (leads : (x g : ℕ) → Among g (n.list x) → (y : ℕ) × (n.far g x ≡ Some y)) (order : List ℕ) (o : IsOrder n order) where
  home_at : (k i x : ℕ) → i < k → slice_get order i ≡ Some x → (LeadsToDeadEnd n x → ⊥) → LeadsHome n x
  home_at zero i x less at uncut = absurd (omega arith)
  home_at (suc k) i x less at uncut = elim (cases_eq x n.home) [
    | inl here ↦ record { steps = []; goes = tt; home = here }
    | inr away ↦ on (n.list x) refl away
        (λ j y under to free. home_at k j y (let l = under in omega arith) to free)
  ]
    where
      on : (gs : List ℕ) → n.list x ≡ gs → x ≢ n.home
          → ((j y : ℕ) → j < i → slice_get order j ≡ Some y → (LeadsToDeadEnd n y → ⊥) → LeadsHome n y)
          → LeadsHome n x
      on [] e away later =
          absurd (uncut ([], record { goes = tt; away = away; none = e }))
      on (g ∷ gs) e away later =
          let m : Among g (n.list x) = subst (Among g) (sym e) (inl refl) in
          let l = leads x g m in
          let j = among_first order i l.0 (o.back i x at away g l.0 m l.1) in
          let rest = later j.0 l.0 j.2 j.1 (λ d. uncut (
            (g, l.0) ∷ d.0,
            record {
              goes = (away, m, l.1, let k = d.1 in k.goes);
              away = let k = d.1 in k.away;
              none = let k = d.1 in k.none;
            },
          )) in
          record {
            steps = (g, l.0) ∷ rest.steps;
            goes = (away, m, l.1, rest.goes);
            home = rest.home;
          }

  pub uncut_home : (x : ℕ) → Among x order → (LeadsToDeadEnd n x → ⊥) → LeadsHome n x
  uncut_home x m uncut =
      let i = index_among x order m in home_at (suc i.0) i.0 x (omega arith) i.1 uncut

-- THE ORDER OF RANKS

-- numbers in a row
range_among : (a n x : ℕ) → Among x (range_with_len a n) → x < a + n
range_among a zero x m = absurd m
range_among a (suc n) x (inl e) = omega arith
range_among a (suc n) x (inr m) = let l = range_among (a + 1) n x m in omega arith

among_range : (a n x : ℕ) → a ≤ x → x < a + n → Among x (range_with_len a n)
among_range a zero x low high = absurd (omega arith)
among_range a (suc n) x low high = elim (cases_eq a x) [
  | inl e ↦ inl e
  | inr ne ↦ inr (among_range (a + 1) n x (omega arith) (omega arith))
]

-- a list and one that it was sorted to have the same members
permuted : (xs ys : List ℕ) → IsPermutation xs ys → (x : ℕ) → Among x xs → Among x ys
permuted xs ys p x m =
    let i = index_among x xs m in
    let r = Contains-permutation xs ys x p
    (i.0, slice_get_within xs i.0 x i.1, get_or_from_slice_get xs i.0 x x i.1) in
    among_at ys r.0 x r.1 (sym r.2)

module _ (n : Net) (net : IsNet n) (ranks : ℕ → Option ℕ) (limit spare : ℕ)
    (cert : Certifies n ranks limit spare) (order : List ℕ) where
  abbrev ranked : List ℕ
  ranked = filter (λ x. is_some (ranks x)) (range_with_len 0 n.exchanges)

  falls : Falls n ranks
  falls = record { lower = cert.lower }

  walk_within : (x : ℕ) (steps : List (ℕ × ℕ)) → x < n.exchanges → Goes n x steps
      → end_of x steps < n.exchanges
  walk_within x [] within g = within
  walk_within x (s ∷ steps) within g =
      walk_within s.1 steps (leads_within n x s.0 s.1 net g.1 g.2) g.3

  of_ranked : IsPermutation ranked order → (x : ℕ) → Among x order
      → Among x (range_with_len 0 n.exchanges) × (is_some (ranks x) ≡ true)
  of_ranked p x m = filter_among (λ y. is_some (ranks y)) x (range_with_len 0 n.exchanges)
      (permuted order ranked (IsPermutation-sym ranked order p) x m)

  pub are_ranked : IsPermutation ranked order → IsNonDecreasingBy (rank_or_0 ranks) order → IsByRank ranks order
  are_ranked p rising =
      record { ranked = λ x m. some_of (ranks x) (of_ranked p x m).1; rising = rising }

  pub by_rank : IsPermutation ranked order → IsNonDecreasingBy (rank_or_0 ranks) order → IsOrder n order
  by_rank p rising = record {
    few =
        let t : ℕ → Bool = λ x. is_some (ranks x) in
        let all = length-filter_both t (λ x. not (t x)) (λ x. refl) (range_with_len 0 n.exchanges) in
        let long = length_permutation ranked order p in
        let range = length-range_with_len 0 n.exchanges in
        omega arith;
    within = λ x m. let l = range_among 0 n.exchanges x (of_ranked p x m).0 in omega arith;
    reached = λ x r.
        let o = cert.origins r.start r.walk.origin in
        let d = all_down n ranks falls r.start o.0 r.steps o.1 r.walk.goes in
        subst (λ y. Among y order) r.ends
        (there (end_of r.start r.steps) d.rank d.ranked
        (walk_within r.start r.steps (net.origins r.start r.walk.origin) r.walk.goes));
    back = λ i x at away g y m leads.
        let r = some_of (ranks x) (of_ranked p x (listed order i x at)).1 in
        let d = one_down n ranks falls x r.0 g y r.1 away m leads in
        let j = index_among y order (there y d.rank d.ranked (leads_within n x g y net m leads)) in
        first_among order i j.0 y j.1 (before i j.0 x y r.0 d.rank at j.1 r.1 d.ranked
        (let l = d.within in omega arith));
  }
    where
      there : (x r : ℕ) → ranks x ≡ Some r → x < n.exchanges → Among x order
      there x r e within = permuted ranked order p x
          (among_filter (λ y. is_some (ranks y)) x (range_with_len 0 n.exchanges)
          (among_range 0 n.exchanges x (omega arith) (omega arith)) (ap is_some e))

      -- what has a lower rank is before
      before : (i j x y r s : ℕ) → slice_get order i ≡ Some x → slice_get order j ≡ Some y
          → ranks x ≡ Some r → ranks y ≡ Some s → s < r → j < i
      before i j x y r s at_i at_j rank_x rank_y less = elim (cases_lt j i) [
        | inl l ↦ l
        | inr behind ↦
            let up = rising i j 0 behind (slice_get_within order j y at_j) in
            let one : rank_or_0 ranks (slice_index_or order i 0) ≡ r =
            ap (rank_or_0 ranks) (get_or_from_slice_get order i x 0 at_i) ∙ ap (λ o. unwrap_or o 0) rank_x in
            let two : rank_or_0 ranks (slice_index_or order j 0) ≡ s =
            ap (rank_or_0 ranks) (get_or_from_slice_get order j y 0 at_j) ∙ ap (λ o. unwrap_or o 0) rank_y in
            absurd (omega arith)
      ]

-- THE FIRST OF AN ORDER, RANKED ABOVE NO DEAD END
not_above_less : (ranks : ℕ → Option ℕ) (others : List ℕ) (x y : ℕ) → rank_or_0 ranks x ≤ rank_or_0 ranks y
    → is_above ranks others y ≡ false → is_above ranks others x ≡ false
not_above_less ranks others x y low none =
    elim (is_above ranks others x) as (λ b. is_above ranks others x ≡ b → b ≡ false) [
      | false ↦ λ e. refl
      | true ↦ λ e.
          let a = any_mem (λ z. nat_lt (rank_or_0 ranks z) (rank_or_0 ranks x)) others e in
          let less = ltb-true (rank_or_0 ranks a.0) (rank_or_0 ranks x) a.2 in
          let least = ltb-false (rank_or_0 ranks a.0) (rank_or_0 ranks y)
          (none_any (λ z. nat_lt (rank_or_0 ranks z) (rank_or_0 ranks y)) others a.0 none a.1) in
          absurd (omega arith)
    ] refl

module _ (ranks : ℕ → Option ℕ) (order ends : List ℕ) (by : IsByRank ranks order) where
  pub above_last : IsPartitionedBy (λ x. not (is_above ranks ends x)) order
  above_last i j d before within t =
      ap not (not_above_less ranks ends (slice_index_or order i d) (slice_index_or order j d)
      (by.rising i j d before within) (not-true _ t))

  pub only_dead_ends : (n : Net) → Falls n ranks → IsOrder n order → AreDeadEnds n order ends → (k : ℕ)
      → IsPartitionPoint (λ x. not (is_above ranks ends x) ≡ true) (λ x. not (is_above ranks ends x) ≡ false) order k
      → (x : ℕ) → Among x (take k order) → LeadsToDeadEnd n x → Among x ends
  only_dead_ends n falls o dead k point x m way =
      let i = among_first order k x m in
      let d = way.1 in
      let m : Among x order = listed order i.0 x i.1 in
      let e = end_of x way.0 in
      let end = dead.all e (way_there n order o x way.0 m d.goes) d.away d.none in
      let here = get_or_from_slice_get order i.0 x x i.1 in
      let low = not-true _ (subst (λ y. not (is_above ranks ends y) ≡ true) here
      (point.0 i.0 x (omega arith) i.2)) in
      let least = ltb-false (rank_or_0 ranks e) (rank_or_0 ranks x)
      (none_any (λ z. nat_lt (rank_or_0 ranks z) (rank_or_0 ranks x)) ends e low end) in
      let r = by.ranked x m in
      let down = all_down n ranks falls x r.0 way.0 r.1 d.goes in
      let one : rank_or_0 ranks x ≡ r.0 = ap (λ o. unwrap_or o 0) r.1 in
      let two : rank_or_0 ranks e ≡ down.rank = ap (λ o. unwrap_or o 0) down.ranked in
      let fewer = down.within in
      none_left way.0 (omega arith) end
    where
      none_left : (steps : List (ℕ × ℕ)) → length steps < 1 → Among (end_of x steps) ends → Among x ends
      none_left [] few m = m
      none_left (s ∷ steps) few m = absurd (omega arith)
