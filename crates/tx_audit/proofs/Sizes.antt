-- How many events a walk without repetitions takes.
use Rattle.std.proofs.Common.{◌≡◌, ℕ, suc, ◌*◌, ◌<◌, ◌≤◌, true, List, [], ◌∷◌, inl, inr, length, refl, sym, ap, subst, eqb, eqb-true, arith, length-append}
use Rattle.std.proofs.lemmas.Map.Steps.{length-le_from_distinct_below}
use Rattle.tx_audit.proofs.Common.{list_any, Plan, IsPlan, route_list, Among, AllDiffer, Goes, IsWalk, net_of, before_end, any_mem, step_events, walk_events}
use Rattle.tx_rank.proofs.Unmended.{all_distinct}
use Rattle.tx_rank.specs.Nets.{IsNet}
use Rattle.tx_rank.proofs.Nets.{is_net}
use Rattle.tx_audit.proofs.Listed.{listed_few, before_few}
use Rattle.tx_audit.proofs.Walking.{step_count}

before_count : (x : ℕ) (steps : List (ℕ × ℕ)) → length (before_end x steps) ≡ length steps
before_count x [] = refl
before_count x (s ∷ steps) = ap suc (before_count s.1 steps)

module _ (p : Plan) (ok : IsPlan p) (c : ℕ) (within : c < length p.codes) where
  net : IsNet (net_of p c)
  net = is_net p ok c within

  before_below : (x : ℕ) (steps : List (ℕ × ℕ)) → Goes (net_of p c) x steps → x < length p.exchanges → (u : ℕ) → Among u (before_end x steps) → u < length p.exchanges
  before_below x [] goes h u m = absurd m
  before_below x (s ∷ steps) goes h u (inl e) = subst (λ k. k < length p.exchanges) e h
  before_below x (s ∷ steps) goes h u (inr m) =
      let l = net.leads x s.0 goes.1 in
      let far = l.1 in
      let far' = goes.2 in
      let same : l.0 ≡ s.1 = cc in
      before_below s.1 steps goes.3 (subst (λ k. k < length p.exchanges) same l.2) u m

  -- a walk whose exchanges before the last differ has at most 256 steps
  pub steps_few : (x : ℕ) (steps : List (ℕ × ℕ)) → IsWalk (net_of p c) x steps → AllDiffer (before_end x steps) → length steps ≤ 256
  steps_few x steps w once =
      let below : (q : ℕ) → list_any (eqb q) (before_end x steps) ≡ true → q < length p.exchanges =
      λ q h. let a = any_mem (eqb q) (before_end x steps) h in
      before_below x steps w.goes (net.origins x w.origin) q (subst (λ k. Among k (before_end x steps)) (sym (eqb-true q a.0 a.2)) a.1)
      in
      let l = length-le_from_distinct_below (before_end x steps) (length p.exchanges) (all_distinct (before_end x steps) once) below in
      let e = before_count x steps in
      let f = ok.few_exchanges in
      omega arith

  pub walk_few : (x : ℕ) (steps : List (ℕ × ℕ)) → length (walk_events p c x steps) ≤ 34 * length steps
  walk_few x [] = omega arith
  walk_few x (s ∷ steps) =
      let list = route_list p x c in
      let a = length-append (step_events list s.0) (walk_events p c s.1 steps) in
      let b = step_count p ok c list s.0 in
      let d = before_few s.0 list in
      let f = listed_few p ok x c in
      let r = walk_few s.1 steps in
      omega arith
