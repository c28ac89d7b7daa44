-- Each plan on the way of an order is certified, and the plans before and after a stage by the same
-- ranks.
use Rattle.tx_order.proofs.Common.{◌≡◌, ◌≢◌, ℕ, ◌+◌, ◌<◌, ◌≤◌, Bool, true, false, not, ◌&&◌, cond, nat_lt, List, length, Option, Some, refl, sym, ap, ◌∙◌, subst, arith, AllByRecursion, ltb-true, ltb-false, lt-ltb, and_parts, not-true, all_map, Plan, home_of, route_list, is_barred, is_origin, is_origin_for, SameNetwork, AreCommon, level_at, is_switched, bar_level, is_bar_switched, AreBothCertified, plan_of, plan_at, ranks_by, ranks_at}
use Rattle.tx_plan.specs.Certified.{Ranks, LeadsLower, LeadsDown, IsBelow, IsCertified}
use Rattle.tx_plan.proofs.Networks.{same_back, same_along, homes_same, ends_same, origins_same}
use Rattle.tx_order.proofs.Levels.{IsLevel, IsRankAt, Fits, new_kept, new_below, old_kept, old_below, value, IsLow, level_is, rank_is, below_value, value_below, value_some, level_within}
use Rattle.tx_order.proofs.Switched.{list_new, list_old, bar_new, bar_old}

pub not_before : (m n : ℕ) → n ≤ m → nat_lt m n ≡ false
not_before m n w = elim (nat_lt m n) as (λ b. nat_lt m n ≡ b → b ≡ false) [ true ↦ λ e. let l = ltb-true m n e in absurd (omega arith) | false ↦ λ e. refl ] refl

-- what holds of both holds of either
either_way : (P : Option ℕ → Type 0) (b : Bool) (p q : Option ℕ) → P p → P q → P (cond b p q)
either_way P true p q h k = h
either_way P false p q h k = k

module _ (old new : Plan) (before after : Ranks) (limit spare : ℕ) (both : AreBothCertified old new before after limit spare) where
  within_new : (c : ℕ) → c < length old.codes → c < length new.codes
  within_new c h = subst (λ n. c < n) (ap length both.network.codes) h

  pub low_before : (c x : ℕ) → c < length old.codes → IsLow limit (before c x)
  low_before c x h = λ r e. both.old_certified.low c x r h e

  pub low_after : (c x : ℕ) → c < length old.codes → IsLow limit (after c x)
  low_after c x h = λ r e. both.new_certified.low c x r (within_new c h) e

  level_here : (c x : ℕ) → c < length old.codes → IsLevel (limit + 2) (value (limit + 2) (before c x)) (value (limit + 2) (after c x)) (level_at before after limit x c)
  level_here c x h = level_is limit (before c x) (after c x) (low_before c x h) (low_after c x h)

  rank_here : (j : ℕ → ℕ) (c x : ℕ) → IsRankAt (j c) (value (limit + 2) (before c x)) (value (limit + 2) (after c x)) (level_at before after limit x c) (value (limit + 2) (ranks_by before after limit j c x))
  rank_here j c x = rank_is (limit + 2) (before c x) (after c x) (level_at before after limit x c) (j c)

  low_here : (j : ℕ → ℕ) (c x : ℕ) → c < length old.codes → IsLow limit (ranks_by before after limit j c x)
  low_here j c x h = either_way (IsLow limit) (is_switched before after limit (j c) x c) (after c x) (before c x) (low_after c x h) (low_before c x h)

  origin_of : (p : Plan) (x c : ℕ) → is_origin p x ≡ true → is_barred p x c ≡ false → is_origin_for p x c ≡ true
  origin_of p x c o b = λ i. cond_and (o i) (b i)
    where
      cond_and : Bool → Bool → Bool
      cond_and a b = a && not b

  module _ (j k : ℕ → ℕ) (fits : (c : ℕ) → Fits (limit + 2) (j c) (k c)) where
    same_new : SameNetwork new (plan_of old new before after limit k)
    same_new = same_along new old (plan_of old new before after limit k) (same_back old new both.network) (record { exchanges = refl; codes = refl; ranges = refl; groups = refl })

    same_old : SameNetwork old (plan_of old new before after limit k)
    same_old = record { exchanges = refl; codes = refl; ranges = refl; groups = refl }

    module _ (c x r : ℕ) (h : c < length old.codes) (ranked : ranks_by before after limit j c x ≡ Some r) (away : x ≢ home_of old c) where
      is_r : value (limit + 2) (ranks_by before after limit j c x) ≡ r
      is_r = ap (value (limit + 2)) ranked

      low_r : r ≤ limit + 1
      low_r = low_here j c x h r ranked

      ranked_below : value (limit + 2) (ranks_by before after limit j c x) < limit + 2
      ranked_below = let e = is_r in let l = low_r in omega arith

      -- a list that is switched leads down
      new_leads : is_switched before after limit (k c) x c ≡ true → LeadsDown (plan_of old new before after limit k) (ranks_by before after limit j) spare c x r
      new_leads s =
          let l = ltb-true (level_at before after limit x c) (k c) s in
          let e = is_r in
          let low = low_r in
          let kept = new_kept (limit + 2) (j c) (k c) (fits c) (value (limit + 2) (before c x)) (value (limit + 2) (after c x)) (level_at before after limit x c) (value (limit + 2) (ranks_by before after limit j c x)) (level_here c x h) (rank_here j c x) ranked_below l in
          let n = value_some (limit + 2) (after c x) (omega arith) in
          let w = ap (value (limit + 2)) n.1 in
          let d = both.new_certified.lists c x n.0 (within_new c h) n.1 (λ e. away (e ∙ homes_same old new both.network c)) in
          let is = sym (list_new old new (λ x c. is_switched before after limit (k c) x c) (λ x c. is_bar_switched new limit (k c) x c) x c s) in
          let lower = λ (y : ℕ) (b : IsBelow (after c y) n.0).
          let under = below_value (limit + 2) n.0 (after c y) b in
          let down = new_below (limit + 2) (j c) (k c) (fits c) (value (limit + 2) (before c x)) (value (limit + 2) (after c x)) (level_at before after limit x c) (value (limit + 2) (ranks_by before after limit j c x)) (level_here c x h) (rank_here j c x) ranked_below
          (value (limit + 2) (before c y)) (value (limit + 2) (after c y)) (level_at before after limit y c) (value (limit + 2) (ranks_by before after limit j c y)) (level_here c y h) (rank_here j c y) l (omega arith) in
          value_below (limit + 2) r (ranks_by before after limit j c y) (omega arith) (omega arith) in
          record {
            enough = subst (λ (gs : List ℕ). spare < length gs) is d.enough;
            each = subst (AllByRecursion (LeadsLower (plan_of old new before after limit k) (ranks_by before after limit j) c x r)) is
                (all_map (route_list new x c) (λ g q. record { to = q.to; leads = ends_same new (plan_of old new before after limit k) same_new g x ∙ q.leads; lower = lower q.to q.lower }) d.each);
          }

      -- and so does one that is not
      old_leads : is_switched before after limit (k c) x c ≡ false → LeadsDown (plan_of old new before after limit k) (ranks_by before after limit j) spare c x r
      old_leads s =
          let l = ltb-false (level_at before after limit x c) (k c) s in
          let e = is_r in
          let low = low_r in
          let kept = old_kept (limit + 2) (j c) (k c) (fits c) (value (limit + 2) (before c x)) (value (limit + 2) (after c x)) (level_at before after limit x c) (value (limit + 2) (ranks_by before after limit j c x)) (level_here c x h) (rank_here j c x) ranked_below l in
          let n = value_some (limit + 2) (before c x) (omega arith) in
          let w = ap (value (limit + 2)) n.1 in
          let d = both.old_certified.lists c x n.0 h n.1 away in
          let is = sym (list_old old new (λ x c. is_switched before after limit (k c) x c) (λ x c. is_bar_switched new limit (k c) x c) x c s) in
          let lower = λ (y : ℕ) (b : IsBelow (before c y) n.0).
          let under = below_value (limit + 2) n.0 (before c y) b in
          let down = old_below (limit + 2) (j c) (k c) (fits c) (value (limit + 2) (before c x)) (value (limit + 2) (after c x)) (level_at before after limit x c) (value (limit + 2) (ranks_by before after limit j c x)) (level_here c x h) (rank_here j c x) ranked_below
          (value (limit + 2) (before c y)) (value (limit + 2) (after c y)) (level_at before after limit y c) (value (limit + 2) (ranks_by before after limit j c y)) (level_here c y h) (rank_here j c y) l (omega arith) in
          value_below (limit + 2) r (ranks_by before after limit j c y) (omega arith) (omega arith) in
          record {
            enough = subst (λ (gs : List ℕ). spare < length gs) is d.enough;
            each = subst (AllByRecursion (LeadsLower (plan_of old new before after limit k) (ranks_by before after limit j) c x r)) is
                (all_map (route_list old x c) (λ g q. record { to = q.to; leads = ends_same old (plan_of old new before after limit k) same_old g x ∙ q.leads; lower = lower q.to q.lower }) d.each);
          }

    -- WHERE CALLS MAY START
    module _ (c x : ℕ) (h : c < length old.codes) where
      ranked_old : is_origin old x ≡ true → is_barred old x c ≡ false → (r : ℕ) × (before c x ≡ Some r)
      ranked_old o b = both.old_certified.origins c x h (origin_of old x c o b)

      ranked_new : is_origin old x ≡ true → is_barred new x c ≡ false → (r : ℕ) × (after c x ≡ Some r)
      ranked_new o b = both.new_certified.origins c x (within_new c h) (origin_of new x c (origins_same old new both.network x ∙ o) b)

      origin_ranked : is_origin_for (plan_of old new before after limit k) x c ≡ true → (r : ℕ) × (ranks_by before after limit j c x ≡ Some r)
      origin_ranked q =
          let o = and_parts (is_origin old x) (not (is_barred (plan_of old new before after limit k) x c)) q in
          let free = not-true (is_barred (plan_of old new before after limit k) x c) o.1 in
          elim (is_bar_switched new limit (k c) x c) as (λ b. is_bar_switched new limit (k c) x c ≡ b → (r : ℕ) × (ranks_by before after limit j c x ≡ Some r)) [
            | true ↦ λ s.
                let unbarred = sym (bar_new old new (λ x c. is_switched before after limit (k c) x c) (λ x c. is_bar_switched new limit (k c) x c) x c s) ∙ free in
                let at = ap (bar_level limit) unbarred in
                let past = ltb-true (bar_level limit (is_barred new x c)) (k c) s in
                let within = level_within limit (before c x) (after c x) (low_before c x h) (low_after c x h) in
                let f = fits c in
                let late : level_at before after limit x c < j c = grind arith in
                let is = lt-ltb (level_at before after limit x c) (j c) late in
                let r = ranked_new o.0 unbarred in
                (r.0, ap (λ b. cond b (after c x) (before c x)) is ∙ r.1)
            | false ↦ λ s.
                let unbarred = sym (bar_old old new (λ x c. is_switched before after limit (k c) x c) (λ x c. is_bar_switched new limit (k c) x c) x c s) ∙ free in
                let r = ranked_old o.0 unbarred in
                let past = ltb-false (bar_level limit (is_barred new x c)) (k c) s in
                elim (is_barred new x c) as (λ b. is_barred new x c ≡ b → (r : ℕ) × (ranks_by before after limit j c x ≡ Some r)) [
                  | true ↦ λ t.
                      let at = ap (bar_level limit) t in
                      let f = fits c in
                      let early : j c ≤ level_at before after limit x c = grind arith in
                      let is = not_before (level_at before after limit x c) (j c) early in
                      (r.0, ap (λ b. cond b (after c x) (before c x)) is ∙ r.1)
                  | false ↦ λ t. either_way (λ o. (r : ℕ) × (o ≡ Some r)) (is_switched before after limit (j c) x c) (after c x) (before c x) (ranked_new o.0 t) r
                ] refl
          ] refl

    home_ranked : (c : ℕ) → c < length old.codes → ranks_by before after limit j c (home_of old c) ≡ Some 0
    home_ranked c h =
        either_way (λ o. o ≡ Some 0) (is_switched before after limit (j c) (home_of old c) c) (after c (home_of old c)) (before c (home_of old c))
        (ap (after c) (sym (homes_same old new both.network c)) ∙ both.new_certified.homes c (within_new c h))
        (both.old_certified.homes c h)

    pub staged_certified : IsCertified (plan_of old new before after limit k) (ranks_by before after limit j) limit spare
    staged_certified = record {
      no_prefix = both.old_certified.no_prefix;
      homes = λ c h. home_ranked c h;
      origins = λ c x h o. origin_ranked c x h o;
      low = λ c x r h e. low_here j c x h r e;
      lists = λ c x r h ranked away. elim (is_switched before after limit (k c) x c) as (λ b. is_switched before after limit (k c) x c ≡ b → LeadsDown (plan_of old new before after limit k) (ranks_by before after limit j) spare c x r) [
        | true ↦ λ s. new_leads c x r h ranked away s
        | false ↦ λ s. old_leads c x r h ranked away s
      ] refl;
    }

  -- AT FRONTS, BEFORE AND AFTER A LEVEL
  pub front_certified : (fronts : ℕ → ℕ) → IsCertified (plan_of old new before after limit fronts) (ranks_by before after limit fronts) limit spare
  front_certified fronts = staged_certified fronts fronts (λ c. record { near = omega arith; nigh = omega arith; low = λ h. absurd (omega arith); high = λ h. absurd (omega arith) })

  pub plan_certified : (stage : ℕ) → IsCertified (plan_at old new before after limit stage) (ranks_at before after limit stage) limit spare
  plan_certified stage = front_certified (λ c. stage)

  pub falling_common : (stage : ℕ) → stage < limit + 2 → AreCommon (plan_at old new before after limit stage) (plan_at old new before after limit (stage + 1)) (ranks_at before after limit stage) limit spare
  falling_common stage w = record {
    before = plan_certified stage;
    after = staged_certified (λ c. stage) (λ c. stage + 1) (λ c. record { near = omega arith; nigh = omega arith; low = λ h. w; high = λ h. absurd (omega arith) });
  }

  pub rising_common : (stage : ℕ) → limit + 2 ≤ stage → AreCommon (plan_at old new before after limit stage) (plan_at old new before after limit (stage + 1)) (ranks_at before after limit (stage + 1)) limit spare
  rising_common stage w = record {
    before = staged_certified (λ c. stage + 1) (λ c. stage) (λ c. record { near = omega arith; nigh = omega arith; low = λ h. absurd (omega arith); high = λ h. w });
    after = plan_certified (stage + 1);
  }
