-- The stages of an order lead from the old plan to the new one.
use Rattle.std.proofs.Common.{◌≡◌, ℕ, zero, suc, ◌+◌, ◌*◌, ◌-◌, ◌<◌, ◌≤◌, Bool, true, false, not, List, [], ◌∷◌, ◌++◌, length, inl, inr, Some, refl, sym, ap, ◌∙◌, subst, arith, append-nil}
use Rattle.std.specs.Prelude.{slice_get, ◌↔◌}
use Rattle.tx_order.proofs.Common.{AllByRecursion, lt-ltb, cases_lt, Pair, all_map, IsPlan, Ranks, IsCertified, Certifies, CanBeCertified, is_barred, SameNetwork, IsMixture, AreCommon, levels_of, level_at, is_switched, bar_level, is_bar_switched, AreBothCertified, plan_of, plan_at, ranks_by, ranks_at}
use Rattle.tx_plan.specs.Plan.{Plan, Route, Code}
use Rattle.tx_plan.specs.Codes.{is_prefix}
use Rattle.tx_join.proofs.Found.{filter_all, filter_none}
use Rattle.tx_rank.specs.Walks.{Net, net_of}
use Rattle.tx_rank.proofs.Certifying.{certifies_code, certified_codes}
use Rattle.tx_plan.specs.Mixed.{rerouted, replaced}
use Rattle.tx_plan.proofs.Networks.{rerouted-is, homes_same, ends_same, origin_as}
use Rattle.tx_order.specs.Orders.{AreAlike, IsListSwitched, IsBarSwitched, IsOrder, HasOrder, CanBothBeCertified}
use Rattle.tx_order.proofs.Levels.{level_within}
use Rattle.tx_order.proofs.Switched.{list_new, list_old, bar_new, bar_old, switched_mixture}
use Rattle.tx_order.proofs.OnTheWay.{not_before, low_before, low_after, front_certified, falling_common, rising_common}

module _ {A : Type 0} where
  all_of : (P : A → Type 0) (xs : List A) → ((x : A) → P x) → AllByRecursion P xs
  all_of P [] f = tt
  all_of P (x ∷ xs) f = (f x, all_of P xs f)

  -- where none passes, the first list stays
  replaced_none : (t : A → Bool) (xs ys : List A) → ((x : A) → t x ≡ false) → replaced t xs ys ≡ xs
  replaced_none t xs ys h =
      (λ i. filter_all (λ x. not (t x)) xs (all_of (λ x. not (t x) ≡ true) xs (λ x. ap not (h x))) i ++ filter_none t ys (all_of (λ x. t x ≡ false) ys h) i)
      ∙ append-nil xs

  -- where all pass, the second stands
  replaced_all : (t : A → Bool) (xs ys : List A) → AllByRecursion (λ x. t x ≡ true) xs → AllByRecursion (λ x. t x ≡ true) ys → replaced t xs ys ≡ ys
  replaced_all t xs ys h k = λ i. filter_none (λ x. not (t x)) xs (all_map xs (λ x e. ap not e) h) i ++ filter_all t ys k i

bar_within : (limit : ℕ) (b : Bool) → bar_level limit b < 2 * (limit + 2)
bar_within limit true = omega arith
bar_within limit false = omega arith

-- The front of each code before each stage: it begins with no level, ends with all of them, and
-- never falls.
pub record AreAdvancing (codes limit : ℕ) (fronts : ℕ → ℕ → ℕ) (stages : ℕ) : Type 0 where
  pub some : 0 < stages
  pub first : (c : ℕ) → fronts 0 c ≡ 0
  pub last : (c : ℕ) → c < codes → fronts stages c ≡ levels_of limit
  pub rising : (s c : ℕ) → fronts s c ≤ fronts (s + 1) c

-- A FUNCTION THAT NEVER FALLS
module _ (f : ℕ → ℕ) (rising : (s : ℕ) → f s ≤ f (s + 1)) where
  rises_by : (i d : ℕ) → f i ≤ f (i + d)
  rises_by i zero = let e : i + 0 ≡ i = omega arith in subst (λ n. f i ≤ f n) (sym e) (omega arith)
  rises_by i (suc d) =
      let e : (i + d) + 1 ≡ i + suc d = omega arith in
      let was = rises_by i d in
      let step = rising (i + d) in
      subst (λ n. f i ≤ f n) e (omega arith)

  pub rises : (i s : ℕ) → i ≤ s → f i ≤ f s
  rises i s h = let e : i + (s - i) ≡ s = omega arith in subst (λ n. f i ≤ f n) e (rises_by i (s - i))

  -- from 0 it passes each number that it comes above
  crossing : f 0 ≡ 0 → (l n : ℕ) → l < f n → (s : ℕ) × (s < n) × (f s ≤ l) × (l < f (s + 1))
  crossing z l zero h = absurd (omega arith)
  crossing z l (suc n) h = elim (cases_lt l (f n)) [
    | inl w ↦ let r = crossing z l n w in (r.0, let q = r.1 in omega arith, r.2, r.3)
    | inr w ↦ let e : suc n ≡ n + 1 = omega arith in (n, omega arith, w, subst (λ m. l < f m) e h)
  ]

module _ (old new : Plan) (before after : Ranks) (limit : ℕ) where
  -- where no level is switched
  pub leads_from : (fronts : ℕ → ℕ) → ((c : ℕ) → fronts c ≡ 0) → plan_of old new before after limit fronts ≡ old
  leads_from fronts none = λ i. rerouted old
      (replaced_none (λ (r : Route). is_switched before after limit (fronts r.code) r.exchange r.code) old.routes new.routes (λ r. let z = none r.code in not_before (level_at before after limit r.exchange r.code) (fronts r.code) (omega arith)) i)
      (replaced_none (λ (b : Pair). is_bar_switched new limit (fronts b.code) b.exchange b.code) old.bars new.bars (λ b. let z = none b.code in not_before (bar_level limit (is_barred new b.exchange b.code)) (fronts b.code) (omega arith)) i)

  pub by_mixtures : (fronts : ℕ → ℕ) → IsPlan old → IsPlan new → SameNetwork old new → IsMixture old new (plan_of old new before after limit fronts)
  by_mixtures fronts ok new_ok same = switched_mixture old new (λ x c. is_switched before after limit (fronts c) x c) (λ x c. is_bar_switched new limit (fronts c) x c) ok new_ok same

  module _ (spare : ℕ) (both : AreBothCertified old new before after limit spare) where
    list_within : (x c : ℕ) → c < length old.codes → level_at before after limit x c < 2 * (limit + 2)
    list_within x c h = level_within limit (before c x) (after c x) (low_before old new before after limit spare both c x h) (low_after old new before after limit spare both c x h)

    module _ (fronts : ℕ → ℕ → ℕ) (stages : ℕ) (advancing : AreAdvancing (length old.codes) limit fronts stages) where
      pub list_switched : (x c : ℕ) → c < length old.codes → IsListSwitched old new (λ s. plan_of old new before after limit (fronts s)) stages x c
      list_switched x c w =
          let l = level_at before after limit x c in
          let within = list_within x c w in
          let end = advancing.last c w in
          let r = crossing (λ s. fronts s c) (λ s. advancing.rising s c) (advancing.first c) l stages (omega arith) in
          record {
            stage = r.0;
            within = r.1;
            before = λ i h.
                let up = rises (λ s. fronts s c) (λ s. advancing.rising s c) i r.0 h in
                let q = r.2 in
                list_old old new (λ x c. is_switched before after limit (fronts i c) x c) (λ x c. is_bar_switched new limit (fronts i c) x c) x c (not_before l (fronts i c) (omega arith));
            after = λ i h.
                let up = rises (λ s. fronts s c) (λ s. advancing.rising s c) (r.0 + 1) i (omega arith) in
                let q = r.3 in
                list_new old new (λ x c. is_switched before after limit (fronts i c) x c) (λ x c. is_bar_switched new limit (fronts i c) x c) x c (lt-ltb l (fronts i c) (omega arith));
          }

      pub bar_switched : (x c : ℕ) → c < length old.codes → IsBarSwitched old new (λ s. plan_of old new before after limit (fronts s)) stages x c
      bar_switched x c w =
          let l = bar_level limit (is_barred new x c) in
          let within = bar_within limit (is_barred new x c) in
          let end = advancing.last c w in
          let r = crossing (λ s. fronts s c) (λ s. advancing.rising s c) (advancing.first c) l stages (omega arith) in
          record {
            stage = r.0;
            within = r.1;
            before = λ i h.
                let up = rises (λ s. fronts s c) (λ s. advancing.rising s c) i r.0 h in
                let q = r.2 in
                bar_old old new (λ x c. is_switched before after limit (fronts i c) x c) (λ x c. is_bar_switched new limit (fronts i c) x c) x c (not_before l (fronts i c) (omega arith));
            after = λ i h.
                let up = rises (λ s. fronts s c) (λ s. advancing.rising s c) (r.0 + 1) i (omega arith) in
                let q = r.3 in
                bar_new old new (λ x c. is_switched before after limit (fronts i c) x c) (λ x c. is_bar_switched new limit (fronts i c) x c) x c (lt-ltb l (fronts i c) (omega arith));
          }

    -- where each level is switched
    module _ (fronts : ℕ → ℕ) (all : (c : ℕ) → c < length old.codes → fronts c ≡ levels_of limit) where
      route_last : (r : Route) → r.code < length old.codes → is_switched before after limit (fronts r.code) r.exchange r.code ≡ true
      route_last r h = let w = list_within r.exchange r.code h in let e = all r.code h in lt-ltb (level_at before after limit r.exchange r.code) (fronts r.code) (omega arith)

      bar_last : (b : Pair) → b.code < length old.codes → is_bar_switched new limit (fronts b.code) b.exchange b.code ≡ true
      bar_last b h = let w = bar_within limit (is_barred new b.exchange b.code) in let e = all b.code h in lt-ltb (bar_level limit (is_barred new b.exchange b.code)) (fronts b.code) (omega arith)

      pub leads_to : plan_of old new before after limit fronts ≡ new
      leads_to =
          let fewer = λ (c : ℕ) (h : c < length new.codes). subst (λ n. c < n) (ap length (sym both.network.codes)) h in
          (λ i. rerouted old
          (replaced_all (λ (r : Route). is_switched before after limit (fronts r.code) r.exchange r.code) old.routes new.routes
          (all_map old.routes (λ r h. route_last r h.code) both.old_rules.routes)
          (all_map new.routes (λ r h. route_last r (fewer r.code h.code)) both.new_rules.routes) i)
          (replaced_all (λ (b : Pair). is_bar_switched new limit (fronts b.code) b.exchange b.code) old.bars new.bars
          (all_map old.bars (λ b h. bar_last b h.code) both.old_rules.bars)
          (all_map new.bars (λ b h. bar_last b (fewer b.code h.code)) both.new_rules.bars) i))
          ∙ rerouted-is old new both.network

    -- AN ORDER
    pub order_by : (fronts : ℕ → ℕ → ℕ) (stages : ℕ) → AreAdvancing (length old.codes) limit fronts stages
        → ((s : ℕ) → s < stages → (ranks : Ranks) × AreCommon (plan_of old new before after limit (fronts s)) (plan_of old new before after limit (fronts (s + 1))) ranks limit spare)
        → IsOrder old new (λ s. plan_of old new before after limit (fronts s)) stages limit spare
    order_by fronts stages advancing safe = record {
      first = leads_from (fronts 0) advancing.first;
      last = λ some. leads_to (fronts stages) advancing.last;
      none = λ e. let some = advancing.some in absurd (omega arith);
      mixtures = λ i. by_mixtures (fronts i) both.old_rules both.new_rules both.network;
      certified = λ i. (ranks_by before after limit (fronts i), front_certified old new before after limit spare both (fronts i));
      lists = λ x c h apart. list_switched fronts stages advancing x c h;
      bars = λ x c h apart. bar_switched fronts stages advancing x c h;
      safe = safe;
    }

    -- where the two plans are alike, it has no stage
    pub no_order_needed : (fronts : ℕ → ℕ → ℕ) → ((c : ℕ) → fronts 0 c ≡ 0) → AreAlike old new → IsOrder old new (λ s. plan_of old new before after limit (fronts s)) 0 limit spare
    no_order_needed fronts none alike = record {
      first = leads_from (fronts 0) none;
      last = λ some. absurd (omega arith);
      none = λ e. alike;
      mixtures = λ i. by_mixtures (fronts i) both.old_rules both.new_rules both.network;
      certified = λ i. (ranks_by before after limit (fronts i), front_certified old new before after limit spare both (fronts i));
      lists = λ x c h apart. absurd (apart ((alike c h).lists x));
      bars = λ x c h apart. absurd (apart ((alike c h).bars x));
      safe = λ i h. absurd (omega arith);
    }

    -- where each level is a stage
    pub each_level : AreAdvancing (length old.codes) limit (λ s c. s) (levels_of limit)
    each_level = record { some = omega arith; first = λ c. refl; last = λ c h. refl; rising = λ s c. omega arith }

    pub stage_safe : (i : ℕ) → (ranks : Ranks) × AreCommon (plan_at old new before after limit i) (plan_at old new before after limit (i + 1)) ranks limit spare
    stage_safe i = elim (cases_lt i (limit + 2)) [
      | inl h ↦ (ranks_at before after limit i, falling_common old new before after limit spare both i h)
      | inr h ↦ (ranks_at before after limit (i + 1), rising_common old new before after limit spare both i h)
    ]

    pub is_order : IsOrder old new (plan_at old new before after limit) (levels_of limit) limit spare
    is_order = order_by (λ s c. s) (levels_of limit) each_level (λ i h. stage_safe i)

-- WHAT CERTIFIES A PLAN CERTIFIES EACH ONE THAT IS ALIKE
module _ (p q : Plan) (same : SameNetwork p q) (alike : AreAlike p q) (ranks : Ranks) (limit spare : ℕ) (certified : IsCertified p ranks limit spare) where
  within_first : (c : ℕ) → c < length q.codes → c < length p.codes
  within_first c h = subst (λ n. c < n) (ap length (sym same.codes)) h

  net_alike : (c : ℕ) → c < length p.codes → net_of p c ≡ net_of q c
  net_alike c h =
      let a = alike c h in
      λ i. record {
        exchanges = length (same.exchanges i);
        home = sym (homes_same p q same c) i;
        list = λ x. a.lists x i;
        fewest = λ x. length (a.lists x i);
        far = λ g x. sym (ends_same p q same g x) i;
        is_origin = λ x. sym (origin_as p q same x c (sym (a.bars x))) i;
      }

  pub certified_alike : IsCertified q ranks limit spare
  certified_alike = certified_codes q ranks limit spare
      (subst (λ codes. (i j : ℕ) (c d : Code) → slice_get codes i ≡ Some c → slice_get codes j ≡ Some d → is_prefix c.figures d.figures ≡ true → c.figures ≡ d.figures) same.codes certified.no_prefix)
      (λ c h. subst (λ (n : Net). Certifies n (ranks c) limit spare) (net_alike c (within_first c h)) (certifies_code p ranks limit spare certified c (within_first c h)))

module _ (old new : Plan) (limit spare : ℕ) where
  last_certified : (plans : ℕ → Plan) (stages : ℕ) → SameNetwork old new → IsOrder old new plans stages limit spare → CanBeCertified new limit spare
  last_certified plans zero same o =
      let a = o.certified 0 in
      (a.0, certified_alike old new same (o.none refl) a.0 limit spare (subst (λ p. IsCertified p a.0 limit spare) o.first a.1))
  last_certified plans (suc n) same o =
      let a = o.certified (suc n) in
      (a.0, subst (λ p. IsCertified p a.0 limit spare) (o.last (omega arith)) a.1)

  pub from_order : SameNetwork old new → HasOrder old new limit spare → CanBothBeCertified old new limit spare
  from_order same h =
      let a = h.2.certified 0 in
      ((a.0, subst (λ p. IsCertified p a.0 limit spare) h.2.first a.1), last_certified h.0 h.1 same h.2)

  to_order : IsPlan old → IsPlan new → SameNetwork old new → CanBothBeCertified old new limit spare → HasOrder old new limit spare
  to_order ok new_ok same can =
      (plan_at old new can.0.0 can.1.0 limit, levels_of limit, is_order old new can.0.0 can.1.0 limit spare (record { network = same; old_rules = ok; new_rules = new_ok; old_certified = can.0.1; new_certified = can.1.1 }))

  pub exactly_ordered : IsPlan old → IsPlan new → SameNetwork old new → HasOrder old new limit spare ↔ CanBothBeCertified old new limit spare
  exactly_ordered ok new_ok same = (from_order same, to_order ok new_ok same)
