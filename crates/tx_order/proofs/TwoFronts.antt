-- What certifies a code at two fronts.
use Rattle.std.proofs.Common.{◌≡◌, ◌⊎◌, ℕ, ◌||◌, ◌+◌, ◌<◌, ◌≤◌, Bool, true, false, not, ◌&&◌, cond, nat_lt, min, List, [], ◌∷◌, ◌++◌, length, map, Result, Ok, Err, IfOk, Option, Some, None, inl, inr, refl, sym, ap, ◌∙◌, subst, arith}
use Rattle.std.proofs.lemmas.Bool.{or_left, or_right, or_cases, cases_lt, lt-ltb, le-ltb}
use Rattle.tx_order.proofs.Common.{Plan, home_of, IsPlan, Ranks, route_list, is_barred, is_origin, is_origin_for, SameNetwork, AreCommon, Among, ranks_of, Finding, IsJudged, change_net, levels_of, level_at, bar_level, ranks_at, AreAlikeFor, Transition, IsTransition, plan_with, plan_front, has_list, has_bar, IsSafeBetween, IsFurthest}
use Rattle.tx_plan.specs.Circuits.{other_end}
use Rattle.tx_plan.proofs.Among.{among_cases, among_left, among_right}
use Rattle.tx_rank.specs.declared.finding.Finding.TheVariants.{Short}
use Rattle.tx_rank.specs.Walks.{Net, Walk, IsShort}
use Rattle.tx_rank.specs.Nets.{IsNet, Certifies}
use Rattle.tx_rank.specs.Findings.{AreFindingsOfCode, IsLongIfAny, long_findings}
use Rattle.tx_rank.specs.Findings.AreFindingsOfCode.{looped, straight}
use Rattle.tx_rank.proofs.Walked.{certified_no_loop, certified_no_short, certified_no_long}
use Rattle.tx_change.specs.inner.Joined.{Joined, AreJoined, joined_net}
use Rattle.tx_change.proofs.ChangeNets.{is_change_net}
use Rattle.tx_change.proofs.JoinedNets.{joined_is}
use Rattle.tx_change.proofs.CommonRanks.{common_codes, common_certifies}
use Rattle.tx_order.specs.Stages.{switched}
use Rattle.tx_order.proofs.Switched.{list_new, list_old, bar_new, bar_old}
use Rattle.tx_order.proofs.Leading.{by_mixtures, stage_safe}
use Rattle.tx_order.proofs.OnTheWay.{plan_certified}

-- THE LISTS AND BARS OF A PLAN ON THE WAY

-- the list of an exchange for a code that is in force at a front of the code
abbrev pub list_at : Transition → (front c x : ℕ) → List ℕ
list_at w front c x = cond (has_list w front x c) (route_list w.new x c) (route_list w.old x c)

-- and whether it is barred
abbrev pub barred_at : Transition → (front c x : ℕ) → Bool
barred_at w front c x = cond (has_bar w front x c) (is_barred w.new x c) (is_barred w.old x c)

-- where each exchange has a front of its own for a code
module _ (w : Transition) (fronts : ℕ → ℕ → ℕ) (x c : ℕ) where
  abbrev there : Plan
  there = switched w.old w.new (λ x c. has_list w (fronts x c) x c) (λ x c. has_bar w (fronts x c) x c)

  pub list_there : route_list there x c ≡ list_at w (fronts x c) c x
  list_there = elim (has_list w (fronts x c) x c) as (λ b. has_list w (fronts x c) x c ≡ b → route_list there x c ≡ cond b (route_list w.new x c) (route_list w.old x c)) [
    | true ↦ λ e. list_new w.old w.new (λ x c. has_list w (fronts x c) x c) (λ x c. has_bar w (fronts x c) x c) x c e
    | false ↦ λ e. list_old w.old w.new (λ x c. has_list w (fronts x c) x c) (λ x c. has_bar w (fronts x c) x c) x c e
  ] refl

  pub bar_there : is_barred there x c ≡ barred_at w (fronts x c) c x
  bar_there = elim (has_bar w (fronts x c) x c) as (λ b. has_bar w (fronts x c) x c ≡ b → is_barred there x c ≡ cond b (is_barred w.new x c) (is_barred w.old x c)) [
    | true ↦ λ e. bar_new w.old w.new (λ x c. has_list w (fronts x c) x c) (λ x c. has_bar w (fronts x c) x c) x c e
    | false ↦ λ e. bar_old w.old w.new (λ x c. has_list w (fronts x c) x c) (λ x c. has_bar w (fronts x c) x c) x c e
  ] refl

module _ (w : Transition) (fronts : ℕ → ℕ) (x c : ℕ) where
  pub plan_list : route_list (plan_with w fronts) x c ≡ list_at w (fronts c) c x
  plan_list = list_there w (λ _ c. fronts c) x c

  pub plan_bar : is_barred (plan_with w fronts) x c ≡ barred_at w (fronts c) c x
  plan_bar = bar_there w (λ _ c. fronts c) x c

-- they depend on the front of the code alone
module _ (w : Transition) (fronts : ℕ → ℕ) (x c front : ℕ) (is : front ≡ fronts c) where
  pub list_by_front : route_list (plan_front w front) x c ≡ route_list (plan_with w fronts) x c
  list_by_front = plan_list w (λ _. front) x c ∙ (ap (λ n. list_at w n c x) is ∙ sym (plan_list w fronts x c))

  pub bar_by_front : is_barred (plan_front w front) x c ≡ is_barred (plan_with w fronts) x c
  bar_by_front = plan_bar w (λ _. front) x c ∙ (ap (λ n. barred_at w n c x) is ∙ sym (plan_bar w fronts x c))

-- both plans are alike for a code where they are at its fronts
pub alike_fronts : (w : Transition) (c : ℕ) (u v : ℕ → ℕ) → AreAlikeFor c (plan_with w u) (plan_with w v) → AreAlikeFor c (plan_front w (u c)) (plan_front w (v c))
alike_fronts w c u v a = record {
  lists = λ x. list_by_front w u x c (u c) refl ∙ (a.lists x ∙ sym (list_by_front w v x c (v c) refl));
  bars = λ x. bar_by_front w u x c (u c) refl ∙ (a.bars x ∙ sym (bar_by_front w v x c (v c) refl));
}

-- WHAT CERTIFIES A CODE AT TWO FRONTS CERTIFIES IT IN ANY TWO PLANS WHERE IT HAS THESE

module _ (w : Transition) (u v : ℕ → ℕ) (c : ℕ) where
  net_by_fronts : change_net (plan_front w (u c)) (plan_front w (v c)) c ≡ change_net (plan_with w u) (plan_with w v) c
  net_by_fronts = λ i. record {
    exchanges = length w.old.exchanges;
    home = home_of w.old c;
    list = λ x. list_by_front w u x c (u c) refl i ++ list_by_front w v x c (v c) refl i;
    fewest = λ x. min (length (list_by_front w u x c (u c) refl i)) (length (list_by_front w v x c (v c) refl i));
    far = λ g x. other_end w.old g x;
    is_origin = λ x. (is_origin w.old x && not (bar_by_front w u x c (u c) refl i)) || (is_origin w.old x && not (bar_by_front w v x c (v c) refl i));
  }

-- the ranks of a code that the plan has, and none for any other
module _ (w : Transition) (c from to : ℕ) (safe : c < length w.old.codes → IsSafeBetween w c from to) where
  abbrev pick : (c < length w.old.codes) ⊎ (length w.old.codes ≤ c) → ℕ → Option ℕ
  pick (inl h) = (safe h).0
  pick (inr h) = λ x. None

  picked : (s : (c < length w.old.codes) ⊎ (length w.old.codes ≤ c)) → c < length w.old.codes → Certifies (change_net (plan_front w from) (plan_front w to) c) (pick s) w.limit w.spare
  picked (inl h) k = (safe h).1
  picked (inr h) k = absurd (omega arith)

module _ (w : Transition) (is : IsTransition w) where
  pub rules_with : (fronts : ℕ → ℕ) → IsPlan (plan_with w fronts)
  rules_with fronts = (by_mixtures w.old w.new (ranks_of w.before) (ranks_of w.after) w.limit fronts is.old_rules is.new_rules is.network).rules

  pub network_with : (u v : ℕ → ℕ) → SameNetwork (plan_with w u) (plan_with w v)
  network_with u v = record { exchanges = refl; codes = refl; ranges = refl; groups = refl }

  pub is_between_net : (c from to : ℕ) → c < length w.old.codes → IsNet (change_net (plan_front w from) (plan_front w to) c)
  is_between_net c from to h = is_change_net (plan_front w from) (plan_front w to) (rules_with (λ _. from)) (rules_with (λ _. to)) (network_with (λ _. from) (λ _. to)) c h

  -- one level more is safe
  pub next_safe : (c front : ℕ) → c < length w.old.codes → IsSafeBetween w c front (front + 1)
  next_safe c front h =
      let s = stage_safe w.old w.new (ranks_of w.before) (ranks_of w.after) w.limit w.spare is front in
      (s.0 c, common_certifies (plan_front w front) (plan_front w (front + 1)) (network_with (λ _. front) (λ _. front + 1)) s.0 w.limit w.spare s.1 c h)

  -- and so is none
  pub same_safe : (c front : ℕ) → c < length w.old.codes → IsSafeBetween w c front front
  same_safe c front h =
      let ranks = ranks_at (ranks_of w.before) (ranks_of w.after) w.limit front in
      let p = plan_certified w.old w.new (ranks_of w.before) (ranks_of w.after) w.limit w.spare is front in
      (ranks c, common_certifies (plan_front w front) (plan_front w front) (network_with (λ _. front) (λ _. front)) ranks w.limit w.spare (record { before = p; after = p }) c h)

  -- ranks that certify each code at its fronts are common to both plans
  pub fronts_common : (u v : ℕ → ℕ) (ranks : Ranks) → ((c : ℕ) → c < length w.old.codes → Certifies (change_net (plan_front w (u c)) (plan_front w (v c)) c) (ranks c) w.limit w.spare) → AreCommon (plan_with w u) (plan_with w v) ranks w.limit w.spare
  fronts_common u v ranks each =
      common_codes (plan_with w u) (plan_with w v) (network_with u v) ranks w.limit w.spare is.old_certified.no_prefix
      (λ c h. subst (λ (n : Net). Certifies n (ranks c) w.limit w.spare) (net_by_fronts w u v c) (each c h))

  pub codes_common : (u v : ℕ → ℕ) → ((c : ℕ) → c < length w.old.codes → IsSafeBetween w c (u c) (v c)) → (ranks : Ranks) × AreCommon (plan_with w u) (plan_with w v) ranks w.limit w.spare
  codes_common u v each = (
    λ c. pick w c (u c) (v c) (each c) (cases_lt c (length w.old.codes)),
    fronts_common u v (λ c. pick w c (u c) (v c) (each c) (cases_lt c (length w.old.codes))) (λ c h. picked w c (u c) (v c) (each c) (cases_lt c (length w.old.codes)) h),
  )

-- the network that the joined lists make over the old plan
module _ (w : Transition) (is : IsTransition w) (p : Plan) (old : p ≡ w.old) (c from to : ℕ) (h : c < length w.old.codes) (lists : List Joined) (joined : AreJoined (plan_front w from) (plan_front w to) c lists) where
  pub net_is : joined_net p lists c ≡ change_net (plan_front w from) (plan_front w to) c
  net_is = (λ i. joined_net (old i) lists c) ∙ joined_is (plan_front w from) (plan_front w to) (rules_with w is (λ _. from)) (rules_with w is (λ _. to)) (network_with w is (λ _. from) (λ _. to)) c (is_between_net w is c from to h) lists joined

  pub net_rules : IsNet (joined_net p lists c)
  net_rules = subst IsNet (sym net_is) (is_between_net w is c from to h)

-- NOTHING IS FOUND EXACTLY WHERE RANKS CERTIFY THE CODE

module _ {A : Type 0} (n : Net) (ranks : ℕ → Option ℕ) (c limit spare : ℕ) (cert : Certifies n ranks limit spare) (listed : (x : ℕ) → n.fewest x ≤ length (n.list x)) where
  no_shorts : (shorts : List Walk) → ((v : Walk) → Among v shorts → IsShort n spare v.start v.steps) → ◌≡◌ {A = List (Finding A)} (map (Short c) shorts) []
  no_shorts [] each = refl
  no_shorts (v ∷ vs) each = absurd (certified_no_short n ranks limit spare cert v.start v.steps (each v (inl refl)))

  no_longs : (long : Option Walk) → IsLongIfAny n limit long → ◌≡◌ {A = List (Finding A)} (long_findings c long) []
  no_longs None l = refl
  no_longs (Some v) l = absurd (certified_no_long n ranks limit spare cert listed v.start v.steps l)

  pub none_of_code : (findings : List (Finding A)) → AreFindingsOfCode n c limit spare findings → findings ≡ []
  none_of_code findings (looped v l e) = absurd (certified_no_loop n ranks limit spare cert v.start v.steps l)
  none_of_code findings (straight none shorts s long l e) = e ∙ (λ i. no_shorts shorts s.each i ++ no_longs long l i)

module _ {A : Type 0} (w : Transition) (is : IsTransition w) (c from to : ℕ) (h : c < length w.old.codes) (safe : IsSafeBetween w c from to) where
  module _ (before after : List (Finding A)) (ranks : ℕ → Option ℕ) (j : IsJudged (change_net (plan_front w from) (plan_front w to) c) c w.limit w.spare before after ranks) where
    none_mine : j.mine ≡ []
    none_mine = none_of_code (change_net (plan_front w from) (plan_front w to) c) safe.0 c w.limit w.spare safe.1 (is_between_net w is c from to h).listed j.mine j.listed

  -- so where it can be certified, the ranks that were given certify it
  pub result_certified : {E : Type 0} (before after : List (Finding A)) (ranks : ℕ → Option ℕ) (result : Result (Unit {0}) E) → IfOk result (λ _. IsJudged (change_net (plan_front w from) (plan_front w to) c) c w.limit w.spare before after ranks)
      → IfOk result (λ _. Certifies (change_net (plan_front w from) (plan_front w to) c) ranks w.limit w.spare)
  result_certified before after ranks (Err e) j = j
  result_certified before after ranks (Ok u) j = j.certified (none_mine before after ranks j)

-- LESS IS SAFE WHERE MORE IS

module _ {X : Type 0} (l from mid to : ℕ) (p q : X) (low : from ≤ mid) (high : mid ≤ to) where
  -- what is in force at a front between two others is in force at one of these
  at_either : (cond (nat_lt l mid) p q ≡ cond (nat_lt l from) p q) ⊎ (cond (nat_lt l mid) p q ≡ cond (nat_lt l to) p q)
  at_either = elim (cases_lt l mid) [
    | inl h ↦ inr (ap (λ b. cond b p q) (lt-ltb l mid h) ∙ sym (ap (λ b. cond b p q) (lt-ltb l to (omega arith))))
    | inr h ↦ inl (ap (λ b. cond b p q) (le-ltb l mid h) ∙ sym (ap (λ b. cond b p q) (le-ltb l from (omega arith))))
  ]

module _ (w : Transition) (c from mid to : ℕ) (low : from ≤ mid) (high : mid ≤ to) where
  list_either : (x : ℕ) → (route_list (plan_front w mid) x c ≡ route_list (plan_front w from) x c) ⊎ (route_list (plan_front w mid) x c ≡ route_list (plan_front w to) x c)
  list_either x = elim (at_either (level_at (ranks_of w.before) (ranks_of w.after) w.limit x c) from mid to (route_list w.new x c) (route_list w.old x c) low high) [
    | inl e ↦ inl (plan_list w (λ _. mid) x c ∙ (e ∙ sym (plan_list w (λ _. from) x c)))
    | inr e ↦ inr (plan_list w (λ _. mid) x c ∙ (e ∙ sym (plan_list w (λ _. to) x c)))
  ]

  bar_either : (x : ℕ) → (is_barred (plan_front w mid) x c ≡ is_barred (plan_front w from) x c) ⊎ (is_barred (plan_front w mid) x c ≡ is_barred (plan_front w to) x c)
  bar_either x = elim (at_either (bar_level w.limit (is_barred w.new x c)) from mid to (is_barred w.new x c) (is_barred w.old x c) low high) [
    | inl e ↦ inl (plan_bar w (λ _. mid) x c ∙ (e ∙ sym (plan_bar w (λ _. from) x c)))
    | inr e ↦ inr (plan_bar w (λ _. mid) x c ∙ (e ∙ sym (plan_bar w (λ _. to) x c)))
  ]

  -- calls start there by the plan before or by the one after
  origin_either : (x : ℕ) → is_origin_for (plan_front w mid) x c ≡ true → (is_origin_for (plan_front w from) x c || is_origin_for (plan_front w to) x c) ≡ true
  origin_either x o = elim (bar_either x) [
    | inl e ↦ or_left (is_origin_for (plan_front w from) x c) (is_origin_for (plan_front w to) x c) ((λ i. is_origin w.old x && not (sym e i)) ∙ o)
    | inr e ↦ or_right (is_origin_for (plan_front w from) x c) (is_origin_for (plan_front w to) x c) ((λ i. is_origin w.old x && not (sym e i)) ∙ o)
  ]

  module _ (s : IsSafeBetween w c from to) where
    t : Certifies (change_net (plan_front w from) (plan_front w to) c) s.0 w.limit w.spare
    t = s.1

    pub less_safe : IsSafeBetween w c from mid
    less_safe = (
      s.0,
      record {
        home = t.home;
        origins = λ x o. t.origins x (elim (or_cases (is_origin_for (plan_front w from) x c) (is_origin_for (plan_front w mid) x c) o) [
          | inl h ↦ or_left (is_origin_for (plan_front w from) x c) (is_origin_for (plan_front w to) x c) h
          | inr h ↦ origin_either x h
        ]);
        low = t.low;
        enough = λ x r ranked away.
            let e = t.enough x r ranked away in
            elim (list_either x) [
              | inl k ↦ let n = ap length k in omega arith
              | inr k ↦ let n = ap length k in omega arith
            ];
        lower = λ x r ranked away g n. elim (among_cases g (route_list (plan_front w from) x c) (route_list (plan_front w mid) x c) n) [
          | inl l ↦ let d = t.lower x r ranked away g (among_left g (route_list (plan_front w from) x c) (route_list (plan_front w to) x c) l) in record { to = d.to; rank = d.rank; leads = d.leads; ranked = d.ranked; below = d.below }
          | inr l ↦ elim (list_either x) [
            | inl k ↦ let d = t.lower x r ranked away g (among_left g (route_list (plan_front w from) x c) (route_list (plan_front w to) x c) (subst (Among g) k l)) in record { to = d.to; rank = d.rank; leads = d.leads; ranked = d.ranked; below = d.below }
            | inr k ↦ let d = t.lower x r ranked away g (among_right g (route_list (plan_front w from) x c) (route_list (plan_front w to) x c) (subst (Among g) k l)) in record { to = d.to; rank = d.rank; leads = d.leads; ranked = d.ranked; below = d.below }
          ]
        ];
      },
    )

    pub later_safe : IsSafeBetween w c mid to
    later_safe = (
      s.0,
      record {
        home = t.home;
        origins = λ x o. t.origins x (elim (or_cases (is_origin_for (plan_front w mid) x c) (is_origin_for (plan_front w to) x c) o) [
          | inl h ↦ origin_either x h
          | inr h ↦ or_right (is_origin_for (plan_front w from) x c) (is_origin_for (plan_front w to) x c) h
        ]);
        low = t.low;
        enough = λ x r ranked away.
            let e = t.enough x r ranked away in
            elim (list_either x) [
              | inl k ↦ let n = ap length k in omega arith
              | inr k ↦ let n = ap length k in omega arith
            ];
        lower = λ x r ranked away g n. elim (among_cases g (route_list (plan_front w mid) x c) (route_list (plan_front w to) x c) n) [
          | inl l ↦ elim (list_either x) [
            | inl k ↦ let d = t.lower x r ranked away g (among_left g (route_list (plan_front w from) x c) (route_list (plan_front w to) x c) (subst (Among g) k l)) in record { to = d.to; rank = d.rank; leads = d.leads; ranked = d.ranked; below = d.below }
            | inr k ↦ let d = t.lower x r ranked away g (among_right g (route_list (plan_front w from) x c) (route_list (plan_front w to) x c) (subst (Among g) k l)) in record { to = d.to; rank = d.rank; leads = d.leads; ranked = d.ranked; below = d.below }
          ]
          | inr l ↦ let d = t.lower x r ranked away g (among_right g (route_list (plan_front w from) x c) (route_list (plan_front w to) x c) l) in record { to = d.to; rank = d.rank; leads = d.leads; ranked = d.ranked; below = d.below }
        ];
      },
    )

-- a list that is another one further on is the new one there
pub newly_listed : (w : Transition) (c x from to : ℕ) → from ≤ to → (list_at w from c x ≡ list_at w to c x → ⊥) → list_at w to c x ≡ route_list w.new x c
newly_listed w c x from to up apart =
    let l = level_at (ranks_of w.before) (ranks_of w.after) w.limit x c in
    elim (cases_lt (level_at (ranks_of w.before) (ranks_of w.after) w.limit x c) to) [
      | inl h ↦ ap (λ b. cond b (route_list w.new x c) (route_list w.old x c)) (lt-ltb l to h)
      | inr h ↦ absurd (apart (ap (λ b. cond b (route_list w.new x c) (route_list w.old x c)) (le-ltb l from (omega arith) ∙ sym (le-ltb l to h))))
    ]

-- WHERE NOTHING IS SWITCHED

module _ (w : Transition) (c a b to : ℕ) (same : AreAlikeFor c (plan_front w a) (plan_front w b)) where
  net_from : change_net (plan_front w a) (plan_front w to) c ≡ change_net (plan_front w b) (plan_front w to) c
  net_from = λ i. record {
    exchanges = length w.old.exchanges;
    home = home_of w.old c;
    list = λ x. same.lists x i ++ route_list (plan_front w to) x c;
    fewest = λ x. min (length (same.lists x i)) (length (route_list (plan_front w to) x c));
    far = λ g x. other_end w.old g x;
    is_origin = λ x. (is_origin w.old x && not (same.bars x i)) || is_origin_for (plan_front w to) x c;
  }

  net_to : change_net (plan_front w to) (plan_front w a) c ≡ change_net (plan_front w to) (plan_front w b) c
  net_to = λ i. record {
    exchanges = length w.old.exchanges;
    home = home_of w.old c;
    list = λ x. route_list (plan_front w to) x c ++ same.lists x i;
    fewest = λ x. min (length (route_list (plan_front w to) x c)) (length (same.lists x i));
    far = λ g x. other_end w.old g x;
    is_origin = λ x. is_origin_for (plan_front w to) x c || (is_origin w.old x && not (same.bars x i));
  }

  pub safe_from : IsSafeBetween w c b to → IsSafeBetween w c a to
  safe_from s = (s.0, subst (λ (n : Net). Certifies n s.0 w.limit w.spare) (sym net_from) s.1)

  pub safe_to : IsSafeBetween w c to a → IsSafeBetween w c to b
  safe_to s = (s.0, subst (λ (n : Net). Certifies n s.0 w.limit w.spare) net_to s.1)

module _ (w : Transition) (is : IsTransition w) (c from to : ℕ) (h : c < length w.old.codes) (within : to ≤ levels_of w.limit) (far : IsFurthest w c from to) where
  -- a stage that is as long as it can be switches something, if anything is left to switch
  pub something_switched : (AreAlikeFor c (plan_front w from) (plan_front w (levels_of w.limit)) → ⊥) → AreAlikeFor c (plan_front w from) (plan_front w to) → ⊥
  something_switched left same = elim (cases_lt to (levels_of w.limit)) [
    | inl l ↦ far (to + 1) (omega arith) (omega arith) (safe_from w c from to (to + 1) same (next_safe w is c to h))
    | inr l ↦ let e : to ≡ levels_of w.limit = omega arith in left (subst (λ n. AreAlikeFor c (plan_front w from) (plan_front w n)) e same)
  ]

  -- it goes on to the last level, if nothing is left after it
  pub nothing_left : IsSafeBetween w c from to → AreAlikeFor c (plan_front w to) (plan_front w (levels_of w.limit)) → to ≡ levels_of w.limit
  nothing_left safe same = elim (cases_lt to (levels_of w.limit)) [
    | inl l ↦ absurd (far (levels_of w.limit) l (omega arith) (safe_to w c to (levels_of w.limit) from same safe))
    | inr l ↦ omega arith
  ]
