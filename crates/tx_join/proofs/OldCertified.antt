-- What certifies the old plan over the joined network certifies the old plan as it is.
use Rattle.tx_join.proofs.Common.{◌≡◌, ℕ, ◌<◌, Bool, true, false, not, cond, ◌&&◌, ◌==◌, nat_lt, List, [], ◌∷◌, length, map, Option, Some, None, is_some, refl, sym, ap, ◌∙◌, subst, eqb-true, AllByRecursion, option_map, option_map_or, and_parts, and_from, lt-ltb, ltb-true, length-map, slice_get-map, slice_get_within, LineRange, Plan, Code, Group, Route, home_of, IsPlan, IsRoute, IsRange, entry_at, all_at, all_map, all_with, slice_get_left, joined_network, joined_old, widened, group_in}
use Rattle.std.specs.Prelude.{slice_get, find, option_and_then, if◌then◌else◌}
use Rattle.tx_plan.specs.Circuits.{other_end, far_end}
use Rattle.tx_plan.specs.Routes.{route_list, is_barred, is_origin}
use Rattle.tx_plan.specs.Certified.{Ranks, IsBelow, LeadsLower, LeadsDown, IsCertified}
use Rattle.tx_plan.proofs.Ends.{end_within}
use Rattle.tx_join.specs.Laws.{CanBeJoined, ranks_within}
use Rattle.tx_join.proofs.Found.{entry_found, find_same, any_find, map_same}
use Rattle.tx_join.proofs.JoinedNetwork.{has_old, has_new}
use Rattle.tx_join.proofs.PlansOver.{home_within, own_list, own_bar}
use Rattle.tx_join.proofs.Rows.{exchange_stays, code_stays, group_stays}
use Rattle.tx_join.proofs.Taking.{seized}

-- what holds of the groups of each route, and of none, holds of each list
list_all : (P : Route → Type 0) (Q : List ℕ → Type 0) (t : Route → Bool) (rs : List Route) → Q [] → ((r : Route) → P r → Q r.groups) → AllByRecursion P rs → Q (option_map_or (λ (r : Route). r.groups) (find t rs) [])
list_all P Q t [] q f h = q
list_all P Q t (r ∷ rs) q f h = elim (t r) as (λ b. Q (option_map_or (λ (r : Route). r.groups) (cond b (Some r) (find t rs)) [])) [ true ↦ f r h.0 | false ↦ list_all P Q t rs q f h.1 ]

-- the ranks of exchanges of the plan
rank_within : (p : Plan) (ranks : Ranks) (c x : ℕ) → x < length p.exchanges → ranks_within p ranks c x ≡ ranks c x
rank_within p ranks c x l = ap (λ b. if b then ranks c x else None) (lt-ltb x (length p.exchanges) l)

ranked_within : (p : Plan) (ranks : Ranks) (c x r : ℕ) → ranks_within p ranks c x ≡ Some r → (x < length p.exchanges) × (ranks c x ≡ Some r)
ranked_within p ranks c x r h = from (nat_lt x (length p.exchanges)) refl h
  where
    from : (b : Bool) → nat_lt x (length p.exchanges) ≡ b → (if b then ranks c x else None) ≡ Some r → (x < length p.exchanges) × (ranks c x ≡ Some r)
    from true e k = (ltb-true x (length p.exchanges) e, k)
    from false e k = absurd (let bad : ⊥ = cc in bad)

module _ (old new : Plan) (can : CanBeJoined old new) where
  abbrev joined : Plan
  joined = joined_network old new

  abbrev before : Plan
  before = joined_old old new

  ok : IsPlan old
  ok = can.old_rules

  home_kept : (c : ℕ) → c < length old.codes → home_of before c ≡ home_of old c
  home_kept c l = ap (λ (o : Option Code). option_map_or (λ (r : Code). r.home) o 0) (slice_get_left old.codes _ c l)

  end_kept : (g x : ℕ) → g < length old.groups → other_end before g x ≡ other_end old g x
  end_kept g x l =
      let w : length (map (widened new) old.groups) ≡ length old.groups = length-map old.groups (widened new) in
      ap (option_and_then (λ r. far_end r x)) (slice_get_left (map (widened new) old.groups) _ g (subst (λ n. g < n) (sym w) l) ∙ slice_get-map (widened new) old.groups g) ∙ from (slice_get old.groups g)
    where
      from : (o : Option Group) → option_and_then (λ r. far_end r x) (option_map (widened new) o) ≡ option_and_then (λ r. far_end r x) o
      from None = refl
      from (Some r) = refl

  listed_within : (x c : ℕ) → AllByRecursion (λ g. g < length old.groups) (route_list old x c)
  listed_within x c = list_all (IsRoute old) (AllByRecursion (λ g. g < length old.groups)) (λ r. (r.exchange == x) && (r.code == c)) old.routes tt
      (λ r h. all_map r.groups (λ g m. let s = seized old g r.exchange m in slice_get_within old.groups g s.row s.at) h.outgoing) ok.routes

  list_kept : (x c : ℕ) → x < length old.exchanges → c < length old.codes → route_list before x c ≡ route_list old x c
  list_kept x c l m =
      (λ i. route_list before (sym (exchange_stays old new ok can.new_rules x l) i) (sym (code_stays old new ok can.new_rules c m) i))
      ∙ own_list joined old new (length old.codes) ok can.new_rules (has_old old new can) (has_new old new can) x c (record { exchange = l; code = m })
      ∙ map_same (group_in joined old) (route_list old x c) (all_map (route_list old x c) (group_stays old new ok can.new_rules) (listed_within x c))

  bar_kept : (x c : ℕ) → x < length old.exchanges → c < length old.codes → is_barred before x c ≡ is_barred old x c
  bar_kept x c l m =
      let e = code_stays old new ok can.new_rules c m in
      (λ i. is_barred before (sym (exchange_stays old new ok can.new_rules x l) i) (sym (code_stays old new ok can.new_rules c m) i))
      ∙ own_bar joined old new (length old.codes) ok can.new_rules (has_old old new can) (has_new old new can) x c (record { exchange = l; code = m }) (subst (λ d. d < length old.codes) (sym e) m)

  origin_kept : (x : ℕ) → is_origin before x ≡ is_origin old x
  origin_kept x = any_find (λ (r : LineRange). home_of before r.code == x) old.ranges
      ∙ ap is_some (find_same (λ (r : LineRange). home_of before r.code == x) (λ (r : LineRange). home_of old r.code == x) old.ranges (all_map old.ranges (λ r h. ap (λ y. y == x) (home_kept r.code h.code)) ok.ranges))
      ∙ sym (any_find (λ (r : LineRange). home_of old r.code == x) old.ranges)

  origin_within : (x : ℕ) → is_origin old x ≡ true → x < length old.exchanges
  origin_within x h =
      let e = entry_found (λ (r : LineRange). home_of old r.code == x) old.ranges h in
      let r = all_at (IsRange old) old.ranges _ e.0 ok.ranges e.1.at in
      subst (λ y. y < length old.exchanges) (eqb-true (home_of old e.0.code) x e.1.passes) (home_within old ok e.0.code r.code)

  module _ (ranks : Ranks) (limit spare : ℕ) (h : IsCertified before ranks limit spare) where
    code_within : (c : ℕ) → c < length old.codes → c < length before.codes
    code_within c l = let e = entry_at old.codes c l in slice_get_within before.codes c e.0 (slice_get_left old.codes _ c l ∙ e.1)

    down : (c x r : ℕ) → c < length old.codes → x < length old.exchanges → LeadsDown before ranks spare c x r → LeadsDown old (ranks_within old ranks) spare c x r
    down c x r l m d = record {
      enough = subst (λ gs. spare < length gs) (list_kept x c m l) d.enough;
      each = all_with (route_list old x c) (λ g w k. let e : other_end old g x ≡ Some k.to = sym (end_kept g x w) ∙ k.leads in record {
        to = k.to;
        leads = e;
        lower = subst (λ o. IsBelow o r) (sym (rank_within old ranks c k.to (end_within old ok g x k.to e))) k.lower;
      }) (listed_within x c) (subst (AllByRecursion (LeadsLower before ranks c x r)) (list_kept x c m l) d.each);
    }

    pub certified : IsCertified old (ranks_within old ranks) limit spare
    certified = record {
      no_prefix = λ i j c d a b. h.no_prefix i j c d (slice_get_left old.codes _ i (slice_get_within old.codes i c a) ∙ a) (slice_get_left old.codes _ j (slice_get_within old.codes j d b) ∙ b);
      homes = λ c l. rank_within old ranks c (home_of old c) (home_within old ok c l) ∙ ap (ranks c) (sym (home_kept c l)) ∙ h.homes c (code_within c l);
      origins = λ c x l o.
          let a = and_parts (is_origin old x) (not (is_barred old x c)) o in
          let m = origin_within x a.0 in
          let k = h.origins c x (code_within c l) (and_from (is_origin before x) (not (is_barred before x c)) (origin_kept x ∙ a.0) (ap not (bar_kept x c m l) ∙ a.1)) in
          (k.0, rank_within old ranks c x m ∙ k.1);
      low = λ c x r l e. h.low c x r (code_within c l) (ranked_within old ranks c x r e).1;
      lists = λ c x r l e away.
          let k = ranked_within old ranks c x r e in
          down c x r l k.0 (h.lists c x r (code_within c l) k.1 (λ s. away (s ∙ home_kept c l)));
    }
