-- The joined network is a plan, and it has the network of both plans.
use Rattle.tx_join.proofs.Common.{◌≡◌, ℕ, ◌<◌, ◌≤◌, Bool, true, false, not, List, [], length, map, max, Option, Some, None, unwrap_or, refl, sym, ap, ◌∙◌, subst, arith, filter, find, slice_get, AllByRecursion, option_map, option_map_or, bytes_eq, not-true, same_Some, slice_get-map, slice_get_within, length-map, OneWay, is_name, Plan, Code, Group, group_named, figures_of, group_name, home_of, IsPlan, IsCode, IsGroup, ends_of, direction_of, count_of, entry_at, all_at, all_kept, all_joined, all_pass, code_within, all_map, all_mapped, all_with, longer_by, slice_get_left, placed, no_index, none_passes, code_back, group_back, list_any-map, CanBeJoined, HasNetwork, KnowsExchanges}
use Rattle.tx_plan.specs.Declaring.{has_exchange, has_code, has_group, exchange_at, code_at, group_at}
use Rattle.tx_join.specs.Joined.{joined_network, joined_exchange, joined_code, joined_group, widened, circuits_named, exchange_in, code_in, group_in}
use Rattle.tx_join.proofs.Found.{IsEntry, all_of, entry_found, find-map}
use Rattle.tx_join.proofs.Knows.{exchange_there, exchange_named_so, exchanges_apart, code_there, code_named_so, group_there, group_named_so}
use Rattle.tx_join.proofs.Rows.{code_keys, group_keys, keys_differ, found_first, found_second, has_key, knows_old_exchanges, knows_new_exchanges, knows_old_codes, knows_new_codes, knows_old_groups, knows_new_groups, exchange_stays, code_stays, group_stays}
use Rattle.tx_join.proofs.United.{united_differ}
use Rattle.tx_join.proofs.Unrefused.{one_home, one_group, few_exchanges, few_codes, few_groups}

abbrev row_ends : Option Group → ℕ × ℕ
row_ends o = option_map_or (λ r. (r.a, r.b)) o (0, 0)

module _ (old new : Plan) (can : CanBeJoined old new) where
  abbrev joined : Plan
  joined = joined_network old new

  ok : IsPlan old
  ok = can.old_rules

  new_ok : IsPlan new
  new_ok = can.new_rules

  -- THE OLD PLAN'S

  old_home_within : (c : ℕ) → c < length old.codes → home_of old c < length old.exchanges
  old_home_within c l =
      let e = entry_at old.codes c l in
      let r = all_at (IsCode old) old.codes c e.0 ok.codes e.1 in
      subst (λ (o : Option Code). option_map_or (λ (r : Code). r.home) o 0 < length old.exchanges) (sym e.1) r.home

  pub has_old : HasNetwork joined old
  has_old = record {
    exchanges = record { there = exchange_there joined old knows; named = exchange_named_so joined old knows };
    codes = record {
      there = code_there joined old (knows_old_codes old new ok new_ok);
      named = code_named_so joined old (knows_old_codes old new ok new_ok);
      home = λ c l. ap (home_of joined) (code_stays old new ok new_ok c l) ∙ ap (λ (o : Option Code). option_map_or (λ (r : Code). r.home) o 0) (slice_get_left old.codes _ c l) ∙ sym (exchange_stays old new ok new_ok (home_of old c) (old_home_within c l));
    };
    groups = record {
      there = group_there joined old (knows_old_groups old new ok new_ok);
      named = group_named_so joined old (knows_old_groups old new ok new_ok);
      first = λ g l. let e = row g l in ap (λ (o : Option Group). (row_ends o).0) e.2 ∙ sym (exchange_stays old new ok new_ok _ (e.3.first)) ∙ ap (λ (o : Option Group). exchange_in joined old (row_ends o).0) (sym e.1);
      second = λ g l. let e = row g l in ap (λ (o : Option Group). (row_ends o).1) e.2 ∙ sym (exchange_stays old new ok new_ok _ (e.3.second)) ∙ ap (λ (o : Option Group). exchange_in joined old (row_ends o).1) (sym e.1);
      direction = λ g l. let e = row g l in ap (λ (o : Option Group). option_map_or (λ (r : Group). r.direction) o OneWay) e.2 ∙ ap (λ (o : Option Group). option_map_or (λ (r : Group). r.direction) o OneWay) (sym e.1);
    };
  }
    where
      knows : KnowsExchanges joined old
      knows = knows_old_exchanges old new ok new_ok

      row : (g : ℕ) → g < length old.groups → (r : Group) × (slice_get old.groups g ≡ Some r) × (slice_get joined.groups (group_in joined old g) ≡ Some (widened new r)) × IsGroup old r
      row g l =
          let e = entry_at old.groups g l in
          let w : length (map (widened new) old.groups) ≡ length old.groups = length-map old.groups (widened new) in
          (e.0, e.1, ap (slice_get joined.groups) (group_stays old new ok new_ok g l) ∙ slice_get_left (map (widened new) old.groups) _ g (subst (λ n. g < n) (sym w) l) ∙ slice_get-map (widened new) old.groups g ∙ ap (option_map (widened new)) e.1, all_at (IsGroup old) old.groups g e.0 ok.groups e.1)

  -- THE NEW PLAN'S

  code_row : (c : ℕ) → c < length new.codes → (z : Code) × (slice_get joined.codes (code_in joined new c) ≡ Some z) × (z.home ≡ exchange_in joined new (home_of new c))
  code_row c l = (e.0, e.1.at, by (has_code old w) refl)
    where
      w : List ℕ
      w = figures_of new c

      t : Code → Bool
      t k = bytes_eq w k.figures

      e : (z : Code) × IsEntry t joined.codes (code_in joined new c) z
      e = entry_found t joined.codes (knows_new_codes old new ok new_ok c l)

      by : (b : Bool) → has_code old w ≡ b → e.0.home ≡ exchange_in joined new (home_of new c)
      by true h =
          let f = entry_found t old.codes h in
          let found : find t joined.codes ≡ Some f.0 = found_first (λ (r : Code). r.figures) t old.codes _ f.0 f.1.found in
          let same : Some e.0 ≡ Some f.0 = sym e.1.found ∙ found in
          let home = one_home old new can.unrefused c (code_at old w) l (placed t old.codes h) in
          let at : home_of old (code_at old w) ≡ f.0.home = ap (λ (o : Option Code). option_map_or (λ (r : Code). r.home) o 0) f.1.at in
          ap (λ (o : Option Code). option_map_or (λ (r : Code). r.home) o 0) same ∙ sym at
          ∙ sym (exchange_stays old new ok new_ok (home_of old (code_at old w)) (old_home_within (code_at old w) (code_within old w h)))
          ∙ ap (exchange_at joined) home
      by false h =
          let f = entry_found t new.codes (code_back new new_ok c l).there in
          let found : find t joined.codes ≡ Some (joined_code old new f.0) =
          found_second (λ (r : Code). r.figures) w old.codes old.codes new.codes (joined_code old new) (λ r. refl) h h ∙ ap (option_map (joined_code old new)) f.1.found in
          let same : Some e.0 ≡ Some (joined_code old new f.0) = sym e.1.found ∙ found in
          let at : slice_get new.codes c ≡ Some f.0 = ap (λ o. slice_get new.codes (unwrap_or o 0)) (sym (code_back new new_ok c l).back) ∙ f.1.at in
          ap (λ (o : Option Code). option_map_or (λ (r : Code). r.home) o 0) same
          ∙ ap (λ (o : Option Code). exchange_in joined new (option_map_or (λ (r : Code). r.home) o 0)) (sym at)

  -- what the joined network has of a group of the new plan
  record IsRowOf (g : ℕ) (z : Group) : Type 0 where
    first : z.a ≡ exchange_in joined new (ends_of new g).0
    second : z.b ≡ exchange_in joined new (ends_of new g).1
    direction : z.direction ≡ direction_of new g

  group_row : (g : ℕ) → g < length new.groups → (z : Group) × (slice_get joined.groups (group_in joined new g) ≡ Some z) × IsRowOf g z
  group_row g l = (e.0, e.1.at, by (has_group old w) refl)
    where
      w : List ℕ
      w = group_name new g

      t : Group → Bool
      t k = bytes_eq w k.name

      e : (z : Group) × IsEntry t joined.groups (group_in joined new g) z
      e = entry_found t joined.groups (knows_new_groups old new ok new_ok g l)

      by : (b : Bool) → has_group old w ≡ b → IsRowOf g e.0
      by true h =
          let f = entry_found t old.groups h in
          let k = group_at old w in
          let found : find t joined.groups ≡ Some (widened new f.0) = found_first (λ (r : Group). r.name) t (map (widened new) old.groups) _ (widened new f.0) (find-map t (widened new) old.groups ∙ ap (option_map (widened new)) f.1.found) in
          let same : e.0 ≡ widened new f.0 = same_Some _ _ (sym e.1.found ∙ found) in
          let one = one_group old new can.unrefused g k l (placed t old.groups h) in
          let rules = all_at (IsGroup old) old.groups k f.0 ok.groups f.1.at in
          record {
            first = ap (λ (r : Group). r.a) same ∙ sym (exchange_stays old new ok new_ok f.0.a rules.first) ∙ ap (λ (o : Option Group). exchange_in joined old (row_ends o).0) (sym f.1.at) ∙ ap (exchange_at joined) one.first;
            second = ap (λ (r : Group). r.b) same ∙ sym (exchange_stays old new ok new_ok f.0.b rules.second) ∙ ap (λ (o : Option Group). exchange_in joined old (row_ends o).1) (sym f.1.at) ∙ ap (exchange_at joined) one.second;
            direction = ap (λ (r : Group). r.direction) same ∙ ap (λ (o : Option Group). option_map_or (λ (r : Group). r.direction) o OneWay) (sym f.1.at) ∙ one.direction;
          }
      by false h =
          let f = entry_found t new.groups (group_back new new_ok g l).there in
          let none : has_key (λ (r : Group). r.name) (map (widened new) old.groups) w ≡ false = list_any-map (λ (r : Group). bytes_eq w r.name) (widened new) old.groups ∙ h in
          let found : find t joined.groups ≡ Some (joined_group old new f.0) =
          found_second (λ (r : Group). r.name) w (map (widened new) old.groups) old.groups new.groups (joined_group old new) (λ r. refl) none h ∙ ap (option_map (joined_group old new)) f.1.found in
          let same : e.0 ≡ joined_group old new f.0 = same_Some _ _ (sym e.1.found ∙ found) in
          let at : slice_get new.groups g ≡ Some f.0 = ap (λ o. slice_get new.groups (unwrap_or o 0)) (sym (group_back new new_ok g l).back) ∙ f.1.at in
          record {
            first = ap (λ (r : Group). r.a) same ∙ ap (λ (o : Option Group). exchange_in joined new (row_ends o).0) (sym at);
            second = ap (λ (r : Group). r.b) same ∙ ap (λ (o : Option Group). exchange_in joined new (row_ends o).1) (sym at);
            direction = ap (λ (r : Group). r.direction) same ∙ ap (λ (o : Option Group). option_map_or (λ (r : Group). r.direction) o OneWay) (sym at);
          }

  pub has_new : HasNetwork joined new
  has_new = record {
    exchanges = record { there = exchange_there joined new knows; named = exchange_named_so joined new knows };
    codes = record {
      there = code_there joined new (knows_new_codes old new ok new_ok);
      named = code_named_so joined new (knows_new_codes old new ok new_ok);
      home = λ c l. let r = code_row c l in ap (λ (o : Option Code). option_map_or (λ (r : Code). r.home) o 0) r.1 ∙ r.2;
    };
    groups = record {
      there = group_there joined new (knows_new_groups old new ok new_ok);
      named = group_named_so joined new (knows_new_groups old new ok new_ok);
      first = λ g l. let r = group_row g l in ap (λ (o : Option Group). (row_ends o).0) r.1 ∙ r.2.first;
      second = λ g l. let r = group_row g l in ap (λ (o : Option Group). (row_ends o).1) r.1 ∙ r.2.second;
      direction = λ g l. let r = group_row g l in ap (λ (o : Option Group). option_map_or (λ (r : Group). r.direction) o OneWay) r.1 ∙ r.2.direction;
    };
  }
    where
      knows : KnowsExchanges joined new
      knows = knows_new_exchanges old new ok new_ok

  -- THE CIRCUITS OF ITS GROUPS

  -- each group has the greater of both numbers
  abbrev IsWide : Group → Type 0
  IsWide z = z.count ≡ max (circuits_named old z.name) (circuits_named new z.name)

  alone : (n : ℕ) → n ≡ max 0 n
  alone n = omega arith

  row_named : (p : Plan) → IsPlan p → (g : ℕ) (r : Group) → slice_get p.groups g ≡ Some r → circuits_named p r.name ≡ r.count
  row_named p p_ok g r e =
      let name : group_name p g ≡ r.name = ap (λ (o : Option Group). option_map_or (λ (r : Group). r.name) o []) e in
      ap (circuits_named p) (sym name) ∙ ap (λ o. option_map_or (count_of p) o 0) (group_back p p_ok g (slice_get_within p.groups g r e)).back
      ∙ ap (λ (o : Option Group). option_map_or (λ (r : Group). r.count) o 0) e

  old_wide : AllByRecursion (λ r. IsWide (widened new r)) old.groups
  old_wide = all_of (λ r. IsWide (widened new r)) old.groups (λ g r e. ap (λ n. max n (circuits_named new r.name)) (sym (row_named old ok g r e)))

  new_wide : AllByRecursion (λ r. IsWide (joined_group old new r)) (filter (λ g. not (has_group old g.name)) new.groups)
  new_wide = all_with (filter (λ g. not (has_group old g.name)) new.groups)
      (λ r a none.
      let n : circuits_named old r.name ≡ 0 = ap (λ o. option_map_or (count_of old) o 0) (no_index (λ (k : Group). bytes_eq r.name k.name) old.groups (none_passes (λ (k : Group). bytes_eq r.name k.name) old.groups (not-true (has_group old r.name) none))) in
      sym a ∙ alone (circuits_named new r.name) ∙ ap (λ k. max k (circuits_named new r.name)) (sym n))
      (all_kept (λ r. circuits_named new r.name ≡ r.count) (λ g. not (has_group old g.name)) new.groups (all_of (λ r. circuits_named new r.name ≡ r.count) new.groups (row_named new new_ok)))
      (all_pass (λ g. not (has_group old g.name)) new.groups)

  pub circuits : (g : ℕ) → g < length joined.groups → count_of joined g ≡ max (circuits_named old (group_name joined g)) (circuits_named new (group_name joined g))
  circuits g l =
      let e = entry_at joined.groups g l in
      let z = all_at IsWide joined.groups g e.0 (all_joined IsWide (map (widened new) old.groups) _ (all_mapped (widened new) IsWide old.groups old_wide) (all_mapped (joined_group old new) IsWide _ new_wide)) e.1 in
      let name : group_name joined g ≡ e.0.name = ap (λ (o : Option Group). option_map_or (λ (r : Group). r.name) o []) e.1 in
      ap (λ (o : Option Group). option_map_or (λ (r : Group). r.count) o 0) e.1 ∙ z ∙ ap (λ w. max (circuits_named old w) (circuits_named new w)) (sym name)

  -- ITS RULES

  -- an exchange of the new plan is one of the joined network
  end_within : (x : ℕ) → x < length new.exchanges → joined_exchange old new x < length joined.exchanges
  end_within x l = exchange_there joined new (knows_new_exchanges old new ok new_ok) x l

  new_code : (r : Code) → IsCode new r → IsCode joined (joined_code old new r)
  new_code r h = record { figures = h.figures; home = end_within r.home h.home }

  old_group : (r : Group) → IsGroup old r → IsGroup joined (widened new r)
  old_group r h =
      let l = longer_by old.exchanges (filter (λ x. not (has_exchange old x)) new.exchanges) in
      let a = h.first in
      let b = h.second in
      let s = h.some in
      let f = h.few in
      let n = few_named r.name in
      record { name = h.name; first = omega (arith, l, a); second = omega (arith, l, b); ends_differ = h.ends_differ; some = omega (arith, s); few = omega (arith, f, n) }
    where
      few_named : (w : List ℕ) → circuits_named new w ≤ 240
      few_named w = by (group_named new w)
        where
          at : (g : ℕ) → count_of new g ≤ 240
          at g = row (slice_get new.groups g) refl
            where
              row : (o : Option Group) → slice_get new.groups g ≡ o → option_map_or (λ (r : Group). r.count) o 0 ≤ 240
              row None e = omega arith
              row (Some r) e = (all_at (IsGroup new) new.groups g r new_ok.groups e).few

          by : (o : Option ℕ) → option_map_or (count_of new) o 0 ≤ 240
          by None = omega arith
          by (Some g) = at g

  new_group : (r : Group) → IsGroup new r → IsGroup joined (joined_group old new r)
  new_group r h = record {
    name = h.name;
    first = end_within r.a h.first;
    second = end_within r.b h.second;
    ends_differ = λ e. h.ends_differ (exchanges_apart joined new new_ok (exchange_named_so joined new (knows_new_exchanges old new ok new_ok)) r.a r.b h.first h.second e);
    some = h.some;
    few = h.few;
  }

  pub network_rules : IsPlan joined
  network_rules =
      let more_exchanges = longer_by old.exchanges (filter (λ x. not (has_exchange old x)) new.exchanges) in
      let more_codes = longer_by old.codes (map (joined_code old new) (filter (λ c. not (has_code old c.figures)) new.codes)) in
      record {
        exchanges = all_joined (λ x. is_name x ≡ true) old.exchanges _ ok.exchanges (all_kept (λ x. is_name x ≡ true) (λ x. not (has_exchange old x)) new.exchanges new_ok.exchanges);
        exchanges_differ = united_differ old.exchanges new.exchanges ok.exchanges_differ new_ok.exchanges_differ;
        few_exchanges = few_exchanges old new can.unrefused;
        codes = all_joined (IsCode joined) old.codes _
            (all_map old.codes (λ r h. let l = h.home in record { figures = h.figures; home = omega (arith, more_exchanges, l) }) ok.codes)
            (all_mapped (joined_code old new) (IsCode joined) _ (all_map _ new_code (all_kept (IsCode new) (λ c. not (has_code old c.figures)) new.codes new_ok.codes)));
        codes_differ = keys_differ (λ (r : Code). r.figures) joined.codes old.codes new.codes (code_keys old new) ok.codes_differ new_ok.codes_differ;
        few_codes = few_codes old new can.unrefused;
        ranges = all_map old.ranges (λ r h. let l = h.code in record { code = omega (arith, more_codes, l); low = h.low; high = h.high; width = h.width; order = h.order }) ok.ranges;
        ranges_apart = ok.ranges_apart;
        few_ranges = ok.few_ranges;
        groups = all_joined (IsGroup joined) (map (widened new) old.groups) _
            (all_mapped (widened new) (IsGroup joined) old.groups (all_map old.groups old_group ok.groups))
            (all_mapped (joined_group old new) (IsGroup joined) _ (all_map _ new_group (all_kept (IsGroup new) (λ g. not (has_group old g.name)) new.groups new_ok.groups)));
        groups_differ = keys_differ (λ (r : Group). r.name) joined.groups old.groups new.groups (group_keys old new) ok.groups_differ new_ok.groups_differ;
        few_groups = few_groups old new can.unrefused;
        routes = tt;
        routes_differ = tt;
        bars = tt;
        bars_differ = tt;
      }
