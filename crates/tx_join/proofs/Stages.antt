-- The joined network as it is declared, list by list.
use Rattle.tx_join.proofs.Common.{◌≡◌, ◌≢◌, ℕ, Bool, true, false, not, cond, List, [], ◌∷◌, ◌++◌, map, max, refl, ap, ◌∙◌, arith, length, ◌≤◌, filter, AllByRecursion, option_map_or, bytes_eq, not-true, IsPlan, IsCode, IsRange, IsGroup, EachPair, LineRange, count_of, has_exchange, has_code, has_group, all_map, longer_by, no_index, none_passes, list_any-map, joined_network, joined_group, widened, circuits_named, CanBeJoined, with_exchanges, known_code, with_codes, known_range, with_ranges, known_group, with_groups, KnowsExchanges, KnowsCodes}
use Rattle.tx_plan.specs.Plan.{Plan, Code, Group, no_plan}
use Rattle.tx_plan.specs.Rules.{AreSeparate}
use Rattle.tx_join.proofs.Found.{filter_all, map_same}
use Rattle.tx_join.proofs.JoinedNetwork.{network_rules}
use Rattle.tx_join.proofs.NextDeclared.{all_true}
use Rattle.tx_join.proofs.Rows.{exchange_stays, code_stays, knows_old_exchanges, knows_new_exchanges, knows_old_codes}

-- the first of two joined lists
front_all : {A : Type 0} (P : A → Type 0) (xs ys : List A) → AllByRecursion P (xs ++ ys) → AllByRecursion P xs
front_all P [] ys h = tt
front_all P (x ∷ xs) ys h = (h.0, front_all P xs ys h.1)

pub front_pairs : {A : Type 0} (R : A → A → Type 0) (xs ys : List A) → EachPair R (xs ++ ys) → EachPair R xs
front_pairs R [] ys h = tt
front_pairs R (x ∷ xs) ys h = (front_all (R x) xs ys h.0, front_pairs R xs ys h.1)

-- two maps that agree on what is kept
maps_agree : {A B : Type 0} (s : A → Bool) (f g : A → B) (xs : List A) → ((x : A) → s x ≡ true → f x ≡ g x) → map f (filter s xs) ≡ map g (filter s xs)
maps_agree s f g [] h = refl
maps_agree s f g (x ∷ xs) h = elim (s x) as (λ b. s x ≡ b → map f (cond b (x ∷ filter s xs) (filter s xs)) ≡ map g (cond b (x ∷ filter s xs) (filter s xs))) [
  | true ↦ λ e. (λ i. h x e i ∷ maps_agree s f g xs h i)
  | false ↦ λ e. maps_agree s f g xs h
] refl

module _ (old new : Plan) (can : CanBeJoined old new) where
  abbrev joined : Plan
  joined = joined_network old new

  ok : IsPlan old
  ok = can.old_rules

  new_ok : IsPlan new
  new_ok = can.new_rules

  rules : IsPlan joined
  rules = network_rules old new can

  -- THE STAGES

  abbrev pub stage_1 : Plan
  stage_1 = record no_plan { exchanges = old.exchanges }

  abbrev pub stage_2 : Plan
  stage_2 = record no_plan { exchanges = joined.exchanges }

  abbrev pub stage_3 : Plan
  stage_3 = record stage_2 { codes = old.codes }

  abbrev pub stage_4 : Plan
  stage_4 = record stage_2 { codes = joined.codes }

  abbrev pub stage_5 : Plan
  stage_5 = record stage_4 { ranges = old.ranges }

  abbrev pub stage_6 : Plan
  stage_6 = record stage_5 { groups = map (widened new) old.groups }

  pub old_exchanges : with_exchanges no_plan old ≡ stage_1
  old_exchanges = λ i. record no_plan { exchanges = filter_all (λ x. not (has_exchange no_plan x)) old.exchanges (all_true old.exchanges) i }

  pub new_exchanges : with_exchanges stage_1 new ≡ stage_2
  new_exchanges = refl

  pub old_codes : with_codes stage_2 old ≡ stage_3
  old_codes = λ i. record stage_2 {
    codes = (ap (map (known_code stage_2 old)) (filter_all (λ (c : Code). not (has_code stage_2 c.figures)) old.codes (all_true old.codes))
        ∙ map_same (known_code stage_2 old) old.codes (all_map old.codes (λ c h. λ k. record { figures = c.figures; home = exchange_stays old new ok new_ok c.home h.home k }) ok.codes)) i;
  }

  pub new_codes : with_codes stage_3 new ≡ stage_4
  new_codes = refl

  pub old_ranges : with_ranges stage_4 old ≡ stage_5
  old_ranges = λ i. record stage_4 { ranges = map_same (known_range stage_4 old) old.ranges (all_map old.ranges (λ r h. λ k. record { code = code_stays old new ok new_ok r.code h.code k; low = r.low; high = r.high }) ok.ranges) i }

  pub old_groups : with_groups stage_5 old new ≡ stage_6
  old_groups = λ i. record stage_5 { groups = (ap (map (known_group stage_5 old new)) (filter_all (λ (g : Group). not (has_group stage_5 g.name)) old.groups (all_true old.groups)) ∙ same old.groups ok.groups) i }
    where
      same : (gs : List Group) → AllByRecursion (IsGroup old) gs → map (known_group stage_5 old new) gs ≡ map (widened new) gs
      same [] h = refl
      same (g ∷ gs) h = λ k. record { name = g.name; a = exchange_stays old new ok new_ok g.a h.0.first k; b = exchange_stays old new ok new_ok g.b h.0.second k; direction = g.direction; count = max g.count (circuits_named new g.name) } ∷ same gs h.1 k

  pub new_groups : with_groups stage_6 new old ≡ joined
  new_groups = λ i. record stage_5 { groups = map (widened new) old.groups ++ rest i }
    where
      t : Group → Bool
      t g = not (has_group old g.name)

      none_named : (name : List ℕ) → has_group old name ≡ false → circuits_named old name ≡ 0
      none_named name e = ap (λ o. option_map_or (count_of old) o 0) (no_index (λ (g : Group). bytes_eq name g.name) old.groups (none_passes (λ (g : Group). bytes_eq name g.name) old.groups e))

      rest : map (known_group stage_6 new old) (filter (λ g. not (has_group stage_6 g.name)) new.groups) ≡ map (joined_group old new) (filter t new.groups)
      rest = ap (λ (s : Group → Bool). map (known_group stage_6 new old) (filter s new.groups)) (λ k g. not (list_any-map (λ (h : Group). bytes_eq g.name h.name) (widened new) old.groups k))
          ∙ maps_agree t (known_group stage_6 new old) (joined_group old new) new.groups (λ g e.
          let none = none_named g.name (not-true (has_group old g.name) e) in
          let count : max g.count (circuits_named old g.name) ≡ g.count = omega (arith, none) in
          λ k. record (joined_group old new g) { count = count k })

  -- THEIR RULES

  pub rules_1 : IsPlan stage_1
  rules_1 = record {
    exchanges = ok.exchanges;
    exchanges_differ = ok.exchanges_differ;
    few_exchanges = ok.few_exchanges;
    codes = tt;
    codes_differ = tt;
    few_codes = omega arith;
    ranges = tt;
    ranges_apart = tt;
    few_ranges = omega arith;
    groups = tt;
    groups_differ = tt;
    few_groups = omega arith;
    routes = tt;
    routes_differ = tt;
    bars = tt;
    bars_differ = tt;
  }

  -- a stage, by its codes, its ranges and its groups
  abbrev staged : List Code → List LineRange → List Group → Plan
  staged cs rs gs = record stage_2 { codes = cs; ranges = rs; groups = gs }

  by_lists : (cs : List Code) (rs : List LineRange) (gs : List Group) → AllByRecursion (IsCode (staged cs rs gs)) cs → EachPair (λ (c d : Code). c.figures ≢ d.figures) cs → length cs ≤ 1100
      → AllByRecursion (IsRange (staged cs rs gs)) rs → EachPair AreSeparate rs → length rs ≤ 4096
      → AllByRecursion (IsGroup (staged cs rs gs)) gs → EachPair (λ (g h : Group). g.name ≢ h.name) gs → length gs ≤ 4096 → IsPlan (staged cs rs gs)
  by_lists cs rs gs codes differ few ranges apart few_ranges groups groups_differ few_groups = record {
    exchanges = rules.exchanges;
    exchanges_differ = rules.exchanges_differ;
    few_exchanges = rules.few_exchanges;
    codes = codes;
    codes_differ = differ;
    few_codes = few;
    ranges = ranges;
    ranges_apart = apart;
    few_ranges = few_ranges;
    groups = groups;
    groups_differ = groups_differ;
    few_groups = few_groups;
    routes = tt;
    routes_differ = tt;
    bars = tt;
    bars_differ = tt;
  }

  -- a list without entries is short
  none : 0 ≤ 4096
  none = omega arith

  pub rules_2 : IsPlan stage_2
  rules_2 = by_lists [] [] [] tt tt (omega arith) tt tt none tt tt none

  pub rules_3 : IsPlan stage_3
  rules_3 = by_lists old.codes [] [] (all_map old.codes (λ c h. record { figures = h.figures; home = h.home }) (front_all (IsCode joined) old.codes _ rules.codes)) ok.codes_differ ok.few_codes tt tt none tt tt none

  pub rules_4 : IsPlan stage_4
  rules_4 = by_lists joined.codes [] [] (all_map joined.codes (λ c h. record { figures = h.figures; home = h.home }) rules.codes) rules.codes_differ rules.few_codes tt tt none tt tt none

  pub rules_5 : IsPlan stage_5
  rules_5 =
      by_lists joined.codes old.ranges [] (all_map joined.codes (λ c h. record { figures = h.figures; home = h.home }) rules.codes) rules.codes_differ rules.few_codes
      (all_map old.ranges (λ r h. record { code = h.code; low = h.low; high = h.high; width = h.width; order = h.order }) rules.ranges) rules.ranges_apart rules.few_ranges tt tt none

  pub rules_6 : IsPlan stage_6
  rules_6 =
      by_lists joined.codes old.ranges (map (widened new) old.groups) (all_map joined.codes (λ c h. record { figures = h.figures; home = h.home }) rules.codes) rules.codes_differ rules.few_codes
      (all_map old.ranges (λ r h. record { code = h.code; low = h.low; high = h.high; width = h.width; order = h.order }) rules.ranges) rules.ranges_apart rules.few_ranges
      (all_map (map (widened new) old.groups) (λ g h. record { name = h.name; first = h.first; second = h.second; ends_differ = h.ends_differ; some = h.some; few = h.few }) (front_all (IsGroup joined) (map (widened new) old.groups) _ rules.groups))
      (front_pairs (λ (g h : Group). g.name ≢ h.name) (map (widened new) old.groups) _ rules.groups_differ)
      (let l = longer_by (map (widened new) old.groups) (map (joined_group old new) (filter (λ g. not (has_group old g.name)) new.groups)) in let m = rules.few_groups in omega (arith, l, m))

  -- WHAT IS KNOWN

  pub old_exchanges_known : KnowsExchanges stage_2 old
  old_exchanges_known = knows_old_exchanges old new ok new_ok

  pub new_exchanges_known : KnowsExchanges stage_2 new
  new_exchanges_known = knows_new_exchanges old new ok new_ok

  pub old_codes_known : KnowsCodes stage_4 old
  old_codes_known = knows_old_codes old new ok new_ok
