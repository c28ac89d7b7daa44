-- A step of each loop that declares the entries of a plan, by the words that are handed to the
-- builder.
use Rattle.tx_join.proofs.Common.{◌≡◌, ℕ, ◌+◌, ◌<◌, true, false, max, List, [], length, Some, None, sym, ap, ◌∙◌, slice_get, option_map_or, Direction, OneWay, LineRange, Plan, Code, Group, exchange_name, figures_of, group_name, home_of, IsPlan, ends_of, direction_of, count_of, first_true, exchange_refusals, code_refusals, lines_refusals, group_refusals, with_exchange, with_code, with_lines, with_group, has_exchange, has_code, has_group, entry_at, circuits_named, with_exchanges, with_codes, with_ranges, with_groups, KnowsExchanges, KnowsCodes}
use Rattle.tx_join.proofs.NextDeclared.{exchanges_to, exchange_left, exchange_next, exchange_taken, codes_to, code_left, code_next, code_taken, ranges_to, range_next, range_taken, groups_to, group_left, group_next, group_taken}

-- EXCHANGES

module _ (p from now : Plan) (name : List ℕ) (i : ℕ) (from_ok : IsPlan from) (l : i < length from.exchanges) (is : now ≡ exchanges_to p from i) (named : name ≡ exchange_name from i) where
  exchange_row : (x : List ℕ) × (slice_get from.exchanges i ≡ Some x)
  exchange_row = entry_at from.exchanges i l

  exchange_named_by : name ≡ exchange_row.0
  exchange_named_by = named ∙ ap (λ o. option_map_or (λ w. w) o []) exchange_row.1

  exchange_had : has_exchange now name ≡ has_exchange (exchanges_to p from i) exchange_row.0
  exchange_had = λ j. has_exchange (is j) (exchange_named_by j)

  pub exchange_passed : has_exchange now name ≡ true → (new : Plan) → new ≡ now → new ≡ exchanges_to p from (i + 1)
  exchange_passed h new e = e ∙ is ∙ exchange_left p from from_ok i exchange_row.0 exchange_row.1 (sym exchange_had ∙ h)

  module _ (rules : IsPlan (with_exchanges p from)) (h : has_exchange now name ≡ false) where
    pub exchange_fits : first_true (exchange_refusals now name) ≡ None
    exchange_fits = (λ j. first_true (exchange_refusals (is j) (exchange_named_by j))) ∙ exchange_taken p from from_ok i exchange_row.0 exchange_row.1 rules (sym exchange_had ∙ h)

    pub exchange_added : (new : Plan) → new ≡ with_exchange now name → new ≡ exchanges_to p from (i + 1)
    exchange_added new e = e ∙ (λ j. with_exchange (is j) (exchange_named_by j)) ∙ exchange_next p from from_ok i exchange_row.0 exchange_row.1 rules (sym exchange_had ∙ h)

-- CODES

module _ (p from now : Plan) (figures home : List ℕ) (i : ℕ) (from_ok : IsPlan from) (l : i < length from.codes) (is : now ≡ codes_to p from i) (named : figures ≡ figures_of from i) (at_home : home ≡ exchange_name from (home_of from i)) where
  code_row : (c : Code) × (slice_get from.codes i ≡ Some c)
  code_row = entry_at from.codes i l

  figures_by : figures ≡ code_row.0.figures
  figures_by = named ∙ ap (λ o. option_map_or (λ (c : Code). c.figures) o []) code_row.1

  home_by : home ≡ exchange_name from code_row.0.home
  home_by = at_home ∙ ap (λ o. exchange_name from (option_map_or (λ (c : Code). c.home) o 0)) code_row.1

  code_had : has_code now figures ≡ has_code (codes_to p from i) code_row.0.figures
  code_had = λ j. has_code (is j) (figures_by j)

  pub code_passed : has_code now figures ≡ true → (new : Plan) → new ≡ now → new ≡ codes_to p from (i + 1)
  code_passed h new e = e ∙ is ∙ code_left p from from_ok i code_row.0 code_row.1 (sym code_had ∙ h)

  module _ (rules : IsPlan (with_codes p from)) (knows : KnowsExchanges p from) (h : has_code now figures ≡ false) where
    pub code_fits : first_true (code_refusals now figures home) ≡ None
    code_fits = (λ j. first_true (code_refusals (is j) (figures_by j) (home_by j))) ∙ code_taken p from from_ok i code_row.0 code_row.1 rules knows (sym code_had ∙ h)

    pub code_added : (new : Plan) → new ≡ with_code now figures home → new ≡ codes_to p from (i + 1)
    code_added new e = e ∙ (λ j. with_code (is j) (figures_by j) (home_by j)) ∙ code_next p from from_ok i code_row.0 code_row.1 rules knows (sym code_had ∙ h)

-- RANGES

module _ (p from now : Plan) (r : LineRange) (figures low high : List ℕ) (i : ℕ) (from_ok : IsPlan from) (at : slice_get from.ranges i ≡ Some r) (is : now ≡ ranges_to p from i) (named : figures ≡ figures_of from r.code) (low_is : low ≡ r.low) (high_is : high ≡ r.high) (rules : IsPlan (with_ranges p from)) (knows : KnowsCodes p from) where
  pub range_fits : first_true (lines_refusals now figures low high) ≡ None
  range_fits = (λ j. first_true (lines_refusals (is j) (named j) (low_is j) (high_is j))) ∙ range_taken p from from_ok i r at rules knows

  pub range_added : (new : Plan) → new ≡ with_lines now figures low high → new ≡ ranges_to p from (i + 1)
  range_added new e = e ∙ (λ j. with_lines (is j) (named j) (low_is j) (high_is j)) ∙ range_next p from from_ok i r at rules knows

-- GROUPS

module _ (p from other now : Plan) (name a b : List ℕ) (direction : Direction) (count : ℕ) (i : ℕ) (from_ok : IsPlan from) (l : i < length from.groups) (is : now ≡ groups_to p from other i) (named : name ≡ group_name from i) where
  group_row : (g : Group) × (slice_get from.groups i ≡ Some g)
  group_row = entry_at from.groups i l

  group_named_by : name ≡ group_row.0.name
  group_named_by = named ∙ ap (λ o. option_map_or (λ (g : Group). g.name) o []) group_row.1

  group_had : has_group now name ≡ has_group (groups_to p from other i) group_row.0.name
  group_had = λ j. has_group (is j) (group_named_by j)

  pub group_passed : has_group now name ≡ true → (new : Plan) → new ≡ now → new ≡ groups_to p from other (i + 1)
  group_passed h new e = e ∙ is ∙ group_left p from other from_ok i group_row.0 group_row.1 (sym group_had ∙ h)

  module _ (first : a ≡ exchange_name from (ends_of from i).0) (second : b ≡ exchange_name from (ends_of from i).1) (way : direction ≡ direction_of from i) (many : count ≡ max (count_of from i) (circuits_named other name)) where
    first_by : a ≡ exchange_name from group_row.0.a
    first_by = first ∙ ap (λ o. exchange_name from (option_map_or {U = ℕ × ℕ} (λ (g : Group). (g.a, g.b)) o (0, 0)).0) group_row.1

    second_by : b ≡ exchange_name from group_row.0.b
    second_by = second ∙ ap (λ o. exchange_name from (option_map_or {U = ℕ × ℕ} (λ (g : Group). (g.a, g.b)) o (0, 0)).1) group_row.1

    way_by : direction ≡ group_row.0.direction
    way_by = way ∙ ap (λ o. option_map_or (λ (g : Group). g.direction) o OneWay) group_row.1

    many_by : count ≡ max group_row.0.count (circuits_named other group_row.0.name)
    many_by =
        let n = ap (λ o. option_map_or (λ (g : Group). g.count) o 0) group_row.1 in
        many ∙ (λ j. max (n j) (circuits_named other (group_named_by j)))

    module _ (rules : IsPlan (with_groups p from other)) (knows : KnowsExchanges p from) (h : has_group now name ≡ false) where
      pub group_fits : first_true (group_refusals now name a b count) ≡ None
      group_fits = (λ j. first_true (group_refusals (is j) (group_named_by j) (first_by j) (second_by j) (many_by j))) ∙ group_taken p from other from_ok i group_row.0 group_row.1 rules knows (sym group_had ∙ h)

      pub group_added : (new : Plan) → new ≡ with_group now name a b direction count → new ≡ groups_to p from other (i + 1)
      group_added new e = e ∙ (λ j. with_group (is j) (group_named_by j) (first_by j) (second_by j) (way_by j) (many_by j)) ∙ group_next p from other from_ok i group_row.0 group_row.1 rules knows (sym group_had ∙ h)
