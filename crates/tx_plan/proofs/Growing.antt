-- A plan obeys the rules also with one more declaration that nothing refuses.
use Rattle.std.proofs.Common.{◌≡◌, ◌≢◌, ℕ, ◌≤◌, ◌<◌, Bool, true, false, not, ◌&&◌, ◌||◌, ◌==◌, nat_le, nat_lt, List, [], ◌∷◌, length, map, unwrap_or, Option, Some, None, is_none, refl, sym, ap, ◌∙◌, inl, inr, arith, eq-eqb, eqb-true}
use Rattle.tx_plan.proofs.Common.{slice_get, list_any, AllByRecursion, option_map_or, bytes_eq, nat_tests, position-Some, slice_get_within, length-map, is_name, Plan, Code, Group, Route, exchange_named, code_named, group_named, home_of, is_barred, Direction, OneWay, Pair, LineRange, PlanRefusal}
use Rattle.std.proofs.lemmas.Bool.{or_parts, and_cases, not-false, and_parts, eqb-false, not-true}
use Rattle.tx_plan.specs.Lines.{at_most}
use Rattle.tx_plan.specs.Circuits.{may_seize, may_seize_row}
use Rattle.tx_plan.specs.Rules.{EachPair, IsCode, IsRange, IsGroup, IsRoute, IsBar, IsPlan, AreSeparate, is_code, is_national}
use Rattle.tx_plan.specs.Declaring.{first_true, exchange_refusals, code_refusals, lines_refusals, group_refusals, route_refusals, bar_refusals, with_exchange, with_code, with_lines, with_group, with_route, with_bar, exchange_at, code_at, group_at, has_exchange, has_code, has_group, has_route, pair_of, pair_named, holds_at, shares, overlaps, is_not_outgoing, none_twice}
use Rattle.tx_plan.proofs.ByIndex.{pairs_put}
use Rattle.tx_plan.proofs.Lists.{opposed, unlike, at_least, all_map, all_put, none_passes, apart, one_more, longer_by, slice_get_left, placed, placed_within, one_word, all_mapped, all_with}

-- WHERE NOTHING REFUSES

abbrev pub AllFalse : List (Bool × PlanRefusal) → Type 0
AllFalse [] = Unit {0}
AllFalse (t ∷ ts) = (t.0 ≡ false) × AllFalse ts

passed_more : (b : Bool) (r : PlanRefusal) (ts : List (Bool × PlanRefusal)) → (first_true ts ≡ None → AllFalse ts) → first_true ((b, r) ∷ ts) ≡ None → AllFalse ((b, r) ∷ ts)
passed_more true r ts k h = absurd (cc)
passed_more false r ts k h = (refl, k h)

pub passed : (ts : List (Bool × PlanRefusal)) → first_true ts ≡ None → AllFalse ts
passed [] h = tt
passed (t ∷ ts) h = passed_more t.0 t.1 ts (passed ts) h

-- WHAT GROWS

-- what q keeps of p, so that p's entries obey the rules of q
record Grows (p q : Plan) : Type 0 where
  exchanges : length p.exchanges ≤ length q.exchanges
  codes : length p.codes ≤ length q.codes
  homes : (c : ℕ) → c < length p.codes → home_of q c ≡ home_of p c
  seizes : (g x : ℕ) → may_seize p g x ≡ true → may_seize q g x ≡ true

module _ {p q : Plan} (grows : Grows p q) where
  code_on : (c : Code) → IsCode p c → IsCode q c
  code_on c h = let l = grows.exchanges in let m = h.home in record { figures = h.figures; home = omega (arith, l, m) }

  range_on : (r : LineRange) → IsRange p r → IsRange q r
  range_on r h = let l = grows.codes in let m = h.code in record { code = omega (arith, l, m); low = h.low; high = h.high; width = h.width; order = h.order }

  group_on : (g : Group) → IsGroup p g → IsGroup q g
  group_on g h =
      let l = grows.exchanges in
      let m = h.first in
      let n = h.second in
      record { name = h.name; first = omega (arith, l, m); second = omega (arith, l, n); ends_differ = h.ends_differ; some = h.some; few = h.few }

  route_on : (r : Route) → IsRoute p r → IsRoute q r
  route_on r h =
      let l = grows.exchanges in
      let m = h.exchange in
      let k = grows.codes in
      let n = h.code in
      record {
        exchange = omega (arith, l, m);
        code = omega (arith, k, n);
        away = λ e. h.away (sym (grows.homes r.code h.code) ∙ e);
        some = h.some;
        few = h.few;
        outgoing = all_map r.groups (λ g. grows.seizes g r.exchange) h.outgoing;
        differ = h.differ;
      }

  bar_on : (b : Pair) → IsBar p b → IsBar q b
  bar_on b h =
      let l = grows.exchanges in
      let m = h.exchange in
      let k = grows.codes in
      let n = h.code in
      record { exchange = omega (arith, l, m); code = omega (arith, k, n); away = λ e. h.away (sym (grows.homes b.code h.code) ∙ e) }

-- ENTRIES THAT ARE DECLARED

pub exchange_within : (p : Plan) (name : List ℕ) → has_exchange p name ≡ true → exchange_at p name < length p.exchanges
exchange_within p name h = placed_within (bytes_eq name) p.exchanges h

pub code_within : (p : Plan) (figures : List ℕ) → has_code p figures ≡ true → code_at p figures < length p.codes
code_within p figures h = placed_within (λ c. bytes_eq figures c.figures) p.codes h

-- EXCHANGES

pub kept_exchange : (p : Plan) (name : List ℕ) → IsPlan p → first_true (exchange_refusals p name) ≡ None → IsPlan (with_exchange p name)
kept_exchange p name h none =
    let t = passed (exchange_refusals p name) none in
    let g : Grows p (with_exchange p name) = record { exchanges = longer_by p.exchanges (name ∷ []); codes = omega arith; homes = λ c l. refl; seizes = λ g x s. s } in
    record {
      exchanges = all_put (λ x. is_name x ≡ true) p.exchanges name h.exchanges (not-false (is_name name) t.0);
      exchanges_differ = pairs_put (λ x y. x ≢ y) p.exchanges name h.exchanges_differ (apart (bytes_eq name) (λ x. x ≢ name) p.exchanges (λ x n e. unlike name x n (sym e)) t.1.0);
      few_exchanges = one_more p.exchanges name 256 t.1.1.0;
      codes = all_map p.codes (code_on g) h.codes;
      codes_differ = h.codes_differ;
      few_codes = h.few_codes;
      ranges = all_map p.ranges (range_on g) h.ranges;
      ranges_apart = h.ranges_apart;
      few_ranges = h.few_ranges;
      groups = all_map p.groups (group_on g) h.groups;
      groups_differ = h.groups_differ;
      few_groups = h.few_groups;
      routes = all_map p.routes (route_on g) h.routes;
      routes_differ = h.routes_differ;
      bars = all_map p.bars (bar_on g) h.bars;
      bars_differ = h.bars_differ;
    }

-- CODES

pub kept_code : (p : Plan) (code home : List ℕ) → IsPlan p → first_true (code_refusals p code home) ≡ None → IsPlan (with_code p code home)
kept_code p code home h none =
    let t = passed (code_refusals p code home) none in
    let c : Code = record { figures = code; home = exchange_at p home } in
    let g : Grows p (with_code p code home) = record {
      exchanges = omega arith;
      codes = longer_by p.codes (c ∷ []);
      homes = λ i l. ap (λ o. option_map_or (λ (c : Code). c.home) o 0) (slice_get_left p.codes (c ∷ []) i l);
      seizes = λ g x s. s;
    } in
    record {
      exchanges = h.exchanges;
      exchanges_differ = h.exchanges_differ;
      few_exchanges = h.few_exchanges;
      codes = all_put (IsCode (with_code p code home)) p.codes c (all_map p.codes (code_on g) h.codes) (record { figures = not-false (is_code code) t.1.0; home = exchange_within p home (not-false (has_exchange p home) t.1.1.1.0) });
      codes_differ = pairs_put (λ c d. c.figures ≢ d.figures) p.codes c h.codes_differ (apart (λ d. bytes_eq code d.figures) (λ d. d.figures ≢ code) p.codes (λ d n e. unlike code d.figures n (sym e)) t.1.1.0);
      few_codes = one_more p.codes c 1100 t.1.1.1.1.0;
      ranges = all_map p.ranges (range_on g) h.ranges;
      ranges_apart = h.ranges_apart;
      few_ranges = h.few_ranges;
      groups = all_map p.groups (group_on g) h.groups;
      groups_differ = h.groups_differ;
      few_groups = h.few_groups;
      routes = all_map p.routes (route_on g) h.routes;
      routes_differ = h.routes_differ;
      bars = all_map p.bars (bar_on g) h.bars;
      bars_differ = h.bars_differ;
    }

-- RANGES

overlaps_at : (p : Plan) (o : Option ℕ) (i : ℕ) (low high : List ℕ) → o ≡ Some i → overlaps p o low high ≡ false → list_any (shares i low high) p.ranges ≡ false
overlaps_at p o i low high e h = ap (λ q. overlaps p q low high) (sym e) ∙ h

separate : (r q : LineRange) → shares q.code q.low q.high r ≡ false → AreSeparate r q
separate r q h e w =
    let here : (at_most r.low q.high && at_most q.low r.high) ≡ false = ap (λ b. b && (at_most r.low q.high && at_most q.low r.high)) (sym (eq-eqb (length r.low) (length q.low) w)) ∙ ap (λ b. b && ((length r.low == length q.low) && (at_most r.low q.high && at_most q.low r.high))) (sym (eq-eqb r.code q.code e)) ∙ h in
    elim (and_cases (at_most r.low q.high) (at_most q.low r.high) here) [ inl a ↦ inr a | inr b ↦ inl b ]

pub kept_lines : (p : Plan) (code low high : List ℕ) → IsPlan p → first_true (lines_refusals p code low high) ≡ None → IsPlan (with_lines p code low high)
kept_lines p code low high h none =
    let t = passed (lines_refusals p code low high) none in
    let r : LineRange = record { code = code_at p code; low = low; high = high } in
    let g : Grows p (with_lines p code low high) = record { exchanges = omega arith; codes = omega arith; homes = λ c l. refl; seizes = λ g x s. s } in
    let numbers = or_parts (not (is_national low)) (not (is_national high)) t.1.0 in
    let known = not-false (has_code p code) t.1.1.0 in
    let ordered = and_parts (length low == length high) (at_most low high) (not-false ((length low == length high) && at_most low high) t.1.1.1.0) in
    let alone = overlaps_at p (code_named p code) (code_at p code) low high (placed (λ c. bytes_eq code c.figures) p.codes known) t.1.1.1.1.0 in
    record {
      exchanges = h.exchanges;
      exchanges_differ = h.exchanges_differ;
      few_exchanges = h.few_exchanges;
      codes = all_map p.codes (code_on g) h.codes;
      codes_differ = h.codes_differ;
      few_codes = h.few_codes;
      ranges = all_put (IsRange (with_lines p code low high)) p.ranges r (all_map p.ranges (range_on g) h.ranges) (record {
        code = code_within p code known;
        low = not-false (is_national low) numbers.0;
        high = not-false (is_national high) numbers.1;
        width = eqb-true (length low) (length high) ordered.0;
        order = ordered.1;
      });
      ranges_apart = pairs_put AreSeparate p.ranges r h.ranges_apart (apart (shares (code_at p code) low high) (λ q. AreSeparate q r) p.ranges (λ q. separate q r) alone);
      few_ranges = one_more p.ranges r 4096 t.1.1.1.1.1.0;
      groups = all_map p.groups (group_on g) h.groups;
      groups_differ = h.groups_differ;
      few_groups = h.few_groups;
      routes = all_map p.routes (route_on g) h.routes;
      routes_differ = h.routes_differ;
      bars = all_map p.bars (bar_on g) h.bars;
      bars_differ = h.bars_differ;
    }

-- GROUPS

some_row : (o : Option Group) (x : ℕ) → option_map_or (λ r. may_seize_row r x) o false ≡ true → (r : Group) × (o ≡ Some r)
some_row None x h = absurd (cc)
some_row (Some r) x h = (r, refl)

-- a group that may be seized is one of the plan
pub seizes_within : (p : Plan) (g x : ℕ) → may_seize p g x ≡ true → g < length p.groups
seizes_within p g x h = let row = some_row (slice_get p.groups g) x h in slice_get_within p.groups g row.0 row.1

pub kept_group : (p : Plan) (name a b : List ℕ) (direction : Direction) (count : ℕ) → IsPlan p → first_true (group_refusals p name a b count) ≡ None → IsPlan (with_group p name a b direction count)
kept_group p name a b direction count h none =
    let t = passed (group_refusals p name a b count) none in
    let r : Group = record { name = name; a = exchange_at p a; b = exchange_at p b; direction = direction; count = count } in
    let g : Grows p (with_group p name a b direction count) = record {
      exchanges = omega arith;
      codes = omega arith;
      homes = λ c l. refl;
      seizes = λ i x s. let row = some_row (slice_get p.groups i) x s in ap (λ o. option_map_or (λ (r : Group). may_seize_row r x) o false) (slice_get_left p.groups (r ∷ []) i (slice_get_within p.groups i row.0 row.1)) ∙ s;
    } in
    let named = (or_parts (not (is_name name)) (not (is_name a) || not (is_name b)) t.0).0 in
    let counted = and_parts (nat_le 1 count) (nat_le count 240) (not-false (nat_le 1 count && nat_le count 240) t.1.0) in
    let known = or_parts (not (has_exchange p a)) (not (has_exchange p b)) t.1.1.1.0 in
    let first = not-false (has_exchange p a) known.0 in
    let second = not-false (has_exchange p b) known.1 in
    record {
      exchanges = h.exchanges;
      exchanges_differ = h.exchanges_differ;
      few_exchanges = h.few_exchanges;
      codes = all_map p.codes (code_on g) h.codes;
      codes_differ = h.codes_differ;
      few_codes = h.few_codes;
      ranges = all_map p.ranges (range_on g) h.ranges;
      ranges_apart = h.ranges_apart;
      few_ranges = h.few_ranges;
      groups = all_put (IsGroup (with_group p name a b direction count)) p.groups r (all_map p.groups (group_on g) h.groups) (record {
        name = not-false (is_name name) named;
        first = exchange_within p a first;
        second = exchange_within p b second;
        ends_differ = λ e. unlike a b t.1.1.1.1.0 (one_word (λ x. x) [] a b p.exchanges first second e);
        some = at_least 1 count counted.0;
        few = at_least count 240 counted.1;
      });
      groups_differ = pairs_put (λ g h. g.name ≢ h.name) p.groups r h.groups_differ (apart (λ g. bytes_eq name g.name) (λ g. g.name ≢ name) p.groups (λ g n e. unlike name g.name n (sym e)) t.1.1.0);
      few_groups = one_more p.groups r 4096 t.1.1.1.1.1.0;
      routes = all_map p.routes (route_on g) h.routes;
      routes_differ = h.routes_differ;
      bars = all_map p.bars (bar_on g) h.bars;
      bars_differ = h.bars_differ;
    }

-- PAIRS

pair_some : (o q : Option ℕ) → is_none (pair_of o q) ≡ false → (o ≡ Some (unwrap_or o 0)) × (q ≡ Some (unwrap_or q 0))
pair_some None q h = absurd (cc)
pair_some (Some x) None h = absurd (cc)
pair_some (Some x) (Some c) h = (refl, refl)

pair_holds : (o q : Option ℕ) (test : ℕ → ℕ → Bool) → is_none (pair_of o q) ≡ false → holds_at (pair_of o q) test ≡ test (unwrap_or o 0) (unwrap_or q 0)
pair_holds None q test h = absurd (cc)
pair_holds (Some x) None test h = absurd (cc)
pair_holds (Some x) (Some c) test h = refl

not_pair : (a b x c : ℕ) → ((a == x) && (b == c)) ≡ false → a ≡ x → b ≢ c
not_pair a b x c h e f = opposed ((a == x) && (b == c)) (ap (λ t. t && (b == c)) (eq-eqb a x e) ∙ eq-eqb b c f) h

-- a declared pair that passes some tests
module _ (p : Plan) (exchange code : List ℕ) (known : is_none (pair_named p exchange code) ≡ false) where
  start_within : exchange_at p exchange < length p.exchanges
  start_within = (position-Some (bytes_eq exchange) p.exchanges (exchange_at p exchange) [] (pair_some (exchange_named p exchange) (code_named p code) known).0).0

  goal_within : code_at p code < length p.codes
  goal_within = (position-Some (λ c. bytes_eq code c.figures) p.codes (code_at p code) (record { figures = []; home = 0 }) (pair_some (exchange_named p exchange) (code_named p code) known).1).0

  fails : (test : ℕ → ℕ → Bool) → holds_at (pair_named p exchange code) test ≡ false → test (exchange_at p exchange) (code_at p code) ≡ false
  fails test h = sym (pair_holds (exchange_named p exchange) (code_named p code) test known) ∙ h

-- BARS

pub kept_bar : (p : Plan) (exchange code : List ℕ) → IsPlan p → first_true (bar_refusals p exchange code) ≡ None → IsPlan (with_bar p exchange code)
kept_bar p exchange code h none =
    let t = passed (bar_refusals p exchange code) none in
    let known = t.1.1.1.0 in
    let b : Pair = record { exchange = exchange_at p exchange; code = code_at p code } in
    let g : Grows p (with_bar p exchange code) = record { exchanges = omega arith; codes = omega arith; homes = λ c l. refl; seizes = λ g x s. s } in
    record {
      exchanges = h.exchanges;
      exchanges_differ = h.exchanges_differ;
      few_exchanges = h.few_exchanges;
      codes = all_map p.codes (code_on g) h.codes;
      codes_differ = h.codes_differ;
      few_codes = h.few_codes;
      ranges = all_map p.ranges (range_on g) h.ranges;
      ranges_apart = h.ranges_apart;
      few_ranges = h.few_ranges;
      groups = all_map p.groups (group_on g) h.groups;
      groups_differ = h.groups_differ;
      few_groups = h.few_groups;
      routes = all_map p.routes (route_on g) h.routes;
      routes_differ = h.routes_differ;
      bars = all_put (IsBar (with_bar p exchange code)) p.bars b (all_map p.bars (bar_on g) h.bars) (record {
        exchange = start_within p exchange code known;
        code = goal_within p exchange code known;
        away = eqb-false (home_of p b.code) b.exchange (fails p exchange code known (λ x c. home_of p c == x) t.1.1.1.1.0);
      });
      bars_differ = pairs_put (λ b c. b.exchange ≡ c.exchange → b.code ≢ c.code) p.bars b h.bars_differ
          (apart (λ a. (a.exchange == b.exchange) && (a.code == b.code)) (λ a. a.exchange ≡ b.exchange → a.code ≢ b.code) p.bars (λ a. not_pair a.exchange a.code b.exchange b.code) (fails p exchange code known (is_barred p) t.1.1.0));
    }

-- ROUTES

filled : (n : ℕ) → (n == 0) ≡ false → 1 ≤ n
filled n h = grind (arith, nat_tests)

within : (n : ℕ) → nat_lt 16 n ≡ false → n ≤ 16
within n h = grind (arith, nat_tests)

-- the words of a list are of groups that differ
groups_differ_at : (p : Plan) (words : List (List ℕ)) → none_twice words ≡ true → AllByRecursion (λ w. has_group p w ≡ true) words → EachPair (λ g h. g ≢ h) (map (group_at p) words)
groups_differ_at p [] h known = tt
groups_differ_at p (w ∷ ws) h known =
    let t = and_parts (not (list_any (bytes_eq w) ws)) (none_twice ws) h in (
      all_mapped (group_at p) (λ i. group_at p w ≢ i) ws
          (all_with ws (λ v n k e. unlike w v n (one_word (λ g. g.name) (record { name = []; a = 0; b = 0; direction = OneWay; count = 0 }) w v p.groups known.0 k e)) (none_passes (bytes_eq w) ws (not-true (list_any (bytes_eq w) ws) t.0)) known.1),
      groups_differ_at p ws t.1 known.1,
    )

seized_if : (p : Plan) (x : ℕ) (o : Option ℕ) (i : ℕ) → o ≡ Some i → option_map_or (λ i. not (may_seize p i x)) o false ≡ false → may_seize p i x ≡ true
seized_if p x o i e h = not-false (may_seize p i x) (ap (λ q. option_map_or (λ i. not (may_seize p i x)) q false) (sym e) ∙ h)

pub kept_route : (p : Plan) (exchange code : List ℕ) (groups : List (List ℕ)) → IsPlan p → first_true (route_refusals p exchange code groups) ≡ None → IsPlan (with_route p exchange code groups)
kept_route p exchange code groups h none =
    let t = passed (route_refusals p exchange code groups) none in
    let declared = or_parts (is_none (pair_named p exchange code)) (list_any (λ g. not (has_group p g)) groups) t.1.1.1.1.0 in
    let known = declared.0 in
    let named : AllByRecursion (λ g. has_group p g ≡ true) groups = all_map groups (λ g n. not-false (has_group p g) n) (none_passes (λ g. not (has_group p g)) groups declared.1) in
    let r : Route = record { exchange = exchange_at p exchange; code = code_at p code; groups = map (group_at p) groups } in
    let g : Grows p (with_route p exchange code groups) = record { exchanges = omega arith; codes = omega arith; homes = λ c l. refl; seizes = λ g x s. s } in
    let some = filled (length groups) t.0 in
    let few = within (length groups) t.1.1.1.1.1.1.1.1.0 in
    record {
      exchanges = h.exchanges;
      exchanges_differ = h.exchanges_differ;
      few_exchanges = h.few_exchanges;
      codes = all_map p.codes (code_on g) h.codes;
      codes_differ = h.codes_differ;
      few_codes = h.few_codes;
      ranges = all_map p.ranges (range_on g) h.ranges;
      ranges_apart = h.ranges_apart;
      few_ranges = h.few_ranges;
      groups = all_map p.groups (group_on g) h.groups;
      groups_differ = h.groups_differ;
      few_groups = h.few_groups;
      routes = all_put (IsRoute (with_route p exchange code groups)) p.routes r (all_map p.routes (route_on g) h.routes) (record {
        exchange = start_within p exchange code known;
        code = goal_within p exchange code known;
        away = eqb-false (home_of p r.code) r.exchange (fails p exchange code known (λ x c. home_of p c == x) t.1.1.1.1.1.1.1.0);
        some = rw (length-map groups (group_at p)) some;
        few = rw (length-map groups (group_at p)) few;
        outgoing = all_mapped (group_at p) (λ i. may_seize p i r.exchange ≡ true) groups (all_with groups (λ w n k.
            seized_if p r.exchange (group_named p w) (group_at p w) (placed (λ g. bytes_eq w g.name) p.groups k) (fails p exchange code known (λ x c. option_map_or (λ i. not (may_seize p i x)) (group_named p w) false) n))
            (none_passes (is_not_outgoing p (pair_named p exchange code)) groups t.1.1.1.1.1.0) named);
        differ = groups_differ_at p groups (not-false (none_twice groups) t.1.1.1.1.1.1.0) named;
      });
      routes_differ = pairs_put (λ r q. r.exchange ≡ q.exchange → r.code ≢ q.code) p.routes r h.routes_differ
          (apart (λ a. (a.exchange == r.exchange) && (a.code == r.code)) (λ a. a.exchange ≡ r.exchange → a.code ≢ r.code) p.routes (λ a. not_pair a.exchange a.code r.exchange r.code) (fails p exchange code known (has_route p) t.1.1.1.0));
      bars = all_map p.bars (bar_on g) h.bars;
      bars_differ = h.bars_differ;
    }
