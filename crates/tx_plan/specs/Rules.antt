-- The rules that the lists of a plan obey.
use Rattle.std.specs.Prelude.{◌≡◌, ◌≢◌, ◌<◌, ◌≤◌, true, false, ◌⊎◌, List, [], ◌∷◌, length}
use Rattle.std.specs.List.{AllByRecursion}
use Rattle.tx_text.specs.Words.{is_name}
pub use Rattle.tx_plan.specs.Numbers.{is_code, is_national}
use Rattle.tx_plan.specs.Plan.{Plan, Code, Group, Route, home_of}
use Rattle.tx_plan.specs.Lines.{at_most}
use Rattle.tx_plan.specs.Circuits.{may_seize}
use Rattle.tx_plan.specs.declared.ids.Pair.{Pair}
use Rattle.tx_plan.specs.declared.range.LineRange.{LineRange}

-- each member of a list has this relation to each later one
abbrev pub EachPair : {A : Type 0} → (A → A → Type 0) → List A → Type 0
EachPair Apart [] = Unit {0}
EachPair Apart (x ∷ xs) = AllByRecursion (Apart x) xs × EachPair Apart xs

-- two or three figures, at home at a declared exchange
pub record IsCode (p : Plan) (c : Code) : Type 0 where
  pub figures : is_code c.figures ≡ true
  pub home : c.home < length p.exchanges

-- a range of a declared code, of one width, from low to high
pub record IsRange (p : Plan) (r : LineRange) : Type 0 where
  pub code : r.code < length p.codes
  pub low : is_national r.low ≡ true
  pub high : is_national r.high ≡ true
  pub width : length r.low ≡ length r.high
  pub order : at_most r.low r.high ≡ true

-- 1 to 240 circuits between two exchanges
pub record IsGroup (p : Plan) (g : Group) : Type 0 where
  pub name : is_name g.name ≡ true
  pub first : g.a < length p.exchanges
  pub second : g.b < length p.exchanges
  pub ends_differ : g.a ≢ g.b
  pub some : 1 ≤ g.count
  pub few : g.count ≤ 240

-- away from the code's home, 1 to 16 groups that the exchange may seize, none of them twice
pub record IsRoute (p : Plan) (r : Route) : Type 0 where
  pub exchange : r.exchange < length p.exchanges
  pub code : r.code < length p.codes
  pub away : home_of p r.code ≢ r.exchange
  pub some : 1 ≤ length r.groups
  pub few : length r.groups ≤ 16
  pub outgoing : AllByRecursion (λ g. may_seize p g r.exchange ≡ true) r.groups
  pub differ : EachPair (λ g h. g ≢ h) r.groups

-- away from the code's home
pub record IsBar (p : Plan) (b : Pair) : Type 0 where
  pub exchange : b.exchange < length p.exchanges
  pub code : b.code < length p.codes
  pub away : home_of p b.code ≢ b.exchange

-- of one code and width, and yet no number lies in both
abbrev pub AreSeparate : LineRange → LineRange → Type 0
AreSeparate r q = r.code ≡ q.code → length r.low ≡ length q.low
    → (at_most q.low r.high ≡ false) ⊎ (at_most r.low q.high ≡ false)

-- The rules of a plan: what holds of each entry of each list, that no two entries are alike, and
-- how long a list may be.
pub record IsPlan (p : Plan) : Type 0 where
  pub exchanges : AllByRecursion (λ x. is_name x ≡ true) p.exchanges
  pub exchanges_differ : EachPair (λ x y. x ≢ y) p.exchanges
  pub few_exchanges : length p.exchanges ≤ 256
  pub codes : AllByRecursion (IsCode p) p.codes
  pub codes_differ : EachPair (λ c d. c.figures ≢ d.figures) p.codes
  pub few_codes : length p.codes ≤ 1100
  pub ranges : AllByRecursion (IsRange p) p.ranges
  pub ranges_apart : EachPair AreSeparate p.ranges
  pub few_ranges : length p.ranges ≤ 4096
  pub groups : AllByRecursion (IsGroup p) p.groups
  pub groups_differ : EachPair (λ g h. g.name ≢ h.name) p.groups
  pub few_groups : length p.groups ≤ 4096
  pub routes : AllByRecursion (IsRoute p) p.routes
  pub routes_differ : EachPair (λ r q. r.exchange ≡ q.exchange → r.code ≢ q.code) p.routes
  pub bars : AllByRecursion (IsBar p) p.bars
  pub bars_differ : EachPair (λ b c. b.exchange ≡ c.exchange → b.code ≢ c.code) p.bars
