-- A route plan: its six lists.
use Rattle.std.specs.Prelude.{ℕ, List, [], Option, slice_get, position}
use Rattle.std.specs.Option.{option_map_or}
use Rattle.std.specs.Str.{bytes_eq}
use Rattle.tx_plan.specs.declared.ids.Direction.{Direction}
use Rattle.tx_plan.specs.declared.ids.Pair.{Pair}
use Rattle.tx_plan.specs.declared.range.LineRange.{LineRange}

-- a destination code: its figures, and the exchange that is its home
pub record Code : Type 0 where
  pub figures : List ℕ
  pub home : ℕ

-- a group of circuits from a, its first end, to b
pub record Group : Type 0 where
  pub name : List ℕ
  pub a : ℕ
  pub b : ℕ
  pub direction : Direction
  pub count : ℕ

-- the groups that an exchange tries for a code, in order
pub record Route : Type 0 where
  pub exchange : ℕ
  pub code : ℕ
  pub groups : List ℕ

-- An exchange is its name. Exchanges, codes and groups are known by their indexes in these lists,
-- from 0. A range is the national numbers of a code from low to high. A bar is an exchange and a
-- code: calls that start there for that code are not admitted.
pub record Plan : Type 0 where
  pub exchanges : List (List ℕ)
  pub codes : List Code
  pub ranges : List LineRange
  pub groups : List Group
  pub routes : List Route
  pub bars : List Pair

-- nothing is declared yet
abbrev pub no_plan : Plan
no_plan = record { exchanges = []; codes = []; ranges = []; groups = []; routes = []; bars = [] }

-- the exchange of a name
abbrev pub exchange_named : Plan → List ℕ → Option ℕ
exchange_named p name = position (bytes_eq name) p.exchanges

-- the code of these figures
abbrev pub code_named : Plan → List ℕ → Option ℕ
code_named p figures = position (λ c. bytes_eq figures c.figures) p.codes

-- the group of a name
abbrev pub group_named : Plan → List ℕ → Option ℕ
group_named p name = position (λ g. bytes_eq name g.name) p.groups

-- the name of an exchange; nothing for an index that the plan does not have
abbrev pub exchange_name : Plan → ℕ → List ℕ
exchange_name p x = option_map_or (λ name. name) (slice_get p.exchanges x) []

-- the figures of a code; nothing for an index that the plan does not have
abbrev pub figures_of : Plan → ℕ → List ℕ
figures_of p code = option_map_or (λ c. c.figures) (slice_get p.codes code) []

-- the name of a group; nothing for an index that the plan does not have
abbrev pub group_name : Plan → ℕ → List ℕ
group_name p g = option_map_or (λ r. r.name) (slice_get p.groups g) []

-- the home of a code; the first exchange for an index that the plan does not have
abbrev pub home_of : Plan → ℕ → ℕ
home_of p code = option_map_or (λ c. c.home) (slice_get p.codes code) 0
