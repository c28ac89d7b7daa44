-- A plan's entries as keys and values.
use Rattle.std.specs.Prelude.{ℕ, List, map}
use Rattle.arrayvec.specs.ArrayVec.{ArrayVec}
use Rattle.tx_plan.specs.Plan.{Plan, Code, Group, Route}
use Rattle.tx_plan.specs.declared.ids.Pair.{Pair}
use Rattle.tx_plan.specs.declared.range.LineRange.{LineRange}
use Rattle.tx_plan.specs.declared.ids.GroupRow.{GroupRow}

-- figures, and the home of their code
abbrev pub code_of_row : List ℕ × ℕ → Code
code_of_row e = record { figures = e.0; home = e.1 }

-- a name, and the rest of its group
abbrev pub group_of_row : List ℕ × GroupRow → Group
group_of_row e = record {
  name = e.0;
  a = e.1.a;
  b = e.1.b;
  direction = e.1.direction;
  count = e.1.count;
}

-- the rest of a group beside its name
abbrev pub row_of : Group → GroupRow
row_of g = record { a = g.a; b = g.b; direction = g.direction; count = g.count }

-- a pair, and the groups of its route
abbrev pub route_of_row : Pair × ArrayVec ℕ → Route
route_of_row e = record { exchange = e.0.exchange; code = e.0.code; groups = e.1.items }

-- a plan whose lists are these: codes, groups and routes with what they are found by
abbrev pub plan_of : List (List ℕ) → List (List ℕ × ℕ) → List LineRange
    → List (List ℕ × GroupRow) → List Route → List Pair → Plan
plan_of exchanges codes ranges groups routes bars = record {
  exchanges = exchanges;
  codes = map code_of_row codes;
  ranges = ranges;
  groups = map group_of_row groups;
  routes = routes;
  bars = bars;
}
