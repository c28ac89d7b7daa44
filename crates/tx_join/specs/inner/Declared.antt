-- A plan with what another plan has more, list by list.
use Rattle.std.specs.Prelude.{◌≡◌, ℕ, ◌<◌, max, true, not, ◌++◌, length, map, filter, Result, Ok, Err}
use Rattle.tx_plan.specs.declared.refusal.PlanRefusal.{PlanRefusal}
use Rattle.tx_plan.specs.declared.refusal.PlanRefusal.TheVariants.{NoMemory}
use Rattle.tx_plan.specs.declared.range.LineRange.{LineRange}
use Rattle.tx_plan.specs.Plan.{Plan, Code, Group, exchange_name, figures_of, group_name}
use Rattle.tx_plan.specs.Declaring.{has_exchange, has_code, has_group}
use Rattle.tx_join.specs.Joined.{exchange_in, code_in, circuits_named}

-- exchanges
abbrev pub with_exchanges : (p from : Plan) → Plan
with_exchanges p from = record p {
  exchanges = p.exchanges ++ filter (λ x. not (has_exchange p x)) from.exchanges;
}

-- a code of `from`, as p knows it
abbrev pub known_code : (p from : Plan) → Code → Code
known_code p from c = record c { home = exchange_in p from c.home }

-- codes
abbrev pub with_codes : (p from : Plan) → Plan
with_codes p from = record p {
  codes = p.codes
      ++ map (known_code p from) (filter (λ c. not (has_code p c.figures)) from.codes);
}

-- a range
abbrev pub known_range : (p from : Plan) → LineRange → LineRange
known_range p from r = record r { code = code_in p from r.code }

-- ranges
abbrev pub with_ranges : (p from : Plan) → Plan
with_ranges p from = record p { ranges = p.ranges ++ map (known_range p from) from.ranges }

-- a group, with as many circuits as either plan gives it
abbrev pub known_group : (p from other : Plan) → Group → Group
known_group p from other g = record g {
  a = exchange_in p from g.a;
  b = exchange_in p from g.b;
  count = max g.count (circuits_named other g.name);
}

-- groups
abbrev pub with_groups : (p from other : Plan) → Plan
with_groups p from other = record p {
  groups = p.groups
      ++ map (known_group p from other) (filter (λ g. not (has_group p g.name)) from.groups);
}

-- each exchange of a plan is declared in p
abbrev pub KnowsExchanges : (p from : Plan) → Type 0
KnowsExchanges p from =
    (x : ℕ) → x < length from.exchanges → has_exchange p (exchange_name from x) ≡ true

-- each code
abbrev pub KnowsCodes : (p from : Plan) → Type 0
KnowsCodes p from = (c : ℕ) → c < length from.codes → has_code p (figures_of from c) ≡ true

-- each group
abbrev pub KnowsGroups : (p from : Plan) → Type 0
KnowsGroups p from = (g : ℕ) → g < length from.groups → has_group p (group_name from g) ≡ true

-- nothing but lack of memory refuses
abbrev pub IsTaken : Result (Unit {0}) PlanRefusal → Type 0
IsTaken (Ok x) = Unit {0}
IsTaken (Err NoMemory) = Unit {0}
IsTaken (Err other) = ⊥
