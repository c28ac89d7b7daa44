-- What contracts see of a trie: the codes that it was built from, in their order.
use Rattle.std.specs.Prelude.{List}
use Rattle.tx_plan.specs.Plan.{Plan, Code, no_plan}

-- a plan of these codes and nothing else
abbrev pub plan_of : List Code → Plan
plan_of codes = record no_plan { codes = codes }
