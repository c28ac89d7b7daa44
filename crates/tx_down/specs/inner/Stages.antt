-- The network of a plan as it is declared, list by list.
use Rattle.tx_plan.specs.Plan.{Plan, no_plan}

-- the exchanges
abbrev pub its_exchanges : Plan → Plan
its_exchanges p = record no_plan { exchanges = p.exchanges }

-- and the codes
abbrev pub its_codes : Plan → Plan
its_codes p = record (its_exchanges p) { codes = p.codes }

-- and the ranges
abbrev pub its_ranges : Plan → Plan
its_ranges p = record (its_codes p) { ranges = p.ranges }
