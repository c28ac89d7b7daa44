-- The first faults of route lists.
use Rattle.std.specs.Prelude.{List, Option, Some, None}
use Rattle.tx_check.specs.declared.fault.CheckFault.{CheckFault}
use Rattle.tx_check.specs.declared.lists.Firsts.{Firsts}
use Rattle.tx_check.specs.Checks.{foremost}

-- the first of each of three lists
abbrev pub firsts_of : List CheckFault → List CheckFault → List CheckFault → Firsts
firsts_of short unranked not_lower =
    record { short = foremost short; unranked = foremost unranked; not_lower = foremost not_lower }

-- the one fault, or else the other
abbrev pub or_later : Option CheckFault → Option CheckFault → Option CheckFault
or_later None later = later
or_later (Some fault) later = Some fault

-- what was found first, or else later
abbrev pub firsts_or : Firsts → Firsts → Firsts
firsts_or a b = record {
  short = or_later a.short b.short;
  unranked = or_later a.unranked b.unranked;
  not_lower = or_later a.not_lower b.not_lower;
}
