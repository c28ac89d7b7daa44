use Rattle.std.proofs.Common.{◌≡◌, ◌<◌, ◌^◌, take}
use Rattle.std.specs.Str.Parse.{digits_value}
use Rattle.tx_page_change.proofs.counts.value_of.Given as goal

abbrev pub invariant-loop-figure : goal.invariant-loop-figure
invariant-loop-figure l = (l.value ≡ digits_value 10 (take l.figure-index l.figures)) × (l.value < 10 ^ l.figure-index)
