use Rattle.tx_fill.proofs.Common.{◌≡◌, ◌<◌, ◌^◌, take, digits_value}
use Rattle.tx_fill.proofs.call_lines.value_of.Given as goal

abbrev pub invariant-loop-figure : goal.invariant-loop-figure
invariant-loop-figure l =
    (l.value ≡ digits_value 10 (take l.figure-index l.text)) × (l.value < 10 ^ l.figure-index)
