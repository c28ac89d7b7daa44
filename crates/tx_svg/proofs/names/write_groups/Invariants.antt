use Rattle.tx_svg.proofs.Common.{map, take, group_name, Sets}
use Rattle.tx_svg.proofs.names.write_groups.Given as goal

abbrev pub invariant-loop-i : goal.invariant-loop-i
invariant-loop-i g l = Sets g.W.PageSink.seen l.initial.sink l.sink (map (group_name l.plan) (take l.i l.groups))
