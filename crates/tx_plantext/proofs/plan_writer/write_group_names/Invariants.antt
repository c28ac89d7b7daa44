use Rattle.tx_plantext.proofs.Common.{◌++◌, take, codes, flat_map, Puts, group_name}
use Rattle.tx_plantext.proofs.plan_writer.write_group_names.Given as goal

abbrev pub invariant-loop-i : goal.invariant-loop-i
invariant-loop-i g l =
    Puts g.W.Sink.taken g.W.Sink.failed l.initial.sink l.sink (flat_map (λ v. codes " " ++ group_name l.plan v) (take l.i l.groups))
