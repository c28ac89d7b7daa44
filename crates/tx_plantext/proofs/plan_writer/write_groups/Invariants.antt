use Rattle.tx_plantext.proofs.Common.{take, Puts, group_words, lines_of_list}
use Rattle.tx_plantext.proofs.plan_writer.write_groups.Given as goal

abbrev pub invariant-loop-index : goal.invariant-loop-index
invariant-loop-index g l = Puts g.W.Sink.taken g.W.Sink.failed l.initial.sink l.sink (lines_of_list (group_words l.plan) (take l.index l.plan.groups))
