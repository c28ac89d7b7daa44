use Rattle.tx_plantext.proofs.Common.{take, Puts, code_words, lines_of_list}
use Rattle.tx_plantext.proofs.plan_writer.write_codes.Given as goal

abbrev pub invariant-loop-index : goal.invariant-loop-index
invariant-loop-index g l = Puts g.W.Sink.taken g.W.Sink.failed l.initial.sink l.sink (lines_of_list (code_words l.plan) (take l.index l.plan.codes))
