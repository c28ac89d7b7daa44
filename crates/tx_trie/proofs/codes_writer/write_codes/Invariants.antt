use Rattle.tx_trie.proofs.Common.{take, flat_map, Puts, code_line}
use Rattle.tx_trie.proofs.codes_writer.write_codes.Given as goal

abbrev pub invariant-loop-index : goal.invariant-loop-index
invariant-loop-index g l = Puts g.W.Sink.taken g.W.Sink.failed l.initial.sink l.sink (flat_map (code_line l.plan) (take l.index l.plan.codes))
