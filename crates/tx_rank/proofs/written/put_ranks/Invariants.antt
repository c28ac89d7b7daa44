use Rattle.tx_rank.proofs.Writing.{IsWriting}
use Rattle.tx_rank.proofs.written.put_ranks.Given as goal

abbrev pub invariant-loop-index : goal.invariant-loop-index
invariant-loop-index g l = IsWriting l.fn.cert l.cert l.marks l.code l.index
