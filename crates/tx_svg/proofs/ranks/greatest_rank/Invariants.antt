use Rattle.tx_svg.proofs.Common.{◌≡◌, ranks_of, greatest_rank}
use Rattle.tx_svg.proofs.ranks.greatest_rank.Given as goal

abbrev pub invariant-loop-index : goal.invariant-loop-index
invariant-loop-index g l = l.greatest ≡ greatest_rank (ranks_of l.ranks l.code) l.index
