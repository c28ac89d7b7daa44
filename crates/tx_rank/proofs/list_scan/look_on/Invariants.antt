use Rattle.tx_rank.proofs.Common.{take, IsTop, IsTried}
use Rattle.tx_rank.proofs.list_scan.look_on.Given as goal

abbrev pub invariant-loop-i : goal.invariant-loop-i
invariant-loop-i g l = let n = g.N.CodeNet.net l.net in record { tried : IsTried n l.marks l.exchange l.tried; top : IsTop n l.marks l.exchange (take l.i (n.list l.exchange)) l.top }
