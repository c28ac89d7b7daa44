use Rattle.std.proofs.Common.{arith}
use Rattle.tx_rank.proofs.long_walk.long_walk.Goals as goal

pub loop-index-init : goal.loop-index-init
loop-index-init g c = λ x r h. absurd (omega arith)

pub long_from-requires-clause-index : goal.long_from-requires-clause-index
long_from-requires-clause-index g c = let e = c.exchanges-index-end.ensures in let t = c.loop-index-test.true in omega arith

pub returns : goal.returns
returns g c = λ x r origin ranked.
    let w = (g.met.N.CodeNet.is_net c.args.net.now).origins x origin in
    c.loop-index.invariant x r (let t = c.loop-index-test.false in let e = c.exchanges-index-end.ensures in omega arith) origin ranked
