use Rattle.std.proofs.Common.{ap, length, arith}
use Rattle.tx_rank.proofs.Looks.{top_step, onward_at}
use Rattle.tx_rank.proofs.list_scan.look_on.Goals as goal

pub returns-in-None-clause-look : goal.returns-in-None-clause-look
returns-in-None-clause-look g c =
    let o = c.onward-group in
    onward_at (g.N.CodeNet.net c.args.net.now) c.args.marks.now c.args.exchange c.loop-i.i o.result.0 o.result.1 o.ensures.at o.ensures.leads o.ensures.within c.in-None.ensures

pub returns-in-None-clause-tried : goal.returns-in-None-clause-tried
returns-in-None-clause-tried g c =
    let t = c.loop-i.invariant.tried in
    record { list = t.list; count = let e = ap length c.requires.tried.list in let l = c.loop-i-test.true in omega arith; top = c.loop-i.invariant.top }

pub loop-i-preserved : goal.loop-i-preserved
loop-i-preserved g c =
    let o = c.onward-group in
    let e = c.greater-top.ensures in
    record {
      tried = c.loop-i.invariant.tried;
      top = top_step (g.N.CodeNet.net c.args.net.now) c.args.marks.now c.args.exchange c.loop-i.i c.loop-i.top c.greater-top.result o.result.0 o.result.1 c.in-Some.rank o.ensures.at c.loop-i.invariant.top o.ensures.leads c.in-Some.ensures e.first e.second e.either;
    }
