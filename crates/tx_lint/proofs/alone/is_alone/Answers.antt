use Rattle.std.proofs.Common.{◌≤◌, ◌<◌, length, arith, rules}
use Rattle.tx_lint.proofs.Warned.{alone_there, alone_more, alone_all}
use Rattle.tx_lint.proofs.alone.is_alone.Goals as goal

pub returns-then-is_end : goal.returns-then-is_end
returns-then-is_end g c =
    let p = c.args.plan.now in
    let t = c.loop-index-test.true in
    let n = c.groups-index-end.ensures.count in
    let low : c.loop-index.index < length p.groups = omega arith in
    alone_there p c.loop-index.index c.args.exchange c.is_end.result low (search rules) c.if-is_end.true

pub loop-index-preserved : goal.loop-index-preserved
loop-index-preserved g c =
    let p = c.args.plan.now in
    let t = c.loop-index-test.true in
    let n = c.groups-index-end.ensures.count in
    let low : c.loop-index.index < length p.groups = omega arith in
    alone_more p c.loop-index.index c.args.exchange c.is_end.result low (search rules) c.if-is_end.false
    c.loop-index.invariant

pub returns : goal.returns
returns g c =
    let all : length c.args.plan.now.groups ≤ c.loop-index.index =
    let t = c.loop-index-test.false in let n = c.groups-index-end.ensures.count in omega arith in
    alone_all c.args.plan.now c.loop-index.index c.args.exchange _ all c.loop-index.invariant
    (search rules)
