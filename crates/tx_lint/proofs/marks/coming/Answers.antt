use Rattle.std.proofs.Common.{arith}
use Rattle.tx_lint.proofs.Marked.{coming_push}
use Rattle.tx_lint.proofs.marks.coming.Goals as goal

pub loop-index-preserved : goal.loop-index-preserved
loop-index-preserved g c =
    let pushed = c.push_reserved.ensures in
    record {
      so_far = coming_push c.args.plan.now c.loop-index.index c.loop-index.marks.items c.push_reserved.new.self.items
          c.in_ok-reached.reached c.loop-index.invariant.so_far pushed.items c.of.result c.of.ensures c.in_ok-reached.ensures;
      room = let r = c.loop-index.invariant.room in let q = pushed.capacity in omega arith;
    }

pub returns : goal.returns
returns g c = λ d x low.
    let n = c.codes-index-end.ensures.count in
    let t = c.loop-index-test.false in
    let a = c.loop-index.auto.index-end in
    c.loop-index.invariant.so_far.each d x (omega (arith, low, n, t, a))
