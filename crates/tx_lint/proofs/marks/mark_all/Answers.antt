use Rattle.std.proofs.Common.{◌∙◌, length, true, arith}
use Rattle.std.proofs.Math.ListN.{length-set}
use Rattle.tx_lint.proofs.Marked.{below_at, marked_more}
use Rattle.tx_lint.proofs.marks.mark_all.Goals as goal

pub loop-i-preserved : goal.loop-i-preserved
loop-i-preserved c =
    let marks = c.loop-i.marks in
    let groups = c.args.groups.now in
    let y = c.index-groups-i.result in
    let long = c.loop-i.invariant.long in
    let within = below_at (length c.args.marks.now) groups c.loop-i.i y c.requires c.loop-i-test.true c.index-groups-i.is in
    rw c.index.ensures (record {
      long = length-set marks y true ∙ long;
      so_far = marked_more c.args.marks.now marks groups c.loop-i.i y c.loop-i-test.true c.index-groups-i.is (omega (arith, within, long)) c.loop-i.invariant.so_far;
    })
