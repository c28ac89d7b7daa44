use Rattle.tx_lint.proofs.Common.{◌<◌, length, arith, get_or_default, escaped_byte}
use Rattle.tx_text.proofs.Putting.{puts_none, puts_more, puts_all}
use Rattle.tx_lint.proofs.escaped.write_escaped.Goals as goal

pub loop-i-init : goal.loop-i-init
loop-i-init g c = puts_none

pub loop-i-preserved : goal.loop-i-preserved
loop-i-preserved g c =
    let text = c.args.text.now in
    let low : c.loop-i.i < length text = omega (arith, c.loop-i-test.true) in
    puts_more escaped_byte text low (get_or_default text c.loop-i.i _ _ low) c.loop-i.invariant c.write_byte.ensures

pub returns : goal.returns
returns g c = puts_all escaped_byte c.args.text.now c.loop-i-test.false c.loop-i.invariant
