use Rattle.std.proofs.Common.{◌<◌, length, arith}
use Rattle.std.proofs.lemmas.List.{get_or_default}
use Rattle.tx_text.proofs.Putting.{puts_none, puts_more, puts_all}
use Rattle.tx_text.proofs.sink.put_parts.Goals as goal

pub loop-i-init : goal.loop-i-init
loop-i-init g c = puts_none

pub loop-i-preserved : goal.loop-i-preserved
loop-i-preserved g c =
    let parts = c.args.parts.now in
    let low : c.loop-i.i < length parts = omega arith in
    puts_more (λ p. p.now) parts low (get_or_default parts c.loop-i.i _ _ low) c.loop-i.invariant c.put_bytes.ensures

pub returns : goal.returns
returns g c = puts_all (λ p. p.now) c.args.parts.now c.loop-i-test.false c.loop-i.invariant
