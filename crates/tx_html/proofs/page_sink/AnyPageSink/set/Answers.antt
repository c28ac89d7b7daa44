use Rattle.std.proofs.Common.{◌<◌, length, arith}
use Rattle.std.proofs.lemmas.List.{get_or_default}
use Rattle.tx_html.specs.Shows.{part_texts}
use Rattle.tx_html.proofs.Showing.{list_more}
use Rattle.tx_html.proofs.page_sink.AnyPageSink.set.Goals as goal

pub loop-i-preserved : goal.loop-i-preserved
loop-i-preserved g c =
    let parts = c.args.parts.now in
    let low : c.loop-i.i < length parts = omega (arith, c.loop-i-test.true) in
    list_more part_texts parts low (get_or_default parts c.loop-i.i _ _ low) c.loop-i.invariant c.set_part.ensures
