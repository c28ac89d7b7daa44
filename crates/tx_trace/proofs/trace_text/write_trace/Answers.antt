use Rattle.tx_trace.proofs.Common.{some, puts_wrote, puts_then, puts_is}
use Rattle.tx_trace.proofs.Texts.{trace_lines}
use Rattle.tx_trace.proofs.trace_text.write_trace.Goals as goal

pub returns : goal.returns
returns g c =
    puts_wrote _ some
    (puts_then c.write_head.ensures (puts_then c.write_down.ensures (puts_then c.write_bar.ensures (puts_then (rw (c.deref.ensures.value, c.requires.first) at c.write_way.ensures)
    (puts_is (trace_lines c.args.plan.now c.args.trace.now c.requires) c.write_all_met.ensures))))) c.finish.ensures
