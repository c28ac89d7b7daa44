use Rattle.tx_text.proofs.Writing.{some, some_first, some_last}
use Rattle.tx_text.proofs.Putting.{puts_wrote, puts_then}
use Rattle.tx_order.proofs.report.write_order.Goals as goal

pub returns : goal.returns
returns g c = puts_wrote _ (some_first _ _ (some_last c.args.word.now _ some)) (puts_then c.write_asked.ensures (puts_then c.write_before.ensures (puts_then c.write_found.ensures (puts_then c.write_after.ensures (puts_then c.write_list_counts.ensures c.write_verdict.ensures))))) c.finish.ensures
