use Rattle.tx_trace.proofs.Common.{ap, length-map, some, puts_wrote, puts_then, puts_is, calls_of}
use Rattle.tx_trace.specs.WayChangesText.{count_line}
use Rattle.tx_trace.proofs.way_changes_text.write_way_changes.Goals as goal

pub returns : goal.returns
returns g c =
    puts_wrote _ some
    (puts_then (puts_is (ap count_line (length-map c.args.changes.now calls_of)) c.write_count.ensures) c.write_changes.ensures) c.finish.ensures
