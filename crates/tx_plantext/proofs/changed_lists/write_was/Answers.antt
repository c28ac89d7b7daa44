use Rattle.tx_text.proofs.Putting.{puts_then}
use Rattle.tx_plantext.proofs.changed_lists.write_was.Goals as goal

pub returns : goal.returns
returns g c =
    puts_then c.put_bytes.ensures c.write_group_names.ensures
