use Rattle.tx_text.proofs.Putting.{puts_then}
use Rattle.tx_plantext.proofs.changed_lists.write_new_list.Goals as goal

pub returns : goal.returns
returns g c = puts_then c.write_list.ensures c.write_was.ensures
