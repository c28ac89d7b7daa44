use Rattle.tx_script.proofs.Common.{some, puts_wrote, puts_then}
use Rattle.tx_script.proofs.teller.write_echo.Goals as goal

pub returns : goal.returns
returns g c = puts_wrote _ some (puts_then c.write_number.ensures c.write_any_event.ensures) c.finish.ensures
