use Rattle.tx_plantext.proofs.Written.{plan_back}
use Rattle.tx_plantext.proofs.round_trip.written_plans_read_back.Goals as goal

pub returns : goal.returns
returns c = plan_back
