use Rattle.std.proofs.Common.{refl}
use Rattle.tx_requests.proofs.change.ChangeRequestRequest.answer.Goals as goal

pub judge_change-requires : goal.judge_change-requires
judge_change-requires g c = c.requires.joined.network.same

pub returns : goal.returns
returns g c = (refl, c.in_ok-verdict.ensures)
