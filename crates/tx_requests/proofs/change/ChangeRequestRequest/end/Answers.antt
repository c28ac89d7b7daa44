use Rattle.tx_requests.proofs.Changing.{answer_joined, answer_shown, answer_true}
use Rattle.tx_requests.proofs.change.ChangeRequestRequest.end.Goals as goal

pub end_with_mixture-requires-clause-joined : goal.end_with_mixture-requires-clause-joined
end_with_mixture-requires-clause-joined g c = answer_joined c.args.self.now c.args.answer c.requires

pub end_with_mixture-requires-clause-each : goal.end_with_mixture-requires-clause-each
end_with_mixture-requires-clause-each g c =
    rw c.deref.ensures.value
    (answer_shown c.args.self.now c.args.answer c.requires c.in-Unsound.findings c.in-Unsound.is)

pub end_with_new_plan-requires-clause-joined : goal.end_with_new_plan-requires-clause-joined
end_with_new_plan-requires-clause-joined g c = answer_joined c.args.self.now c.args.answer c.requires

pub end_with_new_plan-requires-clause-each : goal.end_with_new_plan-requires-clause-each
end_with_new_plan-requires-clause-each g c =
    rw c.deref-in-NewUnsound.ensures.value
    (answer_true c.args.self.now c.args.answer c.requires c.in-NewUnsound.findings c.in-NewUnsound.is)

pub returns-in-Sound : goal.returns-in-Sound
returns-in-Sound g c =
    rw c.in-Sound.is (c.end_with_cert.ensures.status, c.end_with_cert.ensures.made)

pub returns-in-Unsound : goal.returns-in-Unsound
returns-in-Unsound g c =
    rw c.in-Unsound.is (rw c.deref.ensures.value at c.end_with_mixture.ensures)

pub returns-in-NewUnsound : goal.returns-in-NewUnsound
returns-in-NewUnsound g c =
    rw c.in-NewUnsound.is (rw c.deref-in-NewUnsound.ensures.value at c.end_with_new_plan.ensures)
