use Rattle.tx_requests.proofs.grade.GradeRequestRequest.end.Goals as goal

pub returns-in-Some : goal.returns-in-Some
returns-in-Some g c = rw c.in-Some.is (c.of.ensures.status, c.of.ensures.made)

pub returns : goal.returns
returns g c = rw c.in-None.is (c.of-in-None.ensures.status, c.of-in-None.ensures.made)
