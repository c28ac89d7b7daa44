use Rattle.tx_rank.proofs.grade_text.write_why.Goals as goal

pub returns-in-None : goal.returns-in-None
returns-in-None g c = rw c.in-None.is c.write_findings.ensures
