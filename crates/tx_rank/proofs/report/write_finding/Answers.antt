use Rattle.tx_rank.proofs.report.write_finding.Goals as goal

pub returns-in-Ambiguous : goal.returns-in-Ambiguous
returns-in-Ambiguous g c = rw c.in-Ambiguous.is (rw (c.code_figures-shorter.ensures.value, c.code_figures-longer.ensures.value) at c.put_parts.ensures)
