use Rattle.tx_rank.proofs.grade_text.write_code.Goals as goal

pub returns : goal.returns
returns g c = rw (c.code_figures.ensures.value) at c.write_bounds.ensures
