use Rattle.tx_mend.proofs.unserved.write_one.Goals as goal

pub returns-in-Rank : goal.returns-in-Rank
returns-in-Rank g c = rw c.in-Rank.is (rw (c.code_figures-figures.ensures.value, c.exchange_name-name.ensures.value, c.as_bytes-rank.ensures.value, c.format.ensures.text) at c.put_parts.ensures)

pub returns-in-Groups : goal.returns-in-Groups
returns-in-Groups g c = rw c.in-Groups.is (rw (c.code_figures-figures.ensures.value, c.exchange_name-name.ensures.value, c.as_bytes-groups.ensures.value, c.format-in-Groups.ensures.text) at c.put_parts-in-Groups.ensures)
