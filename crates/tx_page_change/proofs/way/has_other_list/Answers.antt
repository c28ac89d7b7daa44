use Rattle.tx_page_change.proofs.way.has_other_list.Goals as goal

pub returns : goal.returns
returns g c = rw (c.entry_of.ensures.before, c.entry_of.ensures.after) at c.is_other_list.ensures
