use Rattle.tx_page_change.proofs.crews.has_work_for.Goals as goal

pub returns : goal.returns
returns g c =
    let e = c.entry_of.ensures in
    rw (e.before, e.after, e.was_barred, e.is_barred) at c.is_switched.ensures
