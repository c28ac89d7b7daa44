use Rattle.tx_change.proofs.report.write_found.Goals as goal

pub returns-in-Sound : goal.returns-in-Sound
returns-in-Sound g c = rw c.in-Sound.is c.write_verdict.ensures

pub returns-in-Unsound : goal.returns-in-Unsound
returns-in-Unsound g c = rw (c.in-Unsound.is, ← c.deref.ensures.value) c.write_verdict_after.ensures

pub returns-in-NewUnsound : goal.returns-in-NewUnsound
returns-in-NewUnsound g c =
    rw (c.in-NewUnsound.is, ← c.deref-in-NewUnsound.ensures.value) c.write_verdict_after-in-NewUnsound.ensures
