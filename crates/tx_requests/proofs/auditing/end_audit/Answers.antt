use Rattle.std.proofs.Common.{refl}
use Rattle.tx_requests.proofs.auditing.end_audit.Goals as goal

pub end_after_no-requires : goal.end_after_no-requires
end_after_no-requires g c = rw c.deref.ensures.value (rw c.in-Unsound.is at c.requires)

pub returns-in-Sound : goal.returns-in-Sound
returns-in-Sound g c = rw (c.in-Sound.is, c.with.ensures) (refl, refl)

pub returns-in-Unsound : goal.returns-in-Unsound
returns-in-Unsound g c =
    rw c.in-Unsound.is
    (rw (c.is_some-asked.ensures, c.deref.ensures.value) at c.end_after_no.ensures)
