use Rattle.tx_requests.proofs.Common.{refl, exits_with}
use Rattle.tx_requests.proofs.mend.MendRequestRequest.end.Goals as goal

pub text_if_asked-requires : goal.text_if_asked-requires
text_if_asked-requires g c = c.rules.ensures

pub returns-in-Mended : goal.returns-in-Mended
returns-in-Mended g c =
    let text = rw (c.is_some.ensures, c.deref.ensures.value) at c.in_ok-text-in-Mended.ensures.made in
    rw (c.in-Mended.is, c.with.ensures) (refl, (refl, refl, refl, text))

pub returns-in_err-text-in-Mended : goal.returns-in_err-text-in-Mended
returns-in_err-text-in-Mended g c =
    let asked = rw c.is_some.ensures at c.in_err-text-in-Mended.ensures.asked in
    rw c.in-Mended.is
    (rw (exits_with c.from_residual.result c.in_err-text-in-Mended.field-0.0 c.from_residual.ensures.1)
    (asked, c.in_err-text-in-Mended.ensures.refused))

pub returns : goal.returns
returns g c = rw c.in-NoRouting.is (c.of.ensures.status, c.of.ensures.made)
