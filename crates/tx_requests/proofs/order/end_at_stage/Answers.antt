use Rattle.std.proofs.Common.{refl}
use Rattle.tx_requests.proofs.order.end_at_stage.Goals as goal

pub text_if_asked-requires : goal.text_if_asked-requires
text_if_asked-requires g c = rw c.in_ok-plan.ensures.plan c.requires.rules

pub returns : goal.returns
returns g c =
    let text = rw (c.is_some.ensures, c.deref.ensures.value) at c.in_ok-text.ensures.made in
    rw c.with.ensures (refl, (c.in_ok-plan.ensures.plan, refl, c.in_ok-plan.ensures.cert, text))
