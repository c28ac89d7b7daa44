use Rattle.std.proofs.Common.{refl}
use Rattle.tx_requests.proofs.change.end_with.Goals as goal

pub text_if_asked-requires : goal.text_if_asked-requires
text_if_asked-requires g c = rw c.plan.ensures c.requires

pub returns-clause-made : goal.returns-clause-made
returns-clause-made g c =
    rw c.with.ensures (refl, refl, rw (c.plan.ensures, c.is_some.ensures, c.deref.ensures.value) at c.in_ok-text.ensures.made)
