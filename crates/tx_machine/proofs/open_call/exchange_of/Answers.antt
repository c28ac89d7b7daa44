use Rattle.tx_machine.proofs.Common.{sym, ap, ◌∙◌, ◌-◌, length, slice_get, start_of, call_seen}
use Rattle.tx_machine.proofs.LastHop.{last_is}
use Rattle.tx_machine.proofs.open_call.exchange_of.Goals as goal

pub returns-in-Some : goal.returns-in-Some
returns-in-Some g c =
    sym (last_is (start_of c.args.plan.now (call_seen c.args.call.now)) c.args.call.now.hops.items c.in-Some.hop.now
    (ap (λ l. slice_get l (length l - 1)) (sym c.deref.ensures.value) ∙ sym c.in-Some.ensures.value))
