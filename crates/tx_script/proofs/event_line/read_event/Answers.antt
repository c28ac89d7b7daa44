use Rattle.std.proofs.Common.{sym, ◌∙◌}
use Rattle.tx_script.proofs.Writable.{words_can}
use Rattle.tx_script.proofs.event_line.read_event.Goals as goal

pub returns-in-Ok-clause-writable : goal.returns-in-Ok-clause-writable
returns-in-Ok-clause-writable g c = let can = words_can c.args.plan.now _ c.in-Ok.event (sym c.event_of.ensures ∙ c.in-Ok.is) in (can.writable, can.event)
