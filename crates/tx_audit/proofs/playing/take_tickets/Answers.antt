use Rattle.std.proofs.Common.{sym, subst}
use Rattle.tx_audit.proofs.Taken.{IsTaken, taken_none, taken_more, taken_fewer, taken_all}
use Rattle.tx_audit.proofs.playing.take_tickets.Goals as goal

pub loop-ticket-init : goal.loop-ticket-init
loop-ticket-init g c = subst (IsTaken c.args.network.now c.args.network.now) (sym c.new-tickets.ensures.items) (taken_none c.args.network.now)

pub loop-ticket-preserved : goal.loop-ticket-preserved
loop-ticket-preserved g c =
    subst (IsTaken c.args.network.now c.next_ticket.new.self) (sym c.in_ok-push.ensures.items)
    (taken_more c.args.network.now c.loop-ticket.network _ c.loop-ticket.invariant c.next_ticket.new.self c.next_ticket.ensures.plan c.next_ticket.ensures.rest _ (sym c.in-Some.ensures.first))

pub loop-ticket-smaller : goal.loop-ticket-smaller
loop-ticket-smaller g c = taken_fewer c.args.network.now c.loop-ticket.network _ c.loop-ticket.invariant c.next_ticket.new.self c.next_ticket.ensures.plan c.next_ticket.ensures.rest _ (sym c.in-Some.ensures.first)

pub returns-clause-tickets : goal.returns-clause-tickets
returns-clause-tickets g c = (taken_all c.args.network.now c.loop-ticket.network _ c.loop-ticket.invariant c.next_ticket.new.self c.next_ticket.ensures.plan c.next_ticket.ensures.rest (sym c.in_default.ensures.first)).0

pub returns-clause-network : goal.returns-clause-network
returns-clause-network g c = (taken_all c.args.network.now c.loop-ticket.network _ c.loop-ticket.invariant c.next_ticket.new.self c.next_ticket.ensures.plan c.next_ticket.ensures.rest (sym c.in_default.ensures.first)).1
