use Rattle.tx_script.proofs.Common.{◌∙◌, refl, sym, ap, arith, Fits-of_lt, Ended, State}
use Rattle.tx_text.proofs.Writing.{on_err}
use Rattle.tx_script.proofs.Draining.{drain_start, drain_end, drain_more, drain_stop, drain_within, drain_smaller}
use Rattle.tx_script.proofs.Ended.{room_first, room_more, room_for_one, ends_more, ends_none}
use Rattle.tx_script.proofs.teller.Teller.write_tickets.Goals as goal

pub loop-ticket-init : goal.loop-ticket-init
loop-ticket-init g c = record {
  plan = refl;
  draining = drain_start c.args.plan.now (g.N.Network.state c.args.net.now) (g.W.Sink.taken c.args.sink.now);
  mark = refl;
  echo = refl;
  counts = refl;
  room = room_first c.args.self.now.counts _ c.requires.counted c.requires.few;
}

pub ended-requires : goal.ended-requires
ended-requires g c =
    rw (ap (λ (t : Ended). t.cause) c.ticket.view_is)
    (room_for_one (g.N.Network.state c.loop-ticket.net).tickets _ (sym c.in-Some.ensures.first) c.loop-ticket.self.counts c.loop-ticket.invariant.room)

pub loop-ticket-preserved : goal.loop-ticket-preserved
loop-ticket-preserved g c =
    let v = c.loop-ticket.invariant in
    let left = (g.N.Network.state c.loop-ticket.net).tickets in
    let first = sym c.in-Some.ensures.first in
    let ended = c.ended.ensures.counts in
    let same = ap (λ (t : Ended). t.cause) c.ticket.view_is in
    let rest = ap (λ (s : State). s.tickets) c.next_ticket.ensures.rest in
    record {
      plan = c.next_ticket.ensures.plan ∙ v.plan;
      draining = drain_more _ _ _ _ _ _ v.draining _ first _ _ c.next_ticket.ensures.rest c.in_ok-write_ticket.ensures.0;
      mark = c.in_ok-write_ticket.ensures.1 ∙ v.mark;
      echo = c.ended.ensures.echo ∙ v.echo;
      counts = rw (rest, ended, same) (ends_more left _ first c.loop-ticket.self.counts ∙ v.counts);
      room = rw (rest, ended, same) (room_more left _ first c.loop-ticket.self.counts v.room);
    }

pub returns-in_err-write_ticket-clause-err : goal.returns-in_err-write_ticket-clause-err
returns-in_err-write_ticket-clause-err g c =
    on_err c.from_residual.result (drain_stop _ _ _ _ _ _ c.loop-ticket.invariant.draining _ (sym c.in-Some.ensures.first) _ _ c.next_ticket.ensures.rest c.in_err-write_ticket.ensures.0)

pub overflow_add-count : goal.overflow_add-count
overflow_add-count g c =
    let few = c.requires.few in
    let l = drain_within _ _ _ _ _ _ c.loop-ticket.invariant.draining _ (sym c.in-Some.ensures.first) in
    Fits-of_lt (omega arith)

pub loop-ticket-smaller : goal.loop-ticket-smaller
loop-ticket-smaller g c = drain_smaller _ _ _ _ _ _ c.loop-ticket.invariant.draining _ (sym c.in-Some.ensures.first) _ c.next_ticket.ensures.rest

pub returns-clause-count : goal.returns-clause-count
returns-clause-count g c = (drain_end _ _ _ _ _ _ c.loop-ticket.invariant.draining _ (sym c.in_default.ensures.first) c.next_ticket.ensures.rest).1

pub returns-clause-ok : goal.returns-clause-ok
returns-clause-ok g c = (drain_end _ _ _ _ _ _ c.loop-ticket.invariant.draining _ (sym c.in_default.ensures.first) c.next_ticket.ensures.rest).2

pub returns-clause-taken : goal.returns-clause-taken
returns-clause-taken g c = (drain_end _ _ _ _ _ _ c.loop-ticket.invariant.draining _ (sym c.in_default.ensures.first) c.next_ticket.ensures.rest).0

pub returns-clause-counts : goal.returns-clause-counts
returns-clause-counts g c =
    ends_none (g.N.Network.state c.loop-ticket.net).tickets c.loop-ticket.self.counts (sym c.in_default.ensures.first) ∙ c.loop-ticket.invariant.counts

pub returns-in_err-write_ticket-clause-plan : goal.returns-in_err-write_ticket-clause-plan
returns-in_err-write_ticket-clause-plan g c = c.next_ticket.ensures.plan ∙ c.loop-ticket.invariant.plan

pub returns-in_err-write_ticket-clause-mark : goal.returns-in_err-write_ticket-clause-mark
returns-in_err-write_ticket-clause-mark g c = on_err c.from_residual.result c.in_err-write_ticket.ensures.1

pub returns-clause-plan : goal.returns-clause-plan
returns-clause-plan g c = c.next_ticket.ensures.plan ∙ c.loop-ticket.invariant.plan

pub returns-clause-unmarked : goal.returns-clause-unmarked
returns-clause-unmarked g c = c.loop-ticket.invariant.mark
