use Rattle.tx_fill.proofs.Common.{◌∙◌, ap, refl, sym, arith, slice_get, slice_get_within, State, ticket_taken, line_pairs}
use Rattle.tx_fill.proofs.Carried.{stands, has_ended, all_called}
use Rattle.tx_fill.proofs.carrying.call_in_turn.Goals as goal

pub call-requires : goal.call-requires
call-requires g c = record { plan = c.loop-line.invariant.plan }

pub loop-line-init : goal.loop-line-init
loop-line-init g c = record { plan = c.requires.plan; fresh = c.requires.fresh; state = refl }

pub loop-line-smaller : goal.loop-line-smaller
loop-line-smaller g c =
    let pairs = line_pairs c.args.plan.now c.args.exchange c.args.code in
    let low = slice_get_within pairs c.loop-line.index _ (sym c.in-Some.ensures.pair) in
    omega arith

pub loop-line-preserved : goal.loop-line-preserved
loop-line-preserved g c =
    let i = c.loop-line.invariant in
    let k = c.in_ok-call.ensures in
    let n = c.next_ticket.ensures in
    let s = stands c.args.plan.now (line_pairs c.args.plan.now c.args.exchange c.args.code)
    c.loop-line.index _ (sym c.in-Some.ensures.pair) c.loop-line.network.state _ _ i.state k.state
    c.next_ticket.new.self.state n.rest (sym c.in_default-next_ticket.ensures.first) in
    record { plan = n.plan ∙ k.plan ∙ i.plan; fresh = s.0; state = s.1 }

pub returns-in-Some-next_ticket : goal.returns-in-Some-next_ticket
returns-in-Some-next_ticket g c =
    let i = c.loop-line.invariant in
    let k = c.in_ok-call.ensures in
    let n = c.next_ticket.ensures in
    let e = has_ended c.args.plan.now (line_pairs c.args.plan.now c.args.exchange c.args.code)
    c.loop-line.index _ (sym c.in-Some.ensures.pair) c.loop-line.network.state _ _ i.state k.state
    _ (sym c.in-Some-next_ticket.ensures.first) in
    record {
      plan = n.plan ∙ k.plan ∙ i.plan ∙ sym c.requires.plan;
      ended = c.in-Some-next_ticket.ensures.first ∙ ap (λ (s : State). slice_get s.tickets 0) e;
      state = n.rest ∙ ap ticket_taken e;
    }

pub returns : goal.returns
returns g c =
    let i = c.loop-line.invariant in
    let a = all_called c.args.plan.now (line_pairs c.args.plan.now c.args.exchange c.args.code)
    c.loop-line.index c.loop-line.network.state _ i.state i.fresh (sym c.in_default.ensures.pair) in
    record { plan = i.plan ∙ sym c.requires.plan; ended = a.0; state = a.1 }
