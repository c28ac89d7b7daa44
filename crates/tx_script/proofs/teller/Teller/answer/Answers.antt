use Rattle.tx_script.proofs.Common.{[], inr, sym, ap, ◌∙◌, arith, option_map, append_known, drained, State, moment, reply_text, moment_text, echo_asked, ends_counted}
use Rattle.std.proofs.lemmas.Result.{err_from_is_err_and}
use Rattle.tx_tickets.proofs.Taking.{then_took}
use Rattle.tx_script.proofs.Answering.{is_answer, counted_as, untold_reply, untold_tickets}
use Rattle.tx_script.proofs.Counting.{few_used, counted_twice}
use Rattle.tx_script.proofs.Told.{untold_echo}
use Rattle.tx_script.proofs.teller.Teller.answer.Goals as goal

pub write_tickets-requires : goal.write_tickets-requires
write_tickets-requires g c =
    let p = c.args.plan.now in
    let s = g.N.Network.state c.args.net.now in
    let e = c.args.event.now in
    let a = is_answer p (g.N.Network.plan c.args.net.now) s e c.in_ok-reply.reply _ c.requires.plan c.requires.taken
    c.in_ok-reply.ensures.step in
    record {
      few = omega (arith, c.requires.few, a.few);
      counted = few_used p e c.in_ok-reply.reply c.args.self.now.counts c.requires.counted c.answered.new.self.counts
          c.answered.ensures.counts;
    }

pub returns-in_err-write_asked_echo-clause-answers : goal.returns-in_err-write_asked_echo-clause-answers
returns-in_err-write_asked_echo-clause-answers g c =
    let p = c.args.plan.now in
    let s = g.N.Network.state c.args.net.now in
    let e = c.args.event.now in
    let a = is_answer p (g.N.Network.plan c.args.net.now) s e c.in_ok-reply.reply _ c.requires.plan c.requires.taken
    c.in_ok-reply.ensures.step in
    let f = err_from_is_err_and c.from_residual-in_err-write_asked_echo.result
    c.from_residual-in_err-write_asked_echo.ensures.1 in
    rw (f.1, f.2) (untold_echo p s e _ _ _ _ c.args.self.now.echo c.args.number a c.in_err-write_asked_echo.ensures.0)

pub returns-in_err-write_reply-clause-answers : goal.returns-in_err-write_reply-clause-answers
returns-in_err-write_reply-clause-answers g c =
    let p = c.args.plan.now in
    let s = g.N.Network.state c.args.net.now in
    let e = c.args.event.now in
    let a = is_answer p (g.N.Network.plan c.args.net.now) s e c.in_ok-reply.reply _ c.requires.plan c.requires.taken
    c.in_ok-reply.ensures.step in
    let f = err_from_is_err_and c.from_residual-in_err-write_reply.result c.from_residual-in_err-write_reply.ensures.1 in
    rw (f.1, f.2) (inr (rw c.in_ok-write_asked_echo.ensures.0 at (untold_reply p s e _ _ _ _ a c.in_err-write_reply.ensures.0)))

pub returns-in_err-tickets-clause-answers : goal.returns-in_err-tickets-clause-answers
returns-in_err-tickets-clause-answers g c =
    let p = c.args.plan.now in
    let s = g.N.Network.state c.args.net.now in
    let e = c.args.event.now in
    let a = is_answer p (g.N.Network.plan c.args.net.now) s e c.in_ok-reply.reply _ c.requires.plan c.requires.taken
    c.in_ok-reply.ensures.step in
    let f = err_from_is_err_and c.from_residual-in_err-tickets.result c.from_residual-in_err-tickets.ensures.1 in
    rw (f.1, f.2) (inr (rw c.in_ok-write_asked_echo.ensures.0 at
    (untold_tickets p s e _ _ _ _ _ _ a c.in_ok-write_reply.ensures.0 c.in_err-tickets.ensures.err)))

pub returns-clause-answers : goal.returns-clause-answers
returns-clause-answers g c =
    let p = c.args.plan.now in
    let s = g.N.Network.state c.args.net.now in
    let e = c.args.event.now in
    let a = is_answer p (g.N.Network.plan c.args.net.now) s e c.in_ok-reply.reply _ c.requires.plan c.requires.taken
    c.in_ok-reply.ensures.step in
    let told = then_took _ _ _ (reply_text p c.in_ok-reply.reply) _ c.in_ok-write_reply.ensures.0 c.in_ok-tickets.ensures.ok
    ∙ ap (append_known (g.W.Sink.taken c.write_asked_echo.new.sink)) (sym a.text) in
    record {
      counted = counted_as p s e _ _ a _ _ c.is_refused.ensures c.in_ok-tickets.ensures.count;
      wrote = then_took _ _ _ (echo_asked c.args.self.now.echo p c.args.number e) (moment_text p (moment p s e))
          c.in_ok-write_asked_echo.ensures.0 told;
      network = c.in_ok-tickets.ensures.taken ∙ ap (λ (u : State). drained u []) (sym a.after);
    }

pub returns-clause-counts : goal.returns-clause-counts
returns-clause-counts g c =
    let p = c.args.plan.now in
    let s = g.N.Network.state c.args.net.now in
    let e = c.args.event.now in
    let a = is_answer p (g.N.Network.plan c.args.net.now) s e c.in_ok-reply.reply _ c.requires.plan c.requires.taken
    c.in_ok-reply.ensures.step in
    let t = g.N.Network.state c.apply.new.self in
    c.in_ok-tickets.ensures.counts ∙ ap (option_map (ends_counted t.tickets)) c.answered.ensures.counts
    ∙ counted_twice p (moment p s e) c.in_ok-reply.reply t.tickets a.replied a.made c.args.self.now.counts
