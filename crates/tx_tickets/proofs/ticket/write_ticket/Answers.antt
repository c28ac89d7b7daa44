use Rattle.std.proofs.Common.{◌≡◌, ℕ, List, ◌++◌, ap, append_assoc}
use Rattle.tx_text.proofs.Writing.{some}
use Rattle.tx_text.proofs.Putting.{puts_wrote, puts_is}
use Rattle.tx_machine.specs.Ended.{Ended}
use Rattle.tx_tickets.specs.Texts.{caller_text, events_text, why_text}
use Rattle.tx_tickets.proofs.ticket.write_ticket.Goals as goal

cut : (a b c d : List ℕ) → a ++ (b ++ (c ++ d)) ≡ ((a ++ b) ++ c) ++ d
cut a b c d = simp append_assoc

pub returns : goal.returns
returns g c =
    let p = c.args.plan.now in
    let t = c.args.ticket.now in
    puts_wrote _ some (puts_is (cut (caller_text p t) (events_text t) (why_text p t) _)
    (rw (c.put_why.ensures.text, c.put_events.ensures.text, c.put_caller.ensures.text, c.deref.ensures.value, ap (λ (e : Ended). e.path) c.ticket.view_is) at c.write_path.ensures)) c.finish.ensures
