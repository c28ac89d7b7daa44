-- Networks from which tickets were taken.
use Rattle.std.specs.Prelude.{◌≡◌, List, ◌++◌}
use Rattle.tx_plan.specs.Plan.{Plan}
use Rattle.tx_machine.specs.declared.event.Event.{Event}
use Rattle.tx_machine.specs.declared.reply.Reply.{Reply}
use Rattle.tx_machine.specs.Ended.{Ended}
use Rattle.tx_machine.specs.State.{State}
use Rattle.tx_machine.specs.Step.{step}

-- with these tickets not yet taken
abbrev pub drained : State → List Ended → State
drained s ts = record s { tickets = ts }

-- the replies are one, both steps append the same tickets, and but for tickets the states after
-- them are one
pub record IsAppending (s : State) (ts : List Ended) (r q : Reply × State) : Type 0 where
  pub reply : q.0 ≡ r.0
  pub made : List Ended
  pub tickets : r.1.tickets ≡ s.tickets ++ made
  pub state : q.1 ≡ drained r.1 (ts ++ made)

-- no reply depends on the tickets not yet taken, and a step only appends tickets
abbrev pub AppendsTickets : Type 0
AppendsTickets = (p : Plan) (s : State) (ts : List Ended) (e : Event)
    → IsAppending s ts (step p s e) (step p (drained s ts) e)
