-- What was decided for a call that is routed, and what is done then.
use Rattle.std.specs.Prelude.{ℕ}
use Rattle.tx_plan.specs.Plan.{Plan}
use Rattle.tx_machine.specs.declared.deciding.Decision.{Decision}
use Rattle.tx_machine.specs.declared.deciding.Decision.TheVariants.{Answer, Connect, Seize}
use Rattle.tx_machine.specs.declared.open_call.Phase.TheVariants.{Calling, Connected}
use Rattle.tx_machine.specs.declared.reply.Reply.{Reply}
use Rattle.tx_machine.specs.declared.reply.Reply.TheVariants.{Seized, Connected as ConnectedTo}
use Rattle.tx_machine.specs.State.{State}
use Rattle.tx_machine.specs.Ending.{answered}
use Rattle.tx_machine.specs.Routing.{set_call, in_phase}

-- the step that a decision makes for the call of a number
abbrev pub carried_out : Plan → State → ℕ → Decision → Reply × State
carried_out p s n (Answer service) = answered p n service s
carried_out p s n (Connect l) =
    (ConnectedTo l, record s { calls = set_call n (in_phase (Connected l)) s.calls })
carried_out p s n (Seize x) =
    (Seized x, record s { calls = set_call n (in_phase (Calling x)) s.calls })
