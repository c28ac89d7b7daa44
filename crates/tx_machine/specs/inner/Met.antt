-- What a call meets that confirms, and what is done then.
use Rattle.std.specs.Prelude.{◌≡◌, ℕ, not, length, Some}
use Rattle.tx_plan.specs.Plan.{Plan}
use Rattle.tx_machine.specs.declared.cause.Cause.TheVariants.{Service as ByService}
use Rattle.tx_machine.specs.declared.cause.Service.TheVariants.{Nc}
use Rattle.tx_machine.specs.declared.open_call.Phase.{Phase}
use Rattle.tx_machine.specs.declared.open_call.Phase.TheVariants.{Calling}
use Rattle.tx_machine.specs.declared.reply.Reply.{Reply}
use Rattle.tx_machine.specs.declared.reply.Reply.TheVariants.{At, HeadOn}
use Rattle.tx_machine.specs.Call.{Call, call_of}
use Rattle.tx_machine.specs.State.{State}
use Rattle.tx_machine.specs.Ending.{end_calls}
use Rattle.tx_machine.specs.Routing.{set_call}
use Rattle.tx_machine.specs.Confirming.{collide}
use Rattle.tx_machine.specs.inner.Marks.{HasMark}
use Rattle.tx_machine.specs.inner.Seen.{changed_call}
use Rattle.tx_machine.specs.inner.GivenUp.{ends_by}
use Rattle.tx_machine.specs.declared.plain.changing.Change.TheVariants.{Carry}
use Rattle.tx_machine.specs.declared.plain.ended_calls.Ends.TheVariants.{Collided}
use Rattle.tx_machine.specs.declared.plain.confirm.Meeting.{Meeting}
use Rattle.tx_machine.specs.declared.plain.confirm.Meeting.TheVariants.{GoesOn, Collides}

-- what a meeting does with the call of a number
abbrev pub meeting_done : Plan → State → ℕ → Meeting → Reply × State
meeting_done p s n (GoesOn h) =
    (At h.far, record s { calls = set_call n (changed_call (Carry h)) s.calls })
meeting_done p s n (Collides x collided m other) = (
  HeadOn n m (not collided) (not other),
  end_calls p (ByService Nc) (ends_by (Collided n collided m other)) (collide n m x s),
)

-- the phase of a call that has this meeting
abbrev pub IsOn : Phase → Meeting → Type 0
IsOn phase (GoesOn h) = phase ≡ Calling h.circuit
IsOn phase (Collides x collided m other) = phase ≡ Calling x

-- the call of the number has seized the circuit, and a circuit that is given back has a mark
abbrev pub IsMet : Plan → State → ℕ → Meeting → Type 0
IsMet p s n (GoesOn h) = (c : Call) × (call_of n s.calls ≡ Some c) × (c.phase ≡ Calling h.circuit)
IsMet p s n (Collides x collided m other) = HasMark (length p.groups) x
