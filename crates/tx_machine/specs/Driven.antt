-- Lists of events that a network could not apply to their end.
use Rattle.std.specs.Prelude.{◌≡◌, true, List, ◌∷◌, ◌++◌, None}
use Rattle.tx_plan.specs.Plan.{Plan}
use Rattle.tx_machine.specs.declared.event.Event.{Event}
use Rattle.tx_machine.specs.declared.reply.Reply.{Reply}
use Rattle.tx_machine.specs.State.{State}
use Rattle.tx_machine.specs.Refusals.{refusal}
use Rattle.tx_machine.specs.Step.{takes_memory}
use Rattle.tx_machine.specs.Runs.{replies, state_after}

-- Memory ran out at an event that takes memory and would not be refused. Those before it were
-- applied: their replies were appended to the ones that were there, and the state is the one after
-- them.
pub record StopsAt (p : Plan) (s : State) (events : List Event)
    (old : List Reply) (t : State) (new : List Reply) : Type 0 where
  pub done : List Event
  pub hand : Event
  pub left : List Event
  pub whole : events ≡ done ++ hand ∷ left
  pub replies : new ≡ old ++ replies p s done
  pub state : t ≡ state_after p s done
  pub asks : takes_memory hand ≡ true
  pub unrefused : refusal p t hand ≡ None
