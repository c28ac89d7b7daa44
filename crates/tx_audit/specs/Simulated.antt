-- What a run over the engine answers.
use Rattle.std.specs.Prelude.{◌≡◌, ◌⊎◌, Result, Ok, Err}
use Rattle.tx_text.specs.Ends.{Input, Output}
use Rattle.tx_plan.specs.Plan.{Plan}
use Rattle.tx_machine.specs.State.{State, opening}
use Rattle.tx_script.specs.declared.summary.Summary.{Summary}
use Rattle.tx_script.specs.declared.run_fault.RunFault.{RunFault}
use Rattle.tx_script.specs.declared.run_cause.RunCause.TheVariants.{NoMemory}
use Rattle.tx_script.specs.Answers.{States, RunAnswers}

-- nothing was read or written
abbrev pub IsUntouched : (script : Input) → (out : Output) → Type 0
IsUntouched script out = script.unread × out.silent

-- a network that came from the opening state to this one
abbrev pub from_opening : State → States
from_opening state = record { old = opening 0 0; new = state; unchanged = state ≡ opening 0 0 }

-- the script was run over a network of the plan, from the opening state
pub record RanFromOpening (p : Plan) (script : Input) (out : Output)
    (answer : Result Summary RunFault) : Type 0 where
  pub state : State
  pub ran : RunAnswers p script (from_opening state) out answer

-- there was no memory for the network: the first event is named, and nothing was read or written
abbrev pub HadNoRoom : (script : Input) → (out : Output) → RunFault → Type 0
HadNoRoom script out f = (f ≡ record { event = 1; cause = NoMemory }) × IsUntouched script out

-- What a run over the engine answers
abbrev pub Simulated : Plan → (script : Input) → (out : Output) → Result Summary RunFault → Type 0
Simulated p script out (Ok summary) = RanFromOpening p script out (Ok summary)
Simulated p script out (Err f) = RanFromOpening p script out (Err f) ⊎ HadNoRoom script out f
