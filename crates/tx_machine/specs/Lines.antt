-- Lines that take part in calls, and what a line answers.
use Rattle.std.specs.Prelude.{Bool, false, not, ◌||◌, if◌then◌else◌, List, ◌∷◌, Option, Some, None}
use Rattle.std.specs.List.{list_any}
use Rattle.std.specs.FinSet as set
use Rattle.tx_plan.specs.Orders.{same_line}
use Rattle.tx_plan.specs.Plan.{Plan}
use Rattle.tx_plan.specs.Lines.{is_line}
use Rattle.tx_plan.specs.declared.ids.Line.{Line}
use Rattle.tx_machine.specs.declared.cause.Service.{Service}
use Rattle.tx_machine.specs.declared.cause.Service.TheVariants.{Occ, Np, Der, Abs}
use Rattle.tx_machine.specs.Call.{Call, Phase, Standing, Calling, Connected, lines_called}
use Rattle.tx_machine.specs.State.{State}

-- a call in this phase is connected to the line
abbrev pub is_connected_to : Phase → Line → Bool
is_connected_to Standing l = false
is_connected_to (Calling x) l = false
is_connected_to (Connected m) l = same_line m l

-- a line takes part in the calls that it made and in those that are connected to it
abbrev pub takes_part : Call → Line → Bool
takes_part c l = same_line c.line l || is_connected_to c.phase l

-- the lines that take part in a call
abbrev pub lines_of : Call → List Line
lines_of c = c.line ∷ lines_called c.phase

-- it takes part in an open call
abbrev pub is_engaged : State → Line → Bool
is_engaged s l = list_any (λ c. takes_part c l) s.calls

-- The answer of a line: NP if the plan has no such line, DER if it is out of order, ABS if it is
-- away, OCC if it is engaged; else it is free.
abbrev pub line_answer : Plan → State → Line → Option Service
line_answer p s l =
    if not (is_line p l) then Some Np
    else if set.contains s.faulty l then Some Der
    else if set.contains s.away l then Some Abs
    else if is_engaged s l then Some Occ
    else None
