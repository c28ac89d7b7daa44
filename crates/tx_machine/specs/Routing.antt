-- Route: an exchange routes a call (ITU-T F.68 for transits).
use Rattle.std.specs.Prelude.{ℕ, ◌&&◌, ◌==◌, if◌then◌else◌, List, [], map, Option, Some, None, unwrap_or}
use Rattle.tx_plan.specs.Plan.{Plan, figures_of, home_of}
use Rattle.tx_plan.specs.Codes.{after, code_of}
use Rattle.tx_plan.specs.Routes.{is_barred}
use Rattle.tx_plan.specs.declared.ids.Circuit.{Circuit}
use Rattle.tx_plan.specs.declared.ids.Line.{Line}
use Rattle.tx_machine.specs.declared.reply.Reply.{Reply}
use Rattle.tx_machine.specs.declared.reply.Reply.TheVariants.{Seized, Connected as ConnectedTo}
use Rattle.tx_machine.specs.declared.cause.Service.{Service}
use Rattle.tx_machine.specs.declared.cause.Service.TheVariants.{Nc, Np, Na}
use Rattle.tx_machine.specs.Call.{Call, Phase, Calling, Connected, exchange_of, is_first}
use Rattle.tx_machine.specs.State.{State}
use Rattle.tx_machine.specs.InUse.{choice}
use Rattle.tx_machine.specs.Lines.{line_answer}
use Rattle.tx_machine.specs.Ending.{answered}

-- one call changes
abbrev pub set_call : ℕ → (Call → Call) → List Call → List Call
set_call n f calls = map (λ c. if c.number == n then f c else c) calls

-- the call is in another phase
abbrev pub in_phase : Phase → Call → Call
in_phase phase c = record c { phase = phase }

-- at the home of the code the line decides: the call is connected to it, or answered with the
-- line's service code
abbrev pub at_line : Plan → State → Call → Line → Option Service → Reply × State
at_line p s c l None =
    (ConnectedTo l, record s { calls = set_call c.number (in_phase (Connected l)) s.calls })
at_line p s c l (Some service) = answered p c.number service s

-- elsewhere the choice decides: the call seizes the circuit, or is answered NC
abbrev pub at_trunk : Plan → State → Call → Option Circuit → Reply × State
at_trunk p s c None = answered p c.number Nc s
at_trunk p s c (Some x) =
    (Seized x, record s { calls = set_call c.number (in_phase (Calling x)) s.calls })

-- the line of a code whose national number is what was keyed after the code
abbrev pub line_of : Plan → ℕ → List ℕ → Line
line_of p code keyed = record {
  code = code;
  national = unwrap_or (after (figures_of p code) keyed) [];
}

-- Without a code of the plan the call is answered NP. A call that has gone over no circuit, at an
-- exchange barred for the code, is answered NA.
abbrev pub routed_for : Plan → State → Call → Option ℕ → Reply × State
routed_for p s c None = answered p c.number Np s
routed_for p s c (Some code) =
    if is_first c.hops && is_barred p (exchange_of p c) code then answered p c.number Na s
    else if home_of p code == exchange_of p c then at_line p s c (line_of p code c.keyed)
    (line_answer p s (line_of p code c.keyed))
    else at_trunk p s c (choice p s (exchange_of p c) code)

-- a call is routed by the longest code that begins the keyed figures
abbrev pub routed : Plan → State → Call → Reply × State
routed p s c = routed_for p s c (code_of p c.keyed)
