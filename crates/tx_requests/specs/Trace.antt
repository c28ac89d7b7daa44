-- The command `trace`.
use Rattle.std.specs.Prelude.{◌≡◌, ◌⊎◌, ℕ, List, option_map, string_bytes, Result, Ok, Err}
use Rattle.tx_plan.specs.Plan.{Plan}
use Rattle.tx_trace.specs.Left.{plan_left}
use Rattle.tx_trace.specs.Traces.{IsTraceOf}
use Rattle.tx_trace.specs.TraceText.{trace_text}
use Rattle.tx_files.specs.declared.fault.CommandFault.{CommandFault}
use Rattle.tx_requests.specs.declared.trace.Traced.{Traced}
use Rattle.tx_commands.specs.declared.trace.TraceRequest.{TraceRequest}
use Rattle.tx_files.specs.Faults.{memory_stop}
use Rattle.tx_files.specs.Asked.{asked_of}
use Rattle.tx_requests.specs.Printing.{Printing, Writes}

-- what is asked of a plan by the words for an exchange, a code and groups
abbrev pub trace_asked : TraceRequest → Plan → Result (ℕ × ℕ × List ℕ) CommandFault
trace_asked r p =
    asked_of p (string_bytes r.exchange) (string_bytes r.code) (option_map string_bytes r.down)

module _ {A : Type 0} where
  -- what is asked for, and how its calls go; or what of it is not there, unless memory ran out
  -- before
  abbrev pub TraceAnswers : TraceRequest → Plan → Result (Traced A) CommandFault → Type 0
  TraceAnswers r p (Ok a) =
      (trace_asked r p ≡ Ok (a.trace.exchange, a.trace.code, a.down.items))
      × (a.left ≡ plan_left p a.down.items) × IsTraceOf a.left a.trace
  TraceAnswers r p (Err fault) = (trace_asked r p ≡ Err fault) ⊎ (fault ≡ memory_stop)

  abbrev pub trace_prints : Traced A → Printing
  trace_prints a = Writes (trace_text a.left a.down.items a.trace.code a.trace.exchange)
