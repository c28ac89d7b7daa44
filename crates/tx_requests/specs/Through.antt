-- The command `trace PLAN --through NAME`.
use Rattle.std.specs.Prelude.{◌≡◌, ◌⊎◌, ℕ, List, option_map, string_bytes, Result, Ok, Err}
use Rattle.tx_plan.specs.Plan.{Plan}
use Rattle.tx_trace.specs.declared.through.Through.{Through as Passing}
use Rattle.tx_trace.specs.Left.{plan_left}
use Rattle.tx_trace.specs.Through.{calls_through}
use Rattle.tx_trace.specs.ThroughText.{through_text}
use Rattle.tx_files.specs.declared.fault.CommandFault.{CommandFault}
use Rattle.tx_requests.specs.declared.through.Passed.{Passed}
use Rattle.tx_commands.specs.declared.trace.ThroughRequest.{ThroughRequest}
use Rattle.tx_files.specs.Faults.{memory_stop}
use Rattle.tx_files.specs.Asked.{passed_of}
use Rattle.tx_requests.specs.Printing.{Printing, Writes}

-- what is asked of a plan by the name of what is passed, and those of groups
abbrev pub through_asked : ThroughRequest → Plan → Result (Passing × List ℕ) CommandFault
through_asked r p = passed_of p (string_bytes r.name) (option_map string_bytes r.down)

module _ {A : Type 0} where
  -- what is asked for, and the calls that can pass it; or what of it is not there, unless memory
  -- ran out before
  abbrev pub ThroughAnswers : ThroughRequest → Plan → Result (Passed A) CommandFault → Type 0
  ThroughAnswers r p (Ok a) =
      (through_asked r p ≡ Ok (a.through, a.down.items)) × (a.left ≡ plan_left p a.down.items)
      × (a.calls.items ≡ calls_through a.left a.through)
  ThroughAnswers r p (Err fault) = (through_asked r p ≡ Err fault) ⊎ (fault ≡ memory_stop)

  abbrev pub through_prints : Passed A → Printing
  through_prints a = Writes (through_text a.left a.down.items a.through)
