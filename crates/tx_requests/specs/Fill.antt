-- The command `fill`.
use Rattle.std.specs.Prelude.{◌≡◌, ◌⊎◌, ℕ, List, option_map, string_bytes, Result, Ok, Err}
use Rattle.tx_plan.specs.Plan.{Plan}
use Rattle.tx_fill.specs.Fills.{IsFill}
use Rattle.tx_fill.specs.FillText.{fill_text}
use Rattle.tx_files.specs.declared.fault.CommandFault.{CommandFault}
use Rattle.tx_requests.specs.declared.fill.Filled.{Filled}
use Rattle.tx_commands.specs.declared.fill.FillRequest.{FillRequest}
use Rattle.tx_files.specs.Faults.{memory_stop}
use Rattle.tx_files.specs.Asked.{asked_of}
use Rattle.tx_requests.specs.Printing.{Printing, Writes}

-- what is asked of a plan by the words for an exchange, a code and groups
abbrev pub fill_asked : FillRequest → Plan → Result (ℕ × ℕ × List ℕ) CommandFault
fill_asked r p =
    asked_of p (string_bytes r.exchange) (string_bytes r.code) (option_map string_bytes r.down)

module _ {A : Type 0} where
  -- the plan, what is asked for, and what the calls come to; or what of it is not there, unless
  -- memory ran out before
  abbrev pub FillAnswers : FillRequest → Plan → Result (Filled A) CommandFault → Type 0
  FillAnswers r p (Ok a) = (a.plan ≡ p)
      × (fill_asked r p ≡ Ok (a.exchange, a.code, a.down.items))
      × IsFill p a.down.items a.exchange a.code a.found
  FillAnswers r p (Err fault) = (fill_asked r p ≡ Err fault) ⊎ (fault ≡ memory_stop)

  abbrev pub fill_prints : Filled A → Printing
  fill_prints a = Writes (fill_text a.plan a.down.items a.code a.exchange a.found)
