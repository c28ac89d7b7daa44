-- The command `explain`.
use Rattle.std.specs.Prelude.{◌≡◌, ℕ, Bool, List, Option, option_map, string_bytes, Result, Ok, Err}
use Rattle.tx_text.specs.declared.sink.WriteFault.{WriteFault}
use Rattle.tx_text.specs.Wrote.{WroteBy}
use Rattle.tx_commands.specs.Explanation.{explanation_text}
use Rattle.tx_commands.specs.declared.explain.ExplainRequest.{ExplainRequest}
use Rattle.tx_files.specs.declared.ending.Ending.{Ending}
use Rattle.tx_files.specs.declared.fault.CommandFault.{CommandFault}
use Rattle.tx_files.specs.Ending.{EndsWith}
use Rattle.tx_files.specs.Faults.{write_stop}

-- status 0 once a text was written, or the failure of the output
abbrev pub EndsWritten : {A : Type 0} → Result (Unit {0}) WriteFault
    → Result (Ending A) CommandFault → Type 0
EndsWritten (Ok x) result = EndsWith 0 result
EndsWritten (Err e) result = result ≡ Err write_stop

-- The explanation was written, or a front of it before the output failed, by the bytes that were
-- taken and the mark, both before and after.
pub record IsExplained {A : Type 0} (r : ExplainRequest) (old new : Option (List ℕ))
    (marked_old marked_new : Bool) (result : Result (Ending A) CommandFault) : Type 0 where
  pub written : Result (Unit {0}) WriteFault
  pub by : WroteBy old new marked_old marked_new (explanation_text (option_map string_bytes r.line))
      written
  pub ended : EndsWritten written result
