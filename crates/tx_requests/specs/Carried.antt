-- A request that is carried out over its texts: it is answered, and the answer is printed.
use Rattle.std.specs.Prelude.{◌≡◌, ◌⊎◌, ℕ, Bool, List, Option, Result, Ok, Err}
use Rattle.tx_text.specs.declared.sink.WriteFault.{WriteFault}
use Rattle.tx_files.specs.declared.ending.Ending.{Ending}
use Rattle.tx_files.specs.declared.fault.CommandFault.{CommandFault}
use Rattle.tx_files.specs.Faults.{write_stop}
use Rattle.tx_requests.specs.Printing.{Printing}

module _ {C T N A W : Type 0} (answers : C → T → Result N CommandFault → Type 0)
    (prints : C → N → Printing) (ends : C → N → Result (Ending A) CommandFault → Type 0)
    (request : C) (taken : W → Option (List ℕ)) (failed : W → Bool) (old new : W) where
  -- There is no answer, for this reason. Nothing was written.
  pub record IsUnanswered (texts : T) (result : Result (Ending A) CommandFault) : Type 0 where
    pub fault : CommandFault
    pub unanswered : answers request texts (Err fault)
    pub silent : new ≡ old
    pub told : result ≡ Err fault

  -- So it ended once the answer was printed: with what was left to say, or with the failure of the
  -- output.
  abbrev pub EndsBy : N → Result (Unit {0}) WriteFault → Result (Ending A) CommandFault → Type 0
  EndsBy answer (Ok x) result = ends request answer result
  EndsBy answer (Err e) result = result ≡ Err write_stop

  -- It was answered, and the answer was printed, or a front of it.
  pub record IsPrinted (texts : T) (result : Result (Ending A) CommandFault) : Type 0 where
    pub answer : N
    pub written : Result (Unit {0}) WriteFault
    pub right : answers request texts (Ok answer)
    pub printed : prints request answer (taken old) (taken new) (failed old) (failed new) written
    pub ended : EndsBy answer written result

  -- One of these, if the texts were read. Else that is the reason, and nothing was written.
  abbrev pub IsCarriedOut : Result T CommandFault → Result (Ending A) CommandFault → Type 0
  IsCarriedOut (Ok texts) result = IsUnanswered texts result ⊎ IsPrinted texts result
  IsCarriedOut (Err fault) result = (new ≡ old) × (result ≡ Err fault)
