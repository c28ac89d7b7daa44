-- How commands end.
use Rattle.std.specs.Prelude.{◌≡◌, ℕ, List, Option, None, Result, Ok, Err}
use Rattle.tx_files.specs.declared.ending.Ending.{Ending}
use Rattle.tx_files.specs.declared.fault.CommandFault.{CommandFault}
use Rattle.tx_files.specs.Made.{texts_of}

-- with this status, and nothing goes into files
abbrev pub EndsWith : {A : Type 0} → ℕ → Result (Ending A) CommandFault → Type 0
EndsWith status (Ok ending) = (ending.status ≡ status) × (ending.made ≡ None)
EndsWith status (Err fault) = ⊥

-- status 0, and nothing goes into files
abbrev pub EndsWell : {A N : Type 0} → N → Result (Ending A) CommandFault → Type 0
EndsWell answer = EndsWith 0

-- with this status, and these texts go into files
abbrev pub EndsWithTexts : {A : Type 0} → ℕ → List (Option (List ℕ)) → Result (Ending A) CommandFault
    → Type 0
EndsWithTexts status texts (Ok ending) =
    (ending.status ≡ status) × (texts_of ending.made ≡ texts)
EndsWithTexts status texts (Err fault) = ⊥
