-- The exit status of words that ask for no command, and of a command that was not done.
use Rattle.std.specs.Prelude.{◌≡◌, ◌≢◌, ℕ, ◌⊎◌, List, []}
use Rattle.std.specs.Borrow.{Bor}
use Rattle.std.specs.declared.io.ErrorKind.{ErrorKind}
use Rattle.std.specs.declared.io.ErrorKind.TheVariants.{OutOfMemory}
use Rattle.tx_commands.specs.Commands.{AskFor}
use Rattle.tx_commands.specs.Faults.{IsRefusalOf, status_of}
use Rattle.tx_commands.specs.declared.command.Command.{Command}
use Rattle.tx_commands.specs.declared.fault.WordsFault.{WordsFault}
use Rattle.tx_files.specs.Faults.{fault_status}
use Rattle.tx_program.specs.declared.stop.Stop.{Stop}
use Rattle.tx_program.specs.declared.stop.Stop.TheVariants.{Command as CommandFailed, Read, Write}

-- of arguments that could not be taken as words: 4 when memory runs out, else 64
abbrev pub status_of_arguments : ErrorKind → ℕ
status_of_arguments OutOfMemory = 4
status_of_arguments kind = 64

-- there are words, and they ask for no command
pub record AskNothing (words : List (Bor (List ℕ))) : Type 0 where
  pub some : words ≢ []
  pub none : (command : Command) → AskFor words command → ⊥

-- the exit status of words that are refused: that of a reason to refuse them, or 3 where a request
-- for help could not be written
pub record IsRefusedWith (words : List (Bor (List ℕ))) (status : ℕ) : Type 0 where
  pub fault : WordsFault
  pub told : IsRefusalOf words fault
  pub answers : (status ≡ status_of fault) ⊎ ((status_of fault ≡ 0) × (status ≡ 3))

-- of a command that was not done: that of its fault, 3 where an end failed, or 64 where a
-- file must not be made
abbrev pub status_of_stop : Stop → ℕ
status_of_stop (CommandFailed fault) = fault_status fault
status_of_stop (Read place error) = 3
status_of_stop (Write place error) = 3
status_of_stop other = 64
