use Rattle.tx_commands.proofs.Common.{IsFoundIn, IsRefused}
use Rattle.tx_commands.proofs.Found.{found_by}
use Rattle.tx_commands.proofs.reading.command_in.Goals as goal

pub returns-in-Ok-found_command-clause-asked : goal.returns-in-Ok-found_command-clause-asked
returns-in-Ok-found_command-clause-asked c = found_by (λ o. IsFoundIn o c.in-Ok-found_command.command) _ _ _ c.requires c.in-Ok.ensures.ok.2 c.in-Ok-found_command.ensures.asked

pub returns-clause-refused : goal.returns-clause-refused
returns-clause-refused c =
    c.in_ok-words_fault.ensures _ (found_by (λ o. IsRefused o c.in-Err-found_command.misuse) _ _ _ c.requires c.in-Ok.ensures.ok.2 c.in-Err-found_command.ensures.refused)
