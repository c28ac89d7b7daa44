-- Runs in which no event is refused.
use Rattle.std.specs.Prelude.{◌≡◌, false, List}
use Rattle.std.specs.List.{AllByRecursion}
use Rattle.tx_plan.specs.Plan.{Plan}
use Rattle.tx_machine.specs.declared.event.Event.{Event}
use Rattle.tx_machine.specs.State.{State}
use Rattle.tx_machine.specs.Runs.{run}
use Rattle.tx_machine.specs.Sound.{is_refused}

-- no event of the run from the state is refused
abbrev pub NoneRefused : Plan → State → List Event → Type 0
NoneRefused p s events = AllByRecursion (λ m. is_refused m.reply ≡ false) (run p s events)
