use Rattle.std.proofs.Common.{◌-◌, ◌*◌, vec_len}
use Rattle.tx_machine.proofs.Views.{IsEnding}
use Rattle.tx_machine.proofs.plain.ended_calls.take_out.Given as goal

abbrev pub invariant-loop-at : goal.invariant-loop-at
invariant-loop-at g l = IsEnding l.plan l.cause l.event l.ends l.fn.calls.items l.fn.tickets.items l.at l.calls l.tickets

abbrev pub decreases-loop-at : goal.decreases-loop-at
decreases-loop-at g l = 2 * vec_len l.calls - l.at
