-- What is kept of a call that ended: its ticket.
use Rattle.std.specs.Prelude.{ℕ, List}
use Rattle.tx_plan.specs.declared.ids.Line.{Line}
use Rattle.tx_machine.specs.declared.cause.Cause.{Cause}
use Rattle.tx_machine.specs.declared.open_call.Hop.{Hop}

-- The call's number, the line that called and the exchange where it started, the figures that were
-- keyed, why it ended, the events by which it was keyed and ended, and its hops.
pub record Ended : Type 0 where
  pub number : ℕ
  pub line : Line
  pub start : ℕ
  pub keyed : List ℕ
  pub cause : Cause
  pub keyed_at : ℕ
  pub ended_at : ℕ
  pub path : List Hop
