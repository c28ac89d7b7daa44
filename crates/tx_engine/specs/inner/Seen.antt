-- The state of a network that keeps its open calls, a table of circuits and a book of lines.
use Rattle.std.specs.Prelude.{ℕ, List}
use Rattle.tx_plan.specs.Plan.{Plan}
use Rattle.tx_machine.specs.Call.{Call}
use Rattle.tx_machine.specs.Ended.{Ended}
use Rattle.tx_machine.specs.State.{State}
use Rattle.tx_machine.specs.inner.Invariant.{Inv}
use Rattle.tx_lines.specs.Book.{Book}
use Rattle.tx_circuits.specs.Table.{Table}
use Rattle.tx_engine.specs.inner.GivenBack.{AreUsed, AreEngaged}

-- the state's own sets are those of the table and of the book
abbrev pub state_seen : List Call → Table → Book → ℕ → ℕ → List Ended → State
state_seen calls t b numbers events tickets =
    record {
      calls = calls;
      failed = t.failed;
      blocked = t.blocked;
      releasing = t.releasing;
      out = t.out;
      faulty = b.faulty;
      away = b.away;
      numbers = numbers;
      events = events;
      tickets = tickets;
    }

-- the parts go together: the machine's invariant holds of what they show, and circuits and lines
-- are held as the calls hold them
pub record AreTogether (p : Plan) (calls : List Call)
    (t : Table) (b : Book) (numbers : ℕ) : Type 0 where
  pub inv : Inv p calls t.releasing numbers
  pub used : AreUsed p calls t
  pub engaged : AreEngaged calls b.engaged
