-- The state of a network.
use Rattle.std.specs.Prelude.{ℕ, List, [], drop}
use Rattle.std.specs.Ordering.{nat_cmp}
use Rattle.std.specs.FinSet as set
use Rattle.tx_plan.specs.Orders.{circuit_cmp, line_cmp}
use Rattle.tx_plan.specs.Plan.{Plan}
use Rattle.tx_machine.specs.Call.{Call}
use Rattle.tx_machine.specs.Ended.{Ended}

-- The open calls, in order of their numbers; the groups that are failed and those that are blocked;
-- the circuits that are releasing (cleared, and not yet confirmed to be free) and those that are
-- out of service; the lines that are out of order and those that are away; how many call numbers
-- were given and how many events were accepted; the tickets that were not yet taken, the oldest
-- first.
pub record State : Type 0 where
  pub calls : List Call
  pub failed : set.FinSet nat_cmp
  pub blocked : set.FinSet nat_cmp
  pub releasing : set.FinSet circuit_cmp
  pub out : set.FinSet circuit_cmp
  pub faulty : set.FinSet line_cmp
  pub away : set.FinSet line_cmp
  pub numbers : ℕ
  pub events : ℕ
  pub tickets : List Ended

-- so many numbers were given and so many events accepted, and there is nothing else
abbrev pub opening : ℕ → ℕ → State
opening numbers events =
    record {
      calls = [];
      failed = set.empty;
      blocked = set.empty;
      releasing = set.empty;
      out = set.empty;
      faulty = set.empty;
      away = set.empty;
      numbers = numbers;
      events = events;
      tickets = [];
    }

-- a network: its plan, and its state
pub record Net : Type 0 where
  pub plan : Plan
  pub state : State

-- without its oldest ticket
abbrev pub ticket_taken : State → State
ticket_taken s = record s { tickets = drop 1 s.tickets }
