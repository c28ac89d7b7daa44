-- Calls that end.
use Rattle.std.specs.Prelude.{ℕ, ◌+◌, Bool, not, List, ◌++◌, map, filter}
use Rattle.std.specs.List.{list_any, flat_map}
use Rattle.std.specs.FinSet as set
use Rattle.tx_plan.specs.Plan.{Plan}
use Rattle.tx_plan.specs.declared.ids.Circuit.{Circuit}
use Rattle.tx_machine.specs.declared.cause.Cause.{Cause}
use Rattle.tx_machine.specs.declared.cause.Cause.TheVariants.{Service as ByService}
use Rattle.tx_machine.specs.declared.reply.Reply.{Reply}
use Rattle.tx_machine.specs.declared.reply.Reply.TheVariants.{Answered}
use Rattle.tx_machine.specs.declared.cause.Service.{Service}
use Rattle.tx_machine.specs.Call.{Call, start_of, is_numbered}
use Rattle.tx_machine.specs.Ended.{Ended}
use Rattle.tx_machine.specs.State.{State}
use Rattle.tx_machine.specs.InUse.{seizes, circuits_used}

-- the ticket of a call that ends by this event
abbrev pub ticket_of : Plan → Cause → ℕ → Call → Ended
ticket_of p cause event c =
    record {
      number = c.number;
      line = c.line;
      start = start_of p c;
      keyed = c.keyed;
      cause = cause;
      keyed_at = c.keyed_at;
      ended_at = event;
      path = c.hops;
    }

-- the circuits that the calls that end give up: all that they used, unless a remaining call has
-- seized it
abbrev pub given_up : List Call → List Call → List Circuit
given_up ended kept = filter (λ x. not (list_any (λ c. seizes c x) kept))
    (flat_map circuits_used ended)

-- The calls that pass the test end with this cause: what they give up is releasing, and each
-- leaves a ticket, in order of their numbers.
abbrev pub end_calls : Plan → Cause → (Call → Bool) → State → State
end_calls p cause ends s =
    record s {
      calls = filter (λ c. not (ends c)) s.calls;
      releasing = set.union s.releasing
          (set.from_list (given_up (filter ends s.calls) (filter (λ c. not (ends c)) s.calls)));
      tickets = s.tickets ++ map (ticket_of p cause (s.events + 1)) (filter ends s.calls);
    }

-- the call of a number ends
abbrev pub end_call : Plan → Cause → ℕ → State → State
end_call p cause n s = end_calls p cause (is_numbered n) s

-- the call of a number is answered with a service code, and ends
abbrev pub answered : Plan → ℕ → Service → State → Reply × State
answered p n service s = (Answered service, end_call p (ByService service) n s)
