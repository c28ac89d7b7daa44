-- The step: what an event does to a network.
use Rattle.std.specs.Prelude.{ℕ, ◌+◌, Bool, true, false, not, ◌==◌, List, [], ◌∷◌, ◌++◌, length, filter, Option, Some, None}
use Rattle.std.specs.FinSet as set
use Rattle.tx_plan.specs.Plan.{Plan}
use Rattle.tx_plan.specs.declared.ids.Line.{Line}
use Rattle.tx_machine.specs.declared.cause.Cause.{Cause}
use Rattle.tx_machine.specs.declared.cause.Cause.TheVariants.{ClearedByCaller, ClearedByCalled, Lost as ByLoss}
use Rattle.tx_machine.specs.declared.event.Event.{Event}
use Rattle.tx_machine.specs.declared.event.Event.TheVariants.{Key, Route, Confirm, Clear, Released, Fail, Restore, Block, Unblock, CircuitOut, CircuitIn, LineFault, LineMend, LineAway, LineBack}
use Rattle.tx_machine.specs.declared.open_call.Party.{Party}
use Rattle.tx_machine.specs.declared.open_call.Party.TheVariants.{Caller, Called}
use Rattle.tx_machine.specs.declared.refusal.Refusal.{Refusal}
use Rattle.tx_machine.specs.declared.refusal.Refusal.TheVariants.{UnknownCall}
use Rattle.tx_machine.specs.declared.reply.Reply.{Reply}
use Rattle.tx_machine.specs.declared.reply.Reply.TheVariants.{Keyed, Cleared, Done, Lost, Refused}
use Rattle.tx_machine.specs.Call.{Call, Standing, call_of}
use Rattle.tx_machine.specs.State.{State}
use Rattle.tx_machine.specs.InUse.{uses_group}
use Rattle.tx_machine.specs.Refusals.{refusal}
use Rattle.tx_machine.specs.Ending.{end_calls, end_call}
use Rattle.tx_machine.specs.Routing.{routed}
use Rattle.tx_machine.specs.Confirming.{confirmed}

-- a new call stands where its line is, and has not collided
abbrev pub keyed_call : ℕ → Line → List ℕ → ℕ → Call
keyed_call n line keyed event = record {
  number = n;
  line = line;
  keyed = keyed;
  keyed_at = event;
  hops = [];
  phase = Standing;
  collided = false;
}

-- a line calls: the call gets the next number
abbrev pub keyed_in : State → Line → List ℕ → State
keyed_in s line keyed = record s {
  numbers = s.numbers + 1;
  calls = s.calls ++ keyed_call (s.numbers + 1) line keyed (s.events + 1) ∷ [];
}

-- a group fails: the calls on it are lost, it is failed, and none of its circuits is releasing
abbrev pub failed_at : Plan → ℕ → State → State
failed_at p g s =
    let t = end_calls p ByLoss (uses_group g) s in
    record t {
      failed = set.insert t.failed g;
      releasing = set.retain t.releasing (λ x. not (x.group == g));
    }

-- the cause of a call that a party clears
abbrev pub cause_by : Party → Cause
cause_by Caller = ClearedByCaller
cause_by Called = ClearedByCalled

-- what an event does to its call
abbrev pub with_call : Option Call → State → (Call → Reply × State) → Reply × State
with_call None s act = (Refused UnknownCall, s)
with_call (Some c) s act = act c

-- the reply and the change of an event that is not refused
abbrev pub accepted : Plan → State → Event → Reply × State
accepted p s (Key line keyed) = (Keyed (s.numbers + 1), keyed_in s line keyed)
accepted p s (Route n) = with_call (call_of n s.calls) s (λ c. routed p s c)
accepted p s (Confirm n) = with_call (call_of n s.calls) s (λ c. confirmed p s c c.phase)
accepted p s (Clear n party) = (Cleared, end_call p (cause_by party) n s)
accepted p s (Released x) = (Done, record s { releasing = set.remove s.releasing x })
accepted p s (Fail g) = (Lost (length (filter (uses_group g) s.calls)), failed_at p g s)
accepted p s (Restore g) = (Done, record s { failed = set.remove s.failed g })
accepted p s (Block g) = (Done, record s { blocked = set.insert s.blocked g })
accepted p s (Unblock g) = (Done, record s { blocked = set.remove s.blocked g })
accepted p s (CircuitOut x) = (Done, record s { out = set.insert s.out x })
accepted p s (CircuitIn x) = (Done, record s { out = set.remove s.out x })
accepted p s (LineFault l) = (Done, record s { faulty = set.insert s.faulty l })
accepted p s (LineMend l) = (Done, record s { faulty = set.remove s.faulty l })
accepted p s (LineAway l) = (Done, record s { away = set.insert s.away l })
accepted p s (LineBack l) = (Done, record s { away = set.remove s.away l })

-- with one more accepted event
abbrev pub counted : Reply × State → Reply × State
counted next = (next.0, record next.1 { events = next.1.events + 1 })

-- a refused event changes nothing
abbrev pub unless_refused : Option Refusal → State → Reply × State → Reply × State
unless_refused (Some r) s next = (Refused r, s)
unless_refused None s next = next

-- The step of a network by an event: the reply and the state after it. A refused event changes
-- nothing and is not counted.
abbrev pub step : Plan → State → Event → Reply × State
step p s e = unless_refused (refusal p s e) s (counted (accepted p s e))

-- the events that may find no memory
abbrev pub takes_memory : Event → Bool
takes_memory (Key line keyed) = true
takes_memory (Route n) = true
takes_memory (LineFault l) = true
takes_memory (LineAway l) = true
takes_memory other = false
