-- An open call as the definitions see it.
use Rattle.tx_machine.specs.Call.{Call}
use Rattle.tx_machine.specs.declared.open_call.OpenCall.{OpenCall}

-- its fields, with the list of its hops
abbrev pub call_seen : {A : Type 0} → OpenCall A → Call
call_seen c = record {
  number = c.number;
  line = c.line;
  keyed = c.keyed;
  keyed_at = c.keyed_at;
  hops = c.hops.items;
  phase = c.phase;
  collided = c.collided;
}
