use Rattle.std.proofs.Common.{◌≤◌, ◌++◌, length, take}
use Rattle.std.specs.List.{flat_map}
use Rattle.tx_tickets.specs.Texts.{hop_text}
use Rattle.tx_tickets.proofs.Begun.{IsBegun}
use Rattle.tx_tickets.proofs.ticket.write_path.Given as goal

abbrev pub invariant-loop-hop : goal.invariant-loop-hop
invariant-loop-hop g l = record {
  begun : IsBegun g.W.Sink.taken g.W.Sink.failed l.initial.sink l.sink l.text.items (l.initial.text.items ++ flat_map (hop_text l.plan) (take l.hop-index l.hops));
  room : length l.text.items ≤ 152;
}
