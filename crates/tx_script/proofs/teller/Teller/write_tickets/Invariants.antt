use Rattle.tx_script.proofs.Common.{◌≡◌, length, option_map, ends_counted}
use Rattle.tx_script.proofs.Draining.{IsDraining}
use Rattle.tx_script.proofs.Ended.{HasRoom}
use Rattle.tx_script.proofs.teller.Teller.write_tickets.Given as goal

abbrev pub invariant-loop-ticket : goal.invariant-loop-ticket
invariant-loop-ticket g l = record {
  plan : g.N.Network.plan l.net ≡ g.N.Network.plan l.fn.net;
  draining : IsDraining l.plan (g.N.Network.state l.fn.net) (g.N.Network.state l.net) (g.W.Sink.taken l.fn.sink) (g.W.Sink.taken l.sink) l.count;
  mark : g.W.Sink.failed l.sink ≡ g.W.Sink.failed l.fn.sink;
  echo : l.self.echo ≡ l.fn.self.echo;
  counts : option_map (ends_counted (g.N.Network.state l.net).tickets) l.self.counts ≡ option_map (ends_counted (g.N.Network.state l.fn.net).tickets) l.fn.self.counts;
  room : HasRoom l.self.counts (length (g.N.Network.state l.net).tickets);
}

abbrev pub decreases-loop-ticket : goal.decreases-loop-ticket
decreases-loop-ticket g l = length (g.N.Network.state l.net).tickets
