use Rattle.tx_down.proofs.Common.{◌≡◌, ◌≤◌, length, take, list_over}
use Rattle.tx_down.proofs.without.list_over.Given as goal

abbrev pub invariant-loop-group : goal.invariant-loop-group
invariant-loop-group g l = record {
  few : length l.list.items ≤ l.group-index;
  over : l.list.items ≡ list_over l.network l.plan (take l.group-index l.tried);
}
