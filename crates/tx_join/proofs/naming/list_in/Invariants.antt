use Rattle.tx_join.proofs.Common.{◌≡◌, ◌≤◌, length, map, take, Plan, group_in}
use Rattle.tx_join.specs.inner.Taken.{groups_in}
use Rattle.tx_join.proofs.naming.list_in.Given as goal

abbrev pub invariant-loop-group : goal.invariant-loop-group
invariant-loop-group g l = record {
  few : length l.list.items ≤ l.group-index;
  mapped : (plan : Plan) → l.groups ≡ groups_in plan l.from → l.list.items ≡ map (group_in plan l.from) (take l.group-index l.tried);
}
