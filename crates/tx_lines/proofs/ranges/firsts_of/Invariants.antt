use Rattle.tx_lines.proofs.Common.{◌≡◌, ◌≤◌, ◌+◌, length, vec_capacity, AreFirsts}
use Rattle.tx_lines.proofs.ranges.firsts_of.Given as goal

abbrev pub invariant-loop-code : goal.invariant-loop-code
invariant-loop-code g l = record {
  firsts : AreFirsts l.ranges l.firsts.items;
  count : length l.firsts.items ≡ l.code-counter;
  room : l.codes + 1 ≤ vec_capacity l.firsts;
}
