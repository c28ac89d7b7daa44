use Rattle.tx_join.proofs.Common.{◌≡◌, ◌≤◌, ◌++◌, ◌-◌, max, length, bars_of_code}
use Rattle.std.specs.List.{flat_map, range_with_len}
use Rattle.tx_join.proofs.over.bar_codes.Given as goal

abbrev pub invariant-loop-index : goal.invariant-loop-index
invariant-loop-index g l = record {
  barred : l.bars ≡ l.initial.bars ++ flat_map (bars_of_code l.network) (range_with_len l.codes (l.index - l.codes));
  within : l.index ≤ max l.codes (length l.network.codes);
}
