use Rattle.tx_down.proofs.Common.{◌≡◌, not, take, is_one_of, its_ranges}
use Rattle.std.specs.Prelude.{filter}
use Rattle.tx_down.proofs.network.add_groups.Given as goal

abbrev pub invariant-loop-index : goal.invariant-loop-index
invariant-loop-index g l = l.builder ≡ record (its_ranges l.from) {
  groups = filter (λ g. not (is_one_of l.from l.down g.name)) (take l.index l.from.groups);
}
