use Rattle.tx_lines.proofs.Common.{ap, length, rules, arith, IsPartitionPoint-from_clause}
use Rattle.tx_lines.proofs.Order.{starts_by}
use Rattle.tx_lines.proofs.Parts.{own_length, own_partitioned, counted}
use Rattle.tx_lines.proofs.ranges.starting_by.Goals as goal

pub overflow_add-result : goal.overflow_add-result
overflow_add-result c =
    let n = own_length c.args.ranges.now c.requires.order c.args.code c.args.number.now c.args.first c.args.end c.requires.rising c.requires.within in
    let b = c.partition_point-after.ensures.bound in
    omega arith

pub returns : goal.returns
returns c =
    let xs = c.args.ranges.now in
    let from = c.args.first in
    let to = c.args.end in
    let starts = starts_by xs c.requires.order c.args.code c.args.number.now in
    counted xs c.requires.order c.args.code c.args.number.now from to c.requires.rising c.requires.within c.partition_point-after.result c.partition_point-after.ensures.bound c.requires.before c.requires.behind
    (IsPartitionPoint-from_clause starts _ c.partition_point-after.result c.partition_point-after.ensures.partitioned (own_partitioned xs c.requires.order c.args.code c.args.number.now from to c.requires.rising c.requires.within) (λ a r q k. search rules))
