use Rattle.tx_lines.proofs.Common.{◌+◌, ◌∷◌, [], length, nat_lt, sym, ap, ◌∙◌, subst, length-append, arith, rules, IsPartitionPoint-from_clause, LineRange, AreFirsts, IsFirst}
use Rattle.tx_lines.proofs.ByCode.{codes_rise, firsts_more, first_from}
use Rattle.tx_lines.proofs.ranges.firsts_of.Goals as goal

pub loop-code-preserved : goal.loop-code-preserved
loop-code-preserved g c =
    let xs = c.args.ranges.now in
    let code = c.loop-code.code-counter in
    let n = c.loop-code.invariant.count in
    let point = IsPartitionPoint-from_clause (λ (r : LineRange). nat_lt r.code code) xs c.partition_point.result c.partition_point.ensures.partitioned (codes_rise xs c.requires.order code) (λ a r q k. search rules) in
    let one : IsFirst xs (length c.loop-code.firsts.items) c.partition_point.result = subst (λ k. IsFirst xs k c.partition_point.result) (sym n) (first_from xs code c.partition_point.result c.partition_point.ensures.bound point) in
    record {
      firsts = subst (λ l. AreFirsts xs l) (sym c.push_reserved.ensures.items) (firsts_more xs c.loop-code.firsts.items c.partition_point.result c.loop-code.invariant.firsts one);
      count = ap length c.push_reserved.ensures.items ∙ length-append c.loop-code.firsts.items (c.partition_point.result ∷ []) ∙ ap (λ k. k + 1) n;
      room = (let h = c.loop-code.invariant.room in let k = c.push_reserved.ensures.capacity in omega arith);
    }

pub push_reserved-requires : goal.push_reserved-requires
push_reserved-requires g c = (let h = c.loop-code.invariant.room in let n = c.loop-code.invariant.count in omega arith)
