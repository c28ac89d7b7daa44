use Rattle.tx_audit.proofs.Common.{◌<◌, ◌==◌, ◌∙◌, sym, length, arith, LineRange, entry_at}
use Rattle.tx_audit.proofs.Loops.{find_here, find_past}
use Rattle.tx_audit.proofs.free_line.first_range.Goals as goal

pub returns-then-eq : goal.returns-then-eq
returns-then-eq g c =
    sym (c.loop-index.invariant ∙ find_here (λ (r : LineRange). r.code == c.args.code) c.args.plan.now.ranges c.loop-index.index c.in-Some.range (sym c.range_at.ensures ∙ c.in-Some.is) (sym c.eq.ensures ∙ c.if-eq.true))

pub loop-index-preserved : goal.loop-index-preserved
loop-index-preserved g c =
    c.loop-index.invariant ∙ find_past (λ (r : LineRange). r.code == c.args.code) c.args.plan.now.ranges c.loop-index.index c.in-Some.range (sym c.range_at.ensures ∙ c.in-Some.is) (sym c.eq.ensures ∙ c.if-eq.false)

pub unreachable-requires : goal.unreachable-requires
unreachable-requires g c =
    let within : c.loop-index.index < length c.args.plan.now.ranges = let e = c.ranges-index-end.ensures.count in let t = c.loop-index-test.true in omega arith in
    let r = entry_at c.args.plan.now.ranges c.loop-index.index within in
    c.in_default.not-Some r.0 (c.range_at.ensures ∙ r.1)
