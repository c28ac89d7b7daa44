use Rattle.tx_lint.proofs.Common.{◌≡◌, ◌==◌, ◌∙◌, true, false, sym, arith, rules, LineRange, entry_at}
use Rattle.tx_lint.proofs.Warned.{any_there, none_more}
use Rattle.tx_lint.proofs.warnings.has_lines.Goals as goal

pub returns-then-eq : goal.returns-then-eq
returns-then-eq g c =
    let same : (c.in-Some.range.code == c.args.code) ≡ true = search rules in
    any_there (λ (r : LineRange). r.code == c.args.code) c.args.plan.now.ranges c.loop-index.index c.in-Some.range (sym c.in-Some.ensures) same

pub unreachable-requires : goal.unreachable-requires
unreachable-requires g c =
    let t = c.loop-index-test.true in
    let n = c.ranges-index-end.ensures.count in
    let e = entry_at c.args.plan.now.ranges c.loop-index.index (omega arith) in
    let at = e.1 in
    let none = sym c.in-None.is ∙ c.range_at.ensures in
    cc

pub loop-index-preserved : goal.loop-index-preserved
loop-index-preserved g c =
    let other : (c.in-Some.range.code == c.args.code) ≡ false = search rules in
    none_more (λ (r : LineRange). r.code == c.args.code) c.args.plan.now.ranges c.loop-index.index c.in-Some.range (sym c.in-Some.ensures) other c.loop-index.invariant
