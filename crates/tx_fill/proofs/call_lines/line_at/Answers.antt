use Rattle.tx_fill.proofs.Common.{ℕ, ◌+◌, ◌-◌, ◌<◌, ◌^◌, ap, subst, sym, ◌∙◌, Some, arith, slice_get, digits_value, entry_at, all_at}
use Rattle.tx_plan.specs.Rules.{IsRange}
use Rattle.tx_fill.proofs.LinesAt.{lines_from, value_small, in_range, line_here, line_later, no_line}
use Rattle.tx_fill.proofs.call_lines.line_at.Goals as goal

pub unreachable-requires : goal.unreachable-requires
unreachable-requires g c =
    let n = c.ranges-i-end.ensures.count in
    let t = c.loop-i-test.true in
    let at = (entry_at c.args.plan.now.ranges c.loop-i.i (omega arith)).1 in
    let none = c.in-None.ensures in
    cc

pub line_in-requires : goal.line_in-requires
line_in-requires g c =
    let p = c.args.plan.now in
    let r = c.in-Some.range in
    let low = c.if-left-count.true in
    let n = c.count_in-count.ensures.count in
    let rules = all_at (IsRange p) p.ranges c.loop-i.i r c.ranges-i-end.ensures.rules.ranges
    (sym c.in-Some.ensures) in
    let within = (in_range p c.args.whose.now r c.loop-i.left (omega arith)).0 in
    let high = (value_small r.high rules.high).0 in
    subst (λ (n : ℕ). digits_value 10 r.low + c.loop-i.left < 10 ^ n) (sym rules.width) (omega arith)

pub returns-then-left-count-clause-line : goal.returns-then-left-count-clause-line
returns-then-left-count-clause-line g c =
    let p = c.args.plan.now in
    let low = c.if-left-count.true in
    let n = c.count_in-count.ensures.count in
    ap (λ l. Some l) c.line_in.ensures
    ∙ sym (line_here p c.args.whose.now c.loop-i.i c.in-Some.range (sym c.in-Some.ensures) c.loop-i.left
    (omega arith))
    ∙ c.loop-i.invariant.line

pub loop-i-preserved : goal.loop-i-preserved
loop-i-preserved g c =
    let p = c.args.plan.now in
    let w = c.args.whose.now in
    let far = c.if-left-count.false in
    let n = c.count_in-count.ensures.count in
    let few = c.count_in-count.ensures.few in
    let before = c.loop-i.invariant.few in
    record {
      line = ap (λ m. slice_get (lines_from p w (c.loop-i.i + 1)) (c.loop-i.left - m)) n
          ∙ sym (line_later p w c.loop-i.i c.in-Some.range (sym c.in-Some.ensures) c.loop-i.left
          (omega arith))
          ∙ c.loop-i.invariant.line;
      few = omega arith;
    }

pub returns-clause-line : goal.returns-clause-line
returns-clause-line g c =
    let n = c.ranges-i-end.ensures.count in
    let t = c.loop-i-test.false in
    sym (no_line c.args.plan.now c.args.whose.now c.loop-i.i c.loop-i.left (omega arith))
    ∙ c.loop-i.invariant.line
