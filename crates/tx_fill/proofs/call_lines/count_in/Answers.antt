use Rattle.std.proofs.Common.{true, false, ◌∙◌, sym}
use Rattle.tx_fill.proofs.LinesAt.{count_is}
use Rattle.tx_fill.proofs.call_lines.count_in.Goals as goal

pub returns-then-has-clause-count : goal.returns-then-has-clause-count
returns-then-has-clause-count g c =
    c.size_of.ensures.size ∙ sym (count_is c.args.plan.now c.args.whose.now c.args.range.now true
    (sym c.has.ensures ∙ c.if-has.true))

pub returns-else-has-clause-count : goal.returns-else-has-clause-count
returns-else-has-clause-count g c =
    sym (count_is c.args.plan.now c.args.whose.now c.args.range.now false
    (sym c.has.ensures ∙ c.if-has.false))
