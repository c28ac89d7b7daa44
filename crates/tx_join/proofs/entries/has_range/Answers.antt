use Rattle.std.proofs.Common.{◌∙◌, sym}
use Rattle.tx_join.proofs.RangesByCode.{range_by_index, range_of_no_code}
use Rattle.tx_join.proofs.entries.has_range.Goals as goal

pub returns-in-Some : goal.returns-in-Some
returns-in-Some g c = c.has_range_of.ensures ∙ range_by_index c.args.plan.now c.rules.ensures c.args.code.now c.args.low.now c.args.high.now _ (sym c.code_named.ensures ∙ c.in-Some.is)

pub returns-in-None : goal.returns-in-None
returns-in-None g c = sym (range_of_no_code c.args.plan.now c.rules.ensures c.args.code.now c.args.low.now c.args.high.now (sym c.code_named.ensures ∙ c.in-None.is))
