use Rattle.tx_trace.proofs.Common.{◌∙◌, sym, puts_none, puts_then, puts_is}
use Rattle.tx_trace.proofs.Texts.{down_none, down_some}
use Rattle.tx_trace.proofs.trace_text.write_down.Goals as goal

pub returns-then-is_empty : goal.returns-then-is_empty
returns-then-is_empty g c =
    let none = down_none c.args.plan.now c.args.down.now (sym c.is_empty.ensures ∙ c.if-is_empty.true) in
    puts_is none puts_none

pub returns : goal.returns
returns g c =
    let some = down_some c.args.plan.now c.args.down.now (sym c.is_empty.ensures ∙ c.if-is_empty.false) in
    puts_is some (puts_then c.put_bytes.ensures c.write_group_names.ensures)
