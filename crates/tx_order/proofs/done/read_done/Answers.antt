use Rattle.std.specs.Prelude.{[], Ok, Err, codes}
use Rattle.tx_text.specs.Ends.{input}
use Rattle.tx_text.proofs.Beside.{answered_beside}
use Rattle.tx_text.proofs.Exits.{exits_with}
use Rattle.tx_order.specs.DoneText.{declare, is_memory}
use Rattle.tx_order.proofs.done.read_done.Goals as goal

pub returns-in_err-lines-clause-answer : goal.returns-in_err-lines-clause-answer
returns-in_err-lines-clause-answer g c =
    let text = input g.R.Source.rest g.R.Source.failed g.R.Source.called c.args.source.now
    c.read_text.new.source in
    let x = c.in_err-lines.field-0.0 in
    let a = rw (c.new-start.ensures, c.from.ensures) at c.in_err-lines.ensures.answer in
    rw (exits_with c.from_residual.result x c.from_residual.ensures.1)
    (answered_beside declare (c.args.order.now, c.args.stage) (codes "DONE") 1 [] is_memory text.old text.new
    text.broken text.unread (Err (x.line, x.kind)) a)

pub returns-clause-answer : goal.returns-clause-answer
returns-clause-answer g c =
    let text = input g.R.Source.rest g.R.Source.failed g.R.Source.called c.args.source.now
    c.read_text.new.source in
    let a = rw (c.new-start.ensures, c.from.ensures) at c.in_ok-lines.ensures.answer in
    rw c.finish.ensures
    (answered_beside declare (c.args.order.now, c.args.stage) (codes "DONE") 1 [] is_memory text.old text.new
    text.broken text.unread (Ok c.in_ok-lines.lines) a)
