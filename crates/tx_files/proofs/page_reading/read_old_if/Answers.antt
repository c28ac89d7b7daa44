use Rattle.tx_files.proofs.Common.{exits_with, refl}
use Rattle.tx_files.proofs.Texts.{old_read, old_refused, old_unasked}
use Rattle.tx_files.proofs.Uncalled.{uncalled}
use Rattle.tx_files.proofs.page_reading.read_old_if.Goals as goal

pub returns-in_ok-read_whole-clause-texts : goal.returns-in_ok-read_whole-clause-texts
returns-in_ok-read_whole-clause-texts g c =
    old_read _ _ c.args.changed c.in_ok-read_whole.field-0 c.if-changed.true c.in_ok-read_whole.ensures.text

pub returns-in_err-read_whole-clause-texts : goal.returns-in_err-read_whole-clause-texts
returns-in_err-read_whole-clause-texts g c =
    let f = c.in_err-read_whole.field-0.0 in
    rw (exits_with c.from_residual.result f c.from_residual.ensures.1)
    (old_refused _ _ c.args.changed f c.if-changed.true c.in_err-read_whole.ensures.text)

pub returns-else-changed-clause-texts : goal.returns-else-changed-clause-texts
returns-else-changed-clause-texts g c = old_unasked _ _ c.args.changed c.if-changed.false refl

pub returns-else-changed-clause-calls : goal.returns-else-changed-clause-calls
returns-else-changed-clause-calls g c = uncalled g.R.Source.called c.args.source.now
