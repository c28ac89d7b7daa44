use Rattle.tx_files.proofs.Common.{refl, exits_with}
use Rattle.tx_files.specs.Faults.{risks_stop}
use Rattle.tx_files.proofs.Texts.{risks_read, risks_refused, risks_unasked}
use Rattle.tx_files.proofs.Uncalled.{uncalled}
use Rattle.tx_files.proofs.reading.read_risks_if.Goals as goal

pub returns-in_ok-read_risks_from-clause-texts : goal.returns-in_ok-read_risks_from-clause-texts
returns-in_ok-read_risks_from-clause-texts g c =
    risks_read _ _ c.args.named _ c.if-named.true c.in_ok-read_risks_from.ensures.fits
    c.in_ok-read_risks_from.ensures.answer

pub returns-in_err-read_risks_from-clause-texts : goal.returns-in_err-read_risks_from-clause-texts
returns-in_err-read_risks_from-clause-texts g c =
    let f = c.in_err-read_risks_from.field-0.0 in
    rw (exits_with c.from_residual.result (risks_stop f) c.from_residual.ensures.1)
    (risks_refused _ _ c.args.named _ c.if-named.true
    (record { fault = f; read = c.in_err-read_risks_from.ensures.answer; is = refl }))

pub returns-else-named-clause-texts : goal.returns-else-named-clause-texts
returns-else-named-clause-texts g c =
    risks_unasked _ _ c.args.named c.none.result c.if-named.false c.none.ensures refl

pub returns-else-named-clause-calls : goal.returns-else-named-clause-calls
returns-else-named-clause-calls g c = uncalled g.Q.Source.called c.args.source.now
