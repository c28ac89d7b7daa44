use Rattle.tx_cert.proofs.Common.{Ok, Err, codes, false, refl, subst, AtEnd, exits_with, CertWord, no_ranks_for, IsCertificateOf}
use Rattle.tx_text.specs.Calls.{source_calls}
use Rattle.tx_text.specs.Ends.{input}
use Rattle.tx_text.proofs.Beside.{answered_beside, kept_beside}
use Rattle.tx_text.proofs.CallCounts.{went_none, calls_so_far}
use Rattle.tx_cert.specs.CertText.{declare}
use Rattle.tx_cert.proofs.Reading.{reads_cert}
use Rattle.tx_cert.proofs.cert_reader.read_cert_from.Goals as goal

pub returns-in_err-start-clause-gives : goal.returns-in_err-start-clause-gives
returns-in_err-start-clause-gives g c =
    rw (exits_with c.from_residual.result c.in_err-start.field-0.0 c.from_residual.ensures.1, c.in_err-start.ensures.err) (refl, refl)

pub returns-in_err-start-clause-calls : goal.returns-in_err-start-clause-calls
returns-in_err-start-clause-calls g c = calls_so_far g.R.Source.called source_calls source_calls _ _ (went_none g.R.Source.called source_calls _)

pub returns-in_err-lines-clause-gives : goal.returns-in_err-lines-clause-gives
returns-in_err-lines-clause-gives g c =
    let p = c.args.plan.now in
    let text = input g.R.Source.rest g.R.Source.failed g.R.Source.called c.args.source.now c.read_text.new.source in
    let x = c.in_err-lines.field-0.0 in
    let a = rw c.in_ok-start.ensures.ok at c.in_err-lines.ensures.answer in
    rw (exits_with c.from_residual-in_err-lines.result x c.from_residual-in_err-lines.ensures.1)
    (reads_cert p text (Err (x.line, x.kind)) (answered_beside declare p (codes "CERT") 1 (no_ranks_for p) (λ (w : CertWord). false) text.old text.new text.broken text.unread (Err (x.line, x.kind)) a))

pub returns-clause-gives : goal.returns-clause-gives
returns-clause-gives g c =
    let p = c.args.plan.now in
    let text = input g.R.Source.rest g.R.Source.failed g.R.Source.called c.args.source.now c.read_text.new.source in
    let s = c.in_ok-lines.lines in
    let a = rw c.in_ok-start.ensures.ok at c.in_ok-lines.ensures.answer in
    rw c.finish.ensures.cert
    (reads_cert p text (Ok s.1) (answered_beside declare p (codes "CERT") 1 (no_ranks_for p) (λ (w : CertWord). false) text.old text.new text.broken text.unread (Ok s) a))

pub returns-clause-fits : goal.returns-clause-fits
returns-clause-fits g c =
    let p = c.args.plan.now in
    let s = c.in_ok-lines.lines in
    let a = rw c.in_ok-start.ensures.ok at c.in_ok-lines.ensures.answer in
    subst (λ q. IsCertificateOf q c.finish.result) (kept_beside declare p (codes "CERT") 1 (no_ranks_for p) AtEnd a.0.read s a.0.gives) c.finish.ensures.fits
