use Rattle.tx_jobs.proofs.Common.{inl, inr, refl, exits_with, cert_fault}
use Rattle.tx_jobs.proofs.RefusedTexts.{cert_mark}
use Rattle.tx_jobs.proofs.check.check_cert.Goals as goal

pub returns-clause-answers : goal.returns-clause-answers
returns-clause-answers g c =
    inl (record {
      cert = c.in_ok-cert.cert;
      fits = c.in_ok-cert.ensures.fits;
      read = c.in_ok-cert.ensures.gives;
      goes_on = c.tell_verdict.ensures.told;
    })

pub returns-in_err-cert-clause-answers : goal.returns-in_err-cert-clause-answers
returns-in_err-cert-clause-answers g c =
    let f = c.in_err-cert.field-0.0 in
    inr (record {
      fault = f;
      read = c.in_err-cert.ensures.gives;
      told = exits_with c.from_residual.result (cert_fault f) c.from_residual.ensures.1;
      rest = refl;
    })

pub returns-in_err-cert-clause-mark : goal.returns-in_err-cert-clause-mark
returns-in_err-cert-clause-mark g c =
    let f = c.in_err-cert.field-0.0 in
    rw (exits_with c.from_residual.result (cert_fault f) c.from_residual.ensures.1)
    (cert_mark (g.W.Sink.failed c.args.out.now) f)
