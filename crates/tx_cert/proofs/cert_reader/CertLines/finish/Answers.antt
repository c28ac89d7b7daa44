use Rattle.tx_cert.proofs.Common.{subst, IsCertificateOf}
use Rattle.tx_cert.proofs.cert_reader.CertLines.finish.Goals as goal

pub returns-clause-fits : goal.returns-clause-fits
returns-clause-fits g c =
    subst (λ s. IsCertificateOf s.0 c.self.inside.cert) c.self.view_is
    (record { codes = c.self.invariant.0; exchanges = c.self.invariant.1; rules = c.rules.ensures })
