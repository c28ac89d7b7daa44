use Rattle.tx_cert.proofs.Common.{subst, IsCertificate}
use Rattle.tx_cert.proofs.Tables.{is_certificate}
use Rattle.tx_cert.proofs.cert.Cert.rules.Goals as goal

pub returns : goal.returns
returns g c = subst IsCertificate c.self.view_is (is_certificate (record { codes = c.self.inside.codes; exchanges = c.self.inside.exchanges; ranks = c.self.inside.ranks.items }) c.self.invariant)
