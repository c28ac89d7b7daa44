use Rattle.tx_cert.proofs.Common.{◌+◌, ◌*◌, ap, ◌∙◌, arith, Certificate, with_rank, Table}
use Rattle.tx_cert.proofs.Tables.{table_set, certificate_set}
use Rattle.tx_cert.proofs.cert.Cert.set.Goals as goal

pub invariant_of-self : goal.invariant_of-self
invariant_of-self g c = table_set (record { codes = c.self.inside.codes; exchanges = c.self.inside.exchanges; ranks = c.self.inside.ranks.items }) _ c.args.rank c.self.invariant (omega arith)

pub returns : goal.returns
returns g c =
    let t : Table = record { codes = c.self.inside.codes; exchanges = c.self.inside.exchanges; ranks = c.self.inside.ranks.items } in
    let codes = ap (λ (t : Certificate). t.codes) c.self.view_is in
    let exchanges = ap (λ (t : Certificate). t.exchanges) c.self.view_is in
    let code = c.requires.code in
    let exchange = c.requires.exchange in
    certificate_set t c.self.invariant c.args.code c.args.exchange _ c.args.rank (omega arith) (omega arith) (λ i. c.index.ensures i * c.self.inside.exchanges + c.index-2.ensures i)
    ∙ ap (λ (t : Certificate). with_rank t c.args.code c.args.exchange c.args.rank) c.self.view_is
