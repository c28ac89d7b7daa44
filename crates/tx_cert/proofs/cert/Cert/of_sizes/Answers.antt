use Rattle.tx_cert.proofs.Common.{◌≡◌, ◌*◌, None, replicate, ap, ◌∙◌, rules, certificate_of}
use Rattle.tx_cert.proofs.Tables.{certificate_new}
use Rattle.tx_cert.proofs.cert.Cert.of_sizes.Goals as goal

pub returns : goal.returns
returns g c =
    let bare : c.in_ok-ranks.ranks.items ≡ replicate (c.args.codes * c.args.exchanges) None = search rules in
    ap (λ ranks. certificate_of (record { codes = c.args.codes; exchanges = c.args.exchanges; ranks = ranks })) bare ∙ certificate_new c.args.codes c.args.exchanges
