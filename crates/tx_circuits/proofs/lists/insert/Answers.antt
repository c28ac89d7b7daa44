use Rattle.tx_circuits.proofs.Common.{◌∙◌, Some, Up, Down}
use Rattle.tx_circuits.proofs.Indexes.{each_way}
use Rattle.tx_circuits.proofs.lists.insert.Goals as goal

pub returns-clause-placed : goal.returns-clause-placed
returns-clause-placed c =
    each_way _
    (c.lead-2.ensures.turned (Some c.args.index) ∙ c.lead.ensures.apart (Some c.args.index) (c.requires.apart Down) ∙ c.set_links.ensures.here Up)
    (c.lead-2.ensures.apart (Some c.args.index) (c.requires.apart Up) ∙ c.lead.ensures.turned (Some c.args.index) ∙ c.set_links.ensures.here Down)
