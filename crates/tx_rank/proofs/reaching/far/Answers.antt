use Rattle.tx_rank.proofs.Common.{sym, net_of}
use Rattle.tx_rank.proofs.Nets.{is_net, leads_somewhere}
use Rattle.tx_rank.proofs.Looks.{leads_within}
use Rattle.tx_rank.proofs.reaching.far.Goals as goal

pub unreachable-requires : goal.unreachable-requires
unreachable-requires g c = leads_somewhere c.args.plan.now c.other_end.ensures.rules c.args.code c.args.exchange c.args.group c.requires.listed (sym c.in-None.ensures.value)

pub returns-clause-within : goal.returns-clause-within
returns-clause-within g c =
    leads_within (net_of c.args.plan.now c.args.code) c.args.exchange c.args.group c.in-Some.to (is_net c.args.plan.now c.other_end.ensures.rules c.args.code c.requires.code) c.requires.listed (sym c.in-Some.ensures.value)
