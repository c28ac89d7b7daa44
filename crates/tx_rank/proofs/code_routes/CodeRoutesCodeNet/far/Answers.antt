use Rattle.std.proofs.Common.{sym}
use Rattle.tx_rank.proofs.Nets.{leads_somewhere}
use Rattle.tx_rank.proofs.code_routes.CodeRoutesCodeNet.far.Goals as goal

pub unreachable-requires : goal.unreachable-requires
unreachable-requires g c = leads_somewhere c.args.self.now.plan.now c.other_end.ensures.rules c.args.self.now.code c.args.exchange c.args.group c.requires (sym c.in-None.ensures.value)
