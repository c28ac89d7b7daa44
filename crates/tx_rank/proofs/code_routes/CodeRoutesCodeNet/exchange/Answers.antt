use Rattle.std.proofs.Common.{arith}
use Rattle.tx_rank.proofs.code_routes.CodeRoutesCodeNet.exchange.Goals as goal

pub of-requires : goal.of-requires
of-requires g c = let few = c.args.self.now.net.few in let within = c.requires in omega arith
