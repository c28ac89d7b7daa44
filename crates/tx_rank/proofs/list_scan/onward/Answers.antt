use Rattle.tx_rank.proofs.Looks.{got_at, among_at, leads_within}
use Rattle.tx_rank.proofs.list_scan.onward.Goals as goal

pub far-requires : goal.far-requires
far-requires g c =
    let n = g.N.CodeNet.net c.args.net.now in
    among_at (n.list c.args.exchange) c.args.index c.index-list-index.result (got_at c.args.list.now (n.list c.args.exchange) c.args.index c.index-list-index.result c.requires.list c.requires.index c.index-list-index.is)

pub returns-clause-at : goal.returns-clause-at
returns-clause-at g c = got_at c.args.list.now ((g.N.CodeNet.net c.args.net.now).list c.args.exchange) c.args.index c.index-list-index.result c.requires.list c.requires.index c.index-list-index.is

pub returns-clause-within : goal.returns-clause-within
returns-clause-within g c =
    let n = g.N.CodeNet.net c.args.net.now in
    let m = among_at (n.list c.args.exchange) c.args.index c.index-list-index.result (got_at c.args.list.now (n.list c.args.exchange) c.args.index c.index-list-index.result c.requires.list c.requires.index c.index-list-index.is) in
    leads_within n c.args.exchange c.index-list-index.result c.far.result (g.met.N.CodeNet.is_net c.args.net.now) m c.far.ensures
