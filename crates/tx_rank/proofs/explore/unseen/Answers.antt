use Rattle.std.proofs.Common.{◌∙◌}
use Rattle.tx_rank.proofs.Passes.{first_marks}
use Rattle.tx_rank.proofs.explore.unseen.Goals as goal

pub returns-clause-marked : goal.returns-clause-marked
returns-clause-marked g c = (first_marks (g.N.CodeNet.net c.args.net.now) c.in_ok-marks.marks.items c.exchanges.result c.index.result (g.met.N.CodeNet.is_net c.args.net.now) (c.in_ok-marks.ensures.items_if_clones_equal (λ y e. e)) c.exchanges.ensures (c.index.ensures ∙ c.home-home.ensures)).0

pub returns-clause-none : goal.returns-clause-none
returns-clause-none g c = (first_marks (g.N.CodeNet.net c.args.net.now) c.in_ok-marks.marks.items c.exchanges.result c.index.result (g.met.N.CodeNet.is_net c.args.net.now) (c.in_ok-marks.ensures.items_if_clones_equal (λ y e. e)) c.exchanges.ensures (c.index.ensures ∙ c.home-home.ensures)).1
