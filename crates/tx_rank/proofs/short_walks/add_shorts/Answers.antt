use Rattle.tx_rank.proofs.Common.{◌≡◌, arith, rules, rank_in}
use Rattle.tx_rank.proofs.Adding.{below_none, below_all, none_short}
use Rattle.tx_rank.proofs.short_walks.add_shorts.Goals as goal

pub returns-then-not-has_short : goal.returns-then-not-has_short
returns-then-not-has_short g c =
    none_short (g.N.CodeNet.net c.args.net.now) c.args.code c.args.spare (rank_in c.args.marks.now) c.requires.ranks c.args.findings.now.items (c.has_short.ensures.not_so (search rules))

pub loop-index-init : goal.loop-index-init
loop-index-init g c = below_none (g.N.CodeNet.net c.args.net.now) c.args.code c.args.spare (rank_in c.args.marks.now) c.requires.ranks c.args.findings.now.items

pub loop-index-preserved : goal.loop-index-preserved
loop-index-preserved g c = c.in_ok-add_short.ensures c.args.findings.now.items c.loop-index.invariant

pub returns : goal.returns
returns g c =
    let at : c.loop-index.index ≡ (g.N.CodeNet.net c.args.net.now).exchanges = let t = c.loop-index-test.false in let a = c.loop-index.auto.index-end in let e = c.exchanges-index-end.ensures in omega arith in
    below_all (g.N.CodeNet.net c.args.net.now) c.args.code c.args.spare (rank_in c.args.marks.now) c.requires.ranks c.args.findings.now.items c.loop-index.findings.items c.loop-index.index at c.loop-index.invariant
