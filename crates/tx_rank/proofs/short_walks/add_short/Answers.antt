use Rattle.tx_rank.proofs.Common.{◌∙◌, sym, subst, ◌+◌, rules, arith, rank_in, IsShortAt, AddsBelow}
use Rattle.tx_rank.proofs.Adding.{below_skip, below_more}
use Rattle.tx_rank.proofs.short_walks.add_short.Goals as goal

pub returns-then-not-is_short : goal.returns-then-not-is_short
returns-then-not-is_short g c = λ first below.
    let n = g.N.CodeNet.net c.args.net.now in
    below_skip n c.args.code c.args.spare (rank_in c.args.marks.now) c.requires.passed.ranks first c.args.findings.now.items c.args.index below
    (λ s. c.is_short.ensures.not_so (search rules) (subst (IsShortAt n (rank_in c.args.marks.now) c.args.spare) (sym c.exchange-exchange.ensures) s))

pub returns : goal.returns
returns g c = λ first below.
    let n = g.N.CodeNet.net c.args.net.now in
    let short = subst (IsShortAt n (rank_in c.args.marks.now) c.args.spare) c.exchange-exchange.ensures (c.is_short.ensures.yes (search rules)) in
    let more = below_more n c.args.code c.args.spare (rank_in c.args.marks.now) c.requires.passed.ranks first c.args.findings.now.items c.args.index c.in_ok-walk.walk below short c.in_ok-walk.ensures.walk (c.in_ok-walk.ensures.end ∙ c.exchange-exchange.ensures) in
    subst (AddsBelow n c.args.code c.args.spare (c.args.index + 1) first) (sym c.in_ok-push.ensures.items) more

pub is_short-requires : goal.is_short-requires
is_short-requires g c = let e = c.exchange-exchange.ensures in let p = c.requires.index in let l = c.requires.passed.long in omega arith

pub walk_to-requires-clause-linked : goal.walk_to-requires-clause-linked
walk_to-requires-clause-linked g c = c.requires.linked

pub walk_to-requires-clause-ranked : goal.walk_to-requires-clause-ranked
walk_to-requires-clause-ranked g c = let s = c.is_short.ensures.yes (search rules) in (s.rank, s.ranked)

pub walk_to-requires-clause-away : goal.walk_to-requires-clause-away
walk_to-requires-clause-away g c = (c.is_short.ensures.yes (search rules)).away
