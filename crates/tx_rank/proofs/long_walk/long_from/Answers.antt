use Rattle.tx_rank.proofs.Common.{◌∙◌, arith, sym, ap, rank_in}
use Rattle.tx_rank.proofs.Walked.{long_true}
use Rattle.tx_rank.proofs.long_walk.long_from.Goals as goal

pub returns-in_ok-walk_down-in-Some : goal.returns-in_ok-walk_down-in-Some
returns-in_ok-walk_down-in-Some g c =
    let w = c.in_ok-walk_down-in-Some.field-0 in
    let e = c.in_ok-walk_down-in-Some.ensures in
    long_true (g.N.CodeNet.net c.args.net.now) (rank_in c.args.marks.now) c.requires.passed.ranks c.args.limit w.start w.steps e.walk (e.count ∙ (let f = c.from-count.ensures in omega arith)) e.end

pub exchange-exchange-requires : goal.exchange-exchange-requires
exchange-exchange-requires g c = c.requires.index

pub rank_at-requires : goal.rank_at-requires
rank_at-requires g c = let e = c.exchange-exchange.ensures in let p = c.requires.index in let l = c.requires.passed.long in omega arith

pub is_origin-requires : goal.is_origin-requires
is_origin-requires g c = let e = c.exchange-exchange.ensures in let p = c.requires.index in omega arith

pub walk_down-requires-clause-passed : goal.walk_down-requires-clause-passed
walk_down-requires-clause-passed g c = c.requires.passed

pub walk_down-requires-clause-origin : goal.walk_down-requires-clause-origin
walk_down-requires-clause-origin g c = sym c.is_origin.ensures ∙ c.if-is_origin.true

pub walk_down-requires-clause-ranked : goal.walk_down-requires-clause-ranked
walk_down-requires-clause-ranked g c = sym c.rank_at.ensures ∙ c.in-Some.is

pub returns-else-is_origin : goal.returns-else-is_origin
returns-else-is_origin g c = λ r origin ranked.
    let n = g.N.CodeNet.net c.args.net.now in
    let no = ap n.is_origin (sym c.exchange-exchange.ensures) ∙ sym c.is_origin.ensures ∙ c.if-is_origin.false in
    let bad : ⊥ = cc in absurd bad
