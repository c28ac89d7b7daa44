use Rattle.std.proofs.Common.{◌≡◌, length, sym, ap, ◌∙◌, max, arith}
use Rattle.tx_svg.proofs.Common.{unwrap_or, ranks_of, greatest_rank}
use Rattle.tx_svg.proofs.Ranked.{greatest_more}
use Rattle.tx_svg.proofs.ranks.greatest_rank.Goals as goal

pub loop-index-preserved : goal.loop-index-preserved
loop-index-preserved g c =
    let ranks = ranks_of c.args.ranks.now c.args.code in
    let rank : c.unwrap_or-rank.result ≡ unwrap_or (ranks c.loop-index.index) 0 = c.unwrap_or-rank.ensures ∙ ap (λ o. unwrap_or o 0) (c.rank.ensures.rank ∙ ap ranks c.of.ensures) in
    c.max-greatest.ensures ∙ (λ i. max (c.loop-index.invariant i) (rank i)) ∙ sym (greatest_more ranks c.loop-index.index)

pub returns : goal.returns
returns g c =
    let all : c.loop-index.index ≡ length c.args.plan.now.exchanges = omega arith in
    c.loop-index.invariant ∙ ap (greatest_rank (ranks_of c.args.ranks.now c.args.code)) all
