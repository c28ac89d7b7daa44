use Rattle.tx_rank.proofs.Common.{sym, ◌+◌, ◌∙◌, ap, subst, ℕ, Some, take, rules, set, rank_in}
use Rattle.tx_rank.proofs.Linking.{IsLinking, linking_step, linking_kept}
use Rattle.tx_rank.proofs.back_links.link_list.Goals as goal

pub loop-i-preserved : goal.loop-i-preserved
loop-i-preserved g c =
    let n = g.N.CodeNet.net c.args.net.now in
    let ranks = rank_in c.args.marks.now in
    let o = c.onward-group in
    let step = linking_step n ranks c.args.exchange c.loop-i.i c.args.links.now c.loop-i.links o.result.0 o.result.1 o.ensures.at c.loop-i.invariant c.requires.ranked c.requires.away o.ensures.leads o.ensures.within in
    subst (λ (k : ℕ). IsLinking n ranks c.args.exchange (take (c.loop-i.i + 1) (n.list c.args.exchange)) c.args.links.now (set c.loop-i.links k (Some (o.result.0, c.args.exchange)))) (sym c.index.ensures) step

pub loop-i-preserved-then-not-is_nearer : goal.loop-i-preserved-then-not-is_nearer
loop-i-preserved-then-not-is_nearer g c =
    let n = g.N.CodeNet.net c.args.net.now in
    let o = c.onward-group in
    let s = c.is_nearer.ensures (search rules) in
    linking_kept n (rank_in c.args.marks.now) c.args.exchange c.loop-i.i c.args.links.now c.loop-i.links o.result.0 o.result.1 s.0 o.ensures.at c.loop-i.invariant o.ensures.leads (c.link_at.ensures ∙ ap (λ l. Some l) s.1)
