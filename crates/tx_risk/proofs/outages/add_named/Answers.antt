use Rattle.tx_risk.proofs.Common.{◌≡◌, ◌++◌, ◌∙◌, map, length, refl, ap, sym, append-nil, arith, range_with_len, Named}
use Rattle.tx_risk.proofs.AddedOutages.{mapped_next}
use Rattle.tx_risk.proofs.outages.add_named.Goals as goal

pub loop-index-init : goal.loop-index-init
loop-index-init g c = sym (append-nil c.args.outages.now.items)

pub loop-index-preserved : goal.loop-index-preserved
loop-index-preserved g c =
    mapped_next Named c.loop-index.index (Named c.loop-index.index) c.args.outages.now.items
    c.loop-index.outages.items c.push.new.self.items c.loop-index.invariant refl
    c.in_ok-push.ensures.items

pub returns : goal.returns
returns g c =
    let all : c.loop-index.index ≡ length c.args.risks.now =
    let t = c.loop-index-test.false in let a = c.loop-index.auto.index-end in
    let e = c.len-index-end.ensures.count in omega arith in
    c.loop-index.invariant
    ∙ ap (λ n. c.args.outages.now.items ++ map Named (range_with_len 0 n)) all
