use Rattle.tx_rank.proofs.Common.{◌≡◌, ◌<◌, ℕ, length, Some, subst, arith, ranks_of, net_of, AreBounds, Suits}
use Rattle.tx_rank.proofs.Bounding.{below_next, code_bounds}
use Rattle.tx_rank.proofs.code_bounds.code_bounds.Goals as goal

pub loop-index-preserved : goal.loop-index-preserved
loop-index-preserved g c =
    let n = net_of c.args.plan.now c.args.code in
    let ranks = ranks_of c.args.cert.now c.args.code in
    let one = subst (λ (k : ℕ). AreBounds (Suits n ranks k) c.exchange_bounds.result) c.of-exchange.ensures c.exchange_bounds.ensures in
    let e = c.both-bounds.ensures in
    below_next n ranks c.loop-index.index c.loop-index.bounds c.exchange_bounds.result c.both-bounds.result c.loop-index.invariant one e.limit e.spare

pub returns : goal.returns
returns g c =
    let all : c.loop-index.index ≡ length c.args.plan.now.exchanges = let t = c.loop-index-test.false in let a = c.loop-index.auto.index-end in let e = c.exchanges-index-end.ensures.count in omega arith in
    let n = net_of c.args.plan.now c.args.code in
    let ranks = ranks_of c.args.cert.now c.args.code in
    let within : (x r : ℕ) → ranks x ≡ Some r → x < c.loop-index.index = λ x r h. let w = c.rules.ensures.own_exchanges c.args.code x r h in let e = c.requires.exchanges in omega arith in
    code_bounds n ranks c.requires.heights c.requires.certified c.loop-index.index c.loop-index.bounds within c.loop-index.invariant
