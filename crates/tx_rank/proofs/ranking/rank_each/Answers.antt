use Rattle.tx_rank.proofs.Common.{◌≡◌, ◌∙◌, ℕ, subst, length, arith, rank_at, net_of, IsJudged, IsRankedBelow}
use Rattle.tx_rank.proofs.Nets.{is_net}
use Rattle.tx_rank.proofs.Listing.{ranked_first, ranked_next}
use Rattle.tx_rank.proofs.ranking.rank_each.Goals as goal

pub loop-index-init : goal.loop-index-init
loop-index-init g c = ranked_first c.args.plan.now c.args.limits.limit c.args.limits.spare c.args.cert.now c.args.findings.now.items c.requires.blank c.requires.pair

pub invariant_of-net : goal.invariant_of-net
invariant_of-net g c =
    let at = c.of-code.ensures in
    let t = c.loop-index-test.true in
    let n = c.codes-index-end.ensures.count in
    record { net = is_net c.args.plan.now c.codes-index-end.ensures.rules c.of-code.result (omega arith); right = c.requires.origins }

pub rank_code-requires-clause-code : goal.rank_code-requires-clause-code
rank_code-requires-clause-code g c = let i = c.loop-index.invariant.codes in let at = c.of-code.ensures in let t = c.loop-index-test.true in let n = c.codes-index-end.ensures.count in omega arith

pub rank_code-requires-clause-exchanges : goal.rank_code-requires-clause-exchanges
rank_code-requires-clause-exchanges g c = c.loop-index.invariant.exchanges

pub rank_code-requires-clause-blank : goal.rank_code-requires-clause-blank
rank_code-requires-clause-blank g c = λ x. c.loop-index.invariant.blank c.of-code.result x (let at = c.of-code.ensures in omega arith)

pub loop-index-preserved : goal.loop-index-preserved
loop-index-preserved g c =
    let e = c.in_ok-rank_code.ensures in
    let at = c.of-code.ensures in
    ranked_next c.args.plan.now c.args.limits.limit c.args.limits.spare c.loop-index.index c.loop-index.cert c.rank_code.new.cert c.loop-index.findings.items c.rank_code.new.findings.items c.loop-index.invariant
    (subst (λ (k : ℕ). IsJudged {A = g.row.A.Denot} (net_of c.args.plan.now k) k c.args.limits.limit c.args.limits.spare c.loop-index.findings.items c.rank_code.new.findings.items (rank_at c.rank_code.new.cert k)) at e.judged)
    (λ d x away. e.others d x (λ q. away (q ∙ at))) e.codes e.exchanges

pub returns : goal.returns
returns g c =
    let p = c.args.plan.now in
    let all : c.loop-index.index ≡ length p.codes = let t = c.loop-index-test.false in let a = c.loop-index.auto.index-end in let e = c.codes-index-end.ensures.count in omega arith in
    subst (λ (k : ℕ). IsRankedBelow p c.args.limits.limit c.args.limits.spare k c.loop-index.cert c.loop-index.findings.items) all c.loop-index.invariant
