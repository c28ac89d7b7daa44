use Rattle.std.proofs.Common.{◌≡◌, ◌≢◌, ◌∙◌, [], sym, ap, length, vec_len, arith, eqb-true}
use Rattle.tx_trace.proofs.Common.{eqb-false, rank_at, net_from}
use Rattle.tx_cert.proofs.Ranks.{none_ranked}
use Rattle.tx_rank.proofs.Listing.{none_of}
use Rattle.tx_trace.proofs.Heights.{is_net_from}
use Rattle.tx_trace.proofs.Ranking.{ranked_from, unranked_from, mine_all}
use Rattle.tx_trace.proofs.ranks.ranks_from.Goals as goal

pub rank_code-requires-clause-blank : goal.rank_code-requires-clause-blank
rank_code-requires-clause-blank g c = λ x. ap (λ t. rank_at t c.args.code x) c.in_ok-cert.ensures ∙ none_ranked (length c.args.plan.now.codes) (length c.args.plan.now.exchanges) c.args.code x

pub returns-then-is_empty : goal.returns-then-is_empty
returns-then-is_empty g c =
    let p = c.args.plan.now in
    let judged = c.in_ok-rank_code.ensures.judged in
    let findings = c.rank_code.new.findings in
    let empty = eqb-true (vec_len findings) 0 (sym c.is_empty.ensures ∙ c.if-is_empty.true) in
    let all = mine_all (net_from p c.args.code c.args.start) c.args.code 255 0 _ findings.items _ judged c.new-findings.ensures.items in
    let none : judged.mine ≡ [] = sym all ∙ none_of findings.items (omega arith) in
    ranked_from p c.args.code c.args.start c.rules.ensures c.requires.code c.requires.start c.rank_code.new.cert (judged.heights none) (judged.certified none)

pub returns-else-is_empty : goal.returns-else-is_empty
returns-else-is_empty g c =
    let p = c.args.plan.now in
    let judged = c.in_ok-rank_code.ensures.judged in
    let findings = c.rank_code.new.findings in
    let full = eqb-false (vec_len findings) 0 (sym c.is_empty.ensures ∙ c.if-is_empty.false) in
    let all = mine_all (net_from p c.args.code c.args.start) c.args.code 255 0 _ findings.items _ judged c.new-findings.ensures.items in
    let some : judged.mine ≢ [] = λ e. let l = ap length (all ∙ e) in full (omega arith) in
    unranked_from p c.args.code c.args.start c.rules.ensures c.requires.code c.requires.start judged.mine some judged.listed

pub invariant_of-routes : goal.invariant_of-routes
invariant_of-routes g c = record { known = c.requires.code; net = is_net_from c.args.plan.now c.rules.ensures c.args.code c.requires.code c.args.start c.requires.start }
