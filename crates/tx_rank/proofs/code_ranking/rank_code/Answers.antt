use Rattle.tx_rank.proofs.Common.{◌∙◌, ◌++◌, ◌∷◌, [], ap, subst, sym, List, refl, Finding, Loop, Walk, IsJudged, IsPassed}
use Rattle.tx_cert.specs.Certificate.{rank_at as ranked_at}
use Rattle.tx_rank.proofs.Judging.{judged_loop}
use Rattle.tx_rank.proofs.code_ranking.rank_code.Goals as goal

pub returns-then-closed-clause-judged : goal.returns-then-closed-clause-judged
returns-then-closed-clause-judged g c =
    let n = g.N.CodeNet.net c.args.net.now in
    let ranks = ranked_at c.args.cert.now c.args.code in
    let old = c.args.findings.now.items in
    let search = c.pass.new.search in
    let w : Walk = record { start = search.start; steps = search.steps.items } in
    let added = c.in_ok-push.ensures.items ∙ ap (λ (v : Walk). old ++ Loop c.args.code v ∷ []) c.into_walk.ensures in
    subst (λ (fs : List (Finding g.row.A.Denot)). IsJudged n c.args.code c.args.limit c.args.spare old fs ranks) (sym added) (judged_loop n c.args.code c.args.limit c.args.spare old ranks w (c.in_ok-closed.ensures.closed c.if-closed.true))

pub returns : goal.returns
returns g c = record {
  judged = c.judge_ranked.ensures.judged;
  others = c.judge_ranked.ensures.others;
  codes = c.judge_ranked.ensures.codes;
  exchanges = c.judge_ranked.ensures.exchanges;
}

pub judge_ranked-requires : goal.judge_ranked-requires
judge_ranked-requires g c = record {
  passed = subst (IsPassed (g.N.CodeNet.net c.args.net.now)) (sym c.deref.ensures.value) (c.in_ok-closed.ensures.done c.if-closed.false);
  code = c.requires.code;
  exchanges = c.requires.exchanges;
  blank = c.requires.blank;
}

pub returns-then-closed-clause-others : goal.returns-then-closed-clause-others
returns-then-closed-clause-others g c = λ d x away. refl

pub pass-requires-clause-marked : goal.pass-requires-clause-marked
pass-requires-clause-marked g c = c.in_ok-search.ensures.marked

pub pass-requires-clause-none : goal.pass-requires-clause-none
pass-requires-clause-none g c = c.in_ok-search.ensures.none
