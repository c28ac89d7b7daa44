use Rattle.tx_rank.proofs.Common.{◌≡◌, ◌++◌, ◌∷◌, [], subst, sym, List, Finding, Long, rank_in, IsJudged, IsLongFound}
use Rattle.tx_cert.specs.Certificate.{rank_at as ranked_at}
use Rattle.tx_rank.proofs.Judging.{judged_long, judged_none}
use Rattle.tx_rank.proofs.code_ranking.judge_ranked.Goals as goal

pub put_ranks-requires : goal.put_ranks-requires
put_ranks-requires g c = record {
  long = c.requires.passed.long;
  code = c.requires.code;
  exchanges = c.requires.exchanges;
  blank = c.requires.blank;
}

pub add_shorts-requires : goal.add_shorts-requires
add_shorts-requires g c = c.requires.passed

pub long_walk-requires : goal.long_walk-requires
long_walk-requires g c = c.requires.passed

pub returns-in-None : goal.returns-in-None
returns-in-None g c =
    let n = g.N.CodeNet.net c.args.net.now in
    let ranks = rank_in c.args.marks.now in
    let old = c.args.findings.now.items in
    let here = c.put_ranks.ensures.here in
    let same : ranks ≡ ranked_at c.put_ranks.new.cert c.args.code = λ i x. sym (here x) i in
    let low = subst (IsLongFound n ranks c.args.limit) c.in-None.is c.in_ok-walk.ensures in
    let j = judged_none n c.args.code c.args.limit c.args.spare ranks c.requires.passed.ranks old c.add_shorts.new.findings.items c.in_ok-add_shorts.ensures (g.met.N.CodeNet.is_net c.args.net.now) low in
    record {
      judged = subst (IsJudged n c.args.code c.args.limit c.args.spare old c.add_shorts.new.findings.items) same j;
      others = c.put_ranks.ensures.others;
      codes = c.put_ranks.ensures.codes;
      exchanges = c.put_ranks.ensures.exchanges;
    }

pub returns-in_ok-push-in-Some : goal.returns-in_ok-push-in-Some
returns-in_ok-push-in-Some g c =
    let n = g.N.CodeNet.net c.args.net.now in
    let ranks = rank_in c.args.marks.now in
    let old = c.args.findings.now.items in
    let here = c.put_ranks.ensures.here in
    let same : ranks ≡ ranked_at c.put_ranks.new.cert c.args.code = λ i x. sym (here x) i in
    let l = subst (IsLongFound n ranks c.args.limit) c.in-Some.is c.in_ok-walk.ensures in
    let j = judged_long n c.args.code c.args.limit c.args.spare ranks c.requires.passed.ranks old c.add_shorts.new.findings.items c.in_ok-add_shorts.ensures c.in-Some.walk l in
    record {
      judged =
          subst (λ (fs : List (Finding g.row.A.Denot)). IsJudged n c.args.code c.args.limit c.args.spare old fs (ranked_at c.put_ranks.new.cert c.args.code)) (sym c.in_ok-push-in-Some.ensures.items)
          (subst (IsJudged n c.args.code c.args.limit c.args.spare old (c.add_shorts.new.findings.items ++ Long c.args.code c.in-Some.walk ∷ [])) same j);
      others = c.put_ranks.ensures.others;
      codes = c.put_ranks.ensures.codes;
      exchanges = c.put_ranks.ensures.exchanges;
    }
