use Rattle.std.proofs.Common.{length, refl}
use Rattle.tx_rank.proofs.Listing.{ranked_listed, ranked_heights, ranked_certified}
use Rattle.tx_rank.proofs.ranking.rank_codes.Goals as goal

pub rank_each-requires-clause-blank : goal.rank_each-requires-clause-blank
rank_each-requires-clause-blank g c = c.in_ok-cert.ensures

pub returns : goal.returns
returns g c = record {
  listed = ranked_listed c.args.plan.now c.args.limits.limit c.args.limits.spare (length c.args.plan.now.codes) c.rank_each.new.cert c.rank_each.new.findings.items c.in_ok-rank_each.ensures refl;
  codes = c.in_ok-rank_each.ensures.codes;
  exchanges = c.in_ok-rank_each.ensures.exchanges;
  heights = ranked_heights c.args.plan.now c.args.limits.limit c.args.limits.spare (length c.args.plan.now.codes) c.rank_each.new.cert c.rank_each.new.findings.items c.in_ok-rank_each.ensures refl;
  certified = ranked_certified c.args.plan.now c.args.limits.limit c.args.limits.spare (length c.args.plan.now.codes) c.rank_each.new.cert c.rank_each.new.findings.items c.in_ok-rank_each.ensures refl;
}
