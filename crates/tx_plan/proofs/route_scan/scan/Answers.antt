use Rattle.tx_plan.proofs.Common.{rules, group_at}
use Rattle.tx_plan.proofs.SeenWords.{many_seen, all_seen}
use Rattle.tx_plan.proofs.route_scan.scan.Goals as goal

pub returns : goal.returns
returns g c = let e = c.in_default.ensures.steps.0 in let i = c.loop-word.invariant in record {
  bad = search rules;
  unknown = search rules;
  not_outgoing = search rules;
  many = many_seen c.loop-word.scan.many (group_at c.args.plan.now) c.loop-word.scan.list.items c.args.words c.loop-word.words e i.many i.short i.list;
  list = λ h. all_seen (group_at c.args.plan.now) c.loop-word.scan.list.items c.args.words c.loop-word.words e (i.list h);
}
