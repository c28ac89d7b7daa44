use Rattle.std.proofs.Common.{refl}
use Rattle.tx_files.proofs.LeftTexts.{risks_stay, joined_groups}
use Rattle.tx_files.proofs.left.PlansRisksPlansRead.leave_out.Goals as goal

pub returns-clause-left : goal.returns-clause-left
returns-clause-left g c = (c.in_ok-plans.ensures.left, refl)

pub returns-clause-known : goal.returns-clause-known
returns-clause-known g c = record {
  plans = c.in_ok-plans.ensures.known;
  risks = risks_stay c.args.self.plans.joined.new c.in_ok-plans.plans.joined.new c.args.self.risks
      (joined_groups c.args.down.now c.args.self.plans c.in_ok-plans.plans c.requires.plans.joined
      c.in_ok-plans.ensures.left) c.requires.risks;
}

pub leave_out-requires : goal.leave_out-requires
leave_out-requires g c = c.requires.plans
