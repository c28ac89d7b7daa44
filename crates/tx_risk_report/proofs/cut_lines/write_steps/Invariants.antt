use Rattle.tx_risk_report.proofs.Common.{◌≡◌, ◌++◌, ℕ, List, flat_map, Puts}
use Rattle.tx_rank.specs.Report.{step_text}
use Rattle.tx_risk.specs.Outages.{steps_from, steps_of}
use Rattle.tx_risk_report.proofs.cut_lines.write_steps.Given as goal

abbrev pub invariant-loop-left : goal.invariant-loop-left
invariant-loop-left g l = record {
  written : List ℕ;
  puts : Puts g.W.Sink.taken g.W.Sink.failed l.initial.sink l.sink written;
  rest : written ++ flat_map (step_text l.plan) (steps_from l.legs l.left l.place)
      ≡ flat_map (step_text l.plan) (steps_of l.legs l.cut);
}

abbrev pub decreases-loop-left : goal.decreases-loop-left
decreases-loop-left g l = l.left
