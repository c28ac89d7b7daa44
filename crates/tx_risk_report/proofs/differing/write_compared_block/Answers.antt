use Rattle.std.proofs.Common.{◌≡◌, ◌∙◌, ◌||◌, true, sym}
use Rattle.std.proofs.lemmas.Bool.{or_left, or_right}
use Rattle.tx_text.proofs.Putting.{puts_then}
use Rattle.tx_risk_report.specs.Comparison.{is_worse, is_better}
use Rattle.tx_risk_report.proofs.differing.write_compared_block.Goals as goal
use Rattle.tx_risk_report.proofs.differing.write_compared_block.Goals.{else-not-is_worse-via-then-not-is_worse+else-not-is_better, else-not-is_worse-via-else-not-is_worse}

pub returns : goal.returns
returns g c =
    let k = c.args.comparison.now in let o = c.args.outage.now in
    let differs : (is_worse k o || is_better k o) ≡ true = elim c.else-not-is_worse.branch [
      | else-not-is_worse-via-then-not-is_worse+else-not-is_better w ↦ or_right _ _ (sym w.is_better.ensures ∙ w.if-not-is_better.false)
      | else-not-is_worse-via-else-not-is_worse w ↦ or_left _ _ (sym c.is_worse.ensures ∙ w.if-not-is_worse.false)
    ] in
    let both = c.both_cuts.ensures in
    let legs = c.both_legs.ensures in
    rw differs
    (puts_then c.write_outage.ensures (puts_then c.put_bytes.ensures
    (puts_then (rw (c.plan-new.ensures, c.plan-old.ensures, legs.new, both.new, both.old) at c.write_others.ensures)
    (rw (c.plan-new.ensures, c.plan-old.ensures, legs.old, both.new, both.old) at c.write_others-2.ensures))))
