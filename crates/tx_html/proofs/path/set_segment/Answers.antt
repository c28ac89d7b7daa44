use Rattle.tx_html.proofs.Showing.{sets_then}
use Rattle.tx_html.proofs.path.set_segment.Goals as goal

pub returns-in-Level : goal.returns-in-Level
returns-in-Level g c = sets_then c.set_own.ensures c.set_number.ensures

pub returns-in-Arc : goal.returns-in-Arc
returns-in-Arc g c = sets_then c.set_point-in-Arc.ensures c.set_point-in-Arc-2.ensures

pub returns-in-Curve : goal.returns-in-Curve
returns-in-Curve g c =
    sets_then c.set_point-in-Curve.ensures (sets_then c.set_point-in-Curve-2.ensures c.set_point-in-Curve-3.ensures)
