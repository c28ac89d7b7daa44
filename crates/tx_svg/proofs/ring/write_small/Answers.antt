use Rattle.tx_html.proofs.Showing.{sets_then, sets_end}
use Rattle.tx_svg.proofs.ring.write_small.Goals as goal

pub returns : goal.returns
returns g c =
    sets_then c.write_canvas.ensures (sets_then c.write_lines.ensures (sets_end c.write_names.ensures c.set.ensures))
