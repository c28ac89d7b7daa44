use Rattle.tx_html.proofs.Showing.{sets_then, sets_end}
use Rattle.tx_svg.proofs.pictures.write_heads.Goals as goal

pub returns : goal.returns
returns g c =
    sets_then c.write_head.ensures (sets_end c.write_ranks.ensures c.write_aside.ensures)
