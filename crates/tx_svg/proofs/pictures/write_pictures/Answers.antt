use Rattle.tx_html.proofs.Showing.{sets_then}
use Rattle.tx_svg.proofs.pictures.write_pictures.Goals as goal

pub returns : goal.returns
returns g c =
    sets_then c.set.ensures c.write_all.ensures
