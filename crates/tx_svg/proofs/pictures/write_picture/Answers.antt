use Rattle.tx_html.proofs.Showing.{sets_then, sets_end}
use Rattle.tx_svg.proofs.pictures.write_picture.Goals as goal

pub returns : goal.returns
returns g c =
    sets_then (rw (c.code_figures.ensures.value, c.exchange_name.ensures.value, c.home.ensures) at c.set.ensures)
    (sets_then c.write_canvas.ensures (sets_then c.write_heads.ensures (sets_then c.write_arrows.ensures
    (sets_then c.write_boxes.ensures (sets_then c.set-2.ensures (sets_end c.write_table.ensures c.set-3.ensures))))))
