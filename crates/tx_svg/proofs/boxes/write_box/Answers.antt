use Rattle.tx_html.proofs.Showing.{sets_then}
use Rattle.tx_svg.proofs.boxes.write_box.Goals as goal

pub returns : goal.returns
returns g c =
    sets_then (rw c.exchange_name-name.ensures.value at c.set.ensures) (sets_then (rw c.list-list.ensures.value at c.write_groups.ensures) ((rw c.exchange_name-name.ensures.value at c.write_frame.ensures)))
