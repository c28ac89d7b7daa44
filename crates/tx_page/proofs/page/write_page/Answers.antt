use Rattle.tx_html.proofs.Showing.{sets_showed, sets_is, sets_then, sets_end}
use Rattle.std.proofs.Common.{ap, sym}
use Rattle.tx_page.specs.Page.{first_texts}
use Rattle.tx_page.proofs.page.write_page.Goals as goal

pub returns : goal.returns
returns g c =
    let s = c.args.subject.now in
    sets_showed _
    (sets_then (sets_is (ap (λ safe. first_texts s safe s.change) (sym c.is_safe-safe.ensures)) c.write_first.ensures)
    (sets_then c.write_down.ensures
    (sets_then c.write_down-2.ensures
    (sets_then c.write_wrong.ensures
    (sets_then (rw c.is_safe-safe.ensures at c.write_asked_change.ensures)
    (sets_then c.write_codes.ensures
    (sets_then (rw c.is_some-graded.ensures at c.write_outages.ensures)
    (sets_then c.write_pictures.ensures (sets_end c.write_network.ensures c.set.ensures))))))))) c.finish.ensures
