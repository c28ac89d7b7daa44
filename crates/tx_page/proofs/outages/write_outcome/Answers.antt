use Rattle.tx_page.proofs.Common.{ap, ◌∙◌, sets_then, sets_end}
use Rattle.tx_risk_report.specs.OutageReport.{cut_off, astray}
use Rattle.tx_page.proofs.outages.write_outcome.Goals as goal

pub returns : goal.returns
returns g c =
    let cut = c.count_cut.ensures ∙ ap cut_off c.deref.ensures.value in
    let stray = c.count_stray.ensures ∙ ap astray c.deref-2.ensures.value in
    sets_then (rw (c.kind_of.ensures, c.name_of.ensures, cut, stray) at c.set.ensures) (sets_end (rw c.deref-3.ensures.value at c.write_cuts.ensures) c.set-2.ensures)
