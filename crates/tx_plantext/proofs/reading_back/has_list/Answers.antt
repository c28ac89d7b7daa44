use Rattle.tx_plantext.proofs.Common.{◌∙◌, sym, bytes_eq-Decides}
use Rattle.tx_plantext.proofs.reading_back.has_list.Goals as goal

pub returns : goal.returns
returns g c = λ h.
    sym c.list.ensures.value ∙ ((bytes_eq-Decides c.list.result.now c.list-2.result.now).0 (sym c.eq.ensures ∙ h) ∙ c.list-2.ensures.value)
