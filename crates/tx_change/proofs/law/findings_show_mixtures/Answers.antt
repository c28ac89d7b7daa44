use Rattle.tx_change.proofs.Common.{none_true, shown_by}
use Rattle.tx_change.proofs.ShownWalks.{shown_mixture, shown_true}
use Rattle.tx_change.proofs.law.findings_show_mixtures.Goals as goal

pub returns : goal.returns
returns g c = record {
  shown = λ old new limit spare f ok new_ok same h. (shown_mixture old new limit spare ok new_ok same f, shown_true old new limit spare ok new_ok same f h);
  uncertified = λ old new limit spare f ok new_ok same h can. none_true (shown_by old new spare f) can.0 limit spare can.1 f (shown_true old new limit spare ok new_ok same f h);
}
