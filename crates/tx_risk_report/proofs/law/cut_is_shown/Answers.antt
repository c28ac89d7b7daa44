use Rattle.tx_risk_report.proofs.Shown.{cut_shown}
use Rattle.tx_risk_report.proofs.law.cut_is_shown.Goals as goal

pub returns : goal.returns
returns c = λ p ok risk code x steps within origin cut. cut_shown p ok risk code x steps within
    origin cut
