use Rattle.tx_lint.proofs.Agreeing.{faults_agree}
use Rattle.tx_lint.proofs.law.faults_agree_with_reader.Goals as goal

pub returns : goal.returns
returns c = faults_agree
