-- What an audit makes of a ranking.
use Rattle.tx_plan.specs.Plan.{Plan}
use Rattle.tx_rank.specs.declared.ranking.Ranking.{Ranking}
use Rattle.tx_rank.specs.declared.ranking.Ranking.TheVariants.{Found, Fails}
use Rattle.tx_audit.specs.declared.audited.Audited.{Audited}
use Rattle.tx_audit.specs.declared.audited.Audited.TheVariants.{Sound, Unsound}

-- a plan with what its ranking came to
abbrev pub audited_of : {A : Type 0} → Plan → Ranking A → Audited A
audited_of p (Found cert) = Sound p cert
audited_of p (Fails findings) = Unsound p findings
