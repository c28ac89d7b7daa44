-- What the ranking of a plan answers.
use Rattle.std.specs.Prelude.{List}
use Rattle.tx_cert.specs.Certificate.{Certificate}
use Rattle.tx_rank.specs.declared.finding.Finding.{Finding}
use Rattle.tx_rank.specs.declared.ranking.Ranking.{Ranking}
use Rattle.tx_rank.specs.declared.ranking.Ranking.TheVariants.{Found, Fails}

module _ {A : Type 0} where
  -- a certificate was found
  abbrev pub IsFound : Ranking A → Type 0
  IsFound (Found cert) = Unit {0}
  IsFound (Fails findings) = ⊥

  -- it holds of the certificate, if one was found
  abbrev pub OnFound : (Certificate → Type 0) → Ranking A → Type 0
  OnFound Holds (Found cert) = Holds cert
  OnFound Holds (Fails findings) = Unit {0}

  -- it holds of the findings, if there are some
  abbrev pub OnFails : (List (Finding A) → Type 0) → Ranking A → Type 0
  OnFails Holds (Found cert) = Unit {0}
  OnFails Holds (Fails findings) = Holds findings.items
