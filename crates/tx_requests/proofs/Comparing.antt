-- What the outages of two plans come to is in order.
use Rattle.tx_requests.proofs.Common.{◌≡◌, Bool, List, [], Option, Some, None, refl, AllByRecursion, IfSome, Plan, Bounds, AreOutcomes, Outcome}
use Rattle.tx_risk.specs.Compared.{AreInOrder}
use Rattle.tx_risk.specs.NamedRisks.{NamedRisk, risks_in}
use Rattle.tx_risk.proofs.Comparing.{outcomes_in_order}
use Rattle.tx_requests.specs.Compare.{IsOutlookOf}
use Rattle.tx_requests.specs.declared.compare.Outlook.{Outlook}

module _ {A : Type 0} where
  pub in_order_if : (grade : Option Bounds) (p : Plan) (risks : List NamedRisk) (only : Bool) (os : List (Outcome A))
      → IfSome grade (λ _. AreOutcomes p risks only os) → (grade ≡ None → os ≡ [])
      → AllByRecursion (λ t. AreInOrder t.cuts.items) os
  in_order_if None p risks only os o none = rw (none refl) tt
  in_order_if (Some b) p risks only os o none = outcomes_in_order p risks only os o

  pub outlook_in_order : (network : Plan) (risks : List NamedRisk) (only : Bool) (p : Plan) (l : Outlook A)
      → IsOutlookOf network risks only p l → AllByRecursion (λ t. AreInOrder t.cuts.items) l.outcomes.items
  outlook_in_order network risks only p l h =
      in_order_if l.grade.plan p (risks_in network p risks) only l.outcomes.items h.outcomes h.none
