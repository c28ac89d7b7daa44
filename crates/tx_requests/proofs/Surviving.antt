-- What the clauses of a search for outages come to.
use mir.Val.{bool_byte}
use Rattle.std.proofs.Common.{Bool, true, false, ◌≡◌, ◌≢◌, ◌↔◌, ℕ, List, [], None, refl}
use Rattle.tx_requests.proofs.Common.{if◌then◌else◌, AllByRecursion, Plan, IsTrueOf, NamedRisk, AreOutcomes}
use Rattle.tx_rank.specs.Grades.{AreCodeGrades, AreUnmended}
use Rattle.tx_risk.specs.Survivals.{HasGrade, AreTried, OnTried, OnUngraded}
use Rattle.tx_risk.specs.declared.surviving.Survival.{Survival}
use Rattle.tx_risk.specs.declared.surviving.Survival.TheVariants.{Tried, Ungraded}
use Rattle.tx_requests.specs.Grade.{IsUngraded}
use Rattle.tx_requests.specs.Survive.{IsSurvivalOf}

pub survival_is : (A : Type 0) (p : Plan) (risks : List NamedRisk) (only : Bool) (s : Survival A)
    → AreTried s ↔ HasGrade p
    → OnTried (AreOutcomes p risks only) s
    → OnUngraded (λ g. g.plan ≡ None) s
    → OnUngraded (λ g. AreCodeGrades p g.codes.items) s
    → OnUngraded (λ g. g.findings.items ≢ []) s
    → OnUngraded (λ g. (limit spare : ℕ)
    → AllByRecursion (IsTrueOf p limit spare) g.findings.items) s
    → OnUngraded (λ g. AreUnmended p g.findings.items) s → IsSurvivalOf p risks only s
survival_is A p risks only (Tried outcomes) tried all none codes some right listed = (tried.0 tt, all)
survival_is A p risks only (Ungraded grade) tried all none codes some right listed =
    let told : IsUngraded p grade.findings.items = record {
      nowhere = λ limit spare k. tried.1 (limit, spare, k);
      some = some;
      each = right;
      listed = listed;
    } in
    (none, rw none (told, codes))

-- the status of a command that ends with 1 if somebody is worse off
pub as_byte : (b : Bool) → bool_byte b ≡ (if b then 1 else 0)
as_byte true = refl
as_byte false = refl
