-- What a ranking of a change comes to is right.
use Rattle.tx_change.proofs.Common.{◌≡◌, ◌≢◌, ℕ, [], length, ap, subst, ◌∙◌, AllByRecursion, Plan, Finding, CanBeCertified, SameNetwork, EachMixture, AreCommon, mixture_certified, AreChangeFindings, IsShown}
use Rattle.std.specs.Prelude.{◌↔◌, Vec}
use Rattle.tx_cert.specs.Certificate.{Certificate, IsCertificateOf, ranks_of}
use Rattle.tx_rank.specs.declared.ranking.Ranking.{Ranking}
use Rattle.tx_rank.specs.declared.ranking.Ranking.TheVariants.{Found, Fails}
use Rattle.tx_rank.specs.Rankings.{IsFound, OnFound, OnFails}
use Rattle.tx_machine.proofs.Sound.{sound}
use Rattle.tx_machine.proofs.ChangingRuns.{sound_change, few_meanwhile, suffice_meanwhile}
use Rattle.tx_check.specs.Confirmed.{IsConfirmed}
use Rattle.tx_audit.specs.Audits.{IsRightRanking}
use Rattle.tx_change.specs.declared.judging.ChangeVerdict.TheVariants.{Sound, Unsound, NewUnsound}
use Rattle.tx_change.specs.ChangeAnswers.{IsCleared, IsDenied, IsRightVerdict}

-- a certificate of a plan is one of each plan of its network
pub certificate_along : (p q : Plan) (t : Certificate) → SameNetwork p q → IsCertificateOf p t → IsCertificateOf q t
certificate_along p q t same h = record { codes = h.codes ∙ ap length same.codes; exchanges = h.exchanges ∙ ap length same.exchanges; rules = h.rules }

-- common ranks that the checker confirms for both plans clear the change
pub cleared : (p q : Plan) (limit spare : ℕ) (t : Certificate) → SameNetwork p q → AreCommon p q (ranks_of t) limit spare → IsConfirmed p t limit spare → IsConfirmed q t limit spare → IsCleared p q limit spare t
cleared p q limit spare t same common before after = record {
  fits = before.fits;
  before = before.yes;
  after = after.yes;
  common = common;
  mixtures = λ m mix. sound m mix.rules (ranks_of t) limit spare (mixture_certified p q m (ranks_of t) limit spare same common mix);
  live = sound_change p q (ranks_of t) limit spare same common;
  few_routes = few_meanwhile p q (ranks_of t) limit spare same common;
  suffice = suffice_meanwhile p q (ranks_of t) limit spare same common;
}

-- a certificate that clears the change, or findings that deny it
abbrev pub IsRightChange : {A : Type 0} → (old new : Plan) → (limit spare : ℕ) → Ranking A → Type 0
IsRightChange old new limit spare (Found cert) = IsCleared old new limit spare cert
IsRightChange old new limit spare (Fails findings) = IsDenied old new limit spare findings.items

pub is_right_change : (A : Type 0) (old new : Plan) (limit spare : ℕ) (r : Ranking A) → (IsFound r ↔ EachMixture old new (λ m. CanBeCertified m limit spare)) → OnFails (λ findings. findings ≢ []) r
    → OnFails (AllByRecursion (IsShown old new limit spare)) r → OnFails (AreChangeFindings old new limit spare) r
    → OnFound (IsCleared old new limit spare) r → IsRightChange old new limit spare r
is_right_change A old new limit spare (Found cert) exactly some shown listed cleared = cleared
is_right_change A old new limit spare (Fails findings) exactly some shown listed cleared = record { some = some; listed = listed; shown = shown; uncertified = λ each. exactly.1 each }

-- the verdict on a change, by the ranking of the change, and that of the new plan as it is
module _ (A : Type 0) (before after new : Plan) (limit spare : ℕ) (r : Ranking A) (right : IsRightChange before after limit spare r) where
  pub verdict_denied : (findings : Vec (Finding A) A) → r ≡ Fails findings → IsRightVerdict before after new limit spare (Unsound findings)
  verdict_denied findings e = subst (IsRightChange before after limit spare) e right

  module _ (cert : Certificate) (e : r ≡ Found cert) (s : Ranking A) (of_new : IsRightRanking new limit spare s) where
    pub verdict_cleared : (t : Certificate) → s ≡ Found t → IsRightVerdict {A = A} before after new limit spare (Sound cert)
    verdict_cleared t f = (subst (IsRightChange before after limit spare) e right, (t, (subst (IsRightRanking new limit spare) f of_new).1))

    pub verdict_new_denied : (findings : Vec (Finding A) A) → s ≡ Fails findings → IsRightVerdict before after new limit spare (NewUnsound findings)
    verdict_new_denied findings f = ((cert, subst (IsRightChange before after limit spare) e right), subst (IsRightRanking new limit spare) f of_new)
