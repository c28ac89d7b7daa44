-- What the clauses of a grade come to.
use Rattle.tx_requests.proofs.Common.{◌≡◌, ◌≢◌, ℕ, true, List, [], Option, Some, None, refl, ◌∙◌, arith, false≢true, AllByRecursion, Plan, IsPlan, Bounds, Finding, IsTrueOf, Event}
use Rattle.std.specs.Prelude.{is_some, IfSome, IfNone}
use Rattle.tx_plan.specs.Certified.{Ranks, IsCertified}
use Rattle.tx_rank.specs.declared.finding.Finding.TheVariants.{Ambiguous, Loop, Short, Long}
use Rattle.tx_rank.specs.Grades.{AreBounds, IsGrade, CanBeCertified, NothingIsWrong, AreUnmended}
use Rattle.tx_rank.proofs.Certifying.{none_true}
use Rattle.tx_machine.specs.Sound.{IsSound}
use Rattle.tx_machine.proofs.Sound.{sound}
use Rattle.tx_audit.specs.Counter.{counter_of, has_counter}
use Rattle.tx_audit.proofs.Showing.{counters_show, counter_there}
use Rattle.tx_requests.specs.Grade.{IsGradeOfPlan}

module _ (A : Type 0) (p : Plan) (ok : IsPlan p) where
  -- a true finding that has events is not one of a sound plan
  shown : (limit spare : ℕ) (f : Finding A) → IsTrueOf p limit spare f → has_counter p f ≡ true → IsSound p limit spare → ⊥
  shown limit spare f t has s = at (counter_of p f) refl (counter_there p ok limit spare f t ∙ has)
    where
      at : (o : Option (List Event)) → counter_of p f ≡ o → is_some o ≡ true → ⊥
      at None e h = false≢true h
      at (Some events) e h = (counters_show A p limit spare f events ok t e).unsound s

  -- where some ranks certify a plan with some bounds, nothing is wrong with it for all for which it is sound
  sound_clear : (ranks : Ranks) (l k : ℕ) → IsCertified p ranks l k → (limit spare : ℕ) → IsSound p limit spare → NothingIsWrong A p limit spare
  sound_clear ranks l k cert limit spare s (Ambiguous a b) t = none_true p ranks l k {A = A} cert (Ambiguous a b) t
  sound_clear ranks l k cert limit spare s (Loop c w) t = none_true p ranks l k {A = A} cert (Loop c w) t
  sound_clear ranks l k cert limit spare s (Short c w) t = shown limit spare (Short c w) t refl s
  sound_clear ranks l k cert limit spare s (Long c w) t = shown limit spare (Long c w) t refl s

  -- so the bounds of certificates are those of soundness
  sound_bounds : (b : Bounds) → AreBounds (CanBeCertified p) b → AreBounds (NothingIsWrong A p) b → AreBounds (IsSound p) b
  sound_bounds b certified clear =
      let own = (certified.exactly b.limit b.spare certified.few).1 (omega arith, omega arith) in
      record {
        few = certified.few;
        exactly = λ l k h. (
          λ s. (clear.exactly l k h).0 (sound_clear own.0 b.limit b.spare own.1 l k s),
          λ within. let c = (certified.exactly l k h).1 within in sound p ok c.0 l k c.1,
        );
      }

  -- what is told of a plan
  module _ (findings : List (Finding A)) where
    pub plan_is : (plan : Option Bounds) → IsGrade (CanBeCertified p) plan
        → IsGrade (NothingIsWrong A p) plan
        → IfNone plan (findings ≢ []) → IfSome plan (λ _. findings ≡ [])
        → ((limit spare : ℕ) → AllByRecursion (IsTrueOf p limit spare) findings)
        → AreUnmended p findings → IsGradeOfPlan p plan findings
    plan_is (Some b) certified clear fails clean right listed =
        (certified, sound_bounds b certified clear, clean)
    plan_is None certified clear fails clean right listed =
        record { nowhere = certified; some = fails; each = right; listed = listed }
