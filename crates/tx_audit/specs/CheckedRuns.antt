-- What a run after a check answers.
use Rattle.std.specs.Prelude.{◌≡◌, ℕ, Bool, Result, Ok, Err}
use Rattle.tx_text.specs.Ends.{Input, Output}
use Rattle.tx_plan.specs.Plan.{Plan}
use Rattle.tx_cert.specs.Certificate.{Certificate}
use Rattle.tx_machine.specs.Sound.{IsSound, HasFewRoutes}
use Rattle.tx_check.specs.declared.verdict.Verdict.TheVariants.{Yes, No}
use Rattle.tx_check.specs.Checks.{check_faults, ranks_for, verdict_of}
use Rattle.tx_script.specs.declared.run_fault.RunFault.{RunFault}
use Rattle.tx_script.specs.Answers.{mark_by}
use Rattle.tx_audit.specs.Simulated.{IsUntouched, Simulated}
use Rattle.tx_audit.specs.declared.checked.Checked.{Checked}
use Rattle.tx_audit.specs.declared.checked.Checked.TheVariants.{Ran, Denied}

-- The checker said Yes. So every state of the run is safe, every NC is excused, and few Routes of
-- one call are accepted.
pub record IsAllowed (p : Plan) (cert : Certificate) (limit spare : ℕ) : Type 0 where
  pub yes : verdict_of (check_faults p (ranks_for p cert) limit spare) ≡ Yes
  pub sound : IsSound p limit spare
  pub few_routes : HasFewRoutes p limit

-- What a checked run answers. It ran only after a Yes; after a No it read and wrote nothing, and
-- returns that No.
abbrev pub CheckedAnswers : Plan → Certificate → (limit spare : ℕ)
    → (script : Input) → (out : Output) → Result Checked RunFault → Type 0
CheckedAnswers p cert limit spare script out (Ok (Ran summary)) =
    IsAllowed p cert limit spare × Simulated p script out (Ok summary)
CheckedAnswers p cert limit spare script out (Ok (Denied f)) =
    (verdict_of (check_faults p (ranks_for p cert) limit spare) ≡ No f) × IsUntouched script out
CheckedAnswers p cert limit spare script out (Err f) =
    IsAllowed p cert limit spare × Simulated p script out (Err f)

-- the mark of the sink after a call: set by a write that failed, and otherwise as before
abbrev pub mark_after : Bool → Result Checked RunFault → Bool
mark_after old (Ok checked) = old
mark_after old (Err f) = mark_by old f.cause
