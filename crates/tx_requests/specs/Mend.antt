-- The command `mend`.
use Rattle.std.specs.Prelude.{◌≡◌, ℕ, Bool, true, List, Option, None, Some, is_some, Result, Ok, Err, Vec}
use Rattle.tx_cert.specs.Certificate.{Certificate}
use Rattle.tx_mend.specs.declared.mending.Mending.{Mending}
use Rattle.tx_mend.specs.declared.mending.Mending.TheVariants.{Mended, NoRouting}
use Rattle.tx_mend.specs.Mendings.{IsRightMending}
use Rattle.tx_mend.specs.MendText.{mend_report}
use Rattle.tx_plan.specs.Plan.{Plan}
use Rattle.tx_commands.specs.declared.mend.MendRequest.{MendRequest}
use Rattle.tx_files.specs.declared.ending.Ending.{Ending}
use Rattle.tx_files.specs.declared.fault.CommandFault.{CommandFault}
use Rattle.tx_files.specs.declared.made.Made.{Made}
use Rattle.tx_files.specs.declared.two_plans.PlanText.{PlanText}
use Rattle.tx_files.specs.Ending.{EndsWith}
use Rattle.tx_files.specs.Faults.{memory_stop}
use Rattle.tx_files.specs.Made.{shown_plan, shown_events, plan_file, HasTextIf}
use Rattle.tx_requests.specs.Printing.{Printing, Writes}

module _ {A : Type 0} where
  -- the text, and the mending of its plan
  abbrev pub MendAnswers : MendRequest → PlanText A → Result (Vec ℕ A × Mending A) CommandFault
      → Type 0
  MendAnswers r t (Ok a) =
      (a.0 ≡ t.text) × IsRightMending t.plan r.limits.limit r.limits.spare a.1
  MendAnswers r t (Err fault) = fault ≡ memory_stop

  -- with the lists that are replaced
  abbrev pub mend_prints : MendRequest → Vec ℕ A × Mending A → Printing
  mend_prints r a = Writes (mend_report r.limits.limit r.limits.spare a.1)

  -- the mended plan goes into a file, as the text revised, and so does its certificate
  abbrev pub HasMended : (asked : Bool) → (text : List ℕ) → Plan → Certificate → Option (Made A)
      → Type 0
  HasMended asked text p cert None = ⊥
  HasMended asked text p cert (Some m) = (shown_plan m.shown ≡ p)
      × (shown_events m.shown ≡ None) × (m.cert ≡ Some cert)
      × HasTextIf asked text p (plan_file p m.text)

  -- status 0, and they; memory can run out only where they are asked for
  abbrev pub EndsMended : (asked : Bool) → (text : List ℕ) → Plan → Certificate
      → Result (Ending A) CommandFault → Type 0
  EndsMended asked text p cert (Ok e) = (e.status ≡ 0) × HasMended asked text p cert e.made
  EndsMended asked text p cert (Err fault) = (asked ≡ true) × (fault ≡ memory_stop)

  -- after a No status 1, and nothing goes into files
  abbrev pub MendEnds : MendRequest → Vec ℕ A × Mending A → Result (Ending A) CommandFault → Type 0
  MendEnds r (text, Mended p before cert) = EndsMended (is_some r.mended) text.items p cert
  MendEnds r (text, NoRouting p unserved missing pair) = EndsWith 1
