-- The command `trace PLAN --from OLD`.
use Rattle.std.specs.Prelude.{◌≡◌, ◌⊎◌, ℕ, List, Vec, map, Option, None, Some, string_bytes, String, Result, Ok, Err}
use Rattle.std.specs.List.{AllByRecursion}
use Rattle.tx_plan.specs.declared.ids.Pair.{Pair}
use Rattle.tx_plan.specs.Plan.{Plan}
use Rattle.tx_plan.specs.Declaring.{pair_named}
use Rattle.tx_trace.specs.declared.way_changes.WayChange.{WayChange}
use Rattle.tx_trace.specs.WayChanges.{changed, changed_calls, AreWaysIn, calls_of}
use Rattle.tx_trace.specs.WayChangesText.{changes_text}
use Rattle.tx_files.specs.declared.fault.CommandFault.{CommandFault}
use Rattle.tx_files.specs.declared.fault.CommandFault.TheVariants.{NotInOldPlan}
use Rattle.tx_files.specs.declared.two_plans.WithOld.{WithOld}
use Rattle.tx_commands.specs.declared.trace.WaysRequest.{WaysRequest}
use Rattle.tx_files.specs.Faults.{memory_stop}
use Rattle.tx_files.specs.Asked.{asked_of}
use Rattle.tx_requests.specs.Printing.{Printing, Writes}

-- the changes of calls that both plans have, or what of them is not there
abbrev pub changed_if_there : (p q : Plan) → (asked : Result (ℕ × ℕ × List ℕ) CommandFault)
    → (old : Option Pair) → Result (List (Pair × Pair)) CommandFault
changed_if_there p q (Err fault) old = Err fault
changed_if_there p q (Ok asked) None = Err NotInOldPlan
changed_if_there p q (Ok asked) (Some j) =
    Ok (changed p q (record { exchange = asked.0; code = asked.1 }) j)

-- those of the calls for a code from an exchange
abbrev pub changed_named : (p q : Plan) → (exchange code : List ℕ)
    → Result (List (Pair × Pair)) CommandFault
changed_named p q exchange code =
    changed_if_there p q (asked_of p exchange code None) (pair_named q exchange code)

-- those of the calls that are asked for, or of all
abbrev pub changes_asked : {Z : Type 0} → Option (String Z × String Z) → (p q : Plan)
    → Result (List (Pair × Pair)) CommandFault
changes_asked None p q = Ok (changed_calls p q)
changes_asked (Some (exchange, code)) p q =
    changed_named p q (string_bytes exchange) (string_bytes code)

module _ {A : Type 0} where
  -- the ways of the calls that go another way; or what of them is not there, or memory ran out
  abbrev pub AreChanges : (p q : Plan) → Result (List (Pair × Pair)) CommandFault
      → Result (Vec (WayChange A) A) CommandFault → Type 0
  AreChanges p q asked (Ok changes) =
      AllByRecursion (AreWaysIn p q) changes.items × (asked ≡ Ok (map calls_of changes.items))
  AreChanges p q asked (Err fault) = (asked ≡ Err fault) ⊎ (fault ≡ memory_stop)

  abbrev pub WaysAnswers : WaysRequest → WithOld A
      → Result (WithOld A × Vec (WayChange A) A) CommandFault → Type 0
  WaysAnswers r t (Ok a) = (a.0 ≡ t) × AreChanges t.plan.plan t.old.plan
      (changes_asked r.calls t.plan.plan t.old.plan) (Ok a.1)
  WaysAnswers r t (Err fault) = AreChanges t.plan.plan t.old.plan
      (changes_asked r.calls t.plan.plan t.old.plan) (Err fault)

  abbrev pub ways_prints : WithOld A × Vec (WayChange A) A → Printing
  ways_prints a = Writes (changes_text a.0.plan.plan a.0.old.plan (map calls_of a.1.items))
