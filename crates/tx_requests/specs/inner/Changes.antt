-- What goes into files after a No of a change.
use Rattle.std.specs.Prelude.{◌≡◌, Bool, Option, None, Some}
use Rattle.tx_files.specs.declared.made.Made.{Made}
use Rattle.tx_files.specs.declared.made.Shown.{Shown}
use Rattle.tx_files.specs.declared.two_plans.PlanText.{PlanText}
use Rattle.tx_files.specs.Made.{shown_plan, plan_file, HasTextIf}

-- this plan, with its script, and with its text if it is asked for
abbrev pub IsMadeOf : {A : Type 0} → (asked : Bool) → PlanText A → Shown A → Option (Made A) → Type 0
IsMadeOf asked old shown None = ⊥
IsMadeOf asked old shown (Some m) = (m.shown ≡ shown) × (m.cert ≡ None)
    × HasTextIf asked old.text.items (shown_plan shown) (plan_file (shown_plan shown) m.text)
