-- The laws of all faults of a text.
use Rattle.std.specs.Prelude.{◌≡◌, ℕ, ◌+◌, Bool, false, ◌||◌, if◌then◌else◌, List, [], ◌∷◌, ◌++◌, length, map, slice_get, sum_by, Option, None, Some, Result, Ok, Err}
use Rattle.std.specs.List.{list_any}
use Rattle.std.specs.Option.{option_map, option_map_or}
use Rattle.std.specs.Str.{bytes_eq}
use Rattle.tx_text.specs.declared.frame.FaultKind.{FaultKind}
use Rattle.tx_text.specs.Told.{AtEnd}
use Rattle.tx_plan.specs.Plan.{Plan}
use Rattle.tx_plantext.specs.declared.fault.PlanWord.{PlanWord}
use Rattle.tx_plantext.specs.PlanText.{plan_of}
use Rattle.tx_lint.specs.AllFaults.{Fault, faults_of, progress_of}
use Rattle.tx_lint.specs.Gathered.{name_left, name_needed, told_of}

-- the line and the kind of the first fault, if there is one
abbrev pub first_fault : List Fault → Option (ℕ × FaultKind PlanWord)
first_fault fs = option_map (λ f. (f.line, f.kind)) (slice_get fs 0)

-- the fault that a reader of the text answers, if it answers one
abbrev pub told_by : Result Plan (ℕ × FaultKind PlanWord) → Option (ℕ × FaultKind PlanWord)
told_by (Ok p) = None
told_by (Err fault) = Some fault

-- The first of all faults is the fault that the reader of plan texts answers, and there is none
-- exactly where that takes the text. Then the plan is the one that it answers.
pub record AgreesWithReader (text : List ℕ) : Type 0 where
  pub first : first_fault (faults_of text) ≡ told_by (plan_of AtEnd text)
  pub plan : (p : Plan) → plan_of AtEnd text ≡ Ok p → (progress_of text).plan ≡ p

-- so it is of every text
abbrev pub FaultsAgreeWithReader : Type 0
FaultsAgreeWithReader = (text : List ℕ) → AgreesWithReader text

-- a name is the one that a fault has, if it has one
abbrev pub is_named : (name : List ℕ) → Option (List ℕ) → Bool
is_named name o = option_map_or (bytes_eq name) o false

-- the line of a fault leaves the name undeclared, or needs it
abbrev pub misses : (name : List ℕ) → Fault → Bool
misses name f = is_named name (name_left f) || is_named name (name_needed f)

-- a fault needs a name, and one of these has left it undeclared or needs it too
abbrev pub comes_of : List Fault → Fault → Bool
comes_of before f = option_map_or (λ name. list_any (misses name) before) (name_needed f) false

-- those faults, behind some others, that come of none before them
abbrev pub told_after : (before : List Fault) → List Fault → List Fault
told_after before [] = []
told_after before (f ∷ fs) = if comes_of before f then told_after (before ++ f ∷ []) fs
    else f ∷ told_after (before ++ f ∷ []) fs

-- No fault is lost: what comes of none before is told, in order, and what else there is is counted
pub record LosesNone (fs : List Fault) : Type 0 where
  pub told : map (λ t. t.fault) (told_of fs) ≡ told_after [] fs
  pub counted : length (told_of fs) + sum_by (λ t. t.needing) (told_of fs) ≡ length fs

-- so it is of all faults
abbrev pub NoFaultIsLost : Type 0
NoFaultIsLost = (fs : List Fault) → LosesNone fs
