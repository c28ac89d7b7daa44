-- The line that says why a command stopped.
use Rattle.std.specs.Prelude.{ℕ, List, ◌++◌, Option, None, Some, codes, decimal}
use Rattle.tx_plantext.specs.PlanFaults.{fault_row as plan_row}
use Rattle.tx_order.specs.DoneText.{fault_row as done_row}
use Rattle.tx_risk.specs.RiskFaults.{fault_row as risk_row}
use Rattle.tx_join.specs.declared.contradiction.Contradiction.{Contradiction as ContradictionOf}
use Rattle.tx_join.specs.Contradictions.{kind_word}
use Rattle.tx_jobs.specs.JobFaults.{fault_line, text_fault_line}
use Rattle.tx_files.specs.declared.missing.Missing.{Missing}
use Rattle.tx_files.specs.Missing.{named_word}
use Rattle.tx_files.specs.declared.fault.CommandFault.{CommandFault}
use Rattle.tx_files.specs.declared.fault.CommandFault.TheVariants.{Job, OldPlan, NewPlan, Contradiction, TooManyTogether, Risks, Done, NoSuchStage, NoSuchName, NotInOldPlan}

-- the homes of a code, and how it can move
abbrev pub homes_text : Option (List ℕ × List ℕ) → List ℕ
homes_text None = codes "\n"
homes_text (Some homes) = codes ": home " ++ (homes.0 ++ (codes ", then " ++ (homes.1
    ++ codes ": drop it in one change, admit it in the next\n")))

-- that a line of the old plan and one of the new plan differ, with the word that begins them and the
-- name in them
abbrev pub differing_text : (old new : ℕ) → (word name : List ℕ) → List ℕ
differing_text old new word name = codes "telexplan: old plan line "
    ++ (decimal old ++ (codes " and new plan line " ++ (decimal new
    ++ (codes ": " ++ (word ++ (codes " " ++ (name ++ codes " differs")))))))

-- what two plans declare in contradiction, by the line of each text that does
abbrev pub contradiction_line : ContradictionOf → List ℕ
contradiction_line c =
    differing_text c.old_line c.new_line (kind_word c.kind) c.name ++ homes_text c.homes

-- how many stages there are
abbrev pub stage_count_line : ℕ → List ℕ
stage_count_line n =
    codes "telexplan: no such stage: the order has " ++ (decimal n ++ codes "\n")

-- the end of a line that tells of a name which is not there: the one that was probably meant
abbrev pub hint_text : Option (List ℕ) → List ℕ
hint_text None = codes "\n"
hint_text (Some near) = codes "; did you mean " ++ (near ++ codes "?\n")

-- that the plan does not have a name
abbrev pub missing_line : Missing → List ℕ
missing_line m = (codes "telexplan: no such " ++ (named_word m.named ++ codes " in the plan"))
    ++ hint_text m.near

-- that of a job; the text that is refused and its line; what contradicts; or what is not there
abbrev pub command_line : CommandFault → List ℕ
command_line (Job f) = fault_line f
command_line (OldPlan f) = text_fault_line (codes "old plan") f.line (plan_row f.kind)
command_line (NewPlan f) = text_fault_line (codes "new plan") f.line (plan_row f.kind)
command_line (Contradiction c) = contradiction_line c
command_line TooManyTogether =
    codes "telexplan: both plans together have too many exchanges, codes or groups\n"
command_line (Risks f) = text_fault_line (codes "risks") f.line (risk_row f.kind)
command_line (Done f) = text_fault_line (codes "done") f.line (done_row f.kind)
command_line (NoSuchStage stages) = stage_count_line stages
command_line (NoSuchName m) = missing_line m
command_line NotInOldPlan = codes "telexplan: no such exchange or code in the old plan\n"
