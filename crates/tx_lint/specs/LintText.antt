-- The lines of the faults or warnings of a text.
use Rattle.std.specs.Prelude.{ℕ, ◌==◌, List, [], ◌++◌, Option, Some, None, codes, decimal, if◌then◌else◌}
use Rattle.tx_text.specs.Rows.{Row}
use Rattle.tx_plan.specs.Plan.{Plan, exchange_name, figures_of, group_name}
use Rattle.tx_plantext.specs.PlanFaults.{fault_row}
use Rattle.tx_lint.specs.declared.warning.Warning.{Warning}
use Rattle.tx_lint.specs.declared.warning.Warning.TheVariants.{NothingToJudge, NoLines, UnusedGroup, UnusedList, NoList, UnusedBar, Ambiguous, SharedRisk, Unlisted, NoGroup}
use Rattle.tx_risk.specs.NamedRisks.{NamedRisk, risk_name}
use Rattle.tx_lint.specs.Gathered.{Told}
use Rattle.tx_lint.specs.Escaped.{escaped_text}

-- the codes and names of the warnings
abbrev pub warning_row : Warning → Row
warning_row NothingToJudge = (codes "A1", codes "NothingToJudge")
warning_row (NoLines c n) = (codes "A2", codes "NoLines")
warning_row (UnusedGroup g) = (codes "A3", codes "UnusedGroup")
warning_row (UnusedList c n) = (codes "A4", codes "UnusedList")
warning_row (NoList c) = (codes "A5", codes "NoList")
warning_row UnusedBar = (codes "A6", codes "UnusedBar")
warning_row (Ambiguous c) = (codes "A7", codes "Ambiguous")
warning_row (SharedRisk k) = (codes "A8", codes "SharedRisk")
warning_row (Unlisted c) = (codes "A9", codes "Unlisted")
warning_row (NoGroup x) = (codes "A10", codes "NoGroup")

-- the code, the group, the risk or the exchange that a warning speaks of. A bar is known by its
-- line.
abbrev pub warning_word : Plan → List NamedRisk → Warning → Option (List ℕ)
warning_word p risks NothingToJudge = None
warning_word p risks (NoLines c n) = Some (figures_of p c)
warning_word p risks (UnusedGroup g) = Some (group_name p g)
warning_word p risks (UnusedList c n) = Some (figures_of p c)
warning_word p risks (NoList c) = Some (figures_of p c)
warning_word p risks UnusedBar = None
warning_word p risks (Ambiguous c) = Some (figures_of p c)
warning_word p risks (SharedRisk k) = Some (risk_name risks k)
warning_word p risks (Unlisted c) = Some (figures_of p c)
warning_word p risks (NoGroup x) = Some (exchange_name p x)

-- how many more codes a warning is of
abbrev pub more_codes : Warning → ℕ
more_codes (NoLines c n) = n
more_codes (UnusedList c n) = n
more_codes other = 0

-- the end of a warning that is of n codes more
abbrev pub more_end : ℕ → List ℕ
more_end n = if n == 0 then codes "\n" else codes " .. and " ++ (decimal n ++ codes " more\n")

-- the end of the line of a fault, where n lines need what it has left undeclared
abbrev pub needing_end : ℕ → List ℕ
needing_end n = if n == 0 then codes "\n"
    else if n == 1 then codes " .. and 1 line that needs it\n"
    else codes " .. and " ++ (decimal n ++ codes " lines that need it\n")

-- a word with a space before it, if there is one
abbrev pub word_text : Option (List ℕ) → List ℕ
word_text None = []
word_text (Some w) = codes " " ++ w

-- The front of a line, as `PLAN.txt:5: P9 Unknown SOUTH`: the name of the file, the line, the code
-- and the name of what is reported, and a word
abbrev pub told_front : (file : List ℕ) → (line : ℕ) → Row → Option (List ℕ) → List ℕ
told_front file line row word =
    escaped_text file ++ (codes ":" ++ (decimal line ++ (codes ": "
    ++ (row.0 ++ (codes " " ++ (row.1 ++ word_text word))))))

-- the line of a fault
abbrev pub fault_line : (file : List ℕ) → Told → List ℕ
fault_line file t = told_front file t.fault.line (fault_row t.fault.kind) t.fault.word
    ++ needing_end t.needing

-- the line of a warning
abbrev pub warning_line : (file : List ℕ) → Plan → List NamedRisk → ℕ × Warning → List ℕ
warning_line file p risks w = told_front file w.0 (warning_row w.1) (warning_word p risks w.1)
    ++ more_end (more_codes w.1)
