-- The grammar of texts of risks: what each line declares after those before it.
use Rattle.std.specs.Prelude.{ℕ, Bool, true, false, not, ◌&&◌, ◌==◌, List, [], ◌∷◌, ◌++◌, Option, None, Some, Result, Ok, Err, codes, if◌then◌else◌}
use Rattle.std.specs.List.{list_any, filter_map}
use Rattle.std.specs.Str.{bytes_eq}
use Rattle.tx_text.specs.declared.frame.FaultKind.{FaultKind}
use Rattle.tx_text.specs.Ends.{Input}
use Rattle.tx_text.specs.Words.{is_name}
use Rattle.tx_text.specs.Told.{Ending}
use Rattle.tx_text.specs.Said.{text_said, line_declares, ReadsText}
use Rattle.tx_plan.specs.Plan.{Plan, group_named}
use Rattle.tx_plan.specs.Declaring.{first_true, has_group, none_twice}
use Rattle.tx_risk.specs.NamedRisks.{NamedRisk}
use Rattle.tx_risk.specs.declared.fault.RiskWord.{RiskWord}
use Rattle.tx_risk.specs.declared.fault.RiskWord.TheVariants.{UnknownWord, WrongCount, BadName, Duplicate, UnknownName, RepeatedGroup, NoMemory}

-- the risks after a line, or what is wrong with its words
abbrev pub Said : Type 0
Said = Result (List NamedRisk) RiskWord

-- a word names no group of the plan
abbrev pub has_unknown : Plan → List (List ℕ) → Bool
has_unknown p ws = list_any (λ w. not (has_group p w)) ws

-- why a risk is refused under a header of the version v, in order
abbrev pub risk_refusals : Plan → (v : ℕ) → List NamedRisk → (name : List ℕ) → List (List ℕ)
    → List (Bool × RiskWord)
risk_refusals p v risks name ws =
    (not (is_name name), BadName)
    ∷ (list_any (λ r. bytes_eq name r.name) risks, Duplicate)
    ∷ ((v == 1) && has_unknown p ws, UnknownName)
    ∷ (not (none_twice ws), RepeatedGroup)
    ∷ []

-- with one more risk: its name, the groups that the words name, and whether one of them names none
abbrev pub with_risk : Plan → List NamedRisk → (name : List ℕ) → List (List ℕ) → List NamedRisk
with_risk p risks name ws = risks ++ record {
  name = name;
  groups = filter_map (group_named p) ws;
  unknown = has_unknown p ws;
} ∷ []

-- the risks, unless something refuses them
abbrev pub unless : Option RiskWord → List NamedRisk → Said
unless None risks = Ok risks
unless (Some r) risks = Err r

-- the words after RISK, where there are enough of them
abbrev pub risk_by : Plan → (v : ℕ) → List NamedRisk → (name : List ℕ) → List (List ℕ) → Said
risk_by p v risks name ws =
    unless (first_true (risk_refusals p v risks name ws)) (with_risk p risks name ws)

-- the words after RISK: a name, and one or more groups
abbrev pub risk_line : Plan → (v : ℕ) → List NamedRisk → List (List ℕ) → Said
risk_line p v risks [] = Err WrongCount
risk_line p v risks (name ∷ []) = Err WrongCount
risk_line p v risks (name ∷ w ∷ ws) = risk_by p v risks name (w ∷ ws)

-- What a line declares after the lines before it. Version 1 refuses a risk that names a group which
-- the plan has not; version 2 keeps the groups that it has. A line of more words that begins with
-- END has too many.
unfoldable pub declare : Plan → ℕ → List NamedRisk → List (List ℕ) → Said
declare p v risks [] = Err UnknownWord
declare p v risks (w ∷ ws) =
    if bytes_eq w (codes "RISK") then risk_line p v risks ws
    else if bytes_eq w (codes "END") then Err WrongCount
    else Err UnknownWord

-- the risks that a text says for a plan, or its first fault, whichever way the text ends
abbrev pub risks_of : Plan → Ending → List ℕ → Result (List NamedRisk) (ℕ × FaultKind RiskWord)
risks_of p = text_said (declare p) (codes "RISKS") 2 []

-- line n of a text declares something, and so does each line before it: where memory can run out
abbrev pub declares_line : Plan → ℕ → Ending → List ℕ → Bool
declares_line p = line_declares (declare p) (codes "RISKS") 2 []

-- no memory was left
abbrev pub is_memory : RiskWord → Bool
is_memory NoMemory = true
is_memory w = false

-- what a reader of texts of risks answers
abbrev pub ReadsRisks : Plan → Input → Result (List NamedRisk) (ℕ × FaultKind RiskWord) → Type 0
ReadsRisks p = ReadsText (declare p) is_memory (codes "RISKS") 2 []
