-- That the table has each code that is printed.
use Rattle.std.specs.Prelude.{◌≡◌, ◌≢◌, ℕ, true, List, [], ◌∷◌, ◌++◌, map, Some, codes}
use Rattle.tx_text.specs.declared.frame.FrameFault.TheVariants.{Read}
use Rattle.tx_text.specs.declared.frame.FaultKind.{FaultKind}
use Rattle.tx_text.specs.declared.frame.FaultKind.TheVariants.{Frame}
use Rattle.tx_plan.specs.Plan.{Plan}
use Rattle.tx_plantext.specs.declared.fault.PlanWord.{PlanWord}
use Rattle.tx_plantext.specs.PlanFaults.{fault_row as plan_row}
use Rattle.tx_lint.specs.declared.warning.Warning.{Warning}
use Rattle.tx_lint.specs.LintText.{warning_row}
use Rattle.tx_cert.specs.declared.fault.CertWord.{CertWord}
use Rattle.tx_cert.specs.CertFaults.{fault_row as cert_row}
use Rattle.tx_script.specs.declared.script_word.ScriptWord.{ScriptWord}
use Rattle.tx_script.specs.ScriptFaults.{fault_row as script_row}
use Rattle.tx_machine.specs.declared.refusal.Refusal.{Refusal}
use Rattle.tx_machine.specs.declared.cause.Cause.{Cause}
use Rattle.tx_tickets.specs.Texts.{refusal_text, cause_text}
use Rattle.tx_check.specs.declared.fault.CheckFault.{CheckFault}
use Rattle.tx_check.specs.Verdicts.{fault_words}
use Rattle.tx_rank.specs.declared.finding.Finding.{Finding}
use Rattle.tx_rank.specs.Report.{finding_line}
use Rattle.tx_mend.specs.declared.cause.Unserved.{Unserved}
use Rattle.tx_mend.specs.MendText.{pair_line, unserved_line}
use Rattle.tx_order.specs.declared.done.DoneWord.{DoneWord}
use Rattle.tx_order.specs.DoneText.{fault_row as done_row}
use Rattle.tx_risk.specs.declared.fault.RiskWord.{RiskWord}
use Rattle.tx_risk.specs.RiskFaults.{fault_row as risk_row}
use Rattle.tx_commands.specs.Entries.{table, entries_of, is_known}

-- the code of an entry asks for that entry alone: no other has it as its code or its name
abbrev pub CodesAreDistinct : Type 0
CodesAreDistinct = map (λ t. entries_of t.0) table ≡ map (λ t. t ∷ []) table

-- the table has one entry for the code, by this name
abbrev pub IsExplained : List ℕ × List ℕ → Type 0
IsExplained row = map (λ t. (t.0, t.1)) (entries_of row.0) ≡ row ∷ []

-- a line begins with a code of the table and its name
pub record BeginsExplained (line : List ℕ) : Type 0 where
  pub row : List ℕ × List ℕ
  pub rest : List ℕ
  pub explained : IsExplained row
  pub begins : line ≡ row.0 ++ (codes " " ++ (row.1 ++ (codes " " ++ rest)))

-- each fault of a plan has its entry
abbrev pub PlanFaultsAreExplained : Type 0
PlanFaultsAreExplained = (kind : FaultKind PlanWord) → IsExplained (plan_row kind)

-- each warning has its entry
abbrev pub WarningsAreExplained : Type 0
WarningsAreExplained = (warning : Warning) → IsExplained (warning_row warning)

-- each fault of a certificate has its entry
abbrev pub CertFaultsAreExplained : Type 0
CertFaultsAreExplained = (kind : FaultKind CertWord) → IsExplained (cert_row kind)

-- a source that failed is no fault of a script
abbrev pub ScriptFaultsAreExplained : Type 0
ScriptFaultsAreExplained =
    (kind : FaultKind ScriptWord) → kind ≢ Frame Read → IsExplained (script_row kind)

-- each fault of a text of risks has its entry
abbrev pub RiskFaultsAreExplained : Type 0
RiskFaultsAreExplained = (kind : FaultKind RiskWord) → IsExplained (risk_row kind)

-- each fault of a text of what is done has its entry
abbrev pub DoneFaultsAreExplained : Type 0
DoneFaultsAreExplained = (kind : FaultKind DoneWord) → IsExplained (done_row kind)

-- each refusal of an event is known
abbrev pub RefusalsAreExplained : Type 0
RefusalsAreExplained = (refusal : Refusal) → is_known (refusal_text refusal) ≡ true

-- why a call ended: also each service code
abbrev pub CausesAreExplained : Type 0
CausesAreExplained = (cause : Cause) → is_known (cause_text cause) ≡ true

-- the first word of what is wrong
abbrev pub CheckFaultsAreExplained : Type 0
CheckFaultsAreExplained = (p : Plan) (fault : CheckFault)
    → (code : List ℕ) × (rest : List (List ℕ)) × (is_known code ≡ true)
    × (fault_words p fault ≡ code ∷ rest)

-- each line of a finding begins with the code and the name of an entry
abbrev pub FindingsAreExplained : Type 0 → Type 0
FindingsAreExplained A = (p : Plan) (finding : Finding A) → BeginsExplained (finding_line p finding)

-- what the report of a mending names after a NO: the ambiguous pair, and whom no lists can serve
pub record MendingsAreExplained : Type 0 where
  pub pair : (p : Plan) (q : ℕ × ℕ) → BeginsExplained (pair_line p (Some q))
  pub unserved : (p : Plan) (u : Unserved) → BeginsExplained (unserved_line p u)
