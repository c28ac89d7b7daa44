-- What is found in a plan's text: its faults, or if it has none its warnings.
use Rattle.std.specs.Prelude.{◌≡◌, ◌≢◌, ℕ, List, [], ◌∷◌, map}
use Rattle.std.specs.List.{flat_map}
use Rattle.std.specs.Option.{option_map}
use Rattle.tx_plan.specs.Plan.{Plan}
use Rattle.tx_risk.specs.NamedRisks.{NamedRisk}
use Rattle.tx_lint.specs.declared.fault.Fault.{Fault as FaultHeld}
use Rattle.tx_lint.specs.declared.warning.Warning.{Warning}
use Rattle.tx_lint.specs.declared.entry.Entry.{Entry}
use Rattle.tx_lint.specs.declared.linting.Look.{Look}
use Rattle.tx_lint.specs.declared.linting.Look.TheVariants.{Faults as HeldFaultsOf, Right}
use Rattle.tx_lint.specs.declared.linting.Lint.{Lint as LintHeld}
use Rattle.tx_lint.specs.declared.linting.Lint.TheVariants.{Faults as HeldFaults, Warnings as HeldWarnings}
use Rattle.tx_lint.specs.declared.gathering.Told.{Told as ToldHeld}
use Rattle.tx_lint.specs.AllFaults.{Fault, Progress, faults_of, progress_of}
use Rattle.tx_lint.specs.Gathered.{Told, told_of}
use Rattle.tx_lint.specs.Warnings.{Coming, TellsWhereCallsCome, warnings}
use Rattle.tx_lint.specs.LintText.{fault_line, warning_line}

-- what is told of a text that is refused, or the plan of one that is right, with its warnings
pub data Lint : Type 0 where
  Faults : List Told → Lint
  Warnings : Plan → List NamedRisk → List (ℕ × Warning) → Lint

-- the warnings of a plan with these entries, for which there is but one answer to where calls come
abbrev pub AreWarningsOf : Plan → List (ℕ × Entry) → List NamedRisk → Lint → Type 0
AreWarningsOf p entries risks l = (comes : Coming) × TellsWhereCallsCome p comes
    × (l ≡ Warnings p risks (warnings p risks comes entries))

-- of a text with these faults, of which this was read: where it has no faults its warnings
abbrev pub IsLintBy : List Fault → Progress → List NamedRisk → Lint → Type 0
IsLintBy [] s risks l = AreWarningsOf s.plan s.entries risks l
IsLintBy (f ∷ fs) s risks l = l ≡ Faults (told_of (f ∷ fs))

-- The lint of a text, with these risks
abbrev pub IsLintOf : (text : List ℕ) → List NamedRisk → Lint → Type 0
IsLintOf text risks l = IsLintBy (faults_of text) (progress_of text) risks l

-- a fault, with the words that it borrows
abbrev pub fault_held : FaultHeld → Fault
fault_held f = record {
  line = f.line;
  kind = f.kind;
  word = option_map (λ w. w.now) f.word;
  meant = option_map (λ w. w.now) f.meant;
}

-- a fault that is told
abbrev pub told_held : ToldHeld → Told
told_held t = record { fault = fault_held t.fault; needing = t.needing }

-- a text was looked through that has these faults, and of which this was read
abbrev pub IsLookBy : {A : Type 0} → List Fault → Progress → Look A → Type 0
IsLookBy faults s (HeldFaultsOf ts) = (map told_held ts.items ≡ told_of faults) × (faults ≢ [])
IsLookBy faults s (Right t) = (faults ≡ []) × (t ≡ (s.plan, s.entries))

-- The text was looked through
abbrev pub IsLookOf : {A : Type 0} → (text : List ℕ) → Look A → Type 0
IsLookOf text look = IsLookBy (faults_of text) (progress_of text) look

-- What is written: a line for each fault or each warning
abbrev pub lint_text : (file : List ℕ) → Lint → List ℕ
lint_text file (Faults ts) = flat_map (fault_line file) ts
lint_text file (Warnings p risks ws) = flat_map (warning_line file p risks) ws

-- The status: 0 without any line, 1 with warnings, 2 with faults
abbrev pub warnings_status : List (ℕ × Warning) → ℕ
warnings_status [] = 0
warnings_status (w ∷ ws) = 1

-- the exit status
abbrev pub lint_status : Lint → ℕ
lint_status (Faults ts) = 2
lint_status (Warnings p risks ws) = warnings_status ws

-- the faults or warnings, as they are held
abbrev pub lint_held : {A : Type 0} → LintHeld A → Lint
lint_held (HeldFaults ts) = Faults (map told_held ts.items)
lint_held (HeldWarnings p risks ws) = Warnings p risks ws.items
