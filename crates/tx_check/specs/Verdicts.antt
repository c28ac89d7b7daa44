-- Verdicts as they are written.
use Rattle.std.specs.Prelude.{ℕ, List, [], ◌∷◌, codes}
use Rattle.tx_text.specs.Written.{line_written}
use Rattle.tx_plan.specs.Plan.{Plan, figures_of, exchange_name, group_name}
use Rattle.tx_check.specs.declared.fault.CheckFault.{CheckFault}
use Rattle.tx_check.specs.declared.fault.CheckFault.TheVariants.{Ambiguous, HomeNotZero, OriginUnranked, TooHigh, Short, TargetUnranked, NotLower}
use Rattle.tx_check.specs.declared.verdict.Verdict.{Verdict}
use Rattle.tx_check.specs.declared.verdict.Verdict.TheVariants.{Yes, No}

-- the number of a fault, and its names
abbrev pub fault_words : Plan → CheckFault → List (List ℕ)
fault_words p (Ambiguous a b) = codes "K1" ∷ figures_of p a ∷ figures_of p b ∷ []
fault_words p (HomeNotZero c) = codes "K2" ∷ figures_of p c ∷ []
fault_words p (OriginUnranked c x) = codes "K3" ∷ figures_of p c ∷ exchange_name p x ∷ []
fault_words p (TooHigh c x) = codes "K4" ∷ figures_of p c ∷ exchange_name p x ∷ []
fault_words p (Short c x) = codes "K5" ∷ figures_of p c ∷ exchange_name p x ∷ []
fault_words p (TargetUnranked c x g) =
    codes "K6"
    ∷ figures_of p c
    ∷ exchange_name p x
    ∷ group_name p g ∷ []
fault_words p (NotLower c x g) =
    codes "K7"
    ∷ figures_of p c
    ∷ exchange_name p x
    ∷ group_name p g ∷ []

-- the words of a verdict: YES, or NO with the fault
abbrev pub verdict_words : Plan → Verdict → List (List ℕ)
verdict_words p Yes = codes "YES" ∷ []
verdict_words p (No fault) = codes "NO" ∷ fault_words p fault

-- one line
abbrev pub verdict_written : Plan → Verdict → List ℕ
verdict_written p v = line_written (verdict_words p v)
