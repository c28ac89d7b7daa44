-- Each code that is printed is in the table.
use Rattle.tx_requests.proofs.Common.{arith, ℕ, Some, codes, refl, Plan}
use Rattle.tx_lint.specs.declared.warning.Warning.TheVariants as warning
use Rattle.tx_check.specs.declared.fault.CheckFault.TheVariants as fault
use Rattle.tx_rank.specs.declared.finding.Finding.TheVariants as finding
use Rattle.tx_mend.specs.declared.cause.Unserved.{Unserved}
use Rattle.tx_mend.specs.MendText.{pair_line, unserved_line}
use Rattle.tx_commands.specs.Entries.{table}
use Rattle.tx_requests.specs.Explained.{CodesAreDistinct, BeginsExplained, PlanFaultsAreExplained, WarningsAreExplained, CertFaultsAreExplained, ScriptFaultsAreExplained, RiskFaultsAreExplained, DoneFaultsAreExplained, RefusalsAreExplained, CausesAreExplained, CheckFaultsAreExplained, FindingsAreExplained, MendingsAreExplained}

pub once : CodesAreDistinct
unfolding table
once = refl

pub plans : PlanFaultsAreExplained
unfolding table
plans kind = grind arith

pub warnings : WarningsAreExplained
unfolding table
warnings warning.NothingToJudge = refl
warnings (warning.NoLines c n) = refl
warnings (warning.UnusedGroup g) = refl
warnings (warning.UnusedList c n) = refl
warnings (warning.NoList c) = refl
warnings warning.UnusedBar = refl
warnings (warning.Ambiguous c) = refl
warnings (warning.SharedRisk k) = refl
warnings (warning.Unlisted c) = refl
warnings (warning.NoGroup x) = refl

pub certificates : CertFaultsAreExplained
unfolding table
certificates kind = grind arith

pub scripts : ScriptFaultsAreExplained
unfolding table
scripts kind other = grind arith

pub risks : RiskFaultsAreExplained
unfolding table
risks kind = grind arith

pub dones : DoneFaultsAreExplained
unfolding table
dones kind = grind arith

pub refusals : RefusalsAreExplained
unfolding table
refusals refusal = grind arith

pub causes : CausesAreExplained
unfolding table
causes cause = grind arith

pub checks : CheckFaultsAreExplained
unfolding table
checks p (fault.Ambiguous a b) = (_, _, refl, refl)
checks p (fault.HomeNotZero c) = (_, _, refl, refl)
checks p (fault.OriginUnranked c x) = (_, _, refl, refl)
checks p (fault.TooHigh c x) = (_, _, refl, refl)
checks p (fault.Short c x) = (_, _, refl, refl)
checks p (fault.TargetUnranked c x g) = (_, _, refl, refl)
checks p (fault.NotLower c x g) = (_, _, refl, refl)

pub findings : (A : Type 0) → FindingsAreExplained A
unfolding table
findings A p (finding.Ambiguous a b) = record { row = (codes "F1", codes "AMBIGUOUS"); rest = _; explained = refl; begins = refl }
findings A p (finding.Loop code w) = record { row = (codes "F2", codes "LOOP"); rest = _; explained = refl; begins = refl }
findings A p (finding.Short code w) = record { row = (codes "F3", codes "SHORT"); rest = _; explained = refl; begins = refl }
findings A p (finding.Long code w) = record { row = (codes "F4", codes "LONG"); rest = _; explained = refl; begins = refl }

pairs : (p : Plan) (q : ℕ × ℕ) → BeginsExplained (pair_line p (Some q))
unfolding table
pairs p q = record { row = (codes "F1", codes "AMBIGUOUS"); rest = _; explained = refl; begins = refl }

unserved : (p : Plan) (u : Unserved) → BeginsExplained (unserved_line p u)
unfolding table
unserved p k = record { row = (codes "F5", codes "UNSERVED"); rest = _; explained = refl; begins = refl }

pub mendings : MendingsAreExplained
mendings = record { pair = pairs; unserved = unserved }
