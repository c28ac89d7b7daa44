-- Codes that are not admitted while a plan is changed.
use Rattle.std.specs.Prelude.{◌≡◌, ◌≢◌, ℕ, ◌<◌, ◌≤◌, true, [], Some, length}
use Rattle.tx_plan.specs.Plan.{Plan, home_of}
use Rattle.tx_plan.specs.Rules.{IsPlan}
use Rattle.tx_plan.specs.Codes.{code_of}
use Rattle.tx_plan.specs.Routes.{is_barred}
use Rattle.tx_plan.specs.Mixtures.{SameNetwork}
use Rattle.tx_plan.specs.Among.{Among}
use Rattle.tx_machine.specs.Call.{Call, circuit_called}
use Rattle.tx_machine.specs.State.{State}
use Rattle.tx_machine.specs.ChangingRuns.{AtEachTurn}
use Rattle.tx_join.specs.Laws.{OfJoined}

-- each exchange but the home is barred for the code
abbrev pub IsClosed : Plan → ℕ → Type 0
IsClosed p code =
    (x : ℕ) → x < length p.exchanges → home_of p code ≢ x → is_barred p x code ≡ true

-- the call has gone over no circuit, and has seized none
pub record HasNotLeft (c : Call) : Type 0 where
  pub hops : c.hops ≡ []
  pub seized : circuit_called c.phase ≡ []

-- no open call for the code has left the exchange where it started
abbrev pub NoneHasLeft : Plan → ℕ → State → Type 0
NoneHasLeft p code s =
    (c : Call) → Among c s.calls → code_of p c.keyed ≡ Some code → HasNotLeft c

-- Where both plans have closed a code, no call for it leaves the exchange where it started, under
-- every event list, whichever mixture is in force at each event.
abbrev pub ClosedCodesStay : Type 0
ClosedCodesStay = (old new : Plan) (code : ℕ) → IsPlan old → IsPlan new → SameNetwork old new
    → IsClosed old code → IsClosed new code
    → AtEachTurn old new (λ m. NoneHasLeft old code m.moment.after)

-- so it is of the codes that the new plan alone has, over the joined network
abbrev pub NewCodesStay : Type 0
NewCodesStay = OfJoined (λ old new before after. (code : ℕ) → length old.codes ≤ code
    → code < length before.codes
    → AtEachTurn before after (λ m. NoneHasLeft before code m.moment.after))
