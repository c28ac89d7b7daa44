-- What a run shows that breaks what a sound plan keeps.
use Rattle.std.specs.Prelude.{◌≡◌, ℕ, ◌<◌, ◌==◌, List, length}
use Rattle.tx_plan.specs.Plan.{Plan}
use Rattle.tx_plan.specs.Among.{Among}
use Rattle.tx_machine.specs.declared.event.Event.{Event}
use Rattle.tx_machine.specs.declared.reply.Reply.TheVariants.{Answered}
use Rattle.tx_machine.specs.declared.cause.Service.TheVariants.{Nc}
use Rattle.tx_machine.specs.Call.{Call}
use Rattle.tx_machine.specs.State.{State, opening}
use Rattle.tx_machine.specs.Members.{NoneTwice}
use Rattle.tx_machine.specs.Runs.{Moment, run, state_after}
use Rattle.tx_machine.specs.Passed.{passed, transits}
use Rattle.tx_machine.specs.Excused.{IsExcused}
use Rattle.tx_machine.specs.Sound.{IsSound}
use Rattle.tx_machine.specs.Unrefused.{NoneRefused}
use Rattle.tx_rank.specs.declared.finding.Finding.{Finding}
use Rattle.tx_rank.specs.declared.finding.Finding.TheVariants.{Ambiguous, Loop, Short, Long}

-- an open call has passed an exchange twice
pub record PassesTwice (p : Plan) (s : State) : Type 0 where
  pub call : Call
  pub open' : Among call s.calls
  pub twice : NoneTwice (λ x y. x == y) (passed p call) → ⊥

-- an open call has more than so many transits
pub record PassesMany (p : Plan) (limit : ℕ) (s : State) : Type 0 where
  pub call : Call
  pub open' : Among call s.calls
  pub many : limit < length (transits p call)

-- an event of the run is answered NC, and that is not excused
pub record AnswersBare (p : Plan) (spare : ℕ) (s : State) (events : List Event) : Type 0 where
  pub moment : Moment
  pub comes : Among moment (run p s events)
  pub reply : moment.reply ≡ Answered Nc
  pub bare : IsExcused p spare moment.before moment.event moment.reply → ⊥

-- what the run from the opening state breaks, by the kind of the finding: nothing follows from an
-- ambiguous pair
abbrev pub Breaks : {A : Type 0} → Plan → ℕ → ℕ → Finding A → List Event → Type 0
Breaks p limit spare (Ambiguous a b) events = ⊥
Breaks p limit spare (Loop c w) events = PassesTwice p (state_after p (opening 0 0) events)
Breaks p limit spare (Short c w) events = AnswersBare p spare (opening 0 0) events
Breaks p limit spare (Long c w) events = PassesMany p limit (state_after p (opening 0 0) events)

-- The events show the finding: none of them is refused, and their run is not that of a sound plan.
pub record Shows {A : Type 0} (p : Plan) (limit spare : ℕ)
    (finding : Finding A) (events : List Event) : Type 0 where
  pub unrefused : NoneRefused p (opening 0 0) events
  pub breaks : Breaks p limit spare finding events
  pub unsound : IsSound p limit spare → ⊥

-- they show one of some findings
pub record ShowsOne {A : Type 0} (p : Plan) (limit spare : ℕ)
    (findings : List (Finding A)) (events : List Event) : Type 0 where
  pub finding : Finding A
  pub listed : Among finding findings
  pub shows : Shows p limit spare finding events
