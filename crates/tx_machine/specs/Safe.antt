-- Safe states.
use Rattle.std.specs.Prelude.{◌≡◌, ℕ, ◌≤◌, true, ◌==◌, length, Some}
use Rattle.std.specs.List.{flat_map, AllByRecursion}
use Rattle.tx_plan.specs.Certified.{Ranks}
use Rattle.tx_plan.specs.Orders.{same_circuit, same_line}
use Rattle.tx_plan.specs.Plan.{Plan, home_of}
use Rattle.tx_plan.specs.Lines.{is_line, full_number}
use Rattle.tx_plan.specs.Codes.{code_of}
use Rattle.tx_plan.specs.declared.ids.Line.{Line}
use Rattle.tx_machine.specs.Members.{NoneTwice}
use Rattle.tx_machine.specs.Call.{Call, Phase, Standing, Calling, Connected, start_of, exchange_of}
use Rattle.tx_machine.specs.State.{State}
use Rattle.tx_machine.specs.InUse.{circuits_carried}
use Rattle.tx_machine.specs.Lines.{lines_of}
use Rattle.tx_machine.specs.Passed.{Joins, Falls, passed, transits}

-- the line of the plan whose full number was keyed, and the call stands at its home
pub record IsKeyedLine (p : Plan) (c : Call) (l : Line) : Type 0 where
  pub known : is_line p l ≡ true
  pub at_home : exchange_of p c ≡ home_of p l.code
  pub keyed : full_number p l ≡ c.keyed

-- no other line of the plan has the full number that was keyed
abbrev pub IsOnlyLine : Plan → Call → Line → Type 0
IsOnlyLine p c l = (m : Line) → is_line p m ≡ true → full_number p m ≡ c.keyed → m ≡ l

-- it holds of the line that a call in this phase is connected to
abbrev pub OfConnected : Phase → (Line → Type 0) → Type 0
OfConnected Standing Holds = Unit {0}
OfConnected (Calling x) Holds = Unit {0}
OfConnected (Connected l) Holds = Holds l

-- each hop's circuit is one of the plan and joins the exchange before it to the one after it, and
-- no circuit is carried twice, by one call or by two
pub record JoinsAndCarriesOnce (p : Plan) (s : State) : Type 0 where
  pub joined : AllByRecursion (λ c. Joins p (start_of p c) c.hops) s.calls
  pub once : NoneTwice same_circuit (flat_map circuits_carried s.calls)

-- No line takes part twice, as the line that calls or as the one that a call is connected to, in
-- one call or in two. A connected call stands at the home of the code of the line, and the full
-- number of that line is the keyed text.
pub record TakesPartOnce (p : Plan) (s : State) : Type 0 where
  pub once : NoneTwice same_line (flat_map lines_of s.calls)
  pub keyed : AllByRecursion (λ c. OfConnected c.phase (IsKeyedLine p c)) s.calls

-- ranks for the code of a call fall along its hops, it passes no exchange twice and at most limit
-- transits, and it is connected to the only line of its number
pub record FallsInRank (p : Plan) (ranks : Ranks) (limit : ℕ) (c : Call) : Type 0 where
  pub falls : (code : ℕ) → code_of p c.keyed ≡ Some code → Falls (ranks code) (start_of p c) c.hops
  pub once : NoneTwice (λ x y. x == y) (passed p c)
  pub few : length (transits p c) ≤ limit
  pub only : OfConnected c.phase (IsOnlyLine p c)

-- ranks fall for every open call
abbrev pub RanksFall : Plan → Ranks → ℕ → State → Type 0
RanksFall p ranks limit s = AllByRecursion (FallsInRank p ranks limit) s.calls

-- each hop's circuit is one of the plan and joins the exchange before it to the one after it, no
-- exchange is passed twice, there are at most limit transits, and a connected call stands at the
-- home of the one line of the plan whose full number was keyed
pub record IsSafeCall (p : Plan) (limit : ℕ) (c : Call) : Type 0 where
  pub joined : Joins p (start_of p c) c.hops
  pub once : NoneTwice (λ x y. x == y) (passed p c)
  pub few : length (transits p c) ≤ limit
  pub right : OfConnected c.phase (λ l. IsKeyedLine p c l × IsOnlyLine p c l)

-- A state is safe: each call is, no circuit is carried twice, and no line takes part twice, in one
-- call or in two.
pub record IsSafe (p : Plan) (limit : ℕ) (s : State) : Type 0 where
  pub calls : AllByRecursion (IsSafeCall p limit) s.calls
  pub circuits : NoneTwice same_circuit (flat_map circuits_carried s.calls)
  pub lines : NoneTwice same_line (flat_map lines_of s.calls)
