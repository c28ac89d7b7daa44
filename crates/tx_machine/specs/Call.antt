-- Open calls.
use Rattle.std.specs.Prelude.{ℕ, Bool, true, false, ◌==◌, List, [], ◌∷◌, find, Option}
use Rattle.tx_plan.specs.Plan.{Plan, home_of}
use Rattle.tx_plan.specs.declared.ids.Circuit.{Circuit}
use Rattle.tx_plan.specs.declared.ids.Line.{Line}
use Rattle.tx_machine.specs.declared.open_call.Hop.{Hop}
pub use Rattle.tx_machine.specs.declared.open_call.Phase.{Phase}
pub use Rattle.tx_machine.specs.declared.open_call.Phase.TheVariants.{Standing, Calling, Connected}

-- An open call: its number, the line that calls, the figures that were keyed and the event by which
-- they were, the hops so far, its phase, and whether a head-on collision threw it back to the
-- exchange where it stands.
pub record Call : Type 0 where
  pub number : ℕ
  pub line : Line
  pub keyed : List ℕ
  pub keyed_at : ℕ
  pub hops : List Hop
  pub phase : Phase
  pub collided : Bool

-- the open call of a number
abbrev pub call_of : ℕ → List Call → Option Call
call_of n calls = find (λ c. c.number == n) calls

-- the call has the number
abbrev pub is_numbered : ℕ → Call → Bool
is_numbered n c = c.number == n

-- the phase is that of a call that waits to be routed
abbrev pub is_standing : Phase → Bool
is_standing Standing = true
is_standing (Calling x) = false
is_standing (Connected l) = false

-- the phase is that of a call that has seized a circuit and waits for its confirmation
abbrev pub is_calling : Phase → Bool
is_calling Standing = false
is_calling (Calling x) = true
is_calling (Connected l) = false

-- the phase is that of a call that is connected to a line
abbrev pub is_connected : Phase → Bool
is_connected Standing = false
is_connected (Calling x) = false
is_connected (Connected l) = true

-- the circuit that a call in this phase has seized
abbrev pub circuit_called : Phase → List Circuit
circuit_called Standing = []
circuit_called (Calling x) = x ∷ []
circuit_called (Connected l) = []

-- the line that a call in this phase is connected to
abbrev pub lines_called : Phase → List Line
lines_called Standing = []
lines_called (Calling x) = []
lines_called (Connected l) = l ∷ []

-- the exchange that the hops lead to from the start
abbrev pub last_exchange : ℕ → List Hop → ℕ
last_exchange start [] = start
last_exchange start (h ∷ hops) = last_exchange h.far hops

-- a call starts at the home of the code of its line
abbrev pub start_of : Plan → Call → ℕ
start_of p c = home_of p c.line.code

-- it stands at the far exchange of its last hop, or where it started
abbrev pub exchange_of : Plan → Call → ℕ
exchange_of p c = last_exchange (start_of p c) c.hops

-- it has gone over no circuit
abbrev pub is_first : List Hop → Bool
is_first [] = true
is_first (h ∷ hops) = false
