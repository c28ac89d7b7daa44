-- What always holds: the invariant on which the promises of every run rest.
use Rattle.std.specs.Prelude.{◌≡◌, ◌≢◌, ℕ, suc, ◌<◌, ◌≤◌, true, List, [], ◌∷◌, Some, None}
use Rattle.std.specs.FinSet as set
use Rattle.tx_plan.specs.Certified.{Ranks}
use Rattle.tx_plan.specs.Orders.{circuit_cmp, same_circuit, same_line}
use Rattle.tx_plan.specs.Plan.{Plan}
use Rattle.tx_plan.specs.Lines.{is_line}
use Rattle.tx_plan.specs.Codes.{code_of}
use Rattle.tx_plan.specs.Circuits.{is_circuit, other_end}
use Rattle.tx_plan.specs.Among.{Among}
use Rattle.tx_plan.specs.declared.ids.Circuit.{Circuit}
use Rattle.tx_plan.specs.declared.ids.Line.{Line}
use Rattle.tx_machine.specs.Members.{NoneTwice}
use Rattle.tx_machine.specs.Call.{Call, Calling, Connected, start_of, exchange_of}
use Rattle.tx_machine.specs.State.{State}
use Rattle.tx_machine.specs.InUse.{circuits_carried}
use Rattle.tx_machine.specs.Lines.{lines_of}
use Rattle.tx_machine.specs.Confirming.{far_of}
use Rattle.tx_machine.specs.Passed.{Joins, IsLower, Falls}
use Rattle.tx_machine.specs.Safe.{IsKeyedLine}

-- Of each call alone: its line is a line of the plan; its hops join; it carries no circuit twice,
-- and none that it has seized; a circuit that it has seized is one of the plan and leads on from
-- where it stands; it is connected to the line that was keyed, and not to its own.
pub record IsKept (p : Plan) (c : Call) : Type 0 where
  pub known : is_line p c.line ≡ true
  pub joined : Joins p (start_of p c) c.hops
  pub once : NoneTwice same_circuit (circuits_carried c)
  pub own : (x : Circuit) → Among x (circuits_carried c) → c.phase ≡ Calling x → ⊥
  pub planned : (x : Circuit) → c.phase ≡ Calling x → is_circuit p x ≡ true
  pub calling : (x : Circuit) → c.phase ≡ Calling x
      → (y : ℕ) × (other_end p x.group (exchange_of p c) ≡ Some y)
  pub connected : (l : Line) → c.phase ≡ Connected l → IsKeyedLine p c l
  pub lines : NoneTwice same_line (lines_of c)

-- Of two calls: no circuit is carried by both, or carried by one and seized by the other; if both
-- have seized a circuit, they stand at its two ends;
-- no line takes part in both.
pub record AreApart (p : Plan) (c d : Call) : Type 0 where
  pub carried : (x : Circuit) → Among x (circuits_carried c) → Among x (circuits_carried d) → ⊥
  pub left : (x : Circuit) → Among x (circuits_carried c) → d.phase ≡ Calling x → ⊥
  pub right : (x : Circuit) → c.phase ≡ Calling x → Among x (circuits_carried d) → ⊥
  pub ends : (x : Circuit) → c.phase ≡ Calling x
      → d.phase ≡ Calling x → exchange_of p c ≡ exchange_of p d → ⊥
  pub lines : (l : Line) → Among l (lines_of c) → Among l (lines_of d) → ⊥

-- a call has nothing to do with a circuit: it neither carries it nor has seized it
pub record IsUnused (c : Call) (x : Circuit) : Type 0 where
  pub carried : Among x (circuits_carried c) → ⊥
  pub seized : c.phase ≡ Calling x → ⊥

-- the calls are in order of their numbers
abbrev pub IsRising : List Call → Type 0
IsRising [] = Unit {0}
IsRising (c ∷ cs) = ((d : Call) → Among d cs → c.number < d.number) × IsRising cs

-- Each call is kept so, each two of them are apart, a releasing circuit is unused by all, a number
-- has one call, no call has a number that was not given, and the calls are in order of their
-- numbers.
pub record Inv (p : Plan) (calls : List Call)
    (releasing : set.FinSet circuit_cmp) (numbers : ℕ) : Type 0 where
  pub each : (c : Call) → Among c calls → IsKept p c
  pub pairs : (c d : Call) → Among c calls → Among d calls → c.number ≢ d.number → AreApart p c d
  pub idle : (x : Circuit) → set.contains releasing x ≡ true
      → (c : Call) → Among c calls → IsUnused c x
  pub one : (c d : Call) → Among c calls → Among d calls → c.number ≡ d.number → c ≡ d
  pub given : (c : Call) → Among c calls → c.number ≤ numbers
  pub order : IsRising calls

-- of a state
abbrev pub Holds : Plan → State → Type 0
Holds p s = Inv p s.calls s.releasing s.numbers

-- Of each call: its line is a line of the plan; without a code it has gone over no circuit; with
-- one, ranks for the code fall along its hops; a circuit that it has seized leads to a lower rank;
-- and where it collided, the rank is above 0.
pub record IsRanked (p : Plan) (ranks : Ranks) (c : Call) : Type 0 where
  pub known : is_line p c.line ≡ true
  pub unrouted : code_of p c.keyed ≡ None → c.hops ≡ []
  pub falls : (code : ℕ) → code_of p c.keyed ≡ Some code → Falls (ranks code) (start_of p c) c.hops
  pub calling : (x : Circuit) → c.phase ≡ Calling x → (code : ℕ)
      × (code_of p c.keyed ≡ Some code) × IsLower (ranks code) (exchange_of p c) (far_of p c x)
  pub collided : c.collided ≡ true → (code : ℕ)
      × (code_of p c.keyed ≡ Some code) × (n : ℕ) × (ranks code (exchange_of p c) ≡ Some (suc n))
