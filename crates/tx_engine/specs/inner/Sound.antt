-- What holds of the parts of the engine together, and the state that they stand for.
use Rattle.std.specs.Prelude.{◌≡◌, ℕ, ◌+◌, ◌<◌, ◌≤◌, ◌==◌, Bool, true, List, length, Some}
use Rattle.std.specs.VecDeque.{deque_len, deque_capacity}
use Rattle.tx_plan.specs.Plan.{Plan, Code}
use Rattle.tx_plan.specs.Rules.{IsPlan}
use Rattle.tx_plan.specs.Lines.{is_line_at}
use Rattle.tx_plan.specs.Circuits.{is_circuit, ends_of}
use Rattle.tx_plan.specs.Among.{Among}
use Rattle.tx_plan.specs.declared.ids.Circuit.{Circuit}
use Rattle.tx_machine.specs.declared.open_call.Phase.TheVariants.{Calling}
use Rattle.tx_machine.specs.Call.{exchange_of, call_of}
use Rattle.tx_machine.specs.State.{State}
use Rattle.tx_machine.specs.InUse.{circuits_carried}
use Rattle.tx_lines.specs.Book.{Book, is_line_of}
use Rattle.tx_circuits.specs.Table.{Table}
use Rattle.tx_engine.specs.inner.KeptCalls.{Kept, KeptCalls, kept_at, calls_in}
use Rattle.tx_engine.specs.inner.Keys.{HasKeys, keys_of, pick}
use Rattle.tx_engine.specs.declared.circuit_keys.EndKeys.{EndKeys}
use Rattle.tx_engine.specs.inner.Seen.{state_seen, AreTogether}
use Rattle.tx_engine.specs.declared.engine.EngineState.{EngineState}

-- the exchange is the first end of the circuit's group
abbrev pub is_first_end : Plan → Circuit → ℕ → Bool
is_first_end p x exchange = (ends_of p x.group).0 == exchange

-- the keys by circuit lead to the calls that seize or carry it
pub record AreKeyed (p : Plan) (c : KeptCalls) (ks : List (List EndKeys)) : Type 0 where
  pub all : (x : Circuit) → is_circuit p x ≡ true → HasKeys ks x
  pub seizers : (key : ℕ) (e : Kept) → kept_at c key ≡ Some e → (x : Circuit)
      → e.call.phase ≡ Calling x
      → pick (is_first_end p x (exchange_of p e.call)) (keys_of ks x) ≡ key
  pub carriers : (key : ℕ) (e : Kept) → kept_at c key ≡ Some e → (x : Circuit)
      → Among x (circuits_carried e.call) → (first : Bool) → pick first (keys_of ks x) ≡ key

-- a call that has seized a circuit has room for a hop
abbrev pub HasHopRoom : KeptCalls → Type 0
HasHopRoom c = (key : ℕ) (e : Kept) → kept_at c key ≡ Some e
    → (x : Circuit) → e.call.phase ≡ Calling x → 0 < e.room

-- The rules of the plan; its codes and lines; the circuits and lines that the calls hold, with what
-- always holds of the calls; the keys by circuit;
-- room for the hop of a call that has seized a circuit; room for a ticket of each open call.
pub record AreSound (p : Plan) (codes : List Code) (c : KeptCalls)
    (ks : List (List EndKeys)) (b : Book) (t : Table) (numbers made room : ℕ) : Type 0 where
  pub rules : IsPlan p
  pub codes_are : codes ≡ p.codes
  pub lines : (code : ℕ) (number : List ℕ)
      → is_line_of b.ranges code number ≡ is_line_at p code number
  pub together : AreTogether p (calls_in c) t b numbers
  pub keyed : AreKeyed p c ks
  pub hop_room : HasHopRoom c
  pub ticket_room : made + length (calls_in c) ≤ room

module _ {A : Type 0} where
  -- the parts are sound
  abbrev pub IsSound : EngineState A → Type 0
  IsSound n = AreSound n.plan.now n.codes n.calls n.keys n.lines n.circuits n.numbers
      (deque_len n.tickets) (deque_capacity n.tickets)

  -- there is room for the tickets of the open calls and of one more
  abbrev pub HasTicketRoom : EngineState A → Type 0
  HasTicketRoom n = deque_len n.tickets + (length (calls_in n.calls) + 1) ≤ deque_capacity n.tickets

  -- the state that the parts stand for
  abbrev pub state_of : EngineState A → State
  state_of n = state_seen (calls_in n.calls) n.circuits n.lines n.numbers n.events n.tickets.items

-- the open call of a number is kept under a key
pub record IsUnder (c : KeptCalls) (number key : ℕ) (k : Kept) : Type 0 where
  pub kept : kept_at c key ≡ Some k
  pub open' : call_of number (calls_in c) ≡ Some k.call
  pub named : k.call.number ≡ number
