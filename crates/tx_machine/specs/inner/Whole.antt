-- What the fields of the plain network mean, and what they keep.
use Rattle.std.specs.Prelude.{◌≡◌, ℕ, ◌+◌, ◌≤◌, List, map, length, Vec, vec_len, vec_capacity}
use Rattle.std.specs.FinSet as set
use Rattle.tx_plan.specs.Plan.{Plan}
use Rattle.tx_plan.specs.Rules.{IsPlan}
use Rattle.tx_plan.specs.Among.{Among}
use Rattle.tx_plan.specs.declared.ids.Line.{Line}
use Rattle.tx_machine.specs.Call.{Call}
use Rattle.tx_machine.specs.Ended.{Ended}
use Rattle.tx_machine.specs.State.{Net}
use Rattle.tx_machine.specs.InUse.{circuits_used}
use Rattle.tx_machine.specs.inner.Marked.{AreFor}
use Rattle.tx_machine.specs.declared.plain.marks.Marks.{Marks}
use Rattle.tx_machine.specs.Seen.{call_seen}
use Rattle.tx_machine.specs.inner.Seen.{HasRoom}
use Rattle.tx_machine.specs.inner.GivenUp.{AreMarked}
use Rattle.tx_machine.specs.declared.open_call.OpenCall.{OpenCall}

-- what holds of the calls: their circuits have marks, each has a number of its own, and its number
-- was given
pub record AreHeld (groups numbers : ℕ) (calls : List Call) : Type 0 where
  pub marked : (c : Call) → Among c calls → AreMarked groups (circuits_used c)
  pub one : (c d : Call) → Among c calls → Among d calls → c.number ≡ d.number → c ≡ d
  pub given : (c : Call) → Among c calls → c.number ≤ numbers

-- What the fields keep: the rules of the plan; room for a ticket of each open call; what holds of
-- the calls; room for the hop of a call that has seized a circuit; marks for all groups of the
-- plan.
pub record IsWhole {A : Type 0} (p : Plan) (calls : Vec (OpenCall A) A)
    (tickets : Vec Ended A) (marks : Marks A) (numbers : ℕ) : Type 0 where
  pub rules : IsPlan p
  pub room : vec_len tickets + vec_len calls ≤ vec_capacity tickets
  pub held : AreHeld (length p.groups) numbers (map call_seen calls.items)
  pub hops : (c : OpenCall A) → Among c calls.items → HasRoom c
  pub marks_all : AreFor (length p.groups) marks

-- the network that the fields stand for
abbrev pub net_of : {A : Type 0} → Plan → List (OpenCall A)
    → Marks A → List Line → List Line → ℕ → ℕ → List Ended → Net
net_of p calls marks faulty away numbers events tickets =
    record {
      plan = p;
      state = record {
        calls = map call_seen calls;
        failed = marks.failed.marked;
        blocked = marks.blocked.marked;
        releasing = marks.releasing.marked;
        out = marks.out.marked;
        faulty = set.from_list faulty;
        away = set.from_list away;
        numbers = numbers;
        events = events;
        tickets = tickets;
      };
    }
