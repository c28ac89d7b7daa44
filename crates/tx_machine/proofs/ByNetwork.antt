-- What calls keep does not depend on routes and bars: it holds by each plan of a network if by one.
use Rattle.tx_machine.proofs.Common.{ℕ, List, subst, Ranks, Line, Call, State, IsKeyedLine, IsOnlyLine, OfConnected, IsSafeCall, IsKept, AreApart, Holds, IsRanked, SameNetwork}
use Rattle.tx_plan.specs.Plan.{Plan, Route}
use Rattle.tx_plan.specs.Mixed.{rerouted}
use Rattle.tx_plan.specs.declared.ids.Pair.{Pair}
use Rattle.tx_machine.specs.declared.open_call.Phase.{Phase}
use Rattle.tx_machine.specs.declared.open_call.Phase.TheVariants.{Standing, Calling, Connected}
use Rattle.tx_plan.proofs.Networks.{rerouted-is}

module _ (p : Plan) (routes : List Route) (bars : List Pair) where
  keyed_over : (c : Call) (l : Line) → IsKeyedLine p c l → IsKeyedLine (rerouted p routes bars) c l
  keyed_over c l k = record { known = k.known; at_home = k.at_home; keyed = k.keyed }

  kept_over : (c : Call) → IsKept p c → IsKept (rerouted p routes bars) c
  kept_over c k = record {
    known = k.known;
    joined = k.joined;
    once = k.once;
    own = k.own;
    planned = k.planned;
    calling = k.calling;
    connected = λ l e. keyed_over c l (k.connected l e);
    lines = k.lines;
  }

  apart_over : (c d : Call) → AreApart p c d → AreApart (rerouted p routes bars) c d
  apart_over c d a = record { carried = a.carried; left = a.left; right = a.right; ends = a.ends; lines = a.lines }

  holds_over : (s : State) → Holds p s → Holds (rerouted p routes bars) s
  holds_over s h = record {
    each = λ c m. kept_over c (h.each c m);
    pairs = λ c d m n ne. apart_over c d (h.pairs c d m n ne);
    idle = h.idle;
    one = h.one;
    given = h.given;
    order = h.order;
  }

  ranked_over : (ranks : Ranks) (c : Call) → IsRanked p ranks c → IsRanked (rerouted p routes bars) ranks c
  ranked_over ranks c r = record { known = r.known; unrouted = r.unrouted; falls = r.falls; calling = r.calling; collided = r.collided }

  right_over : (c : Call) (phase : Phase) → OfConnected phase (λ l. IsKeyedLine p c l × IsOnlyLine p c l) → OfConnected phase (λ l. IsKeyedLine (rerouted p routes bars) c l × IsOnlyLine (rerouted p routes bars) c l)
  right_over c Standing h = tt
  right_over c (Calling x) h = tt
  right_over c (Connected l) h = (keyed_over c l h.0, h.1)

  safe_call_over : (limit : ℕ) (c : Call) → IsSafeCall p limit c → IsSafeCall (rerouted p routes bars) limit c
  safe_call_over limit c s = record { joined = s.joined; once = s.once; few = s.few; right = right_over c c.phase s.right }

module _ (p q : Plan) (same : SameNetwork p q) where
  pub holds_by : (s : State) → Holds p s → Holds q s
  holds_by s h = subst (λ z. Holds z s) (rerouted-is p q same) (holds_over p q.routes q.bars s h)

  pub ranked_by : (ranks : Ranks) (c : Call) → IsRanked p ranks c → IsRanked q ranks c
  ranked_by ranks c h = subst (λ z. IsRanked z ranks c) (rerouted-is p q same) (ranked_over p q.routes q.bars ranks c h)

  pub safe_by : (limit : ℕ) (c : Call) → IsSafeCall p limit c → IsSafeCall q limit c
  safe_by limit c h = subst (λ z. IsSafeCall z limit c) (rerouted-is p q same) (safe_call_over p q.routes q.bars limit c h)
