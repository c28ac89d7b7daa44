-- Confirm: a seized circuit is confirmed, or two calls meet on it head on.
use Rattle.std.specs.Prelude.{ℕ, Bool, true, false, not, ◌&&◌, ◌||◌, ◌==◌, if◌then◌else◌, [], ◌∷◌, ◌++◌, map, find, Option, Some, None, unwrap_or}
use Rattle.std.specs.FinSet as set
use Rattle.tx_plan.specs.Plan.{Plan}
use Rattle.tx_plan.specs.Circuits.{other_end}
use Rattle.tx_plan.specs.declared.ids.Circuit.{Circuit}
use Rattle.tx_machine.specs.declared.cause.Cause.TheVariants.{Service as ByService}
use Rattle.tx_machine.specs.declared.refusal.Refusal.TheVariants.{NotCalling}
use Rattle.tx_machine.specs.declared.reply.Reply.{Reply}
use Rattle.tx_machine.specs.declared.reply.Reply.TheVariants.{At, HeadOn, Refused}
use Rattle.tx_machine.specs.declared.cause.Service.TheVariants.{Nc}
use Rattle.tx_machine.specs.Call.{Call, Phase, Standing, Calling, Connected, exchange_of, is_numbered}
use Rattle.tx_machine.specs.State.{State}
use Rattle.tx_machine.specs.InUse.{seizes_from}
use Rattle.tx_machine.specs.Ending.{end_calls}
use Rattle.tx_machine.specs.Routing.{set_call}

-- the exchange that a circuit leads to from where the call stands
abbrev pub far_of : Plan → Call → Circuit → ℕ
far_of p c x = unwrap_or (other_end p x.group (exchange_of p c)) 0

-- the call goes on over the circuit, and stands at its far exchange without collisions there
abbrev pub carried_on : Circuit → ℕ → Call → Call
carried_on x far c = record c {
  hops = c.hops ++ record { circuit = x; far = far } ∷ [];
  phase = Standing;
  collided = false;
}

-- the call loses its circuit by a collision, and stands where it stood
abbrev pub thrown_back : Call → Call
thrown_back c = record c { phase = Standing; collided = true }

-- both calls lose the circuit, which is releasing
abbrev pub collide : ℕ → ℕ → Circuit → State → State
collide m n x s =
    record s {
      calls = map (λ k. if is_numbered m k || is_numbered n k then thrown_back k else k) s.calls;
      releasing = set.insert s.releasing x;
    }

-- of two calls that collide, those that had collided before at the exchanges where they stand
abbrev pub second_time : Call → Call → Call → Bool
second_time c d k = (is_numbered c.number k && c.collided) || (is_numbered d.number k && d.collided)

-- The call goes on if no other call has seized the circuit from its other end. Else both lose it:
-- one for which it is the second collision at its exchange ends with NC, one for which it is the
-- first stands again.
abbrev pub confirmed_by : Plan → State → Call → Circuit → Option Call → Reply × State
confirmed_by p s c x None = (
  At (far_of p c x),
  record s
      { calls = set_call c.number (carried_on x (far_of p c x)) s.calls },
)
confirmed_by p s c x (Some d) = (
  HeadOn c.number d.number (not c.collided) (not d.collided),
  end_calls p (ByService Nc) (second_time c d) (collide c.number d.number x s),
)

-- another call that has seized the circuit from its other end
abbrev pub rival : Plan → State → Call → Circuit → Option Call
rival p s c x = find (λ d. not (d.number == c.number) && seizes_from p d x (far_of p c x)) s.calls

-- a call is confirmed that has seized a circuit
abbrev pub confirmed : Plan → State → Call → Phase → Reply × State
confirmed p s c Standing = (Refused NotCalling, s)
confirmed p s c (Calling x) = confirmed_by p s c x (rival p s c x)
confirmed p s c (Connected l) = (Refused NotCalling, s)
