use Rattle.tx_engine.proofs.Common.{◌≡◌, ◌≤◌, drop, calls_in, IsLosing, IsSound, state_of}
use Rattle.tx_engine.proofs.Users.{AreLeft}
use Rattle.tx_engine.proofs.engine.EngineState.lose.Given as goal

abbrev pub invariant-loop-number : goal.invariant-loop-number
invariant-loop-number g l =
    record {
      sound : IsSound l.self;
      plan : l.self.plan.now ≡ l.fn.self.plan.now;
      events : l.self.events ≡ l.fn.self.events;
      failed : (state_of l.self).failed ≡ (state_of l.fn.self).failed;
      losing : IsLosing l.fn.self.plan.now l.fn.group (state_of l.fn.self) (state_of l.self) l.lost;
      left : AreLeft l.fn.group (calls_in l.fn.self.calls) (calls_in l.self.calls) (drop l.number-index l.numbers);
      few : l.lost ≤ l.number-index;
    }
