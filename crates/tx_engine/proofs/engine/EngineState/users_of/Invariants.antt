use Rattle.std.proofs.Common.{◌*◌, ◌≤◌}
use Rattle.arrayvec.specs.ArrayVec.{array_vec_len}
use Rattle.tx_engine.proofs.Common.{calls_in, AreNumbersOf, uses_up_to}
use Rattle.tx_engine.proofs.engine.EngineState.users_of.Given as goal

abbrev pub invariant-loop-number : goal.invariant-loop-number
invariant-loop-number g l =
    record {
      numbers : AreNumbersOf (uses_up_to l.group l.number) (calls_in l.self.calls) l.users.items;
      len : array_vec_len l.users ≤ l.number * 2;
    }
