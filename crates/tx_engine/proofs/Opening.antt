-- The parts of the opening show the opening state.
use Rattle.tx_engine.proofs.Common.{◌≡◌, ℕ, List, [], Plan, Ended, Book, Table, all_free, KeptCalls, calls_in, sorted_calls, state_seen}
use Rattle.std.specs.FinSet as set
use Rattle.tx_machine.specs.State.{opening}

pub state_opening : (p : Plan) (c : KeptCalls) (b : Book) (t : Table) (numbers events : ℕ) (tickets : List Ended) → c.slots ≡ [] → b.faulty ≡ set.empty → b.away ≡ set.empty → t ≡ all_free p → tickets ≡ []
    → state_seen (calls_in c) t b numbers events tickets ≡ opening numbers events
state_opening p c b t numbers events tickets none mended home free told = λ i. record {
  calls = sorted_calls (none i);
  failed = (free i).failed;
  blocked = (free i).blocked;
  releasing = (free i).releasing;
  out = (free i).out;
  faulty = mended i;
  away = home i;
  numbers = numbers;
  events = events;
  tickets = told i;
}
