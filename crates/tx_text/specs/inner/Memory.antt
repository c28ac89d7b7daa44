-- Sources and sinks over memory: what they hold, and what a call gives and leaves.
use Rattle.std.specs.Prelude.{ℕ, ◌-◌, ◌==◌, Bool, true, false, ◌||◌, min, List, ◌++◌, length, take, drop, Option, None, Some, Result, Ok, Err, if◌then◌else◌}
use Rattle.tx_text.specs.declared.source.ReadFault.{ReadFault}
use Rattle.tx_text.specs.declared.sink.WriteFault.{WriteFault}

-- A source over memory: the bytes to come, how many a call gives at most, at which call from now on
-- it fails, and whether it has failed.
pub record Supply : Type 0 where
  pub rest : List ℕ
  pub piece : ℕ
  pub fails_in : Option ℕ
  pub failed : Bool

-- the next call is the one that fails
abbrev pub is_due : Option ℕ → Bool
is_due None = false
is_due (Some n) = n == 1

-- one call later
abbrev pub sooner : Option ℕ → Option ℕ
sooner None = None
sooner (Some n) = Some (n - 1)

-- how many bytes a call for so many gives
abbrev pub count_given : Supply → ℕ → ℕ
count_given s room = min (min room s.piece) (length s.rest)

-- a call for so many bytes fails, or gives what the room, the piece and the rest allow
abbrev pub supply_gives : Supply → ℕ → Result ℕ ReadFault
supply_gives s room = if s.failed || is_due s.fails_in
    then Err (record {}) else Ok (count_given s room)

-- a call that fails moves nothing
abbrev pub supply_leaves : Supply → ℕ → Supply
supply_leaves s room = if s.failed || is_due s.fails_in
    then record s { fails_in = sooner s.fails_in; failed = true }
    else record s { rest = drop (count_given s room) s.rest; fails_in = sooner s.fails_in }

-- A sink over memory: the bytes that it took, how many it takes in all, and whether it has failed.
pub record Store : Type 0 where
  pub bytes : List ℕ
  pub room : ℕ
  pub failed : Bool

-- the next call fails: one did already, or the room is full
abbrev pub is_full : Store → Bool
is_full s = s.failed || length s.bytes == s.room

-- how many of these bytes it takes
abbrev pub count_taken : Store → List ℕ → ℕ
count_taken s bytes = min (length bytes) (s.room - length s.bytes)

-- a call fails, or takes as many bytes as there is room for
abbrev pub store_gives : Store → List ℕ → Result ℕ WriteFault
store_gives s bytes = if is_full s then Err (record {}) else Ok (count_taken s bytes)

-- a call that fails takes nothing
abbrev pub store_leaves : Store → List ℕ → Store
store_leaves s bytes = if is_full s then record s { failed = true }
    else record s { bytes = s.bytes ++ take (count_taken s bytes) bytes }
