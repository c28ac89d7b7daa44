-- What contracts see of the open calls: what is kept under each key, and the calls in order of
-- their numbers.
use Rattle.std.specs.Prelude.{◌≡◌, ◌≢◌, ℕ, ◌-◌, ◌<◌, List, [], ◌∷◌, map, nat_lt, if◌then◌else◌, Option, Some, None, slice_index_or, vec_len, vec_capacity}
use Rattle.std.specs.Option.{option_map}
use Rattle.slab.specs.Slab.{Slab, slab_len}
use Rattle.indexmap.specs.IndexMap as index
use Rattle.indexmap.specs.IndexMap.{IndexMap}
use Rattle.tx_machine.specs.Call.{Call}
use Rattle.tx_machine.specs.Seen.{call_seen}
use Rattle.tx_machine.specs.declared.open_call.OpenCall.{OpenCall}

-- an open call, and the room for more hops of it
pub record Kept : Type 0 where
  pub call : Call
  pub room : ℕ

-- what is kept under each key from 0 on, and how many more calls and numbers there is room for
pub record KeptCalls : Type 0 where
  pub slots : List (Option Kept)
  pub call_room : ℕ
  pub number_room : ℕ

-- there is room for one more call
pub record HasRoom (v : KeptCalls) : Type 0 where
  pub calls : 0 < v.call_room
  pub numbers : 0 < v.number_room

-- what is kept under a key
abbrev pub kept_at : KeptCalls → ℕ → Option Kept
kept_at v key = slice_index_or v.slots key None

-- the new ones have this under the key, and under every other key what was there
pub record Changes (old new : KeptCalls) (key : ℕ) (slot : Option Kept) : Type 0 where
  pub changed : kept_at new key ≡ slot
  pub others : (other : ℕ) → other ≢ key → kept_at new other ≡ kept_at old other

-- a call where its number stands
abbrev pub put_call : Call → List Call → List Call
put_call c [] = c ∷ []
put_call c (d ∷ ds) = if nat_lt c.number d.number then c ∷ d ∷ ds else d ∷ put_call c ds

-- the calls that are kept, in order of their numbers
abbrev pub sorted_calls : List (Option Kept) → List Call
sorted_calls [] = []
sorted_calls (None ∷ slots) = sorted_calls slots
sorted_calls (Some k ∷ slots) = put_call k.call (sorted_calls slots)

-- the calls in order of their numbers
abbrev pub calls_in : KeptCalls → List Call
calls_in v = sorted_calls v.slots

-- a call as it is kept: what is seen of it, and how many more hops have room
abbrev pub kept_of : {A : Type 0} → OpenCall A → Kept
kept_of c = record { call = call_seen c; room = vec_capacity c.hops - vec_len c.hops }

module _ {A : Type 0} where
  -- what a slab of calls has under each key
  abbrev pub slots_of : Slab (OpenCall A) → List (Option Kept)
  slots_of s = map (option_map kept_of) s.slots

  -- what a slab of calls and an index by number come to
  abbrev pub calls_of : {S : Type 0} → Slab (OpenCall A) → IndexMap ℕ ℕ S → KeptCalls
  calls_of s m = record {
    slots = slots_of s;
    call_room = s.capacity - slab_len s;
    number_room = index.spare m;
  }
