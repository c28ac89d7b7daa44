-- What a write through an entry takes of a map's room.
use Rattle.tx_lines.proofs.Common.{◌+◌, ◌≤◌, arith, is_some, if◌then◌else◌, spare}
use Rattle.std.specs.declared.cmp.PartialEq as eq
use Rattle.std.specs.declared.hash.Hash as hash
use Rattle.std.specs.declared.hash.Hasher as hasher
use Rattle.std.specs.declared.hash.BuildHasher as builder
use Rattle.indexmap.specs.Entry.{entry_map, entry_value, map_with_value}
use Rattle.indexmap.specs.declared.map.entry.Entry.{Entry}
use Rattle.indexmap.specs.declared.map.entry.Entry.TheVariants.{Occupied, Vacant}

module _ {K V S A H : Type 0} {g : eq.Ghosts K} {h : hash.Ghosts K} {b : builder.Ghosts S H} {w : hasher.Ghosts H} where
  -- one for a new key, and else none
  pub write_room : (e : Entry K V S A H g h b w) (v : V) → spare (entry_map e) ≤ spare (map_with_value e v) + (if is_some (entry_value e) then 0 else 1)
  unfolding map_with_value entry_value
  write_room (Occupied o) v = omega arith
  write_room (Vacant e) v = omega arith
