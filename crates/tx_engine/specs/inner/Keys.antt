-- Keys of calls by circuit.
use Rattle.std.specs.Prelude.{◌≡◌, ℕ, Bool, true, false, List, Option, is_some, slice_get, option_and_then}
use Rattle.std.specs.Option.{option_map_or}
use Rattle.tx_plan.specs.declared.ids.Circuit.{Circuit}
use Rattle.tx_engine.specs.declared.circuit_keys.EndKeys.{EndKeys}

-- where there are no keys
abbrev pub no_keys : EndKeys
no_keys = record { first = 0; other = 0 }

-- the keys at the two ends of a circuit
abbrev pub keys_at : List (List EndKeys) → Circuit → Option EndKeys
keys_at rows x = option_and_then (λ row. slice_get row x.number) (slice_get rows x.group)

-- the keys of a circuit, or those of none
abbrev pub keys_of : List (List EndKeys) → Circuit → EndKeys
keys_of rows x = option_map_or (λ k. k) (keys_at rows x) no_keys

-- there are keys for the circuit
abbrev pub HasKeys : List (List EndKeys) → Circuit → Type 0
HasKeys rows x = is_some (keys_at rows x) ≡ true

-- the key at the first end or at the other
abbrev pub pick : Bool → EndKeys → ℕ
pick true k = k.first
pick false k = k.other

-- with another key at the first end or at the other
abbrev pub with_key : Bool → ℕ → EndKeys → EndKeys
with_key true key k = record k { first = key }
with_key false key k = record k { other = key }
