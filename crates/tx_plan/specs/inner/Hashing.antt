-- What a hash of a key computes.
use Rattle.std.specs.Prelude.{ℕ, ◌*◌, ◌/◌, ◌%◌, ◌^◌, ◌==◌, List, length, take, slice_index, if◌then◌else◌, nat_le, bit_and, bit_xor}
use Rattle.std.specs.Int.{w16, w32, w64, from_le_bytes}
use Rattle.tx_plan.specs.declared.ids.WordHasher.{WordHasher}

-- nothing is written yet
abbrev pub start : WordHasher
start = record { word = 0 }

-- the first eight bytes as a number, or four or two that are all
abbrev pub first_word : List ℕ → ℕ
first_word bs = if nat_le 8 (length bs) then from_le_bytes w64 (take 8 bs) else if length bs == 4
    then from_le_bytes w32 bs else if length bs == 2 then from_le_bytes w16 bs else 0

-- times an odd number
abbrev pub product_with_odd : ℕ → ℕ
product_with_odd n = (n * 0x9e37_79b9_7f4a_7c15) % 2 ^ 64

-- what is written goes into the word of before
unfoldable pub hasher_after : WordHasher → List ℕ → WordHasher
hasher_after h bs = record {
  word =
      bit_xor (bit_xor (product_with_odd h.word) (first_word bs)) ((slice_index bs 8 * 2 ^ 28) % 2 ^ 64);
}

-- 32 bits of the product: the lowest above its lower half, and with the upper eight of them the
-- uppermost of its lower half
unfoldable pub spread : WordHasher → ℕ
spread h = bit_and (bit_xor (h.word * 0x9e37_79b9_7f4a_7c15 / 2 ^ 64)
    (bit_and (product_with_odd h.word / 2 ^ 32) 0xff00_0000)) 0xffff_ffff
