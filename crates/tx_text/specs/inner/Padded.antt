-- A short text in a longer array: the bytes after it are 0.
use Rattle.std.specs.Prelude.{◌≡◌, ℕ, ◌-◌, ◌≤◌, ◌++◌, List, length, take, replicate}

-- The text, and zeros after it up to so many bytes.
abbrev pub padded_to : ℕ → List ℕ → List ℕ
padded_to room text = text ++ replicate (room - length text) 0

-- The first bytes are the text, and zeros follow it.
pub record IsPadded (room len : ℕ) (bytes : List ℕ) : Type 0 where
  pub fits : len ≤ room
  pub short : length (take len bytes) ≡ len
  pub padded : bytes ≡ take len bytes ++ replicate (room - len) 0
