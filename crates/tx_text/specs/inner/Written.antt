-- Which words a line can be written with so that it reads back.
use Rattle.std.specs.Prelude.{◌≡◌, ℕ, ◌<◌, ◌≤◌, ◌≢◌, List, [], ◌∷◌, Result, Ok, length, false}
use Rattle.std.specs.List.{All, AllByRecursion}
use Rattle.tx_text.specs.Frame.{is_end}
use Rattle.tx_text.specs.Written.{joined}

-- A byte of a written line is no control byte and no '#'.
pub record IsWritten (b : ℕ) : Type 0 where
  pub low : 32 ≤ b
  pub high : b ≤ 126
  pub no_hash : b ≢ 35

-- A byte of a written word is no blank and no '#'.
pub record IsPlain (b : ℕ) : Type 0 where
  pub low : 33 ≤ b
  pub high : b ≤ 126
  pub no_hash : b ≢ 35

-- A written word has some bytes, and only plain ones.
pub record IsWord (w : List ℕ) : Type 0 where
  pub some : 0 < length w
  pub plain : All IsPlain w

-- Such words are in one line, of at most 512 bytes.
pub record IsWrittenLine (ws : List (List ℕ)) : Type 0 where
  pub words : AllByRecursion IsWord ws
  pub short : length (joined ws) ≤ 512

-- each line declares what leads from the state before it to the one after it
abbrev pub LeadsTo : {S W : Type 0} → (ℕ → S → List (List ℕ) → Result S W)
    → ℕ → S → List (List (List ℕ)) → S → Type 0
LeadsTo declare v s [] r = s ≡ r
LeadsTo {S} declare v s (ws ∷ wss) r = (m : S) × (declare v s ws ≡ Ok m)
    × (is_end ws ≡ false) × (0 < length ws) × IsWrittenLine ws × LeadsTo declare v m wss r
