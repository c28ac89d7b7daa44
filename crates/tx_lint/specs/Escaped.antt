-- Texts on one line of a terminal.
use Rattle.std.specs.Prelude.{ℕ, ◌+◌, ◌-◌, ◌/◌, ◌%◌, ◌==◌, nat_lt, ◌||◌, List, [], ◌∷◌, ◌++◌, codes, if◌then◌else◌}
use Rattle.std.specs.List.{flat_map}

-- the digit of a number below 16: 0 to 9, then a to f
abbrev pub hex_digit : ℕ → ℕ
hex_digit n = if nat_lt n 10 then 48 + n else 97 + (n - 10)

-- a byte that is none of a control is itself, an LF is `\n`, and any other one is as `\x1b`
abbrev pub escaped_byte : ℕ → List ℕ
escaped_byte b = if b == 10 then codes "\\n"
    else if nat_lt b 32 || b == 127
    then codes "\\x" ++ (hex_digit (b / 16) ∷ hex_digit (b % 16) ∷ [])
    else b ∷ []

-- a text whose control bytes are spelled
abbrev pub escaped_text : List ℕ → List ℕ
escaped_text text = flat_map escaped_byte text
