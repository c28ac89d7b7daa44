-- What the readers of words look for.
use Rattle.std.specs.Prelude.{ℕ, Bool, ◌||◌, not, List, Option, None, Some, if◌then◌else◌}
use Rattle.tx_text.specs.Words.{is_blank, is_hash, is_name}

-- a byte of a word
abbrev pub is_word_byte : ℕ → Bool
is_word_byte b = not (is_blank b || is_hash b)

-- a name, or nothing where the text is none
abbrev pub name_of : List ℕ → Option (List ℕ)
name_of text = if is_name text then Some text else None
