-- Texts on a page of HTML.
use Rattle.std.specs.Prelude.{◌≡◌, ℕ, Bool, false, not, ◌&&◌, ◌||◌, ◌==◌, nat_le, if◌then◌else◌, List, [], ◌∷◌, codes}
use Rattle.std.specs.List.{flat_map, list_any}

-- the bytes that begin and end a tag and the value of an attribute: < > " '
abbrev pub is_markup : ℕ → Bool
is_markup byte = (byte == 60) || ((byte == 62) || ((byte == 34) || (byte == 39)))

-- a byte that stands for itself: none of these, no &, and no control byte
abbrev pub is_plain : ℕ → Bool
is_plain byte = not (is_markup byte) && (not (byte == 38) && (nat_le 32 byte && not (byte == 127)))

-- what stands for a byte that is not plain
abbrev pub entity : ℕ → List ℕ
entity byte =
    if byte == 60 then codes "&lt;"
    else if byte == 62 then codes "&gt;"
    else if byte == 38 then codes "&amp;"
    else if byte == 34 then codes "&quot;"
    else if byte == 39 then codes "&#39;"
    else codes "?"

-- what stands for a byte
abbrev pub escaped_byte : ℕ → List ℕ
escaped_byte byte = if is_plain byte then byte ∷ [] else entity byte

-- what stands for a text
abbrev pub escaped : List ℕ → List ℕ
escaped text = flat_map escaped_byte text

-- no byte of an escaped text begins or ends a tag, or the value of an attribute
abbrev pub NoTextIsMarkup : Type 0
NoTextIsMarkup = (text : List ℕ) → list_any is_markup (escaped text) ≡ false
