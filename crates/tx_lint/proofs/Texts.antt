-- Lines that are written one after another.
use Rattle.std.proofs.Common.{◌≡◌, ℕ, ◌+◌, ◌<◌, Bool, List, [], ◌++◌, length, take, get_or, Option, Ok, Err, codes, append_assoc, append-nil}
use Rattle.std.specs.Prelude.{IsErr}
use Rattle.tx_lint.proofs.Common.{flat_map, get_or_default, WroteBy}
use Rattle.tx_text.specs.declared.sink.WriteFault.{WriteFault}
use Rattle.tx_text.proofs.Wrote.{Outcome, texts_more, texts_stopped}

cut : (a b c d e f rest : List ℕ) → a ++ (b ++ (c ++ (d ++ (e ++ (f ++ rest)))))
    ≡ (a ++ (b ++ (c ++ (d ++ (e ++ (f ++ [])))))) ++ rest
cut a b c d e f rest = simp (append_assoc, append-nil)

-- a line from behind the file's name as far as the name of what is told
abbrev pub told_front : (line code name : List ℕ) → List ℕ
told_front line code name =
    codes ":" ++ (line ++ (codes ": " ++ (code ++ (codes " " ++ (name ++ [])))))

pub told_cut : (line code name rest : List ℕ)
    → codes ":" ++ (line ++ (codes ": " ++ (code ++ (codes " " ++ (name ++ rest)))))
    ≡ told_front line code name ++ rest
told_cut line code name rest = cut (codes ":") line (codes ": ") code (codes " ") name rest

-- The texts of a list, whose member at an index is read with a default.
module _ {X : Type 0} (text : X → List ℕ) where
  pub more_read : (xs : List X) (i : ℕ) (d : X) (a b c : Option (List ℕ)) (f g h : Bool) → i < length xs
      → WroteBy a b f g (flat_map text (take i xs)) (Ok tt) → WroteBy b c g h (text (get_or xs i d)) (Ok tt)
      → WroteBy a c f h (flat_map text (take (i + 1) xs)) (Ok tt)
  more_read xs i d a b c f g h low v w =
      texts_more text xs i (get_or xs i d) a b c f g h low (get_or_default xs i d (get_or xs i d) low) v w

  pub stopped_read : (xs : List X) (i : ℕ) (d : X) (a b c : Option (List ℕ)) (f g h : Bool) (r : Outcome) (fault : WriteFault)
      → i < length xs → WroteBy a b f g (flat_map text (take i xs)) (Ok tt)
      → WroteBy b c g h (text (get_or xs i d)) (Err fault) → IsErr r → WroteBy a c f h (flat_map text xs) r
  stopped_read xs i d a b c f g h r fault low v w bad =
      texts_stopped text xs i (get_or xs i d) a b c f g h r fault low (get_or_default xs i d (get_or xs i d) low) v w bad
