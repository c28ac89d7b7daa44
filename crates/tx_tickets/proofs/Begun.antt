-- A line of which some went out, and some is in its room.
use Rattle.std.proofs.Common.{◌≡◌, ℕ, Bool, List, [], ◌++◌, Option, sym, ap, ◌∙◌, append_assoc, append-nil}
use Rattle.tx_text.specs.Puts.{Puts}
use Rattle.tx_text.proofs.Putting.{puts_is, puts_then}

-- what of a text does not stand on the line was put to the sink
pub record IsBegun {W : Type 0} (taken : W → Option (List ℕ)) (failed : W → Bool) (old new : W) (line text : List ℕ) : Type 0 where
  pub gone : List ℕ
  pub whole : text ≡ gone ++ line
  pub puts : Puts taken failed old new gone

module _ {W : Type 0} {taken : W → Option (List ℕ)} {failed : W → Bool} {a b : W} {line text : List ℕ} (s : IsBegun taken failed a b line text) where
  -- more was put on the line
  pub begun_more : (t : List ℕ) → IsBegun taken failed a b (line ++ t) (text ++ t)
  begun_more t = record { gone = s.gone; whole = ap (λ l. l ++ t) s.whole ∙ append_assoc s.gone line t; puts = s.puts }

  -- the line went out, and so all of the text
  pub begun_all : {c : W} → Puts taken failed b c line → Puts taken failed a c text
  begun_all w = puts_is s.whole (puts_then s.puts w)

  pub begun_out : {c : W} → Puts taken failed b c line → IsBegun taken failed a c [] text
  begun_out w = record { gone = text; whole = sym (append-nil text); puts = begun_all w }
