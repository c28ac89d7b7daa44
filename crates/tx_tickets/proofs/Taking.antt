-- What was taken in several calls.
use Rattle.std.proofs.Common.{◌≡◌, ℕ, List, ◌++◌, Option, ap, ◌∙◌}
use Rattle.std.specs.Io.KnownBytes.{append_known}
use Rattle.tx_text.proofs.Writing.{append_known_twice}

pub then_took : (a b c : Option (List ℕ)) (s t : List ℕ) → b ≡ append_known a s → c ≡ append_known b t → c ≡ append_known a (s ++ t)
then_took a b c s t p q = q ∙ ap (λ l. append_known l t) p ∙ append_known_twice a s t
