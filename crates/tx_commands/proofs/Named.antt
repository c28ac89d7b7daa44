-- Files by their names, as a function sees them.
use Rattle.tx_commands.proofs.Common.{◌≡◌, ◌||◌, ℕ, List, [], ◌∷◌, Option, None, Some, bytes_eq, refl, ap, Bor, list_any, is_among, names}
use Rattle.std.specs.Option.{option_eq}

-- a file is one of these exactly where it is one of those that are named
pub among : (files : List (Option (Bor (List ℕ)))) (file : Bor (List ℕ))
    → list_any (λ f. option_eq (λ x y. bytes_eq x.now y.now) f (Some file)) files
    ≡ is_among bytes_eq (names files) file.now
among [] file = refl
among (None ∷ rest) file = among rest file
among (Some f ∷ rest) file = ap (λ b. bytes_eq f.now file.now || b) (among rest file)
