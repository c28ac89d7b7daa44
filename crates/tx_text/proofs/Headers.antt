-- A line of another number of words is no header.
use Rattle.tx_text.proofs.Common.{◌≡◌, ◌≢◌, ℕ, List, [], ◌∷◌, None, length, refl, header_of}

pub header_count : (key : List ℕ) (most : ℕ) (ws : List (List ℕ)) → length ws ≢ 2 → header_of key most ws ≡ None
header_count key most [] other = refl
header_count key most (a ∷ []) other = refl
header_count key most (a ∷ b ∷ []) other = absurd (other refl)
header_count key most (a ∷ b ∷ c ∷ ws) other = refl
