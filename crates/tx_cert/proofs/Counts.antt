-- A line of another number of words ranks nothing.
use Rattle.tx_cert.proofs.Common.{◌≡◌, ◌≢◌, ℕ, List, [], ◌∷◌, Err, length, refl, Plan, WrongCount, Certificate, rank_line}

pub rank_count : (p : Plan) (t : Certificate) (ws : List (List ℕ)) → length ws ≢ 3 → rank_line p t ws ≡ Err WrongCount
rank_count p t [] other = refl
rank_count p t (a ∷ []) other = refl
rank_count p t (a ∷ b ∷ []) other = refl
rank_count p t (a ∷ b ∷ c ∷ []) other = absurd (other refl)
rank_count p t (a ∷ b ∷ c ∷ d ∷ ws) other = refl
