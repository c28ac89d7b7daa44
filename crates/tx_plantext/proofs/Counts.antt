-- A line of another number of words declares nothing.
use Rattle.tx_plantext.proofs.Common.{◌≡◌, ◌≢◌, ℕ, List, [], ◌∷◌, length, refl, Plan}
use Rattle.tx_plantext.specs.PlanText.{wrong_count, exchange_line, code_line, lines_line, group_line, bar_line}

pub exchange_count : (p : Plan) (ws : List (List ℕ)) → length ws ≢ 1 → exchange_line p ws ≡ wrong_count
exchange_count p [] other = refl
exchange_count p (a ∷ []) other = absurd (other refl)
exchange_count p (a ∷ b ∷ ws) other = refl

pub code_count : (p : Plan) (ws : List (List ℕ)) → length ws ≢ 2 → code_line p ws ≡ wrong_count
code_count p [] other = refl
code_count p (a ∷ []) other = refl
code_count p (a ∷ b ∷ []) other = absurd (other refl)
code_count p (a ∷ b ∷ c ∷ ws) other = refl

pub lines_count : (p : Plan) (ws : List (List ℕ)) → length ws ≢ 3 → lines_line p ws ≡ wrong_count
lines_count p [] other = refl
lines_count p (a ∷ []) other = refl
lines_count p (a ∷ b ∷ []) other = refl
lines_count p (a ∷ b ∷ c ∷ []) other = absurd (other refl)
lines_count p (a ∷ b ∷ c ∷ d ∷ ws) other = refl

pub group_count : (p : Plan) (ws : List (List ℕ)) → length ws ≢ 5 → group_line p ws ≡ wrong_count
group_count p [] other = refl
group_count p (a ∷ []) other = refl
group_count p (a ∷ b ∷ []) other = refl
group_count p (a ∷ b ∷ c ∷ []) other = refl
group_count p (a ∷ b ∷ c ∷ d ∷ []) other = refl
group_count p (a ∷ b ∷ c ∷ d ∷ e ∷ []) other = absurd (other refl)
group_count p (a ∷ b ∷ c ∷ d ∷ e ∷ f ∷ ws) other = refl

pub bar_count : (p : Plan) (ws : List (List ℕ)) → length ws ≢ 2 → bar_line p ws ≡ wrong_count
bar_count p [] other = refl
bar_count p (a ∷ []) other = refl
bar_count p (a ∷ b ∷ []) other = absurd (other refl)
bar_count p (a ∷ b ∷ c ∷ ws) other = refl
