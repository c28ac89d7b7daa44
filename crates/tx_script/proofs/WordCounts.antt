-- Lists of words that have another number of words.
use Rattle.tx_script.proofs.Common.{◌≡◌, ◌≢◌, ℕ, List, [], ◌∷◌, length, None, refl, one_word, two_words, three_words}

pub not_one : (ws : List (List ℕ)) → length ws ≢ 1 → one_word ws ≡ None
not_one [] h = refl
not_one (w ∷ []) h = absurd (h refl)
not_one (v ∷ w ∷ ws) h = refl

pub not_two : (ws : List (List ℕ)) → length ws ≢ 2 → two_words ws ≡ None
not_two [] h = refl
not_two (w ∷ []) h = refl
not_two (v ∷ w ∷ []) h = absurd (h refl)
not_two (u ∷ v ∷ w ∷ ws) h = refl

pub not_three : (ws : List (List ℕ)) → length ws ≢ 3 → three_words ws ≡ None
not_three [] h = refl
not_three (w ∷ []) h = refl
not_three (v ∷ w ∷ []) h = refl
not_three (u ∷ v ∷ w ∷ []) h = absurd (h refl)
not_three (t ∷ u ∷ v ∷ w ∷ ws) h = refl
