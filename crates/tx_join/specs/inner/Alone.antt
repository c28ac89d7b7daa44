-- The line of a list or a bar that one of two plans has alone, by its index.
use Rattle.std.specs.Prelude.{ℕ, Bool, not, if◌then◌else◌, List, [], ◌∷◌, slice_get}
use Rattle.std.specs.Option.{option_map_or}
use Rattle.tx_text.specs.Written.{line_written}
use Rattle.tx_plan.specs.Plan.{Plan}
use Rattle.tx_plantext.specs.PlanWritten.{route_words, bar_words}
use Rattle.tx_join.specs.Joined.{has_both}

-- the line of an entry, if it passes a test
abbrev pub kept_line : {A : Type 0} → (A → List (List ℕ)) → (A → Bool) → List A → ℕ → List ℕ
kept_line words test entries i = option_map_or
    (λ x. if test x then line_written (words x) else []) (slice_get entries i) []

-- of the list at an index of p, after this word, if q does not have the exchange or the code
abbrev pub list_at : (word : List ℕ) → (p q : Plan) → ℕ → List ℕ
list_at word p q i = kept_line (λ r. word ∷ route_words p r)
    (λ r. not (has_both q p r.exchange r.code)) p.routes i

-- of the bar
abbrev pub ban_at : (word : List ℕ) → (p q : Plan) → ℕ → List ℕ
ban_at word p q i = kept_line (λ b. word ∷ bar_words p b)
    (λ b. not (has_both q p b.exchange b.code)) p.bars i
