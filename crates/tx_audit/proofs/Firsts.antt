-- The first finding that has events.
use Rattle.tx_audit.proofs.Common.{◌≡◌, ℕ, ◌+◌, ◌<◌, Bool, true, false, ◌||◌, List, length, drop, get_or, Some, None, refl, ap, ◌∙◌, slice_get_read, list_any, Plan, Event, Finding}
use Rattle.tx_audit.specs.Counter.{counter_of, first_counter_of, or_else}
use Rattle.tx_audit.proofs.Loops.{drop_at}

module _ {A : Type 0} (p : Plan) where
  -- one finding after another
  pub first_here : (fs : List (Finding A)) (i : ℕ) (f : Finding A) (events : List Event) → i < length fs → f ≡ get_or fs i f → counter_of p f ≡ Some events → first_counter_of p (drop i fs) ≡ Some events
  first_here fs i f events l e h = ap (first_counter_of p) (drop_at fs i f (slice_get_read fs (length fs) i f refl l e)) ∙ ap (λ o. or_else o (first_counter_of p (drop (i + 1) fs))) h

  pub first_past : (fs : List (Finding A)) (i : ℕ) (f : Finding A) → i < length fs → f ≡ get_or fs i f → counter_of p f ≡ None → first_counter_of p (drop i fs) ≡ first_counter_of p (drop (i + 1) fs)
  first_past fs i f l e h = ap (first_counter_of p) (drop_at fs i f (slice_get_read fs (length fs) i f refl l e)) ∙ ap (λ o. or_else o (first_counter_of p (drop (i + 1) fs))) h

module _ {A : Type 0} (t : A → Bool) where
  pub any_here : (fs : List A) (i : ℕ) (f : A) → i < length fs → f ≡ get_or fs i f → t f ≡ true → list_any t (drop i fs) ≡ true
  any_here fs i f l e h = ap (list_any t) (drop_at fs i f (slice_get_read fs (length fs) i f refl l e)) ∙ ap (λ b. b || list_any t (drop (i + 1) fs)) h

  pub any_past : (fs : List A) (i : ℕ) (f : A) → i < length fs → f ≡ get_or fs i f → t f ≡ false → list_any t (drop i fs) ≡ list_any t (drop (i + 1) fs)
  any_past fs i f l e h = ap (list_any t) (drop_at fs i f (slice_get_read fs (length fs) i f refl l e)) ∙ ap (λ b. b || list_any t (drop (i + 1) fs)) h
