-- The ranks of a code, as they are written into a certificate.
use Rattle.tx_rank.proofs.Common.{◌≡◌, ◌≢◌, ℕ, ◌+◌, ◌<◌, ◌≤◌, true, false, eqb, eqb-true, ltb, List, length, None, refl, sym, ap, ◌∙◌, arith, option_and_then, eqb-false, ltb-true, slice_get_past, ltb-false, Certificate, rank_at, rank_of, rank_in, Mark}

-- those of the exchanges before index i
pub record IsWriting (old new : Certificate) (marks : List Mark) (code i : ℕ) : Type 0 where
  pub here : (x : ℕ) → x < i → rank_at new code x ≡ rank_in marks x
  pub blank : (x : ℕ) → i ≤ x → rank_at new code x ≡ None
  pub others : (d x : ℕ) → d ≢ code → rank_at new d x ≡ rank_at old d x
  pub codes : new.codes ≡ old.codes
  pub exchanges : new.exchanges ≡ old.exchanges

pub writing_more : (old now new : Certificate) (marks : List Mark) (code i : ℕ) → IsWriting old now marks code i → rank_at new code i ≡ rank_in marks i
    → ((d x : ℕ) → (d ≡ code → x ≡ i → ⊥) → rank_at new d x ≡ rank_at now d x) → new.codes ≡ now.codes → new.exchanges ≡ now.exchanges → IsWriting old new marks code (i + 1)
writing_more old now new marks code i w here others codes exchanges =
    record {
      here = λ x h. elim (eqb x i) as (λ b. eqb x i ≡ b → rank_at new code x ≡ rank_in marks x) [
        | true ↦ λ e. let same = eqb-true x i e in ap (rank_at new code) same ∙ here ∙ ap (rank_in marks) (sym same)
        | false ↦ λ e. let d = eqb-false x i e in others code x (λ _. d) ∙ w.here x (omega arith)
      ] refl;
      blank = λ x h. others code x (λ a b. absurd (omega arith)) ∙ w.blank x (omega arith);
      others = λ d x h. others d x (λ a b. h a) ∙ w.others d x h;
      codes = codes ∙ w.codes;
      exchanges = exchanges ∙ w.exchanges;
    }

pub writing_all : (old new : Certificate) (marks : List Mark) (code i : ℕ) → IsWriting old new marks code i → i ≡ length marks → (x : ℕ) → rank_at new code x ≡ rank_in marks x
writing_all old new marks code i w e x =
    elim (ltb x i) as (λ b. ltb x i ≡ b → rank_at new code x ≡ rank_in marks x) [
      | true ↦ λ t. w.here x (ltb-true x i t)
      | false ↦ λ t. let over : length marks ≤ x = omega (arith, ltb-false) in w.blank x (omega arith) ∙ sym (ap (option_and_then rank_of) (slice_get_past marks x over))
    ] refl
