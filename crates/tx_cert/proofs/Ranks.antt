-- The ranks of a certificate, once one is set.
use Rattle.tx_cert.proofs.Common.{◌≡◌, ℕ, Some, None, cond, inl, inr, refl, ap, ◌∙◌, get-empty, get-insert, Certificate, Pair, pair_cmp, no_ranks, rank_at, with_rank}
use Rattle.tx_cert.proofs.Pairs.{pairs_total, tells}

pub none_ranked : (codes exchanges d y : ℕ) → rank_at (no_ranks codes exchanges) d y ≡ None
none_ranked codes exchanges d y = get-empty pair_cmp (d, y)

module _ (t : Certificate) (c x r : ℕ) where
  pub rank_here : rank_at (with_rank t c x r) c x ≡ Some r
  rank_here = get-insert pairs_total t.ranks (c, x) r (c, x) ∙ elim (tells (c, x) (c, x)) [
    | inl same ↦ ap (λ b. cond b (Some r) (rank_at t c x)) same.0
    | inr away ↦ absurd (away.1 refl)
  ]

  pub rank_there : (d y : ℕ) → (d ≡ c → y ≡ x → ⊥) → rank_at (with_rank t c x r) d y ≡ rank_at t d y
  rank_there d y apart = get-insert pairs_total t.ranks (c, x) r (d, y) ∙ elim (tells (d, y) (c, x)) [
    | inl same ↦ absurd (apart (ap (λ (q : Pair). q.0) same.1) (ap (λ (q : Pair). q.1) same.1))
    | inr away ↦ ap (λ b. cond b (Some r) (rank_at t d y)) away.0
  ]
