-- The certificate of a stage, code after code.
use Rattle.std.proofs.Common.{◌≡◌, ◌≢◌, ℕ, ◌+◌, true, false, eqb, eqb-true, length, Option, refl, sym, ap, subst, ◌∙◌, arith}
use Rattle.std.proofs.lemmas.Bool.{eqb-false}
use Rattle.tx_order.proofs.Common.{AreCommon, Certificate, rank_at, ranks_of, no_ranks_for, Certifies, change_net, Transition, IsTransition, plan_with, plan_front, IsCertifiedBelow}
use Rattle.tx_cert.proofs.Ranks.{none_ranked}
use Rattle.tx_order.proofs.TwoFronts.{fronts_common}

module _ (w : Transition) (from to : ℕ → ℕ) where
  pub certified_first : (cert : Certificate) → cert ≡ no_ranks_for w.old → IsCertifiedBelow w from to 0 cert
  certified_first cert e = record {
    certified = λ d h. absurd (omega arith);
    blank = λ d x h. ap (λ t. rank_at t d x) e ∙ none_ranked (length w.old.codes) (length w.old.exchanges) d x;
    codes = ap (λ t. t.codes) e;
    exchanges = ap (λ t. t.exchanges) e;
  }

  pub certified_next : (c : ℕ) (cert cert' : Certificate) → IsCertifiedBelow w from to c cert → Certifies (change_net (plan_front w (from c)) (plan_front w (to c)) c) (rank_at cert' c) w.limit w.spare
      → ((d x : ℕ) → d ≢ c → rank_at cert' d x ≡ rank_at cert d x) → cert'.codes ≡ cert.codes → cert'.exchanges ≡ cert.exchanges → IsCertifiedBelow w from to (c + 1) cert'
  certified_next c cert cert' a here others codes exchanges = record {
    certified = λ d h. elim (eqb d c) as (λ b. eqb d c ≡ b → Certifies (change_net (plan_front w (from d)) (plan_front w (to d)) d) (rank_at cert' d) w.limit w.spare) [
      | true ↦ λ e. subst (λ (k : ℕ). Certifies (change_net (plan_front w (from k)) (plan_front w (to k)) k) (rank_at cert' k) w.limit w.spare) (sym (eqb-true d c e)) here
      | false ↦ λ e.
          let away = eqb-false d c e in
          let same : rank_at cert d ≡ rank_at cert' d = λ i x. sym (others d x away) i in
          subst (λ (ranks : ℕ → Option ℕ). Certifies (change_net (plan_front w (from d)) (plan_front w (to d)) d) ranks w.limit w.spare) same (a.certified d (omega arith))
    ] refl;
    blank = λ d x h. others d x (λ q. absurd (omega arith)) ∙ a.blank d x (omega arith);
    codes = codes ∙ a.codes;
    exchanges = exchanges ∙ a.exchanges;
  }

  pub certified_all : IsTransition w → (cert : Certificate) → IsCertifiedBelow w from to (length w.old.codes) cert → AreCommon (plan_with w from) (plan_with w to) (ranks_of cert) w.limit w.spare
  certified_all is cert a = fronts_common w is from to (ranks_of cert) (λ c h. a.certified c h)
