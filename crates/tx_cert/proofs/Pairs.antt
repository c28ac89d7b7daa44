-- The order of codes with exchanges is total, and two tie where they are one.
use Rattle.tx_cert.proofs.Common.{◌≡◌, ◌≢◌, true, false, ◌⊎◌, inl, inr, refl, sym, ap, ◌∙◌, Pair, pair_cmp}
use Rattle.std.specs.Ordering.{nat_cmp, eq_by_cmp, is_eq}
use Rattle.std.specs.declared.cmp.Ordering.TheVariants.{Equal}
use Rattle.std.specs.Cmp.{IsTotalOrder, nat_cmp_total, Equal-is}
use Rattle.std.proofs.lemmas.Cmp.{on_total, then_total, tied_itself}
use Rattle.std.proofs.lemmas.Map.Lookups.{exact_pairs, exact_unsigned}

pub pairs_total : IsTotalOrder pair_cmp
pairs_total = then_total (on_total (λ (p : Pair). p.0) nat_cmp_total) (on_total (λ (p : Pair). p.1) nat_cmp_total)

pub exact : (a b : Pair) → pair_cmp a b ≡ Equal → a ≡ b
exact a b h = exact_pairs nat_cmp nat_cmp exact_unsigned exact_unsigned a b h

-- two are one, or not
pub tells : (a b : Pair) → ((eq_by_cmp pair_cmp a b ≡ true) × (a ≡ b)) ⊎ ((eq_by_cmp pair_cmp a b ≡ false) × (a ≢ b))
tells a b = elim (eq_by_cmp pair_cmp a b) as (λ t. eq_by_cmp pair_cmp a b ≡ t → ((t ≡ true) × (a ≡ b)) ⊎ ((t ≡ false) × (a ≢ b))) [
  | true ↦ λ e. inl (refl, exact a b ((Equal-is (pair_cmp a b)).0 e))
  | false ↦ λ e. inr (refl, λ same. let bad : true ≡ false = sym (ap (λ z. eq_by_cmp pair_cmp a z) (sym same) ∙ ap is_eq (tied_itself pairs_total a)) ∙ e in absurd cc)
] refl
