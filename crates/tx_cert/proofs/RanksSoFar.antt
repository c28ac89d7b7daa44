-- The ranks of the first codes and exchanges of a certificate, in the order in which they are written.
use Rattle.tx_cert.proofs.Common.{◌≡◌, ◌≢◌, ℕ, ◌+◌, ◌*◌, ◌<◌, Bool, true, false, nat_lt, Option, Some, None, cond, inl, inr, refl, sym, ap, ◌∙◌, arith, eq_by_cmp, mul-add-lt, same_from_place, Pair, pair_cmp, Certificate, no_ranks, rank_at, with_rank, IsCertificate, index_of}
use Rattle.std.specs.FinMap.{FinMap, get, retain_keys, get-empty, get-insert, get-retain_keys, same_map}
use Rattle.std.proofs.lemmas.Bool.{lt-ltb, le-ltb}
use Rattle.std.proofs.lemmas.Bool.Decides.{nat_tests}
use Rattle.tx_cert.proofs.Pairs.{pairs_total, exact, tells}

-- certificates with the same ranks
same_ranks : (codes exchanges : ℕ) (m n : FinMap pair_cmp ℕ) → ((q : Pair) → get m q ≡ get n q)
    → ◌≡◌ {A = Certificate} (record { codes = codes; exchanges = exchanges; ranks = m }) (record { codes = codes; exchanges = exchanges; ranks = n })
same_ranks codes exchanges m n is = ap (λ ranks. record { codes = codes; exchanges = exchanges; ranks = ranks }) (same_map pairs_total exact m n is)

none_either : (a b : Bool) (o : Option ℕ) → o ≡ None → cond a o None ≡ cond b o None
none_either true true o e = refl
none_either true false o e = e
none_either false true o e = sym e
none_either false false o e = refl

one_more : (p n : ℕ) → p ≢ n → nat_lt p (n + 1) ≡ nat_lt p n
one_more p n away = grind (arith, nat_tests)

module _ (t : Certificate) where
  abbrev is_before : ℕ → Pair → Bool
  is_before n q = nat_lt (index_of t.exchanges q) n

  -- those that have fewer than n before them are ranked as they are, and the others are not
  abbrev pub so_far : ℕ → Certificate
  so_far n = record t { ranks = retain_keys t.ranks (is_before n) }

  kept : (n : ℕ) (q : Pair) → get (retain_keys t.ranks (is_before n)) q ≡ cond (is_before n q) (get t.ranks q) None
  kept n q = get-retain_keys t.ranks (is_before n) q (λ y e. ap (is_before n) (sym (exact q y e)))

  -- nothing yet
  pub so_far_none : so_far 0 ≡ no_ranks t.codes t.exchanges
  so_far_none = same_ranks t.codes t.exchanges _ _ (λ q. kept 0 q ∙ ap (λ b. cond b (get t.ranks q) None) (le-ltb (index_of t.exchanges q) 0 (omega arith)) ∙ sym (get-empty pair_cmp q))

  module _ (rules : IsCertificate t) where
    -- all of them
    pub so_far_all : so_far (t.codes * t.exchanges) ≡ t
    so_far_all = same_ranks t.codes t.exchanges _ _ (λ q. kept (t.codes * t.exchanges) q ∙ all q (get t.ranks q) refl)
      where
        all : (q : Pair) (o : Option ℕ) → get t.ranks q ≡ o → cond (is_before (t.codes * t.exchanges) q) (get t.ranks q) None ≡ get t.ranks q
        all q None e = none_either (is_before (t.codes * t.exchanges) q) true (get t.ranks q) e
        all q (Some r) e =
            let low = mul-add-lt q.0 t.exchanges q.1 t.codes (rules.own_codes q.0 q.1 r e) (rules.own_exchanges q.0 q.1 r e) in
            ap (λ b. cond b (get t.ranks q) None) (lt-ltb (index_of t.exchanges q) (t.codes * t.exchanges) (omega arith))

    module _ (c x : ℕ) (exchange : x < t.exchanges) where
      -- the next one has no rank yet
      pub none_yet : rank_at (so_far (c * t.exchanges + x)) c x ≡ None
      none_yet = kept (c * t.exchanges + x) (c, x) ∙ ap (λ b. cond b (rank_at t c x) None) (le-ltb (c * t.exchanges + x) (c * t.exchanges + x) (omega arith))

      -- the others stay
      others : (q : Pair) (o : Option ℕ) → get t.ranks q ≡ o → q ≢ (c, x)
          → cond (is_before (c * t.exchanges + x) q) (get t.ranks q) None ≡ cond (is_before (c * t.exchanges + x + 1) q) (get t.ranks q) None
      others q None e away = none_either (is_before (c * t.exchanges + x) q) (is_before (c * t.exchanges + x + 1) q) (get t.ranks q) e
      others q (Some r) e away =
          let apart : index_of t.exchanges q ≢ c * t.exchanges + x = λ p. let s = same_from_place q.0 q.1 c x t.exchanges (rules.own_exchanges q.0 q.1 r e) exchange p in away (λ i. (s.0 i, s.1 i)) in
          ap (λ b. cond b (get t.ranks q) None) (sym (one_more (index_of t.exchanges q) (c * t.exchanges + x) apart))

      -- one on, where it has no rank
      pub next_none : rank_at t c x ≡ None → so_far (c * t.exchanges + x) ≡ so_far (c * t.exchanges + x + 1)
      next_none none = same_ranks t.codes t.exchanges _ _ (λ q. kept (c * t.exchanges + x) q ∙ elim (tells q (c, x)) [
        | inl same ↦ none_either (is_before (c * t.exchanges + x) q) (is_before (c * t.exchanges + x + 1) q) (get t.ranks q) (ap (get t.ranks) same.1 ∙ none)
        | inr away ↦ others q (get t.ranks q) refl away.1
      ] ∙ sym (kept (c * t.exchanges + x + 1) q))

      -- one on, where it gets its rank
      pub next_some : (r : ℕ) → rank_at t c x ≡ Some r → with_rank (so_far (c * t.exchanges + x)) c x r ≡ so_far (c * t.exchanges + x + 1)
      next_some r ranked = same_ranks t.codes t.exchanges _ _ (λ q.
          get-insert pairs_total (retain_keys t.ranks (is_before (c * t.exchanges + x))) (c, x) r q ∙ ap (cond (eq_by_cmp pair_cmp q (c, x)) (Some r)) (kept (c * t.exchanges + x) q) ∙ elim (tells q (c, x)) [
            | inl same ↦
                ap (λ b. cond b (Some r) (cond (is_before (c * t.exchanges + x) q) (get t.ranks q) None)) same.0
                ∙ sym (ap (λ (y : Pair). cond (is_before (c * t.exchanges + x + 1) y) (get t.ranks y) None) same.1
                ∙ ap (λ b. cond b (rank_at t c x) None) (lt-ltb (c * t.exchanges + x) (c * t.exchanges + x + 1) (omega arith)) ∙ ranked)
            | inr away ↦ ap (λ b. cond b (Some r) (cond (is_before (c * t.exchanges + x) q) (get t.ranks q) None)) away.0 ∙ others q (get t.ranks q) refl away.1
          ] ∙ sym (kept (c * t.exchanges + x + 1) q))
