-- The least ambiguous pair, by the indexes of its codes.
use Rattle.tx_plan.proofs.Common.{◌≡◌, ℕ, ◌+◌, true, false, ◌⊎◌, List, [], ◌∷◌, map, Option, Some, None, refl, ap, sym, ◌∙◌, subst, inl, inr, arith, filter, slice_get, if◌then◌else◌, enumerate_from, option_map, Ordering, Less, Equal, Greater, IsTotalOrder, slice_cmp, nat_list_cmp_total, on_total, then_total, exact_pairs, exact_bytes, false≢true, Among, Code, pair_at, IsAmbiguousAt}
use Rattle.std.specs.Ordering.{ordering_reverse, is_le, is_lt, nat_cmp}
use Rattle.tx_plan.proofs.Among.{among_map, map_among, among_flat, flat_among, among_filter, filter_among, among_indexes, indexes_among}
use Rattle.tx_plan.specs.Ambiguous.{CodePair, is_ambiguous, code_pairs, pair_cmp, lesser, least, ambiguous_of}

-- THE LEAST PAIR

pairs_total : IsTotalOrder pair_cmp
pairs_total = then_total (on_total (λ (p : CodePair). p.first.1.figures) nat_list_cmp_total) (on_total (λ (p : CodePair). p.second.1.figures) nat_list_cmp_total)

least_among : (ps : List CodePair) (p : CodePair) → least ps ≡ Some p → Among p ps
least_among [] p h = let bad : ⊥ = cc in absurd bad
least_among (q ∷ ps) p h = by (least ps) (least_among ps) h
  where
    by : (o : Option CodePair) → ((r : CodePair) → o ≡ Some r → Among r ps) → lesser q o ≡ Some p → Among p (q ∷ ps)
    by None e k = let s : q ≡ p = cc in inl s
    by (Some r) e k =
        elim (is_le (pair_cmp q r)) as (λ b. (if b then Some q else Some r) ≡ Some p → Among p (q ∷ ps)) [
          | true ↦ λ m. let s : q ≡ p = cc in inl s
          | false ↦ λ m. let s : p ≡ r = cc in inr (subst (λ w. Among w ps) (sym s) (e r refl))
        ] k

least_none : (ps : List CodePair) → ((p : CodePair) → Among p ps → ⊥) → least ps ≡ None
least_none [] h = refl
least_none (p ∷ ps) h = absurd (h p (inl refl))

least_is : (ps : List CodePair) (p : CodePair) → Among p ps → ((q : CodePair) → Among q ps → (q ≡ p) ⊎ (pair_cmp p q ≡ Less)) → least ps ≡ Some p
least_is [] p h low = absurd h
least_is (q ∷ ps) p (inl e) low = ap (λ w. lesser w (least ps)) e ∙ by (least ps) refl
  where
    by : (o : Option CodePair) → least ps ≡ o → lesser p o ≡ Some p
    by None is = refl
    by (Some r) is =
        elim (low r (inr (least_among ps r is))) [
          | inl s ↦ elim (is_le (pair_cmp p r)) as (λ b. (if b then Some p else Some r) ≡ Some p) [ true ↦ refl | false ↦ ap Some s ]
          | inr l ↦ ap (λ o. if is_le o then Some p else Some r) l
        ]
least_is (q ∷ ps) p (inr h) low =
    ap (lesser q) (least_is ps p h (λ r k. low r (inr k)))
    ∙ (elim (low q (inl refl)) [
      | inl s ↦ elim (is_le (pair_cmp q p)) as (λ b. (if b then Some q else Some p) ≡ Some p) [ true ↦ ap Some s | false ↦ refl ]
      | inr l ↦ ap (λ o. if is_le o then Some q else Some p) (pairs_total.antisymm q p ∙ ap ordering_reverse l)
    ])

module _ (codes : List Code) where
  listed : (i j : ℕ) (c d : Code) → IsAmbiguousAt codes i j c d → Among (pair_at i j c d) (filter is_ambiguous (code_pairs codes))
  listed i j c d h =
      let a : Among (i, c) (enumerate_from 0 codes) = subst (λ k. Among (k, c) (enumerate_from 0 codes)) (let z : 0 + i ≡ i = omega arith in z) (among_indexes 0 i c codes h.first) in
      let b : Among (j, d) (enumerate_from 0 codes) = subst (λ k. Among (k, d) (enumerate_from 0 codes)) (let z : 0 + j ≡ j = omega arith in z) (among_indexes 0 j d codes h.second) in
      among_filter is_ambiguous _ (code_pairs codes)
      (among_flat (λ x. map (λ y. record { first = x; second = y }) (enumerate_from 0 codes)) (i, c) _ (enumerate_from 0 codes) a (among_map (λ y. record { first = (i, c); second = y }) (j, d) (enumerate_from 0 codes) b)) h.begins

  unlisted : (p : CodePair) → Among p (filter is_ambiguous (code_pairs codes)) → IsAmbiguousAt codes p.first.0 p.second.0 p.first.1 p.second.1
  unlisted p h =
      let f = filter_among is_ambiguous p (code_pairs codes) h in
      let s = flat_among (λ x. map (λ y. record { first = x; second = y }) (enumerate_from 0 codes)) p (enumerate_from 0 codes) f.0 in
      let t = map_among (λ y. record { first = s.0; second = y }) p (enumerate_from 0 codes) s.2 in
      let a = indexes_among 0 s.0 codes s.1 in
      let b = indexes_among 0 t.0 codes t.1 in
      let e : p ≡ record { first = s.0; second = t.0 } = sym t.2 in
      record {
        first = ap (slice_get codes) (ap (λ (w : CodePair). w.first.0) e ∙ a.2 ∙ (let z : 0 + a.0 ≡ a.0 = omega arith in z)) ∙ a.1 ∙ ap (λ (w : CodePair). Some w.first.1) (sym e);
        second = ap (slice_get codes) (ap (λ (w : CodePair). w.second.0) e ∙ b.2 ∙ (let z : 0 + b.0 ≡ b.0 = omega arith in z)) ∙ b.1 ∙ ap (λ (w : CodePair). Some w.second.1) (sym e);
        begins = f.1;
      }

  abbrev indexes : CodePair → ℕ × ℕ
  indexes p = (p.first.0, p.second.0)

  pub ambiguous-none : ((i j : ℕ) (c d : Code) → IsAmbiguousAt codes i j c d → ⊥) → ambiguous_of codes ≡ None
  ambiguous-none h = ap (option_map indexes) (least_none (filter is_ambiguous (code_pairs codes)) (λ p k. h p.first.0 p.second.0 p.first.1 p.second.1 (unlisted p k)))

  pub none-ambiguous : ambiguous_of codes ≡ None → (i j : ℕ) (c d : Code) → IsAmbiguousAt codes i j c d → ⊥
  none-ambiguous e i j c d h = none (filter is_ambiguous (code_pairs codes)) e (pair_at i j c d) (listed i j c d h)
    where
      some : (p : CodePair) (o : Option CodePair) → option_map indexes (lesser p o) ≡ None → ⊥
      some p None h = let bad : ⊥ = cc in bad
      some p (Some q) h =
          elim (is_le (pair_cmp p q)) as (λ b. option_map indexes (if b then Some p else Some q) ≡ None → ⊥) [ true ↦ λ k. let bad : ⊥ = cc in bad | false ↦ λ k. let bad : ⊥ = cc in bad ] h

      none : (ps : List CodePair) → option_map indexes (least ps) ≡ None → (p : CodePair) → Among p ps → ⊥
      none [] e p h = h
      none (q ∷ ps) e p h = some q (least ps) e

  -- codes at different indexes differ
  abbrev pub AreDistinct : Type 0
  AreDistinct = (i j : ℕ) (c d : Code) → slice_get codes i ≡ Some c → slice_get codes j ≡ Some d → c.figures ≡ d.figures → i ≡ j

  -- an ambiguous pair with none before it is the least
  pub ambiguous-some : AreDistinct → (i j : ℕ) (c d : Code) → IsAmbiguousAt codes i j c d
      → ((k l : ℕ) (e f : Code) → IsAmbiguousAt codes k l e f → is_lt (pair_cmp (pair_at k l e f) (pair_at i j c d)) ≡ false)
      → ambiguous_of codes ≡ Some (i, j)
  ambiguous-some differ i j c d h low =
      ap (option_map indexes) (least_is (filter is_ambiguous (code_pairs codes)) (pair_at i j c d) (listed i j c d h) (λ q k. by q (unlisted q k)))
    where
      by : (q : CodePair) → IsAmbiguousAt codes q.first.0 q.second.0 q.first.1 q.second.1 → (q ≡ pair_at i j c d) ⊎ (pair_cmp (pair_at i j c d) q ≡ Less)
      by q a = at (pair_cmp q (pair_at i j c d)) refl
        where
          at : (o : Ordering) → pair_cmp q (pair_at i j c d) ≡ o → (q ≡ pair_at i j c d) ⊎ (pair_cmp (pair_at i j c d) q ≡ Less)
          at Less e = absurd (false≢true (sym (low q.first.0 q.second.0 q.first.1 q.second.1 a) ∙ ap is_lt e))
          at Greater e = inr (pairs_total.antisymm (pair_at i j c d) q ∙ ap ordering_reverse e)
          at Equal e =
              let both : (q.first.1.figures, q.second.1.figures) ≡ (c.figures, d.figures) = exact_pairs (slice_cmp nat_cmp) (slice_cmp nat_cmp) exact_bytes exact_bytes (q.first.1.figures, q.second.1.figures) (c.figures, d.figures) e in
              let x : q.first.0 ≡ i = differ q.first.0 i q.first.1 c a.first h.first (ap (λ w. w.0) both) in
              let y : q.second.0 ≡ j = differ q.second.0 j q.second.1 d a.second h.second (ap (λ w. w.1) both) in
              let u : Some q.first.1 ≡ Some c = sym a.first ∙ ap (slice_get codes) x ∙ h.first in
              let v : Some q.second.1 ≡ Some d = sym a.second ∙ ap (slice_get codes) y ∙ h.second in
              let u' : q.first.1 ≡ c = cc in
              let v' : q.second.1 ≡ d = cc in
              inl (λ k. record { first = (x k, u' k); second = (y k, v' k) })
