-- Walks back along links, and down along ranks.
use Rattle.tx_rank.proofs.Common.{◌≡◌, ◌≢◌, ℕ, suc, ◌+◌, ◌-◌, ◌*◌, ◌<◌, ◌≤◌, false, List, [], ◌∷◌, ◌++◌, length, take, inl, inr, Option, Some, None, unwrap_or, refl, sym, ap, subst, ◌∙◌, arith, length-append, false≢true, Among, among_cases, Net, Goes, end_of, AreSettled, IsLower, IsLink, LinksBelow, take_next}
use Rattle.std.specs.Prelude.{slice_get, reverse}
use Rattle.std.proofs.lemmas.List.{reverse-append}
use Rattle.tx_rank.proofs.Ways.{goes_push, end_push}
use Rattle.tx_rank.proofs.Ranks.{falling, one_down, reached_ranked}
use Rattle.tx_rank.proofs.Linking.{last_step}

-- the steps in hand, the last first, lead links here to x
pub record IsBack (n : Net) (ranks : ℕ → Option ℕ) (x here : ℕ) (steps : List (ℕ × ℕ)) : Type 0 where
  pub rank : ℕ
  pub ranked : ranks here ≡ Some rank
  pub away : here ≢ n.home
  pub goes : Goes n here (reverse steps)
  pub ends : end_of here (reverse steps) ≡ x

-- the steps in hand lead links the origin down
pub record IsDown (n : Net) (ranks : ℕ → Option ℕ) (origin rank here : ℕ) (steps : List (ℕ × ℕ)) : Type 0 where
  pub goes : Goes n origin steps
  pub ends : end_of origin steps ≡ here
  pub high : ℕ
  pub ranked : ranks here ≡ Some high
  pub sum : high + length steps ≡ rank

module _ (n : Net) (ranks : ℕ → Option ℕ) where
  pub down_none : (origin rank : ℕ) → ranks origin ≡ Some rank → IsDown n ranks origin rank origin []
  down_none origin rank ranked = record { goes = tt; ends = refl; high = rank; ranked = ranked; sum = omega arith }

  pub lower_more : (x i rank g y : ℕ) → slice_get (n.list x) i ≡ Some g → n.far g x ≡ Some y → (ranks y ≡ Some rank → ⊥) → IsLower n ranks x (take i (n.list x)) rank None → IsLower n ranks x (take (i + 1) (n.list x)) rank None
  lower_more x i rank g y got leads other none h z m leads' ranked =
      let m' = subst (λ (l : List ℕ). Among h l) (take_next (n.list x) i g got) m in
      elim (among_cases h (take i (n.list x)) (g ∷ []) m') [
        | inl a ↦ none h z a leads' ranked
        | inr b ↦ elim b [ inl q ↦ let f = ap (λ k. n.far k x) q in let same : y ≡ z = cc in other (ap ranks same ∙ ranked) | inr f ↦ f ]
      ]

module _ (n : Net) (ranks : ℕ → Option ℕ) (done : AreSettled n ranks) where
  pub back_none : (x : ℕ) → (r : ℕ) × (ranks x ≡ Some r) → x ≢ n.home → IsBack n ranks x x []
  back_none x r away = record { rank = r.0; ranked = r.1; away = away; goes = tt; ends = refl }

  pub back_within : (x here : ℕ) (steps : List (ℕ × ℕ)) → IsBack n ranks x here steps → here < n.exchanges
  back_within x here steps b = done.within here b.rank b.ranked

  pub back_more : (x here g p : ℕ) (steps : List (ℕ × ℕ)) → IsBack n ranks x here steps → IsLink n ranks here (g, p) → IsBack n ranks x p (steps ++ (g, here) ∷ [])
  back_more x here g p steps b l =
      let e : (g, here) ∷ reverse steps ≡ reverse (steps ++ (g, here) ∷ []) = sym (reverse-append steps ((g, here) ∷ [])) in
      record {
        rank = l.rank;
        ranked = l.ranked;
        away = l.away;
        goes = subst (λ (s : List (ℕ × ℕ)). Goes n p s) e (l.away, l.listed, l.leads, b.goes);
        ends = subst (λ (s : List (ℕ × ℕ)). end_of p s ≡ x) e b.ends;
      }

  -- an exchange that is not an origin is linked
  pub is_linked : (links : List (Option (ℕ × ℕ))) (x here : ℕ) (steps : List (ℕ × ℕ)) → LinksBelow n ranks links n.exchanges → IsBack n ranks x here steps → n.is_origin here ≡ false → (s : ℕ × ℕ) × (slice_get links here ≡ Some (Some s))
  is_linked links x here steps all b no_origin =
      let r = done.ranked here b.rank b.ranked b.away in
      elim (last_step n ranks r.start r.steps here r.walk.goes r.ends) [
        | inl same ↦ let o = ap n.is_origin same in let w = r.walk.origin in absurd (false≢true (sym no_origin ∙ sym o ∙ w))
        | inr l ↦
            let p = reached_ranked n ranks done (end_of r.start l.front) (record { start = r.start; steps = l.front; walk = record { origin = r.walk.origin; goes = l.goes }; ends = refl }) in
            all (end_of r.start l.front) p.0 (done.within (end_of r.start l.front) p.0 p.1) p.1 l.away l.group here l.listed l.leads
      ]

  -- ranks rise on the way back
  pub rises : (here g p r : ℕ) → ranks here ≡ Some r → IsLink n ranks here (g, p) → (q : ℕ) × (ranks p ≡ Some q) × (r < q) × (q ≤ 2 * n.exchanges)
  rises here g p r ranked l =
      let d = one_down n ranks (falling n ranks done) p l.rank g here l.ranked l.away l.listed l.leads in
      let same : d.rank ≡ r = let a = d.ranked in cc in
      (l.rank, l.ranked, let w = d.within in omega arith, done.low p l.rank l.ranked)

  pub down_more : (origin rank here m g y : ℕ) (steps : List (ℕ × ℕ)) → IsDown n ranks origin rank here steps → m + length steps + 1 ≡ rank → 0 < m → IsLower n ranks here (n.list here) m (Some (g, y)) → IsDown n ranks origin rank y (steps ++ (g, y) ∷ [])
  down_more origin rank here m g y steps d sum positive l =
      let away : here ≢ n.home = λ e. let h = done.home in let r = d.ranked in let z = ap ranks e in let zero_rank : d.high ≡ 0 = cc in let s = d.sum in absurd (omega arith) in
      record {
        goes = goes_push n origin steps (g, y) d.goes (λ e. away (sym d.ends ∙ e)) (subst (λ (k : ℕ). Among g (n.list k)) (sym d.ends) l.0) (ap (n.far g) d.ends ∙ l.1);
        ends = end_push origin steps (g, y);
        high = m;
        ranked = l.2;
        sum = simp length-append (omega arith);
      }

  -- below rank 2 or more there is a next exchange
  pub goes_down : (origin rank here m : ℕ) (steps : List (ℕ × ℕ)) → IsDown n ranks origin rank here steps → m + length steps + 1 ≡ rank → 0 < m → IsLower n ranks here (n.list here) m None → ⊥
  goes_down origin rank here m steps d sum positive none =
      let s = d.sum in
      let high : d.high ≡ suc m = omega arith in
      let away : here ≢ n.home = λ e. let h = done.home in let r = d.ranked in let z = ap ranks e in let zero_rank : d.high ≡ 0 = cc in absurd (omega arith) in
      elim (done.settled here d.high d.ranked away).tight [
        | inl e ↦ absurd (omega arith)
        | inr t ↦ let q = t.6 in let same : t.2 ≡ m = omega arith in none t.0 t.1 t.3 t.4 (t.5 ∙ ap (λ k. Some k) same)
      ]

  pub back_smaller : (x here g p : ℕ) (steps : List (ℕ × ℕ)) → IsBack n ranks x here steps → IsLink n ranks here (g, p) → 2 * n.exchanges - unwrap_or (ranks p) 0 < 2 * n.exchanges - unwrap_or (ranks here) 0
  back_smaller x here g p steps b l =
      let r = rises here g p b.rank b.ranked l in
      let a : unwrap_or (ranks p) 0 ≡ r.0 = ap (λ o. unwrap_or o 0) r.1 in
      let c : unwrap_or (ranks here) 0 ≡ b.rank = ap (λ o. unwrap_or o 0) b.ranked in
      let d = r.2 in
      let e = r.3 in
      omega arith

pub no_link : (links : List (Option (ℕ × ℕ))) (x : ℕ) → (s : ℕ × ℕ) × (slice_get links x ≡ Some (Some s)) → slice_get links x ≡ Some None → ⊥
no_link links x s h = let e = s.1 in let bad : ⊥ = cc in bad
