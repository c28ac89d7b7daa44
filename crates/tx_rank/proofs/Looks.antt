-- A look at a list, group by group.
use Rattle.tx_rank.proofs.Common.{◌≡◌, ℕ, zero, suc, ◌+◌, ◌<◌, ◌≤◌, List, [], ◌∷◌, ◌++◌, length, get_or, take, ◌⊎◌, inl, inr, Some, None, refl, sym, ap, subst, ◌∙◌, arith, slice_get, slice_get-get_or, Among, among_left, among_right, among_cases, take_next, Net, IsNet, rank_in, IsOnward, IsTop, Mark}

pub among_at : {A : Type 0} (xs : List A) (i : ℕ) (x : A) → slice_get xs i ≡ Some x → Among x xs
among_at [] i x h = absurd (let bad : ⊥ = cc in bad)
among_at (y ∷ xs) zero x h = let same : y ≡ x = cc in inl same
among_at (y ∷ xs) (suc i) x h = inr (among_at xs i x h)

-- what was read at an index of a list
pub got_at : (xs ys : List ℕ) (i x : ℕ) → xs ≡ ys → i < length xs → x ≡ get_or xs i x → slice_get ys i ≡ Some x
got_at xs ys i x e h is = ap (λ l. slice_get l i) (sym e) ∙ slice_get-get_or xs i x h ∙ ap (λ k. Some k) (sym is)

pub leads_within : (n : Net) (x g y : ℕ) → IsNet n → Among g (n.list x) → n.far g x ≡ Some y → y < n.exchanges
leads_within n x g y ok m leads = let l = ok.leads x g m in let same : l.0 ≡ y = let e = l.1 in cc in let w = l.2 in omega arith

module _ (n : Net) (marks : List Mark) (x : ℕ) where
  -- one more group, which leads to rank r
  top_more : (groups : List ℕ) (top next g y r : ℕ) → IsTop n marks x groups top → n.far g x ≡ Some y → rank_in marks y ≡ Some r → top ≤ next → r ≤ next → (next ≡ top) ⊎ (next ≡ r) → IsTop n marks x (groups ++ g ∷ []) next
  top_more groups top next g y r t leads ranked a b either =
      record {
        lower = λ h m. elim (among_cases h groups (g ∷ []) m) [
          | inl l ↦ let low = t.lower h l in record { to = low.to; rank = low.rank; leads = low.leads; ranked = low.ranked; below = let k = low.below in omega arith }
          | inr q ↦ elim q [ inl e ↦ record { to = y; rank = r; leads = ap (λ k. n.far k x) (sym e) ∙ leads; ranked = ranked; below = omega arith } | inr f ↦ absurd f ]
        ];
        tight = elim either [
          | inl e ↦ elim t.tight [ inl z ↦ inl (e ∙ z) | inr q ↦ inr (q.0, q.1, among_left q.0 groups (g ∷ []) q.2, q.3, q.4 ∙ ap (λ k. Some k) (sym e)) ]
          | inr e ↦ inr (g, y, among_right g groups (g ∷ []) (inl refl), leads, ranked ∙ ap (λ k. Some k) (sym e))
        ];
      }

  pub top_step : (i top next g y r : ℕ) → slice_get (n.list x) i ≡ Some g → IsTop n marks x (take i (n.list x)) top → n.far g x ≡ Some y → Some r ≡ rank_in marks y → top ≤ next → r ≤ next → (next ≡ top) ⊎ (next ≡ r) → IsTop n marks x (take (i + 1) (n.list x)) next
  top_step i top next g y r at t leads ranked a b either =
      subst (λ (l : List ℕ). IsTop n marks x l next) (sym (take_next (n.list x) i g at)) (top_more (take i (n.list x)) top next g y r t leads (sym ranked) a b either)

  pub onward_at : (i g y : ℕ) → slice_get (n.list x) i ≡ Some g → n.far g x ≡ Some y → y < n.exchanges → None ≡ rank_in marks y → IsOnward n marks x (g, y)
  onward_at i g y at leads within free = record { listed = among_at (n.list x) i g at; leads = leads; within = within; fresh = sym free }
