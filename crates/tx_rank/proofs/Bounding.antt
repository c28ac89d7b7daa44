-- Bounds of what holds together, and those that ranks by height show.
use Rattle.std.proofs.Common.{◌≡◌, ◌≢◌, ℕ, zero, suc, ◌+◌, ◌<◌, ◌≤◌, inl, inr, max, min, true, false, eqb, eqb-true, List, [], ◌∷◌, ◌++◌, length, Option, Some, refl, sym, ap, subst, ◌∙◌, arith, length-append}
use Rattle.tx_rank.proofs.Common.{◌↔◌, cases_lt, eqb-false, Plan, Ranks, IsCertified, Bounds, Short, Long, Net, net_of, Goes, end_of, IsShort, IsLong, RanksByHeight, AreHeights, Certifies, AreBounds, NothingIsWrong, Suits}
use Rattle.tx_rank.proofs.Ranks.{Falls, all_down, once_down}
use Rattle.tx_rank.proofs.Certifying.{certifies_code}

-- TOGETHER

module _ (P : ℕ → ℕ → Type 0) where
  module _ (Q R : ℕ → ℕ → Type 0) where
    pub bounds_both : (a b c : Bounds) → AreBounds P a → AreBounds Q b → c.limit ≡ max a.limit b.limit → c.spare ≡ min a.spare b.spare → ((l s : ℕ) → R l s ↔ (P l s × Q l s)) → AreBounds R c
    bounds_both a b c p q limit spare split =
        record {
          few = let f = p.few in omega arith;
          exactly = λ l s h. (
            λ r. let f = (p.exactly l s h).0 ((split l s).0 r).0 in let g = (q.exactly l s h).0 ((split l s).0 r).1 in let x = f.0 in let y = f.1 in let z = g.0 in let w = g.1 in (omega arith, omega arith),
            λ k. let x = k.0 in let y = k.1 in (split l s).1 ((p.exactly l s h).1 (omega arith, omega arith), (q.exactly l s h).1 (omega arith, omega arith)),
          );
        }

  module _ (Q : ℕ → ℕ → Type 0) where
    pub bounds_same : (b : Bounds) → AreBounds P b → ((l s : ℕ) → P l s ↔ Q l s) → AreBounds Q b
    bounds_same b p same = record { few = p.few; exactly = λ l s h. (λ q. (p.exactly l s h).0 ((same l s).1 q), λ k. (same l s).0 ((p.exactly l s h).1 k)) }

-- ONE CODE

-- a way, and one on from its end
joined_goes : (n : Net) (x : ℕ) (way rest : List (ℕ × ℕ)) → Goes n x way → Goes n (end_of x way) rest → Goes n x (way ++ rest)
joined_goes n x [] rest g h = h
joined_goes n x (s ∷ way) rest g h = (g.0, g.1, g.2, joined_goes n s.1 way rest g.3 h)

-- the first k steps of a longer way end before the home
front_goes : (n : Net) (k x : ℕ) (way : List (ℕ × ℕ)) → Goes n x way → k < length way → (front : List (ℕ × ℕ)) × Goes n x front × (end_of x front ≢ n.home) × (length front ≡ k)
front_goes n k x [] g l = absurd (omega arith)
front_goes n zero x (s ∷ way) g l = ([], tt, g.0, refl)
front_goes n (suc k) x (s ∷ way) g l = let f = front_goes n k s.1 way g.3 (omega arith) in (s ∷ f.0, (g.0, g.1, g.2, f.1), f.2, ap suc f.3)

-- what the exchanges before index i ask for
abbrev pub SuitsBelow : Net → (ℕ → Option ℕ) → (i limit spare : ℕ) → Type 0
SuitsBelow n ranks i limit spare = (x : ℕ) → x < i → Suits n ranks x limit spare

module _ (n : Net) (ranks : ℕ → Option ℕ) where
  pub below_next : (i : ℕ) (a b c : Bounds) → AreBounds (SuitsBelow n ranks i) a → AreBounds (Suits n ranks i) b → c.limit ≡ max a.limit b.limit → c.spare ≡ min a.spare b.spare → AreBounds (SuitsBelow n ranks (i + 1)) c
  below_next i a b c p q limit spare =
      bounds_both (SuitsBelow n ranks i) (Suits n ranks i) (SuitsBelow n ranks (i + 1)) a b c p q limit spare
      (λ l s. (
        λ r. (λ x h. r x (omega arith), r i (omega arith)),
        λ k x h. elim (eqb x i) as (λ t. eqb x i ≡ t → Suits n ranks x l s) [
          | true ↦ λ e. subst (λ y. Suits n ranks y l s) (sym (eqb-true x i e)) k.1
          | false ↦ λ e. let d = eqb-false x i e in k.0 x (omega arith)
        ] refl,
      ))

  module _ (heights : RanksByHeight n ranks) (certified : Certifies n ranks 255 0) where
    -- whatever ranks certify the code, no exchange is ranked below its height, and each has groups enough
    pub certified_suits : (other : ℕ → Option ℕ) (l s : ℕ) → Certifies n other l s → (x : ℕ) → Suits n ranks x l s
    certified_suits other l s c x r ranked away =
        let falls : Falls n other = record { lower = c.lower } in
        let w = heights.ranked x r ranked away in
        let o = c.origins w.start w.walk.origin in
        let to = all_down n other falls w.start o.0 w.steps o.1 w.walk.goes in
        let at : other x ≡ Some to.rank = ap other (sym w.ends) ∙ to.ranked in
        let h = heights.heights x r ranked in
        let on = all_down n other falls x to.rank h.steps at h.goes in
        let within = on.within in
        let count = h.count in
        let low = c.low x to.rank at in
        (omega arith, c.enough x to.rank at away)

    -- and these ranks certify it where that is so
    pub suits_certified : (l s : ℕ) → ((x : ℕ) → Suits n ranks x l s) → Certifies n ranks l s
    suits_certified l s suits =
        record {
          home = certified.home;
          origins = certified.origins;
          low = λ x r ranked. elim (eqb x n.home) as (λ t. eqb x n.home ≡ t → r ≤ l + 1) [
            | true ↦ λ e. let at = ap ranks (eqb-true x n.home e) in let h = certified.home in let zero_rank : r ≡ 0 = cc in omega arith
            | false ↦ λ e. (suits x r ranked (eqb-false x n.home e)).0
          ] refl;
          enough = λ x r ranked away. (suits x r ranked away).1;
          lower = certified.lower;
        }

    -- that is so where no walk is short or long
    pub clear_suits : (l s : ℕ) → ((x : ℕ) (steps : List (ℕ × ℕ)) → IsShort n s x steps → ⊥) → ((x : ℕ) (steps : List (ℕ × ℕ)) → IsLong n l x steps → ⊥) → (x : ℕ) → Suits n ranks x l s
    clear_suits l s no_short no_long x r ranked away =
        let falls : Falls n ranks = record { lower = certified.lower } in
        let w = heights.ranked x r ranked away in
        let o = certified.origins w.start w.walk.origin in
        let h = heights.heights x r ranked in
        let way = joined_goes n w.start w.steps h.steps w.walk.goes (subst (λ y. Goes n y h.steps) (sym w.ends) h.goes) in (
          elim (cases_lt (l + 1) r) [
            | inl over ↦
                let long = length-append w.steps h.steps in
                let count = h.count in
                let f = front_goes n (l + 1) w.start (w.steps ++ h.steps) way (omega arith) in
                absurd (no_long w.start f.0 (record { walk = record { origin = w.walk.origin; goes = f.1 }; once = once_down n ranks falls w.start o.0 f.0 o.1 f.1; away = f.2; long = f.3 }))
            | inr within ↦ within
          ],
          elim (cases_lt s (n.fewest x)) [
            | inl enough ↦ enough
            | inr few ↦
                let once = once_down n ranks falls w.start o.0 w.steps o.1 w.walk.goes in
                absurd (no_short w.start w.steps (record { walk = w.walk; once = once; away = λ e. away (sym w.ends ∙ e); few = subst (λ y. n.fewest y < s + 1) (sym w.ends) (omega arith) }))
          ],
        )

    pub code_bounds : (i : ℕ) (b : Bounds) → ((x r : ℕ) → ranks x ≡ Some r → x < i) → AreBounds (SuitsBelow n ranks i) b → AreBounds (λ l s. (other : ℕ → Option ℕ) × Certifies n other l s) b
    code_bounds i b within p =
        bounds_same (SuitsBelow n ranks i) (λ l s. (other : ℕ → Option ℕ) × Certifies n other l s) b p
        (λ l s. (λ k. (ranks, suits_certified l s (λ x r ranked away. k x (within x r ranked) r ranked away)), λ k x _. certified_suits k.0 l s k.1 x))

-- A CODE OF A PLAN

module _ (p : Plan) (ranks : Ranks) (heights : AreHeights p ranks)
    (certified : IsCertified p ranks 255 0) where
  -- these ranks certify a code where no finding is true
  pub clear_code : {A : Type 0} (c : ℕ) → c < length p.codes → (l s : ℕ)
      → NothingIsWrong A p l s → Certifies (net_of p c) (ranks c) l s
  clear_code c h l s none =
      let own = certifies_code p ranks 255 0 certified c h in
      suits_certified (net_of p c) (ranks c) (heights c h) own l s
      (clear_suits (net_of p c) (ranks c) (heights c h) own l s
      (λ x steps i. none (Short c (record { start = x; steps = steps })) (h, i))
      (λ x steps i. none (Long c (record { start = x; steps = steps })) (h, i)))
