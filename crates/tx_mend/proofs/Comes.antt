-- Where calls come is where walks end.
use Rattle.tx_mend.proofs.Common.{◌≡◌, ◌≢◌, ℕ, zero, suc, ◌+◌, ◌<◌, ◌≤◌, Bool, true, false, ◌&&◌, ◌==◌, eqb-true, eq-eqb, List, [], ◌∷◌, ◌++◌, length, Option, Some, None, inl, inr, refl, sym, ap, subst, ◌∙◌, arith, list_any, option_map_or, cases_lt, and_parts, and_from, or_cases, or_left, or_right, false≢true, Plan, Route, home_of, IsPlan, route_list, other_end, rerouted, Among, IsReached, Certifies, is_net, indexes}
use Rattle.tx_rank.specs.Walks.{Net, net_of, Goes, end_of}
use Rattle.tx_rank.proofs.Ways.{end_push, goes_push}
use Rattle.tx_rank.proofs.Ranks.{all_down}
use Rattle.tx_mend.specs.Lists.{leads_between, comes_in}
use Rattle.tx_mend.proofs.Distinct.{among_range, range_among}

-- what a test finds in a list
pub any_member : (t : ℕ → Bool) (xs : List ℕ) → list_any t xs ≡ true → (x : ℕ) × Among x xs × (t x ≡ true)
any_member t [] h = absurd (false≢true h)
any_member t (x ∷ xs) h = elim (or_cases (t x) (list_any t xs) h) [
  | inl a ↦ (x, inl refl, a)
  | inr b ↦ let i = any_member t xs b in (i.0, inr i.1, i.2)
]

pub member_any : (t : ℕ → Bool) (xs : List ℕ) (x : ℕ) → Among x xs → t x ≡ true → list_any t xs ≡ true
member_any t [] x m h = absurd m
member_any t (y ∷ xs) x (inl e) h = or_left (t y) (list_any t xs) (ap t e ∙ h)
member_any t (y ∷ xs) x (inr m) h = or_right (t y) (list_any t xs) (member_any t xs x m h)

module _ (p : Plan) (y x g : ℕ) where
  leads_is : leads_between p y x g ≡ true → other_end p g y ≡ Some x
  leads_is h = by (other_end p g y) refl h
    where
      by : (o : Option ℕ) → other_end p g y ≡ o → option_map_or (λ z. z == x) o false ≡ true → other_end p g y ≡ Some x
      by None e k = absurd (false≢true k)
      by (Some z) e k = e ∙ ap (λ (v : ℕ). Some v) (eqb-true z x k)

  is_leads : other_end p g y ≡ Some x → leads_between p y x g ≡ true
  is_leads e = ap (λ (o : Option ℕ). option_map_or (λ z. z == x) o false) e ∙ eq-eqb x x refl

-- a step more
pub reached_next : (n : Net) (x g y : ℕ) → IsReached n x → x ≢ n.home → Among g (n.list x) → n.far g x ≡ Some y → IsReached n y
reached_next n x g y w away m leads =
    record {
      start = w.start;
      steps = w.steps ++ (g, y) ∷ [];
      walk = record {
        origin = w.walk.origin;
        goes = goes_push n w.start w.steps (g, y) w.walk.goes (λ e. away (sym w.ends ∙ e)) (subst (λ (z : ℕ). Among g (n.list z)) (sym w.ends) m) (ap (n.far g) w.ends ∙ leads);
      };
      ends = end_push w.start w.steps (g, y);
    }

module _ (p : Plan) (lists : ℕ → List ℕ) (c : ℕ) (known : c < length p.codes) where
  abbrev comes : ℕ → ℕ → Bool
  comes n x = comes_in p lists c n x

  -- over more groups
  pub comes_more : (n m x : ℕ) → n ≤ m → comes n x ≡ true → comes m x ≡ true
  comes_more n zero x few h = let e : n ≡ 0 = omega arith in subst (λ (k : ℕ). comes k x ≡ true) e h
  comes_more n (suc m) x few h = elim (cases_lt m n) [
    | inl l ↦ (let e : n ≡ suc m = omega arith in subst (λ (k : ℕ). comes k x ≡ true) e h)
    | inr l ↦ or_left (comes m x) (list_any (λ y. comes m y && list_any (leads_between p y x) (lists y)) (indexes (length p.exchanges))) (comes_more n m x l h)
  ]

  module _ (routes : List Route) where
    abbrev Q : Plan
    Q = rerouted p routes p.bars

    -- calls come to the end of a walk
    module _ (ok : IsPlan Q) (has : (x : ℕ) → x < length p.exchanges → route_list Q x c ≡ lists x) where
      goes_comes : (n m x : ℕ) (steps : List (ℕ × ℕ)) → m ≡ n + length steps → comes n x ≡ true → x < length p.exchanges → Goes (net_of Q c) x steps → comes m (end_of x steps) ≡ true
      goes_comes n m x [] e h w go = let same : n ≡ m = omega arith in subst (λ (k : ℕ). comes k x ≡ true) same h
      goes_comes n m x (s ∷ steps) e h w go =
          let l = (is_net Q ok c known).leads x s.0 go.1 in
          let far = l.1 in
          let far' = go.2 in
          let same : l.0 ≡ s.1 = cc in
          let group = subst (λ (k : List ℕ). Among s.0 k) (has x w) go.1 in
          let over = member_any (leads_between p x s.1) (lists x) s.0 group (is_leads p x s.1 s.0 go.2) in
          let step = or_right (comes n s.1) (list_any (λ y. comes n y && list_any (leads_between p y s.1) (lists y)) (indexes (length p.exchanges))) (member_any (λ y. comes n y && list_any (leads_between p y s.1) (lists y)) (indexes (length p.exchanges)) x (among_range 0 (length p.exchanges) x (omega arith) (omega arith)) (and_from (comes n x) (list_any (leads_between p x s.1) (lists x)) h over)) in
          goes_comes (suc n) m s.1 steps (omega arith) step (subst (λ k. k < length p.exchanges) same l.2) go.3

      pub reached_comes : (limit spare : ℕ) (ranks : ℕ → Option ℕ) → Certifies (net_of Q c) ranks limit spare → (x : ℕ) → IsReached (net_of Q c) x → comes (suc limit) x ≡ true
      reached_comes limit spare ranks cert x w =
          let o = cert.origins w.start w.walk.origin in
          let low = cert.low w.start o.0 o.1 in
          let d = all_down (net_of Q c) ranks (record { lower = cert.lower }) w.start o.0 w.steps o.1 w.walk.goes in
          let few = d.within in
          let at = goes_comes 0 (length w.steps) w.start w.steps (omega arith) w.walk.origin ((is_net Q ok c known).origins w.start w.walk.origin) w.walk.goes in
          subst (λ (z : ℕ). comes (suc limit) z ≡ true) w.ends (comes_more (length w.steps) (suc limit) (end_of w.start w.steps) (omega arith) at)

    -- a walk ends where calls come
    module _ (last : ℕ) (away : (x g : ℕ) → Among g (lists x) → home_of p c ≢ x) (has : (n x : ℕ) → n ≤ last → comes n x ≡ true → x < length p.exchanges → route_list Q x c ≡ lists x) where
      pub comes_reached : (n x : ℕ) → n ≤ suc last → comes n x ≡ true → IsReached (net_of Q c) x
      comes_reached zero x h a = record { start = x; steps = []; walk = record { origin = a; goes = tt }; ends = refl }
      comes_reached (suc n) x h a = elim (or_cases (comes n x) (list_any (λ y. comes n y && list_any (leads_between p y x) (lists y)) (indexes (length p.exchanges))) a) [
        | inl b ↦ comes_reached n x (omega arith) b
        | inr b ↦
            let y = any_member (λ y. comes n y && list_any (leads_between p y x) (lists y)) (indexes (length p.exchanges)) b in
            let t = and_parts (comes n y.0) (list_any (leads_between p y.0 x) (lists y.0)) y.2 in
            let g = any_member (leads_between p y.0 x) (lists y.0) t.1 in
            let w = (range_among 0 (length p.exchanges) y.0 y.1).1 in
            let at = has n y.0 (omega arith) t.0 (omega arith) in
            reached_next (net_of Q c) y.0 g.0 x (comes_reached n y.0 (omega arith) t.0) (λ e. away y.0 g.0 g.1 (sym e)) (subst (λ (l : List ℕ). Among g.0 l) (sym at) g.1) (leads_is p y.0 x g.0 g.2)
      ]
