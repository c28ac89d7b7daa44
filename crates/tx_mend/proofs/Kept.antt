-- The kept ranks: groups that are put back stay, and no other group could stay.
use Rattle.tx_mend.proofs.Common.{◌≡◌, ◌≢◌, ℕ, suc, ◌+◌, ◌<◌, ◌≤◌, ◌⊎◌, true, false, not, ◌&&◌, ◌||◌, ◌==◌, nat_lt, eq-eqb, List, [], ◌∷◌, length, Option, Some, None, inl, inr, refl, sym, ap, subst, ◌∙◌, arith, filter, is_some, slice_get, if◌then◌else◌, list_all, flat_map, fold, option_map_or, and_parts, and_from, or_cases, or_left, or_right, false≢true, lt-ltb, not-true, Plan, home_of, IsPlan, route_list, is_origin_for, Among, among_filter, among_flat, is_net, indexes, RanksOfCode, outgoing, leads_on, can_follow, least_rank, ranks_origins, list_few}
use Rattle.tx_mend.specs.KeptRanks.{leads_below, stays_by, list_with, can_follow_keeping, rank_keeping, put_back, has_rank, nearest_first, choice_at, choices, kept_rank}
use Rattle.tx_mend.proofs.Distinct.{some_among, fits, among_range, all_holds, holds_all}
use Rattle.tx_mend.proofs.RoundRanks.{Ranked, why, no_greater}
use Rattle.tx_mend.proofs.Least.{leads}
use Rattle.tx_mend.proofs.LeastLists.{Leads, IsRanking, present_list, rank_over, on_leads, round_ranking}

-- WHERE ALL ORIGINS ARE RANKED

module _ (p : Plan) (ok : IsPlan p) (c : ℕ) (known : c < length p.codes) (ranks : RanksOfCode) where
  pub origin_ranked : ranks_origins p c ranks ≡ true → (x : ℕ) → is_origin_for p x c ≡ true → (r : ℕ) × (ranks x ≡ Some r)
  origin_ranked k x o =
      let w = (is_net p ok c known).origins x o in
      let t = all_holds (λ x. not (is_origin_for p x c) || is_some (ranks x)) (indexes (length p.exchanges)) x k (among_range 0 (length p.exchanges) x (omega arith) (omega arith)) in
      by (ranks x) refl (elim (or_cases (not (is_origin_for p x c)) (is_some (ranks x)) t) [ inl n ↦ (let f = not-true (is_origin_for p x c) n in let bad : ⊥ = cc in absurd bad) | inr s ↦ s ])
    where
      by : (o : Option ℕ) → ranks x ≡ o → is_some o ≡ true → (r : ℕ) × (ranks x ≡ Some r)
      by None e s = absurd (false≢true s)
      by (Some r) e s = (r, e)

  pub origins_ranked : ((x : ℕ) → is_origin_for p x c ≡ true → (r : ℕ) × (ranks x ≡ Some r)) → ranks_origins p c ranks ≡ true
  origins_ranked h =
      holds_all (λ x. not (is_origin_for p x c) || is_some (ranks x)) (indexes (length p.exchanges)) (λ x m.
      elim (is_origin_for p x c) as (λ b. is_origin_for p x c ≡ b → (not b || is_some (ranks x)) ≡ true) [
        | true ↦ λ o. ap is_some (h x o).1
        | false ↦ λ o. refl
      ] refl)

-- ALL CHOICES

pub among_index : (xs : List ℕ) (g : ℕ) → Among g xs → (j : ℕ) × (j < length xs) × (slice_get xs j ≡ Some g)
among_index [] g m = absurd m
among_index (x ∷ xs) g (inl e) = (0, omega arith, ap (λ (y : ℕ). Some y) e)
among_index (x ∷ xs) g (inr m) = let i = among_index xs g m in let h = i.1 in (suc i.0, omega arith, i.2)

pub choices_have : (p : Plan) → IsPlan p → (c x g : ℕ) (xs : List ℕ) → Among x xs → Among g (route_list p x c) → Among {A = ℕ × ℕ} (x, g) (choices p c xs)
choices_have p ok c x g xs h m =
    let i = among_index (route_list p x c) g m in
    let at = i.1 in
    let few = list_few p ok x c in
    let here : Among {A = ℕ × ℕ} (x, g) (choice_at p c i.0 x) = subst (λ (o : Option ℕ). Among {A = ℕ × ℕ} (x, g) (option_map_or (λ g. (x, g) ∷ []) o [])) (sym i.2) (inl refl) in
    among_flat (λ j. flat_map (choice_at p c j) xs) i.0 (x, g) (indexes 16) (among_range 0 16 i.0 (omega arith) (omega arith))
    (among_flat (choice_at p c i.0) x (x, g) xs h here)

nearest_have : (p : Plan) (limit : ℕ) (ranks : RanksOfCode) (x r : ℕ) → x < length p.exchanges → ranks x ≡ Some r → r ≤ suc limit → Among x (nearest_first p limit ranks)
nearest_have p limit ranks x r h e low =
    among_flat (λ r. filter (has_rank ranks r) (indexes (length p.exchanges))) r x (indexes (limit + 2)) (among_range 0 (limit + 2) r (omega arith) (omega arith))
    (among_filter (has_rank ranks r) x (indexes (length p.exchanges)) (among_range 0 (length p.exchanges) x (omega arith) (omega arith))
    (ap (λ (o : Option ℕ). option_map_or (λ m. m == r) o false) e ∙ eq-eqb r r refl))

-- NO RANKS ARE LESS THAN THE LEAST ONES

module _ (p : Plan) (c limit spare : ℕ) (ranks : RanksOfCode) (k : IsRanking p c limit spare ranks) where
  positive : (x r : ℕ) → ranks x ≡ Some r → x ≢ home_of p c → 0 < r
  positive x r e away =
      let n = k.enough x r e away in
      let s = some_among n.groups spare n.more in
      let b = (n.lower s.0 s.1).below in
      omega arith

  fed : (x r : ℕ) → ranks x ≡ Some r → x ≢ home_of p c → (other : RanksOfCode) → ((y m : ℕ) → ranks y ≡ Some m → m < r → (n : ℕ) × (other y ≡ Some n)) → can_follow p spare other x ≡ true
  fed x r e away other h =
      let n = k.enough x r e away in
      let on : List ℕ = filter (λ g. leads_on p other x g) (outgoing p x) in
      let each : (g : ℕ) → Among g n.groups → Among g on = λ g m.
      let l = n.lower g m in
      let o = h l.to l.rank l.ranked l.below in
      among_filter (λ g. leads_on p other x g) g (outgoing p x) (n.seized g m) (leads p other x g l.to o.0 l.leads o.1) in
      let long = fits n.groups on n.differ each in
      let more = n.more in
      lt-ltb spare (length on) (omega arith)

  pub ranking_least : (x r : ℕ) → ranks x ≡ Some r → (n : ℕ) × (least_rank p c limit spare x ≡ Some n) × (n ≤ r)
  ranking_least x r e = no_greater (home_of p c) (can_follow p spare) ranks positive fed (suc limit) x r (k.low x r e) e

-- RANKS THAT KEEP SOME LISTS

module _ (p : Plan) (ok : IsPlan p) (c limit spare : ℕ) where
  abbrev Keeping : (ℕ → List ℕ) → RanksOfCode
  Keeping kept = rank_keeping p c limit spare kept

  keeping_ranking : (kept : ℕ → List ℕ) → IsRanking p c limit spare (Keeping kept)
  keeping_ranking kept = round_ranking p c limit (can_follow_keeping p spare kept) spare (λ ranks x h. (and_parts (can_follow p spare ranks x) (list_all (λ g. leads_on p ranks x g) (kept x)) h).0)

  keeping_leads : (kept : ℕ → List ℕ) (x r g : ℕ) → Keeping kept x ≡ Some r → x ≢ home_of p c → Among g (kept x) → Leads p (Keeping kept) x r g
  keeping_leads kept x r g e away m =
      let w = why (home_of p c) (can_follow_keeping p spare kept) (suc limit) x r e away in
      let b = Ranked (home_of p c) (can_follow_keeping p spare kept) w.round in
      let a = (and_parts (can_follow p spare b x) (list_all (λ g. leads_on p b x g) (kept x)) w.admitted).1 in
      on_leads p c limit (can_follow_keeping p spare kept) x r g w (all_holds (λ g. leads_on p b x g) (kept x) g a m)

  pub below_of : (ranks : RanksOfCode) (x r g : ℕ) → Leads p ranks x r g → leads_below p ranks r x g ≡ true
  below_of ranks x r g l = ap (λ (o : Option ℕ). option_map_or (λ m. nat_lt m r) o false) (rank_over p ranks x g l.to l.rank l.leads l.ranked) ∙ lt-ltb l.rank r l.below

  -- the groups of these lists stay by these ranks
  keeping_stays : (kept : ℕ → List ℕ) (x g : ℕ) → Among g (route_list p x c) → Among g (kept x) → stays_by p (Keeping kept) x g ≡ true
  keeping_stays kept x g listed m = by (Keeping kept x) refl
    where
      by : (o : Option ℕ) → Keeping kept x ≡ o → option_map_or (λ r. leads_below p (Keeping kept) r x g) o true ≡ true
      by None e = refl
      by (Some r) e = below_of (Keeping kept) x r g (keeping_leads kept x r g e (λ h. (present_list p ok x c).away (λ none. subst (λ (l : List ℕ). Among g l) none listed) (sym h)) m)

  -- A STEP

  abbrev Put : RanksOfCode → ℕ × ℕ → RanksOfCode
  Put = put_back p c limit spare

  abbrev Tried : RanksOfCode → ℕ × ℕ → RanksOfCode
  Tried ranks e = Keeping (list_with p c ranks e.0 e.1)

  abbrev Ends : RanksOfCode → ℕ × ℕ → RanksOfCode → Type 0
  Ends ranks e next = ((stays_by p ranks e.0 e.1 ≡ true) × (next ≡ ranks))
      ⊎ (((ranks_origins p c (Tried ranks e) ≡ false) × (next ≡ ranks))
      ⊎ ((ranks_origins p c (Tried ranks e) ≡ true) × (next ≡ Tried ranks e)))

  put_ends : (ranks : RanksOfCode) (e : ℕ × ℕ) → Ends ranks e (Put ranks e)
  put_ends ranks e =
      elim (stays_by p ranks e.0 e.1) as (λ a. stays_by p ranks e.0 e.1 ≡ a → Ends ranks e (if a then ranks else (if ranks_origins p c (Tried ranks e) then Tried ranks e else ranks))) [
        | true ↦ λ h. inl (h, refl)
        | false ↦ λ h. elim (ranks_origins p c (Tried ranks e)) as (λ b. ranks_origins p c (Tried ranks e) ≡ b → Ends ranks e (if b then Tried ranks e else ranks)) [
          | true ↦ λ k. inr (inr (k, refl))
          | false ↦ λ k. inr (inl (k, refl))
        ] refl
      ] refl

  -- all choices that are tried
  abbrev All : List (ℕ × ℕ)
  All = choices p c (nearest_first p limit (least_rank p c limit spare))

  -- what the least ranks have, and the tried ones that rank all origins, the kept ranks have
  pub kept_has : (P : RanksOfCode → Type 0) → P (least_rank p c limit spare) → ((kept : ℕ → List ℕ) → ranks_origins p c (Keeping kept) ≡ true → P (Keeping kept)) → P (kept_rank p c limit spare)
  kept_has P start tried = on All (least_rank p c limit spare) start
    where
      step : (ranks : RanksOfCode) (e : ℕ × ℕ) → P ranks → P (Put ranks e)
      step ranks e h = elim (put_ends ranks e) [
        | inl a ↦ subst P (sym a.1) h
        | inr b ↦ elim b [
          | inl a ↦ subst P (sym a.1) h
          | inr a ↦ subst P (sym a.1) (tried (list_with p c ranks e.0 e.1) a.0)
        ]
      ]

      on : (es : List (ℕ × ℕ)) (ranks : RanksOfCode) → P ranks → P (fold Put ranks es)
      on [] ranks h = h
      on (e ∷ es) ranks h = on es (Put ranks e) (step ranks e h)

  pub kept_ranking : IsRanking p c limit spare (kept_rank p c limit spare)
  kept_ranking = kept_has (IsRanking p c limit spare) (round_ranking p c limit (can_follow p spare) spare (λ ranks x h. h)) (λ kept h. keeping_ranking kept)

  pub kept_ranks_origins : ranks_origins p c (least_rank p c limit spare) ≡ true → ranks_origins p c (kept_rank p c limit spare) ≡ true
  kept_ranks_origins h = kept_has (λ ranks. ranks_origins p c ranks ≡ true) h (λ kept k. k)

  -- WHAT STAYS, STAYS

  abbrev Grows : RanksOfCode → RanksOfCode → Type 0
  Grows ranks next = (x g : ℕ) → Among g (route_list p x c) → stays_by p ranks x g ≡ true → stays_by p next x g ≡ true

  step_grows : (ranks : RanksOfCode) (e : ℕ × ℕ) → Grows ranks (Put ranks e)
  step_grows ranks e x g m s = elim (put_ends ranks e) [
    | inl a ↦ subst (λ (k : RanksOfCode). stays_by p k x g ≡ true) (sym a.1) s
    | inr b ↦ elim b [
      | inl a ↦ subst (λ (k : RanksOfCode). stays_by p k x g ≡ true) (sym a.1) s
      | inr a ↦ subst (λ (k : RanksOfCode). stays_by p k x g ≡ true) (sym a.1)
          (keeping_stays (list_with p c ranks e.0 e.1) x g m (among_filter (λ h. stays_by p ranks x h || ((x == e.0) && (h == e.1))) g (route_list p x c) m (or_left (stays_by p ranks x g) ((x == e.0) && (g == e.1)) s)))
    ]
  ]

  all_grow : (es : List (ℕ × ℕ)) (ranks : RanksOfCode) → Grows ranks (fold Put ranks es)
  all_grow [] ranks x g m s = s
  all_grow (e ∷ es) ranks x g m s = all_grow es (Put ranks e) x g m (step_grows ranks e x g m s)

  -- NOTHING ELSE COULD STAY

  -- a group was tried beside some that stay, and lost
  pub record IsLost (final : RanksOfCode) (x g : ℕ) : Type 0 where
    pub at : RanksOfCode
    pub stay : Grows at final
    pub fails : ranks_origins p c (Tried at (x, g)) ≡ false

  tried : (es : List (ℕ × ℕ)) (ranks : RanksOfCode) (x g : ℕ) → Among g (route_list p x c) → Among {A = ℕ × ℕ} (x, g) es → (stays_by p (fold Put ranks es) x g ≡ true) ⊎ IsLost (fold Put ranks es) x g
  tried [] ranks x g m k = absurd k
  tried (e ∷ es) ranks x g m (inr k) = tried es (Put ranks e) x g m k
  tried (e ∷ es) ranks x g m (inl k) =
      subst (λ (d : ℕ × ℕ). (stays_by p (fold Put (Put ranks d) es) x g ≡ true) ⊎ IsLost (fold Put (Put ranks d) es) x g) (sym k) (elim (put_ends ranks (x, g)) [
        | inl a ↦ inl (all_grow es (Put ranks (x, g)) x g m (step_grows ranks (x, g) x g m a.0))
        | inr b ↦ elim b [
          | inl a ↦ inr (record { at = ranks; stay = λ y h n s. all_grow es (Put ranks (x, g)) y h n (step_grows ranks (x, g) y h n s); fails = a.0 })
          | inr a ↦ inl (all_grow es (Put ranks (x, g)) x g m (subst (λ (k : RanksOfCode). stays_by p k x g ≡ true) (sym a.1)
              (keeping_stays (list_with p c ranks x g) x g m (among_filter (λ h. stays_by p ranks x h || ((x == x) && (h == g))) g (route_list p x c) m
              (or_right (stays_by p ranks x g) ((x == x) && (g == g)) (and_from (x == x) (g == g) (eq-eqb x x refl) (eq-eqb g g refl)))))))
        ]
      ])

  -- each group of a list stays by the kept ranks, or was lost
  pub stays_or_lost : (x g : ℕ) → x < length p.exchanges → Among g (route_list p x c) → (stays_by p (kept_rank p c limit spare) x g ≡ true) ⊎ IsLost (kept_rank p c limit spare) x g
  stays_or_lost x g h m = by (kept_rank p c limit spare x) refl
    where
      by : (o : Option ℕ) → kept_rank p c limit spare x ≡ o → (stays_by p (kept_rank p c limit spare) x g ≡ true) ⊎ IsLost (kept_rank p c limit spare) x g
      by None e = inl (ap (λ (o : Option ℕ). option_map_or (λ r. leads_below p (kept_rank p c limit spare) r x g) o true) e)
      by (Some r) e =
          let n = ranking_least p c limit spare (kept_rank p c limit spare) kept_ranking x r e in
          let low = kept_ranking.low x r e in
          let less = n.2 in
          tried All (least_rank p c limit spare) x g m
          (choices_have p ok c x g (nearest_first p limit (least_rank p c limit spare)) (nearest_have p limit (least_rank p c limit spare) x n.0 h n.1 (omega arith)) m)
