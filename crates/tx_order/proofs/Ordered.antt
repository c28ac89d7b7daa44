-- Stages of the codes that are safe are an order.
use Rattle.std.proofs.Common.{◌≡◌, ℕ, zero, suc, ◌+◌, ◌<◌, ◌≤◌, List, [], ◌∷◌, ◌++◌, length, get_or, inl, inr, Some, None, refl, sym, ap, ◌∙◌, subst, arith}
use Rattle.tx_order.proofs.Common.{slice_get, option_map_or, cases_lt, Plan, route_list, Ranks, AreCommon, ranks_of, levels_of, AreAlikeFor, AreAlike, IsOrder, Transition, IsTransition, plan_front, IsSafeBetween, IsFurthest, AreStages, AreAllStages, Order, fronts_before, plan_before, stages_in, AreStagesBelow, IsOrderKept}
use Rattle.std.proofs.lemmas.List.{length_push, get_or_past, get_or_append_left, get_or_push}
use Rattle.tx_plan.proofs.ByIndex.{entry_at}
use Rattle.tx_rank.proofs.Origins.{at_push}
use Rattle.tx_order.specs.Fronts.{front_of, ends_of, count_of}
use Rattle.tx_order.proofs.Leading.{AreAdvancing, order_by, no_order_needed, leads_from, leads_to}
use Rattle.tx_order.proofs.TwoFronts.{plan_list, newly_listed, alike_fronts, same_safe, codes_common, later_safe, safe_to, nothing_left}

-- FRONTS OF ONE CODE

pub front_next : (limit : ℕ) (ends : List ℕ) (s : ℕ) → front_of limit ends (s + 1) ≡ get_or ends s (levels_of limit)
front_next limit ends s = let e : s + 1 ≡ suc s = omega arith in ap (front_of limit ends) e

-- what was there stays when a stage is appended
front_kept : (limit : ℕ) (ends : List ℕ) (to s : ℕ) → s ≤ length ends → front_of limit (ends ++ to ∷ []) s ≡ front_of limit ends s
front_kept limit ends to zero h = refl
front_kept limit ends to (suc s) h = get_or_append_left ends (to ∷ []) (levels_of limit) s (omega arith)

front_pushed : (limit : ℕ) (ends : List ℕ) (to : ℕ) → front_of limit (ends ++ to ∷ []) (length ends + 1) ≡ to
front_pushed limit ends to = front_next limit (ends ++ to ∷ []) (length ends) ∙ get_or_push ends to (levels_of limit) (length ends) refl

module _ (w : Transition) (c : ℕ) where
  pub no_ends : AreStages w c []
  no_ends = record { within = λ s h. let e : s ≡ 0 = omega arith in none_within s e; rising = λ s h. absurd (omega arith); safe = λ s h. absurd (omega arith); furthest = λ s h. absurd (omega arith); used = λ s h. absurd (omega arith) }
    where
      none_within : (s : ℕ) → s ≡ 0 → front_of w.limit [] s ≤ levels_of w.limit
      none_within zero e = omega arith
      none_within (suc s) e = absurd (omega arith)

  -- a stage more
  pub one_end_more : (ends : List ℕ) (from to : ℕ) → AreStages w c ends → front_of w.limit ends (length ends) ≡ from → from < to → to ≤ levels_of w.limit → IsSafeBetween w c from to → IsFurthest w c from to
      → (AreAlikeFor c (plan_front w from) (plan_front w to) → ⊥) → AreStages w c (ends ++ to ∷ [])
  one_end_more ends from to a reached up within safe far used =
      let n = length_push ends to in
      record {
        within = λ s h. elim (cases_lt s (length ends + 1)) [
          | inl l ↦ let e = front_kept w.limit ends to s (omega arith) in let r = a.within s (omega arith) in omega arith
          | inr l ↦ let q : s ≡ length ends + 1 = omega arith in let e = ap (front_of w.limit (ends ++ to ∷ [])) q in let f = front_pushed w.limit ends to in omega arith
        ];
        rising = λ s h. by_case (λ k j. k < j) s (omega arith) (λ l. a.rising s l) up;
        safe = λ s h. by_case (λ k j. IsSafeBetween w c k j) s (omega arith) (λ l. a.safe s l) safe;
        furthest = λ s h. by_case (λ k j. IsFurthest w c k j) s (omega arith) (λ l. a.furthest s l) far;
        used = λ s h. by_case (λ k j. AreAlikeFor c (plan_front w k) (plan_front w j) → ⊥) s (omega arith) (λ l. a.used s l) used;
      }
    where
      -- what holds of each stage before and of the new one holds of each
      by_case : (P : ℕ → ℕ → Type 0) (s : ℕ) → s < length ends + 1 → (s < length ends → P (front_of w.limit ends s) (front_of w.limit ends (s + 1))) → P from to
          → P (front_of w.limit (ends ++ to ∷ []) s) (front_of w.limit (ends ++ to ∷ []) (s + 1))
      by_case P s h was new = elim (cases_lt s (length ends)) [
        | inl l ↦
            let e = front_kept w.limit ends to s (omega arith) in
            let f = front_kept w.limit ends to (s + 1) (omega arith) in
            subst (λ k. P k (front_of w.limit (ends ++ to ∷ []) (s + 1))) (sym e) (subst (λ k. P (front_of w.limit ends s) k) (sym f) (was l))
        | inr l ↦
            let q : length ends ≡ s = omega arith in
            let e : front_of w.limit (ends ++ to ∷ []) (length ends) ≡ from = front_kept w.limit ends to (length ends) (omega arith) ∙ reached in
            let f = front_pushed w.limit ends to in
            subst (λ k. P (front_of w.limit (ends ++ to ∷ []) k) (front_of w.limit (ends ++ to ∷ []) (k + 1))) q
            (subst (λ k. P k (front_of w.limit (ends ++ to ∷ []) (length ends + 1))) (sym e) (subst (λ k. P from k) (sym f) new))
      ]

  -- where the last stage ends
  pub reached_more : (ends : List ℕ) (to : ℕ) → front_of w.limit (ends ++ to ∷ []) (length (ends ++ to ∷ [])) ≡ to
  reached_more ends to = ap (front_of w.limit (ends ++ to ∷ [])) (length_push ends to) ∙ front_pushed w.limit ends to

  -- each stage takes a level at least
  module _ (ends : List ℕ) (a : AreStages w c ends) where
    level_each : (s : ℕ) → s ≤ length ends → s ≤ front_of w.limit ends s
    level_each zero h = omega arith
    level_each (suc s) h =
        let was = level_each s (omega arith) in
        let up = a.rising s (omega arith) in
        let e : s + 1 ≡ suc s = omega arith in
        subst (λ k. k ≤ front_of w.limit ends k) e (omega arith)

    pub few_ends : length ends ≤ levels_of w.limit
    few_ends = let l = level_each (length ends) (omega arith) in let m = a.within (length ends) (omega arith) in omega arith

  module _ (is : IsTransition w) (h : c < length w.old.codes) (ends : List ℕ) (a : AreAllStages w c ends) where
    -- after the last stage, if there is one, all is switched
    pub last_front : (n : ℕ) → length ends ≡ suc n → front_of w.limit ends (length ends) ≡ levels_of w.limit
    last_front n e =
        let l : n < length ends = omega arith in
        let next : n + 1 ≡ length ends = omega arith in
        let done = subst (λ k. AreAlikeFor c (plan_front w (front_of w.limit ends k)) (plan_front w (levels_of w.limit))) (sym next) a.done in
        ap (front_of w.limit ends) (sym next)
        ∙ nothing_left w is c (front_of w.limit ends n) (front_of w.limit ends (n + 1)) h (a.stages.within (n + 1) (omega arith)) (a.stages.furthest n l) (a.stages.safe n l) done

    -- and so past the last one
    pub front_past : (s : ℕ) → 0 < s → length ends ≤ s → front_of w.limit ends s ≡ levels_of w.limit
    front_past zero some past = absurd (omega arith)
    front_past (suc s) some past = elim (cases_lt s (length ends)) [
      | inl l ↦ let e : length ends ≡ suc s = omega arith in ap (front_of w.limit ends) (sym e) ∙ last_front s e
      | inr l ↦ get_or_past ends s (levels_of w.limit) l
    ]

    pub front_rising : (s : ℕ) → front_of w.limit ends s ≤ front_of w.limit ends (s + 1)
    front_rising s = elim (cases_lt s (length ends)) [
      | inl l ↦ let r = a.stages.rising s l in omega arith
      | inr l ↦ let f = front_past (s + 1) (omega arith) (omega arith) in by_index s l f
    ]
      where
        by_index : (s : ℕ) → length ends ≤ s → front_of w.limit ends (s + 1) ≡ levels_of w.limit → front_of w.limit ends s ≤ front_of w.limit ends (s + 1)
        by_index zero l f = omega arith
        by_index (suc s) l f = let e = front_past (suc s) (omega arith) l in omega arith

    pub front_safe : (s : ℕ) → IsSafeBetween w c (front_of w.limit ends s) (front_of w.limit ends (s + 1))
    front_safe s = elim (cases_lt s (length ends)) [
      | inl l ↦ a.stages.safe s l
      | inr l ↦ by_index s l
    ]
      where
        by_index : (s : ℕ) → length ends ≤ s → IsSafeBetween w c (front_of w.limit ends s) (front_of w.limit ends (s + 1))
        by_index zero l =
            let none : length ends ≡ 0 = omega arith in
            let f = front_past 1 (omega arith) (omega arith) in
            let same = subst (λ k. AreAlikeFor c (plan_front w (front_of w.limit ends k)) (plan_front w (levels_of w.limit))) none a.done in
            subst (λ k. IsSafeBetween w c 0 k) (sym f) (safe_to w c 0 (levels_of w.limit) 0 same (same_safe w is c 0 h))
        by_index (suc s) l =
            let e = front_past (suc s) (omega arith) l in
            let f = front_past (suc s + 1) (omega arith) (omega arith) in
            subst (λ k. IsSafeBetween w c k (front_of w.limit ends (suc s + 1))) (sym e) (subst (λ k. IsSafeBetween w c (levels_of w.limit) k) (sym f) (same_safe w is c (levels_of w.limit) h))

  -- no fronts that are safe get further than these stages
  module _ (ends : List ℕ) (a : AreStages w c ends) (fronts : ℕ → ℕ) (count : ℕ) (first : fronts 0 ≡ 0) (within : (s : ℕ) → s ≤ count → fronts s ≤ levels_of w.limit) (safe : (s : ℕ) → s < count → IsSafeBetween w c (fronts s) (fronts (s + 1))) where
    behind : (s : ℕ) → s ≤ count → s ≤ length ends → fronts s ≤ front_of w.limit ends s
    behind zero h l = omega arith
    behind (suc s) h l =
        let was = behind s (omega arith) (omega arith) in
        let e : s + 1 ≡ suc s = omega arith in
        subst (λ k. fronts k ≤ front_of w.limit ends k) e (elim (cases_lt (front_of w.limit ends (s + 1)) (fronts (s + 1))) [
          | inl far ↦
              let up = a.rising s (omega arith) in
              absurd (a.furthest s (omega arith) (fronts (s + 1)) far (within (s + 1) (omega arith)) (later_safe w c (fronts s) (front_of w.limit ends s) (fronts (s + 1)) was (omega arith) (safe s (omega arith))))
          | inr near ↦ near
        ])

    pub fewest : fronts count ≡ levels_of w.limit → length ends ≤ count
    fewest last = elim (cases_lt count (length ends)) [
      | inl l ↦
          let b = behind count (omega arith) (omega arith) in
          let up = a.rising count l in
          let top = a.within (count + 1) (omega arith) in
          absurd (omega arith)
      | inr l ↦ l
    ]

-- CODE AFTER CODE

pub no_stages : (w : Transition) → AreStagesBelow w 0 []
no_stages w = record { long = refl; each = λ d ends h. absurd (let z : ⊥ = cc in z) }

pub stages_more : (w : Transition) (c : ℕ) (codes : List (List ℕ)) (ends : List ℕ) → AreStagesBelow w c codes → AreAllStages w c ends → AreStagesBelow w (c + 1) (codes ++ ends ∷ [])
stages_more w c codes ends a e = record {
  long = let n = length_push codes ends in let l = a.long in omega arith;
  each = λ d other h. elim (at_push codes ends other d h) [
    | inl q ↦ a.each d other q
    | inr q ↦
        let index : c ≡ d = sym (q.0 ∙ a.long) in
        subst (λ k. AreAllStages w k other) index (subst (λ (o : List ℕ). AreAllStages w c o) (sym q.1) e)
  ];
}

count_most : (codes : List (List ℕ)) (c : ℕ) (ends : List ℕ) → slice_get codes c ≡ Some ends → length ends ≤ count_of codes
count_most [] c ends h = absurd (let z : ⊥ = cc in z)
count_most (other ∷ codes) zero ends h = let e : other ≡ ends = cc in let l = ap length e in omega arith
count_most (other ∷ codes) (suc c) ends h = let m = count_most codes c ends h in omega arith

-- some code has as many
count_had : (codes : List (List ℕ)) (s : ℕ) → s < count_of codes → (c : ℕ) × (ends : List ℕ) × (slice_get codes c ≡ Some ends) × (s < length ends)
count_had [] s h = absurd (omega arith)
count_had (ends ∷ codes) s h = elim (cases_lt s (length ends)) [
  | inl l ↦ (0, ends, refl, l)
  | inr l ↦ let r = count_had codes s (omega arith) in (suc r.0, r.1, r.2, r.3)
]

-- and none has more than a number that is not passed by any
count_few : (codes : List (List ℕ)) (most : ℕ) → ((c : ℕ) (ends : List ℕ) → slice_get codes c ≡ Some ends → length ends ≤ most) → count_of codes ≤ most
count_few [] most each = omega arith
count_few (ends ∷ codes) most each = let here = each 0 ends refl in let rest = count_few codes most (λ c other h. each (suc c) other h) in omega arith

nothing_at : (xs : List (List ℕ)) (i : ℕ) → length xs ≤ i → slice_get xs i ≡ None
nothing_at [] i h = refl
nothing_at (x ∷ xs) zero h = absurd (omega arith)
nothing_at (x ∷ xs) (suc i) h = nothing_at xs i (omega arith)

-- a front that no code has advances too
foreign_rising : (limit s : ℕ) → front_of limit [] s ≤ front_of limit [] (s + 1)
foreign_rising limit zero = omega arith
foreign_rising limit (suc s) = let e = front_next limit [] (suc s) in omega arith

module _ (o : Order) (k : IsOrderKept o) where
  -- the stages of a code of the plan
  code_ends : (c : ℕ) → c < length o.transition.old.codes → (ends : List ℕ) × (slice_get o.codes c ≡ Some ends) × ((s : ℕ) → fronts_before o s c ≡ front_of o.transition.limit ends s)
  code_ends c h =
      let l = k.stages.long in
      let r = entry_at o.codes c (omega arith) in
      let e : ends_of o.codes c ≡ r.0 = ap (λ q. option_map_or (λ (ends : List ℕ). ends) q []) r.1 in
      (r.0, r.1, λ s. ap (λ ends. front_of o.transition.limit ends s) e)

  -- a code that has stages is one of the plan
  code_within : (c : ℕ) (ends : List ℕ) → slice_get o.codes c ≡ Some ends → c < length o.transition.old.codes
  code_within c ends h = elim (cases_lt c (length o.transition.old.codes)) [
    | inl l ↦ l
    | inr l ↦ let e = nothing_at o.codes c (let n = k.stages.long in omega arith) in absurd (let z : ⊥ = cc in z)
  ]

  none_rising : (c : ℕ) → length o.transition.old.codes ≤ c → (s : ℕ) → fronts_before o s c ≤ fronts_before o (s + 1) c
  none_rising c h s =
      let l = k.stages.long in
      let e : ends_of o.codes c ≡ [] = ap (λ q. option_map_or (λ (ends : List ℕ). ends) q []) (nothing_at o.codes c (omega arith)) in
      let u = ap (λ ends. front_of o.transition.limit ends s) e in
      let v = ap (λ ends. front_of o.transition.limit ends (s + 1)) e in
      let r = foreign_rising o.transition.limit s in
      omega arith

  advancing : 0 < stages_in o → AreAdvancing (length o.transition.old.codes) o.transition.limit (fronts_before o) (stages_in o)
  advancing some = record {
    some = some;
    first = λ c. refl;
    last = λ c h. let r = code_ends c h in r.2 (stages_in o) ∙ front_past o.transition c k.transition h r.0 (k.stages.each c r.0 r.1) (stages_in o) some (count_most o.codes c r.0 r.1);
    rising = λ s c. elim (cases_lt c (length o.transition.old.codes)) [
      | inl h ↦ let r = code_ends c h in let u = r.2 s in let v = r.2 (s + 1) in let up = front_rising o.transition c k.transition h r.0 (k.stages.each c r.0 r.1) s in omega arith
      | inr h ↦ none_rising c h s
    ];
  }

  -- no front falls
  pub front_up : (s c : ℕ) → s < stages_in o → fronts_before o s c ≤ fronts_before o (s + 1) c
  front_up s c h = (advancing (omega arith)).rising s c

  -- each code is safe in each stage
  pub code_safe : (s c : ℕ) → c < length o.transition.old.codes → IsSafeBetween o.transition c (fronts_before o s c) (fronts_before o (s + 1) c)
  code_safe s c h =
      let r = code_ends c h in
      let q = front_safe o.transition c k.transition h r.0 (k.stages.each c r.0 r.1) s in
      subst (λ (n : ℕ). IsSafeBetween o.transition c n (fronts_before o (s + 1) c)) (sym (r.2 s)) (subst (λ (n : ℕ). IsSafeBetween o.transition c (front_of o.transition.limit r.0 s) n) (sym (r.2 (s + 1))) q)

  pub stage_common : (s : ℕ) → (ranks : Ranks) × AreCommon (plan_before o s) (plan_before o (s + 1)) ranks o.transition.limit o.transition.spare
  stage_common s = codes_common o.transition k.transition (fronts_before o s) (fronts_before o (s + 1)) (λ c h. code_safe s c h)

  -- no stage: nothing differs
  none_alike : stages_in o ≡ 0 → AreAlike o.transition.old o.transition.new
  none_alike none c h =
      let w = o.transition in
      let r = code_ends c h in
      let few = count_most o.codes c r.0 r.1 in
      let empty : length r.0 ≡ 0 = omega arith in
      let done = subst (λ n. AreAlikeFor c (plan_front w (front_of w.limit r.0 n)) (plan_front w (levels_of w.limit))) empty (k.stages.each c r.0 r.1).done in
      let from = leads_from w.old w.new (ranks_of w.before) (ranks_of w.after) w.limit (λ _. 0) (λ _. refl) in
      let to = leads_to w.old w.new (ranks_of w.before) (ranks_of w.after) w.limit w.spare k.transition (λ _. levels_of w.limit) (λ _ _. refl) in
      subst (λ (p : Plan). AreAlikeFor c p w.new) from (subst (λ (p : Plan). AreAlikeFor c (plan_front w 0) p) to done)

  pub is_order_of : IsOrder o.transition.old o.transition.new (plan_before o) (stages_in o) o.transition.limit o.transition.spare
  is_order_of = by_count (stages_in o) refl
    where
      w : Transition
      w = o.transition

      by_count : (n : ℕ) → stages_in o ≡ n → IsOrder o.transition.old o.transition.new (plan_before o) n o.transition.limit o.transition.spare
      by_count zero e = no_order_needed o.transition.old o.transition.new (ranks_of o.transition.before) (ranks_of o.transition.after) o.transition.limit o.transition.spare k.transition (fronts_before o) (λ c. refl) (none_alike e)
      by_count (suc n) e =
          order_by o.transition.old o.transition.new (ranks_of o.transition.before) (ranks_of o.transition.after) o.transition.limit o.transition.spare k.transition (fronts_before o) (suc n)
          (subst (λ m. AreAdvancing (length o.transition.old.codes) o.transition.limit (fronts_before o) m) e (advancing (omega arith))) (λ s h. stage_common s)

  -- each stage switches something
  pub stage_used : (s : ℕ) → s < stages_in o → AreAlike (plan_before o s) (plan_before o (s + 1)) → ⊥
  stage_used s h alike =
      let w = o.transition in
      let r = count_had o.codes s h in
      let c = r.0 in
      let within = code_within c r.1 r.2 in
      let q = code_ends c within in
      let same : q.0 ≡ r.1 = cc in
      let long = ap length same in
      let here = alike_fronts w c (fronts_before o s) (fronts_before o (s + 1)) (alike c within) in
      let moved = subst (λ n. AreAlikeFor c (plan_front w n) (plan_front w (front_of w.limit q.0 (s + 1)))) (q.2 s) (subst (λ n. AreAlikeFor c (plan_front w (fronts_before o s c)) (plan_front w n)) (q.2 (s + 1)) here) in
      (k.stages.each c q.0 q.1).stages.used s (omega arith) moved

  pub few_stages : stages_in o ≤ levels_of o.transition.limit
  few_stages = count_few o.codes (levels_of o.transition.limit) (λ c ends h. few_ends o.transition c ends (k.stages.each c ends h).stages)

  -- a list that a stage switches is the new one after it
  pub new_after : (s x c : ℕ) → s < stages_in o → (route_list (plan_before o s) x c ≡ route_list (plan_before o (s + 1)) x c → ⊥) → route_list (plan_before o (s + 1)) x c ≡ route_list o.transition.new x c
  new_after s x c h apart =
      let w = o.transition in
      let u = fronts_before o s in
      let v = fronts_before o (s + 1) in
      plan_list w v x c ∙ newly_listed w c x (u c) (v c) (front_up s c h) (λ same. apart (plan_list w u x c ∙ (same ∙ sym (plan_list w v x c))))
