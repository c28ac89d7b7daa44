-- Under a certificate, ranks fall along the hops of each call.
use Rattle.tx_machine.proofs.Common.{◌≡◌, ◌≢◌, ℕ, zero, suc, ◌+◌, ◌<◌, ◌≤◌, ◌==◌, Bool, true, false, not, cond, ◌&&◌, ◌||◌, List, [], ◌∷◌, ◌++◌, inl, inr, map, length, Option, Some, None, refl, sym, ap, ◌∙◌, subst, eqb-true, eq-eqb, arith, same_Some, slice_get_within, filter, unwrap_or, enumerate_from, AllByRecursion, option_map, longest_among, Plan, Code, home_of, LineRange, is_national, in_range, is_line, is_prefix, codes_before, longest, code_of, Among, Circuit, Line, filter_among, Event, Hop, Standing, Call, last_exchange, start_of, exchange_of, is_first, State, far_of, step, NoneTwice, Holds, IsRanked}
use Rattle.std.proofs.lemmas.Bool.{false≢true, or_right, and_parts, and_from, eqb-false, ne_eqb, cases_eq, not_from_false}
use Rattle.tx_plan.specs.Certified.{Ranks, IsBelow, LeadsLower, IsCertified}
use Rattle.tx_plan.specs.Routes.{route_list, is_barred, is_origin}
use Rattle.tx_machine.specs.Passed.{IsLower, Falls, passed, transits, is_transit, is_home_of}
use Rattle.tx_machine.proofs.Lists.{any_none, mem_any, any_mem}
use Rattle.tx_machine.proofs.Steps.{all_mem, enumerated}
use Rattle.tx_machine.proofs.Changes.{not_standing}
use Rattle.tx_machine.proofs.Moves.{Moves, moves_number, stays, connects, seizes_one, goes_on, falls_back, IsNew, came}

module _ (r : ℕ → Option ℕ) where
  pub falls_more : (x : ℕ) (hops : List Hop) (h : Hop) → Falls r x hops → IsLower r (last_exchange x hops) h.far → Falls r x (hops ++ h ∷ [])
  falls_more x [] h f l = (l, tt)
  falls_more x (k ∷ hops) h f l = (f.0, falls_more k.far hops h f.1 l)

  pub falls_last : (x : ℕ) (hops : List Hop) (a : ℕ) → Falls r x hops → r x ≡ Some a → (m : ℕ) × (r (last_exchange x hops) ≡ Some m) × (m + length hops ≤ a)
  falls_last x [] a f e = (a, e, omega arith)
  falls_last x (h ∷ hops) a f e =
      let i = falls_last h.far hops f.0.low f.1 f.0.to in
      let same : f.0.high ≡ a = same_Some _ _ (sym f.0.from ∙ e) in
      (i.0, i.1, (let l = f.0.less in let b = i.2 in omega arith))

  pub falls_below : (x : ℕ) (hops : List Hop) (a y : ℕ) → Falls r x hops → r x ≡ Some a → Among y (map (λ h. h.far) hops) → (b : ℕ) × (r y ≡ Some b) × (b < a)
  falls_below x [] a y f e m = elim m [ ]
  falls_below x (h ∷ hops) a y f e m =
      let same : f.0.high ≡ a = same_Some _ _ (sym f.0.from ∙ e) in
      elim m [
        | inl q ↦ (f.0.low, ap r (sym q) ∙ f.0.to, (let l = f.0.less in omega arith))
        | inr m ↦ let i = falls_below h.far hops f.0.low y f.1 f.0.to m in (i.0, i.1, (let l = f.0.less in let b = i.2 in omega arith))
      ]

  pub falls_once : (x : ℕ) (hops : List Hop) → Falls r x hops → NoneTwice (λ y z. y == z) (x ∷ map (λ h. h.far) hops)
  falls_once x [] f = (refl, tt)
  falls_once x (h ∷ hops) f = (
    any_none (λ y. x == y) (map (λ k. k.far) (h ∷ hops)) (λ z m. ne_eqb x z (λ q. let b = falls_below x (h ∷ hops) f.0.high z f f.0.from m in above (sym f.0.from ∙ ap r q ∙ b.1) b.2)),
    falls_once h.far hops f.1,
  )
    where
      above : {m n : ℕ} → Some m ≡ Some n → n < m → ⊥
      above {m} {n} e l = let same : m ≡ n = cc in omega arith

pub code_within : (p : Plan) (keyed : List ℕ) (i : ℕ) → code_of p keyed ≡ Some i → i < length p.codes
code_within p keyed i h = at (longest (codes_before p keyed)) refl h
  where
    at : (o : Option (ℕ × Code)) → longest (codes_before p keyed) ≡ o → option_map (λ e. e.0) o ≡ Some i → i < length p.codes
    at None e h = let bad : ⊥ = cc in absurd bad
    at (Some d) e h =
        let m = filter_among (λ e. is_prefix e.1.figures keyed) d (enumerate_from 0 p.codes) (longest_among (codes_before p keyed) d e) in
        let r = enumerated 0 p.codes d m.0 in
        let same : d.0 ≡ i = cc in
        let index : r.0 ≡ i = (let f = r.1 in omega arith) in
        subst (λ k. k < length p.codes) index (slice_get_within p.codes r.0 d.1 r.2)

-- the home of a line is an origin
line_starts : (p : Plan) (l : Line) → is_line p l ≡ true → is_origin p (home_of p l.code) ≡ true
line_starts p l h =
    let r = any_mem (λ (r : LineRange). (r.code == l.code) && in_range l.national r) p.ranges (and_parts (is_national l.national) _ h).1 in
    let e = eqb-true _ _ (and_parts _ _ r.2).0 in
    mem_any (λ (r : LineRange). home_of p r.code == home_of p l.code) p.ranges r.0 r.1 (eq-eqb _ _ (ap (home_of p) e))

module _ (p : Plan) (ranks : Ranks) (limit spare : ℕ) (cert : IsCertified p ranks limit spare) where
  -- where a call is routed, its exchange is ranked
  pub ranked_index : (c : Call) → IsRanked p ranks c → (code : ℕ) → code_of p c.keyed ≡ Some code → (is_first c.hops && is_barred p (exchange_of p c) code) ≡ false → (a : ℕ) × (ranks code (exchange_of p c) ≡ Some a)
  ranked_index c h code e open' = at c.hops (h.falls code e) open'
    where
      at : (hops : List Hop) → Falls (ranks code) (start_of p c) hops → (is_first hops && is_barred p (last_exchange (start_of p c) hops) code) ≡ false → (a : ℕ) × (ranks code (last_exchange (start_of p c) hops) ≡ Some a)
      at [] f o = cert.origins code (start_of p c) (code_within p c.keyed code e) (and_from _ _ (line_starts p c.line h.known) (not_from_false _ o))
      at (k ∷ hops) f o = let i = falls_last (ranks code) k.far hops f.0.low f.1 f.0.to in (i.0, i.1)

  -- an exchange that isn't the home has a rank above 0
  pub above_home : (code x a : ℕ) → code < length p.codes → ranks code x ≡ Some a → x ≢ home_of p code → 0 < a
  above_home code x a within e away = at (route_list p x code) (cert.lists code x a within e away).enough (cert.lists code x a within e away).each
    where
      below : (o : Option ℕ) → IsBelow o a → 0 < a
      below None b = absurd b
      below (Some m) b = omega arith

      at : (gs : List ℕ) → spare < length gs → AllByRecursion (LeadsLower p ranks code x a) gs → 0 < a
      at [] many each = absurd (omega arith)
      at (g ∷ gs) many each = below _ each.0.lower

module _ (p : Plan) (ranks : Ranks) where
  leads_to : (c : Call) (x : Circuit) (code a : ℕ) → ranks code (exchange_of p c) ≡ Some a → LeadsLower p ranks code (exchange_of p c) a x.group → IsLower (ranks code) (exchange_of p c) (far_of p c x)
  leads_to c x code a e l = lower (ranks code l.to) refl l.lower
    where
      lower : (o : Option ℕ) → ranks code l.to ≡ o → IsBelow o a → IsLower (ranks code) (exchange_of p c) (far_of p c x)
      lower None q b = absurd b
      lower (Some m) q b = record { high = a; low = m; from = e; to = ap (ranks code) (ap (λ o. unwrap_or o 0) l.leads) ∙ q; less = b }

  -- each move keeps it, if the ranks certify the plan where the call stands and is routed
  moves_ranked : (limit spare : ℕ) (e : Event) (c c' : Call) → (c.phase ≡ Standing → IsCertified p ranks limit spare) → IsRanked p ranks c → Moves p e c c' → IsRanked p ranks c'
  moves_ranked limit spare e c c' cert h (stays q) = subst (IsRanked p ranks) q h
  moves_ranked limit spare e c c' cert h (connects l event stands q) = subst (IsRanked p ranks) q (record {
    known = h.known;
    unrouted = h.unrouted;
    falls = h.falls;
    calling = λ x i. let bad : ⊥ = cc in absurd bad;
    collided = h.collided;
  })
  moves_ranked limit spare e c c' cert h (seizes_one x code event stands keyed open' away listed q) =
      let r = ranked_index p ranks limit spare (cert stands) c h code keyed open' in
      let down = (cert stands).lists code (exchange_of p c) r.0 (code_within p c.keyed code keyed) r.1 (λ i. eqb-false _ _ away (sym i)) in
      let lower = leads_to c x code r.0 r.1 (all_mem (LeadsLower p ranks code (exchange_of p c) r.0) (route_list p (exchange_of p c) code) x.group down.each listed) in
      subst (IsRanked p ranks) q (record {
        known = h.known;
        unrouted = h.unrouted;
        falls = h.falls;
        calling = λ y i. let same : x ≡ y = cc in (code, keyed, subst (λ z. IsLower (ranks code) (exchange_of p c) (far_of p c z)) same lower);
        collided = h.collided;
      })
  moves_ranked limit spare e c c' cert h (goes_on x calls q) =
      let to = h.calling x calls in
      subst (IsRanked p ranks) q (record {
        known = h.known;
        unrouted = λ i. absurd (none_some i to.1);
        falls = λ code i. falls_more (ranks code) (start_of p c) c.hops _ (h.falls code i) (subst (λ k. IsLower (ranks k) (exchange_of p c) (far_of p c x)) (same to.1 i) to.2);
        calling = λ y i. absurd (not_standing i);
        collided = λ i. absurd (false≢true i);
      })
    where
      none_some : {o : Option ℕ} {m : ℕ} → o ≡ None → o ≡ Some m → ⊥
      none_some e f = cc

      same : {o : Option ℕ} {m n : ℕ} → o ≡ Some m → o ≡ Some n → m ≡ n
      same e f = cc
  moves_ranked limit spare e c c' cert h (falls_back x calls first q) =
      let to = h.calling x calls in
      subst (IsRanked p ranks) q (record {
        known = h.known;
        unrouted = h.unrouted;
        falls = h.falls;
        calling = λ y i. absurd (not_standing i);
        collided = λ i. let r = positive to.2.high to.2.low to.2.less to.2.from in (to.0, to.1, r.0, r.1);
      })
    where
      positive : {o : Option ℕ} (high low : ℕ) → low < high → o ≡ Some high → (n : ℕ) × (o ≡ Some (suc n))
      positive zero low l e = absurd (omega arith)
      positive (suc n) low l e = (n, e)

  new_ranked : (n : ℕ) (e : Event) (c : Call) → IsNew p n e c → IsRanked p ranks c
  new_ranked n e c new = subst (IsRanked p ranks) new.call (record {
    known = new.known;
    unrouted = λ i. refl;
    falls = λ code i. tt;
    calling = λ x i. absurd (not_standing i);
    collided = λ i. absurd (false≢true i);
  })

-- each call is ranked by the ranks that it has by its number
abbrev pub AllRanked : Plan → (ℕ → Ranks) → List Call → Type 0
AllRanked p ranks_of cs = (c : Call) → Among c cs → IsRanked p (ranks_of c.number) c

-- and they certify the plan where it stands
pub record AreLed (p : Plan) (ranks_of : ℕ → Ranks) (limit spare : ℕ) (cs : List Call) : Type 0 where
  pub ranked : AllRanked p ranks_of cs
  pub certified : (c : Call) → Among c cs → c.phase ≡ Standing → IsCertified p (ranks_of c.number) limit spare

-- where one certificate holds throughout
pub all_led : (p : Plan) (ranks : Ranks) (limit spare : ℕ) → IsCertified p ranks limit spare → (cs : List Call) → AllRanked p (λ n. ranks) cs → AreLed p (λ n. ranks) limit spare cs
all_led p ranks limit spare cert cs ranked = record { ranked = ranked; certified = λ c m stands. cert }

pub step_ranked : (p : Plan) (ranks_of : ℕ → Ranks) (limit spare : ℕ) (s : State) → Holds p s → AreLed p ranks_of limit spare s.calls → (e : Event) → AllRanked p ranks_of (step p s e).1.calls
step_ranked p ranks_of limit spare s h led e c m = elim (came p s h e c m) [
  | inl (b, mb, moves) ↦ subst (λ n. IsRanked p (ranks_of n) c) (moves_number p e b c moves) (moves_ranked p (ranks_of b.number) limit spare e b c (led.certified b mb) (led.ranked b mb) moves)
  | inr new ↦ new_ranked p (ranks_of c.number) s.numbers e c new
]

module _ (p : Plan) (ranks : Ranks) (limit spare : ℕ) (cert : IsCertified p ranks limit spare) where
  -- HOW FAR A CALL GOES
  -- the hops so far, and the rank that is left
  pub hops_within : (c : Call) → IsRanked p ranks c → (code : ℕ) → code_of p c.keyed ≡ Some code → (a : ℕ) → ranks code (exchange_of p c) ≡ Some a → a + length c.hops ≤ limit + 1
  hops_within c h code e a here = at c.hops (h.falls code e) here
    where
      at : (hops : List Hop) → Falls (ranks code) (start_of p c) hops → ranks code (last_exchange (start_of p c) hops) ≡ Some a → a + length hops ≤ limit + 1
      at [] f here = let b = cert.low code (start_of p c) a (code_within p c.keyed code e) here in omega arith
      at (k ∷ hops) f here =
          let i = falls_last (ranks code) (start_of p c) (k ∷ hops) f.0.high f f.0.from in
          let same : i.0 ≡ a = same_Some _ _ (sym i.1 ∙ here) in
          let b = cert.low code (start_of p c) f.0.high (code_within p c.keyed code e) f.0.from in
          let d = i.2 in omega arith

  -- FEW TRANSITS
  filter_few : (t : ℕ → Bool) (xs : List ℕ) → length (filter t xs) ≤ length xs
  filter_few t [] = omega arith
  filter_few t (x ∷ xs) = elim (t x) as (λ b. length (cond b (x ∷ filter t xs) (filter t xs)) ≤ suc (length xs)) [ true ↦ (let i = filter_few t xs in omega arith) | false ↦ (let i = filter_few t xs in omega arith) ]

  filter_fewer : (t : ℕ → Bool) (x : ℕ) (hops : List Hop) → t (last_exchange x hops) ≡ false → length (filter t (x ∷ map (λ h. h.far) hops)) ≤ length hops
  filter_fewer t x [] h = subst (λ b. length (cond b (x ∷ []) []) ≤ 0) (sym h) (omega arith)
  filter_fewer t x (k ∷ hops) h =
      let i = filter_fewer t k.far hops h in
      elim (t x) as (λ b. length (cond b (x ∷ filter t (map (λ h. h.far) (k ∷ hops))) (filter t (map (λ h. h.far) (k ∷ hops)))) ≤ suc (length hops)) [ true ↦ omega arith | false ↦ omega arith ]

  -- the start is none
  past_start : (start : ℕ) (o : Option ℕ) (xs : List ℕ) → length (filter (is_transit p start o) (start ∷ xs)) ≡ length (filter (is_transit p start o) xs)
  past_start start o xs = ap (λ b. length (cond (not (b || is_home_of p o start)) (start ∷ filter (is_transit p start o) xs) (filter (is_transit p start o) xs))) (eq-eqb start start refl)

  length_far : (hops : List Hop) → length (map (λ h. h.far) hops) ≡ length hops
  length_far [] = refl
  length_far (h ∷ hops) = ap suc (length_far hops)

  no_home : (start code x : ℕ) → home_of p code ≡ x → is_transit p start (Some code) x ≡ false
  no_home start code x e = ap not (or_right (x == start) (home_of p code == x) (eq-eqb _ _ e))

  few_for : (c : Call) → IsRanked p ranks c → (o : Option ℕ) → code_of p c.keyed ≡ o → length (filter (is_transit p (start_of p c) o) (map (λ h. h.far) c.hops)) ≤ limit
  few_for c h None e = subst (λ hops. length (filter (is_transit p (start_of p c) None) (map (λ (k : Hop). k.far) hops)) ≤ limit) (sym (h.unrouted e)) (omega arith)
  few_for c h (Some code) e = at c.hops (h.falls code e) (λ a here. hops_within c h code e a here)
    where
      within : code < length p.codes
      within = code_within p c.keyed code e

      start : ℕ
      start = start_of p c

      at : (hops : List Hop) → Falls (ranks code) (start_of p c) hops → ((a : ℕ) → ranks code (last_exchange (start_of p c) hops) ≡ Some a → a + length hops ≤ limit + 1) → length (filter (is_transit p (start_of p c) (Some code)) (map (λ h. h.far) hops)) ≤ limit
      at [] f bound = omega arith
      at (k ∷ hops) f bound =
          let i = falls_last (ranks code) k.far hops f.0.low f.1 f.0.to in
          elim (cases_eq (home_of p code) (last_exchange k.far hops)) [
            | inl here ↦
                let b = bound 0 (ap (ranks code) (sym here) ∙ cert.homes code within) in
                let few = filter_fewer (is_transit p (start_of p c) (Some code)) k.far hops (no_home (start_of p c) code (last_exchange k.far hops) here) in
                omega arith
            | inr away ↦
                let b = bound i.0 i.1 in
                let up = above_home p ranks limit spare cert code (last_exchange k.far hops) i.0 within i.1 (λ q. away (sym q)) in
                let few = filter_few (is_transit p (start_of p c) (Some code)) (map (λ h. h.far) (k ∷ hops)) in
                let n = length_far (k ∷ hops) in
                omega arith
          ]

  pub few_transits : (c : Call) → IsRanked p ranks c → length (transits p c) ≤ limit
  few_transits c h =
      let e = past_start (start_of p c) (code_of p c.keyed) (map (λ (k : Hop). k.far) c.hops) in
      let i = few_for c h (code_of p c.keyed) refl in
      subst (λ n. n ≤ limit) (sym e) i

  pub passed_once : (c : Call) → IsRanked p ranks c → NoneTwice (λ x y. x == y) (passed p c)
  passed_once c h = at (code_of p c.keyed) refl
    where
      at : (o : Option ℕ) → code_of p c.keyed ≡ o → NoneTwice (λ x y. x == y) (passed p c)
      at None e = subst (λ hops. NoneTwice (λ x y. x == y) (start_of p c ∷ map (λ (k : Hop). k.far) hops)) (sym (h.unrouted e)) (refl, tt)
      at (Some code) e = falls_once (ranks code) (start_of p c) c.hops (h.falls code e)
