-- The mended plan: the full lists where calls come, and the present ones elsewhere.
use Rattle.tx_mend.proofs.Common.{◌≡◌, ◌≢◌, ℕ, suc, ◌<◌, ◌≤◌, Bool, true, false, ◌||◌, ◌==◌, eqb-true, eq-eqb, List, [], ◌∷◌, ◌++◌, length, Option, Some, None, inl, inr, refl, sym, ap, subst, ◌∙◌, arith, append-nil, is_some, if◌then◌else◌, flat_map, or_cases, or_left, or_right, flat_map-append, Plan, Route, home_of, IsPlan, IsRoute, route_list, ambiguous_of, Ranks, IsCertified, Among, rerouted, CanBeCertified, Net, net_of, Certifies, all_among, CanBeKept, keeps_routes, kept_rank, list_of_rank, list_by, full_list, comes_in, comes_to, mended_list, pairs_of, route_if, mended_routes, mended, unserved, list_cases}
use Rattle.tx_plan.specs.declared.ids.Pair.{Pair}
use Rattle.tx_cert.specs.Certificate.{Certificate, IsCertificateOf, rank_at, ranks_of}
use Rattle.tx_rank.specs.Heights.{IsReached, AreHeights}
use Rattle.tx_rank.proofs.Certifying.{none_distinct, certifies_code, certified_codes}
use Rattle.tx_mend.specs.Laws.{IsMendedPlan, MendedIsMended, MendingIsExact}
use Rattle.tx_mend.specs.inner.Full.{full_routes, full, settled_list, settled_route}
use Rattle.tx_mend.proofs.LeastLists.{IsList, present_list}
use Rattle.tx_mend.proofs.Kept.{kept_ranking}
use Rattle.tx_mend.proofs.Routed.{routed_list, pair_within}
use Rattle.tx_mend.proofs.Mendable.{routing, by_enough, full_good, full_rules, full_ranks, full_certifies, none_for, served_all, distinct_all, keeps}
use Rattle.tx_mend.proofs.Comes.{comes_more, reached_next, reached_comes, comes_reached}

module _ (p : Plan) (ok : IsPlan p) (limit spare : ℕ) (small : spare ≤ 15) where
  abbrev F : Plan
  F = full p limit spare

  abbrev M : Plan
  M = mended p limit spare

  f_ok : IsPlan F
  f_ok = (full_rules p ok limit spare small).plan

  -- ITS LISTS

  good : (x c : ℕ) → IsList p x c (mended_list p limit spare c x)
  good x c = elim (comes_to p limit spare c x) as (λ b. IsList p x c (if b then full_list p limit spare c x else route_list p x c)) [ true ↦ full_good p ok limit spare small x c | false ↦ present_list p ok x c ]

  pub is_mended : IsMendedPlan p limit spare M
  is_mended = record { routing = routing p ok (mended_list p limit spare) good; lists = λ x c h l. routed_list p (mended_list p limit spare) x c h l }

  -- an exchange to which calls come has its full list
  pub full_there : (x c : ℕ) → comes_to p limit spare c x ≡ true → mended_list p limit spare c x ≡ full_list p limit spare c x
  full_there x c h = ap (λ b. if b then full_list p limit spare c x else route_list p x c) h

  -- the same ranks where calls come, and at the home
  abbrev there : ℕ → (ℕ → Option ℕ) → ℕ → Option ℕ
  there c ranks x = if (x == home_of p c) || comes_to p limit spare c x then ranks x else None

  module _ (c : ℕ) (known : c < length p.codes) where
    abbrev N : Net
    N = net_of F c

    list_is : (x : ℕ) → x < length p.exchanges → route_list F x c ≡ full_list p limit spare c x
    list_is x h = routed_list p (full_list p limit spare) x c h known

    away_from : (x g : ℕ) → Among g (full_list p limit spare c x) → home_of p c ≢ x
    away_from x g m = (full_good p ok limit spare small x c).away (λ e. subst (λ (l : List ℕ). Among g l) e m)

    to_reached : (x : ℕ) → comes_to p limit spare c x ≡ true → IsReached N x
    to_reached x h = comes_reached p (full_list p limit spare c) c known (full_routes p limit spare) limit away_from (λ n y few a w. list_is y w) (suc limit) x (omega arith) h

    to_comes : (ranks : ℕ → Option ℕ) → Certifies N ranks limit spare → (x : ℕ) → IsReached N x → comes_to p limit spare c x ≡ true
    to_comes ranks cert x w = reached_comes p (full_list p limit spare c) c known (full_routes p limit spare) f_ok list_is limit spare ranks cert x w

    -- ranks that certify the full lists rank exchanges of the plan
    ranked_within : (ranks : ℕ → Option ℕ) → Certifies N ranks limit spare → (x r : ℕ) → ranks x ≡ Some r → x ≢ home_of p c → x < length p.exchanges
    ranked_within ranks cert x r e away = elim (list_cases F x c) [
      | inl empty ↦ absurd (let l = ap length empty in let m = cert.enough x r e away in omega arith)
      | inr f ↦ (let w = (all_among (IsRoute F) F.routes f.route f_ok.routes f.among).exchange in let s = f.exchange in omega arith)
    ]

    -- where they rank only exchanges to which calls come, they certify the mended lists
    trims : (ranks : ℕ → Option ℕ) → Certifies N ranks limit spare → ((x r : ℕ) → ranks x ≡ Some r → x ≢ home_of p c → comes_to p limit spare c x ≡ true) → Certifies (net_of M c) ranks limit spare
    trims ranks cert only =
        let same : (x r : ℕ) → ranks x ≡ Some r → x ≢ home_of p c → route_list M x c ≡ route_list F x c = λ x r e away.
        let w = ranked_within ranks cert x r e away in
        is_mended.lists x c w known ∙ full_there x c (only x r e away) ∙ sym (list_is x w) in
        record {
          home = cert.home;
          origins = cert.origins;
          low = cert.low;
          enough = λ x r e away. subst (λ (l : List ℕ). spare < length l) (sym (same x r e away)) (cert.enough x r e away);
          lower = λ x r e away g m.
              let l = cert.lower x r e away g (subst (λ (l : List ℕ). Among g l) (same x r e away) m) in
              record { to = l.to; rank = l.rank; leads = l.leads; ranked = l.ranked; below = l.below };
        }

    is_there : (ranks : ℕ → Option ℕ) (x r : ℕ) → there c ranks x ≡ Some r → (ranks x ≡ Some r) × (x ≢ home_of p c → comes_to p limit spare c x ≡ true)
    is_there ranks x r e = elim ((x == home_of p c) || comes_to p limit spare c x) as (λ b. ((x == home_of p c) || comes_to p limit spare c x) ≡ b → (if b then ranks x else None) ≡ Some r → (ranks x ≡ Some r) × (x ≢ home_of p c → comes_to p limit spare c x ≡ true)) [
      | true ↦ λ t k. (k, λ away. elim (or_cases (x == home_of p c) (comes_to p limit spare c x) t) [ inl a ↦ absurd (away (eqb-true x (home_of p c) a)) | inr b ↦ b ])
      | false ↦ λ t k. absurd (let bad : ⊥ = cc in bad)
    ] refl e

    there_called : (ranks : ℕ → Option ℕ) (x : ℕ) → comes_to p limit spare c x ≡ true → there c ranks x ≡ ranks x
    there_called ranks x h = ap (λ b. if b then ranks x else None) (or_right (x == home_of p c) (comes_to p limit spare c x) h)

    there_certifies : (ranks : ℕ → Option ℕ) → Certifies N ranks limit spare → Certifies N (there c ranks) limit spare
    there_certifies ranks cert = record {
      home = ap (λ b. if b then ranks (home_of p c) else None) (or_left (home_of p c == home_of p c) (comes_to p limit spare c (home_of p c)) (eq-eqb (home_of p c) (home_of p c) refl)) ∙ cert.home;
      origins = λ x o.
          let r = cert.origins x o in
          (r.0, there_called ranks x (to_comes ranks cert x (record { start = x; steps = []; walk = record { origin = o; goes = tt }; ends = refl })) ∙ r.1);
      low = λ x r e. cert.low x r (is_there ranks x r e).0;
      enough = λ x r e away. cert.enough x r (is_there ranks x r e).0 away;
      lower = λ x r e away g m.
          let i = is_there ranks x r e in
          let l = cert.lower x r i.0 away g m in
          let next = to_comes ranks cert l.to (reached_next N x g l.to (to_reached x (i.1 away)) away m l.leads) in
          record { to = l.to; rank = l.rank; leads = l.leads; ranked = there_called ranks l.to next ∙ l.ranked; below = l.below };
    }

    -- WHERE CALLS COME
    has_there : (n x : ℕ) → n ≤ limit → comes_in p (full_list p limit spare c) c n x ≡ true → x < length p.exchanges → route_list M x c ≡ full_list p limit spare c x
    has_there n x few h w =
        is_mended.lists x c w known ∙ full_there x c (comes_more p (full_list p limit spare c) c known n (suc limit) x (omega arith) h)

    pub called_reached : (x : ℕ) → comes_to p limit spare c x ≡ true → IsReached (net_of M c) x
    called_reached x h = comes_reached p (full_list p limit spare c) c known (mended_routes p limit spare) limit away_from has_there (suc limit) x (omega arith) h

  -- WHERE IT IS CERTIFIED

  pub certified_there : ambiguous_of p.codes ≡ None → unserved p limit spare ≡ [] → (ranks : Ranks) × IsCertified M ranks limit spare
  certified_there distinct none =
      let all = full_ranks p ok limit spare small in
      let ranks : Ranks = λ c. there c (all c) in (
        ranks,
        certified_codes M ranks limit spare (none_distinct p.codes distinct) (λ c h.
            let cert = full_certifies p ok limit spare small c h (none_for p ok limit spare small c h none) in
            trims c h (there c (all c)) (there_certifies c h (all c) cert) (λ x r e away. (is_there c h (all c) x r e).1 away)),
      )

  -- a certificate of the full lists that ranks by heights is one of the mended plan
  pub trimmed : (cert : Certificate) → IsCertified F (ranks_of cert) limit spare → AreHeights F (ranks_of cert) → IsCertified M (ranks_of cert) limit spare
  trimmed cert certified heights =
      certified_codes M (ranks_of cert) limit spare certified.no_prefix (λ c h.
      let each = certifies_code F (ranks_of cert) limit spare certified c h in
      trims c h (rank_at cert c) each (λ x r e away. to_comes c h (rank_at cert c) each x ((heights c h).ranked x r e away)))

  -- WHAT BECOMES OF THE ROUTES

  -- a full list is empty only where the present one is
  full_empty : (x c : ℕ) → full_list p limit spare c x ≡ [] → route_list p x c ≡ []
  full_empty x c = elim (keeps_routes p c limit spare) as (λ b. (if b then route_list p x c else list_by p (kept_rank p c limit spare) c spare x) ≡ [] → route_list p x c ≡ []) [
    | true ↦ λ e. e
    | false ↦ λ e. elim (list_cases p x c) [
      | inl none ↦ none
      | inr f ↦
          let R = kept_rank p c limit spare in
          let away : x ≢ home_of p c = λ h. (all_among (IsRoute p) p.routes f.route ok.routes f.among).away (ap (home_of p) f.code ∙ sym h ∙ sym f.exchange) in
          elim (R x) as (λ o. R x ≡ o → route_list p x c ≡ []) [
            | None ↦ λ k. sym (ap (λ (o : Option ℕ). list_of_rank p R c spare x o) k) ∙ e
            | Some r ↦ λ k. absurd (let l = by_enough p ok limit spare small c R (kept_ranking p ok c limit spare) x r k away in let n = ap length e in omega arith)
          ] refl
    ]
  ]

  same_truth : (o : Option ℕ) (b : Bool) → ((m : ℕ) → o ≡ Some m → b ≡ true) → (b ≡ true → (r : ℕ) × (o ≡ Some r)) → is_some o ≡ b
  same_truth None true f g = absurd (let i = g refl in let e = i.1 in let bad : ⊥ = cc in bad)
  same_truth None false f g = refl
  same_truth (Some m) b f g = sym (f m refl)

  module _ (cert : Certificate) (certified : IsCertified F (ranks_of cert) limit spare) (heights : AreHeights F (ranks_of cert)) where
    -- where calls come by the full lists, the certificate ranks, and nowhere else but at the home
    ranked_called : (x c : ℕ) → c < length p.codes → x ≢ home_of p c → is_some (rank_at cert c x) ≡ comes_to p limit spare c x
    ranked_called x c h away =
        same_truth (rank_at cert c x) (comes_to p limit spare c x)
        (λ n e. to_comes c h (rank_at cert c) (certifies_code F (ranks_of cert) limit spare certified c h) x ((heights c h).ranked x n e away))
        (λ called. (heights c h).reached x (to_reached c h x called))

    one_settled : (k : ℕ × ℕ) → k.1 < length p.codes → flat_map (settled_route p.routes cert) (route_if k (full_list p limit spare k.1 k.0)) ≡ route_if k (mended_list p limit spare k.1 k.0)
    one_settled k h = by (full_list p limit spare k.1 k.0) refl
      where
        by : (l : List ℕ) → full_list p limit spare k.1 k.0 ≡ l → flat_map (settled_route p.routes cert) (route_if k l) ≡ route_if k (mended_list p limit spare k.1 k.0)
        by [] e =
            let none : mended_list p limit spare k.1 k.0 ≡ [] = elim (comes_to p limit spare k.1 k.0) as (λ b. (if b then full_list p limit spare k.1 k.0 else route_list p k.0 k.1) ≡ []) [ true ↦ e | false ↦ full_empty k.0 k.1 e ] in
            ap (route_if k) (sym none)
        by (g ∷ gs) e =
            let away : k.0 ≢ home_of p k.1 = λ q. (full_good p ok limit spare small k.0 k.1).away (λ none. let bad : ⊥ = cc in bad) (sym q) in
            append-nil (route_if k (settled_list p.routes cert k.0 k.1 (g ∷ gs)))
            ∙ ap (λ b. route_if k (if b then g ∷ gs else route_list p k.0 k.1)) (ranked_called k.0 k.1 h away)
            ∙ ap (λ l. route_if k (if comes_to p limit spare k.1 k.0 then l else route_list p k.0 k.1)) (sym e)

    all_settled : (ks : List (ℕ × ℕ)) → ((k : ℕ × ℕ) → Among k ks → k.1 < length p.codes) → flat_map (settled_route p.routes cert) (flat_map (λ k. route_if k (full_list p limit spare k.1 k.0)) ks) ≡ flat_map (λ k. route_if k (mended_list p limit spare k.1 k.0)) ks
    all_settled [] h = refl
    all_settled (k ∷ ks) h =
        flat_map-append (settled_route p.routes cert) (route_if k (full_list p limit spare k.1 k.0)) (flat_map (λ k. route_if k (full_list p limit spare k.1 k.0)) ks)
        ∙ (λ i. one_settled k (h k (inl refl)) i ++ all_settled ks (λ j m. h j (inr m)) i)

    pub routes_settle : flat_map (settled_route p.routes cert) F.routes ≡ mended_routes p limit spare
    routes_settle = all_settled (pairs_of p) (λ k m. (pair_within p ok k m).1)

-- WHAT IS ANSWERED

-- the plan with all full lists can be certified
pub full_can : (p : Plan) → IsPlan p → (limit spare : ℕ) → spare ≤ 15 → ambiguous_of p.codes ≡ None → unserved p limit spare ≡ [] → CanBeCertified (full p limit spare) limit spare
full_can p ok limit spare small distinct none =
    let all = full_ranks p ok limit spare small in
    (all, certified_codes (full p limit spare) all limit spare (none_distinct p.codes distinct) (λ c h. full_certifies p ok limit spare small c h (none_for p ok limit spare small c h none)))

-- a mended plan and its certificate
pub record IsDone (p q : Plan) (cert : Certificate) (limit spare : ℕ) : Type 0 where
  pub is : q ≡ mended p limit spare
  pub certified : IsCertified q (ranks_of cert) limit spare
  pub fits : IsCertificateOf q cert

pub done : (p : Plan) → IsPlan p → (limit spare : ℕ) → spare ≤ 15 → (f : Plan) → f ≡ full p limit spare → (before : List Route) → before ≡ p.routes
    → (cert : Certificate) → IsCertified f (ranks_of cert) limit spare → AreHeights f (ranks_of cert) → IsCertificateOf f cert
    → (routes : List Route) → routes ≡ flat_map (settled_route before cert) f.routes → (bars : List Pair) → bars ≡ f.bars → IsDone p (rerouted f routes bars) cert limit spare
done p ok limit spare small f e before b cert certified heights fits routes r bars s =
    let F = full p limit spare in
    let M = mended p limit spare in
    let k = subst (λ (q : Plan). IsCertified q (ranks_of cert) limit spare) e certified in
    let h = subst (λ (q : Plan). AreHeights q (ranks_of cert)) e heights in
    let own = subst (λ (q : Plan). IsCertificateOf q cert) e fits in
    let all : routes ≡ mended_routes p limit spare = r ∙ ap (λ (q : Plan). flat_map (settled_route before cert) q.routes) e ∙ ap (λ (l : List Route). flat_map (settled_route l cert) F.routes) b ∙ routes_settle p ok limit spare small cert k h in
    let barred : bars ≡ p.bars = s ∙ ap (λ (q : Plan). q.bars) e in
    let same : rerouted f routes bars ≡ M = λ i. rerouted (e i) (all i) (barred i) in
    record {
      is = same;
      certified = subst (λ (q : Plan). IsCertified q (ranks_of cert) limit spare) (sym same) (trimmed p ok limit spare small cert k h);
      fits = subst (λ (q : Plan). IsCertificateOf q cert) (sym same) (record { codes = own.codes; exchanges = own.exchanges; rules = own.rules });
    }

-- the mended list of a code that keeps its routes
pub kept_mended : (p : Plan) → IsPlan p → (limit spare x code : ℕ) → keeps_routes p code limit spare ≡ true → mended_list p limit spare code x ≡ route_list p x code
kept_mended p ok limit spare x code k =
    let same : full_list p limit spare code x ≡ route_list p x code = ap (λ b. if b then route_list p x code else list_by p (kept_rank p code limit spare) code spare x) k in
    elim (comes_to p limit spare code x) as (λ b. (if b then full_list p limit spare code x else route_list p x code) ≡ route_list p x code) [ true ↦ same | false ↦ refl ]

-- a code whose routes can be kept has its lists
pub kept_list : (p : Plan) → IsPlan p → (limit spare : ℕ) → spare ≤ 15 → (x code : ℕ) → x < length p.exchanges → code < length p.codes → CanBeKept p code limit spare → route_list (mended p limit spare) x code ≡ route_list p x code
kept_list p ok limit spare small x code h known k =
    (is_mended p ok limit spare small).lists x code h known ∙ kept_mended p ok limit spare x code (keeps p ok code limit spare known k)

pub mended_is : MendedIsMended
mended_is p ok limit spare small = is_mended p ok limit spare small

pub mending_exact : MendingIsExact
mending_exact p ok limit spare small = record { mends = λ none distinct. certified_there p ok limit spare small distinct none; can_be = λ k. (served_all p ok limit spare small k, distinct_all p ok limit spare small k) }
