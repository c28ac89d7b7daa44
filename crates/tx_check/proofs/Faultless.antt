-- There is no fault exactly where the plan is certified.
use Rattle.std.proofs.Common.{◌≡◌, ◌≢◌, ℕ, suc, ◌+◌, ◌<◌, ◌≤◌, ◌==◌, Bool, true, false, not, ◌&&◌, ◌||◌, nat_lt, nat_le, List, [], ◌∷◌, length, Option, Some, None, is_some, is_none, refl, ap, subst, arith}
use Rattle.std.specs.List.{AllByRecursion, list_any, slice_get}
use Rattle.std.specs.Prelude.{option_and_then, if◌then◌else◌}
use Rattle.std.proofs.lemmas.Bool.{and_parts, and_from, ltb-true, ltb-false, le-ltb, leb-false, lt-leb, eqb-true, ne_eqb, eq-eqb}
use Rattle.tx_plan.specs.Plan.{Plan, Code, home_of}
use Rattle.tx_plan.specs.Codes.{is_prefix}
use Rattle.tx_check.proofs.Common.{ambiguous_of, CheckFault, Short, TargetUnranked, NotLower}
use Rattle.tx_plan.specs.Routes.{route_list, is_origin, is_origin_for}
use Rattle.tx_plan.specs.Circuits.{other_end}
use Rattle.tx_plan.specs.Certified.{Ranks, IsBelow, LeadsLower, LeadsDown, IsCertified}
use Rattle.tx_plan.specs.Rules.{IsPlan, IsCode, IsRange}
use Rattle.tx_plan.specs.declared.range.LineRange.{LineRange}
use Rattle.tx_plan.proofs.Ambiguity.{none-ambiguous, ambiguous-none}
use Rattle.tx_plan.proofs.ByIndex.{entry_at, all_at}
use Rattle.tx_check.specs.Checks.{at_exchanges, at_pairs, fault_if, is_rank, is_above, is_at_least, rank_away, rank_beyond, ambiguous_fault, ambiguous_faults, home_not_zero_at, home_not_zero_faults, origin_unranked_at, origin_unranked_faults, too_high_at, too_high_faults, too_short_at, too_short_faults, target_unranked_by, target_unranked_at, target_unranked_faults, not_lower_by, not_lower_at, not_lower_faults, check_faults, RanksOnly}
use Rattle.tx_check.proofs.Finding.{fault_if-none, fault_if-false, append_none, none_append, at_none, none_at, each_none, none_each, all_from, all_both}

-- ---- K1

prefix_same : (a b : List ℕ) → is_prefix a b ≡ true → nat_lt (length a) (length b) ≡ false → a ≡ b
prefix_same [] [] h k = refl
prefix_same [] (y ∷ b) h k = absurd (let l = ltb-false (length {A = ℕ} []) (length (y ∷ b)) k in omega (arith, l))
prefix_same (x ∷ a) [] h k = absurd (let z : ⊥ = cc in z)
prefix_same (x ∷ a) (y ∷ b) h k =
    elim (x == y) as (λ t. (x == y) ≡ t → is_prefix (x ∷ a) (y ∷ b) ≡ true → x ∷ a ≡ y ∷ b) [
      | true ↦ λ e g.
          let r : is_prefix a b ≡ true = (rw e at g) in
          let s : nat_lt (length a) (length b) ≡ false = lt_same (length a) (length b) k in
          λ i. eqb-true x y e i ∷ prefix_same a b r s i
      | false ↦ λ e g. absurd (let q = rw e at g in let z : ⊥ = cc in z)
    ] refl h
  where
    lt_same : (m n : ℕ) → nat_lt (suc m) (suc n) ≡ false → nat_lt m n ≡ false
    lt_same m n e = let l = ltb-false (suc m) (suc n) e in le-ltb m n (omega (arith, l))

ambiguous_none : (o : Option (ℕ × ℕ)) → ambiguous_fault o ≡ [] → o ≡ None
ambiguous_none None h = refl
ambiguous_none (Some x) h = absurd (let z : ⊥ = cc in z)

no_prefix_of : (codes : List Code) → ambiguous_of codes ≡ None → (i j : ℕ) (c d : Code) → slice_get codes i ≡ Some c → slice_get codes j ≡ Some d → is_prefix c.figures d.figures ≡ true → c.figures ≡ d.figures
no_prefix_of codes h i j c d e f t =
    elim (nat_lt (length c.figures) (length d.figures)) as (λ b. nat_lt (length c.figures) (length d.figures) ≡ b → c.figures ≡ d.figures) [
      | true ↦ λ l. absurd (none-ambiguous codes h i j c d (record { first = e; second = f; begins = and_from _ _ t l }))
      | false ↦ λ l. prefix_same c.figures d.figures t l
    ] refl

none_of_prefix : (codes : List Code) → ((i j : ℕ) (c d : Code) → slice_get codes i ≡ Some c → slice_get codes j ≡ Some d → is_prefix c.figures d.figures ≡ true → c.figures ≡ d.figures) → ambiguous_of codes ≡ None
none_of_prefix codes h = ambiguous-none codes (λ i j c d a.
    let r = and_parts (is_prefix c.figures d.figures) (nat_lt (length c.figures) (length d.figures)) a.begins in
    let e = h i j c d a.first a.second r.0 in
    let l = ltb-true (length c.figures) (length d.figures) r.1 in
    omega (arith, l, ap length e))

-- ---- single ranks

rank_of : (o : Option ℕ) (n : ℕ) → not (is_rank o n) ≡ false → o ≡ Some n
rank_of None n h = absurd (let z : ⊥ = cc in z)
rank_of (Some r) n h =
    elim (r == n) as (λ t. (r == n) ≡ t → not t ≡ false → Some r ≡ Some n) [
      | true ↦ λ e k. ap Some (eqb-true r n e)
      | false ↦ λ e k. absurd (let z : ⊥ = cc in z)
    ] refl h

is_rank_of : (o : Option ℕ) (n : ℕ) → o ≡ Some n → not (is_rank o n) ≡ false
is_rank_of o n h = let e = eq-eqb n n refl in rw (h, e) refl

some_of : (b : Bool) (o : Option ℕ) → (b && is_none o) ≡ false → b ≡ true → (r : ℕ) × (o ≡ Some r)
some_of b None h e = absurd (let q = rw e at h in let z : ⊥ = cc in z)
some_of b (Some r) h e = (r, refl)

not_none : (b : Bool) (o : Option ℕ) → (b ≡ true → (r : ℕ) × (o ≡ Some r)) → (b && is_none o) ≡ false
not_none false o h = refl
not_none true o h = let r = h refl in let e = r.1 in rw e refl

low_of : (o : Option ℕ) (n r : ℕ) → is_above o n ≡ false → o ≡ Some r → r ≤ n
low_of o n r h e = let q = rw e at h in ltb-false n r q

not_above : (o : Option ℕ) (n : ℕ) → ((r : ℕ) → o ≡ Some r → r ≤ n) → is_above o n ≡ false
not_above None n h = refl
not_above (Some r) n h = le-ltb n r (h r refl)

-- ---- lists

module _ (p : Plan) (ranks : Ranks) (code exchange rank : ℕ) where
  leads_of : (o : Option ℕ) (g : ℕ) → other_end p g exchange ≡ o → is_none (option_and_then (ranks code) o) ≡ false → is_at_least (option_and_then (ranks code) o) rank ≡ false → LeadsLower p ranks code exchange rank g
  leads_of None g e h k = absurd (let z : ⊥ = cc in z)
  leads_of (Some to) g e h k =
      elim (ranks code to) as (λ o. ranks code to ≡ o → is_none o ≡ false → is_at_least o rank ≡ false → LeadsLower p ranks code exchange rank g) [
        | None ↦ λ q h k. absurd (let z : ⊥ = cc in z)
        | Some m ↦ λ q h k. record { to = to; leads = e; lower = rw q (below m rank k) }
      ] refl h k
    where
      below : (m n : ℕ) → nat_le n m ≡ false → m < n
      below m n h = leb-false n m h

  leads_found : (g : ℕ) → LeadsLower p ranks code exchange rank g → is_none (rank_beyond p ranks code exchange g) ≡ false
  leads_found g h = let e = h.leads in rw e (some_rank (ranks code h.to) h.lower)
    where
      some_rank : (o : Option ℕ) → IsBelow o rank → is_none o ≡ false
      some_rank None l = absurd l
      some_rank (Some m) l = refl

  leads_lower : (g : ℕ) → LeadsLower p ranks code exchange rank g → is_at_least (rank_beyond p ranks code exchange g) rank ≡ false
  leads_lower g h = let e = h.leads in rw e (low_rank (ranks code h.to) h.lower)
    where
      low_rank : (o : Option ℕ) → IsBelow o rank → is_at_least o rank ≡ false
      low_rank None l = absurd l
      low_rank (Some m) l = lt-leb rank m l

away_rank : (p : Plan) (ranks : Ranks) (c x r : ℕ) → ranks c x ≡ Some r → x ≢ home_of p c → rank_away p ranks c x ≡ Some r
away_rank p ranks c x r e ne = let t = ne_eqb x (home_of p c) ne in rw t e

rank_from_away : (p : Plan) (ranks : Ranks) (c x r : ℕ) → rank_away p ranks c x ≡ Some r → (ranks c x ≡ Some r) × (x ≢ home_of p c)
rank_from_away p ranks c x r h =
    elim (x == home_of p c) as (λ t. (x == home_of p c) ≡ t → (if t then None else ranks c x) ≡ Some r → (ranks c x ≡ Some r) × (x ≢ home_of p c)) [
      | true ↦ λ e k. absurd (let z : ⊥ = cc in z)
      | false ↦ λ e k. (k, λ s. let t = eq-eqb x (home_of p c) s in let z : ⊥ = cc in z)
    ] refl h

origin_known : (p : Plan) → IsPlan p → (x : ℕ) → is_origin p x ≡ true → x < length p.exchanges
origin_known p h x t = by p.ranges h.ranges t
  where
    by : (rs : List LineRange) → AllByRecursion (IsRange p) rs → list_any (λ r. home_of p r.code == x) rs ≡ true → x < length p.exchanges
    by [] a t = absurd (let z : ⊥ = cc in z)
    by (r ∷ rs) a t =
        elim (home_of p r.code == x) as (λ b. (home_of p r.code == x) ≡ b → (b || list_any (λ r. home_of p r.code == x) rs) ≡ true → x < length p.exchanges) [
          | true ↦ λ e k. subst (λ i. i < length p.exchanges) (eqb-true (home_of p r.code) x e) (home_known r.code a.0.code)
          | false ↦ λ e k. by rs a.1 k
        ] refl t
      where
        home_known : (c : ℕ) → c < length p.codes → home_of p c < length p.exchanges
        home_known c l =
            let e = entry_at p.codes c l in
            let q = e.1 in
            rw q (all_at (IsCode p) p.codes c e.0 h.codes q).home

module _ (p : Plan) (ranks : Ranks) (limit spare : ℕ) (h : IsPlan p) where
  -- ---- no fault: certified

  at_pair : (f : ℕ → ℕ → List CheckFault) → at_pairs p f ≡ [] → (c x : ℕ) → c < length p.codes → x < length p.exchanges → f c x ≡ []
  at_pair f e c x l m = at_none (f c) (length p.exchanges) (at_none (λ i. at_exchanges p (f i)) (length p.codes) e c l) x m

  pair_none : (f : ℕ → ℕ → List CheckFault) → ((c x : ℕ) → c < length p.codes → x < length p.exchanges → f c x ≡ []) → at_pairs p f ≡ []
  pair_none f e = none_at (λ i. at_exchanges p (f i)) (length p.codes) (λ c l. none_at (f c) (length p.exchanges) (λ x m. e c x l m))

  down_of : (c x r : ℕ) → rank_away p ranks c x ≡ Some r → too_short_at p ranks spare c x ≡ [] → target_unranked_at p ranks c x ≡ [] → not_lower_at p ranks c x ≡ [] → LeadsDown p ranks spare c x r
  down_of c x r e five six seven =
      let a = rw e at five in
      let b = rw e at six in
      let d = rw e at seven in
      let gs = route_list p x c in
      record {
        enough = leb-false (length gs) spare (fault_if-none (nat_le (length gs) spare) (Short c x) a);
        each = all_both (λ g. fault_if (is_none (rank_beyond p ranks c x g)) (TargetUnranked c x g) ≡ []) (λ g. fault_if (is_at_least (rank_beyond p ranks c x g) r) (NotLower c x g) ≡ []) (LeadsLower p ranks c x r)
            (λ g u v. leads_of p ranks c x r (other_end p g x) g refl (fault_if-none _ _ u) (fault_if-none _ _ v)) gs
            (each_none (λ g. fault_if (is_none (rank_beyond p ranks c x g)) (TargetUnranked c x g)) gs b)
            (each_none (λ g. fault_if (is_at_least (rank_beyond p ranks c x g) r) (NotLower c x g)) gs d);
      }

  certified_by : RanksOnly p ranks → ambiguous_faults p ≡ [] → home_not_zero_faults p ranks ≡ [] → origin_unranked_faults p ranks ≡ [] → too_high_faults p ranks limit ≡ [] → too_short_faults p ranks spare ≡ [] → target_unranked_faults p ranks ≡ [] → not_lower_faults p ranks ≡ [] → IsCertified p ranks limit spare
  certified_by known one two three four five six seven = record {
    no_prefix = no_prefix_of p.codes (ambiguous_none (ambiguous_of p.codes) one);
    homes = λ c l. rank_of (ranks c (home_of p c)) 0 (fault_if-none _ _ (at_none (home_not_zero_at p ranks) (length p.codes) two c l));
    origins = λ c x l o. some_of (is_origin_for p x c) (ranks c x) (fault_if-none _ _ (at_pair (origin_unranked_at p ranks) three c x l (origin_known p h x (and_parts (is_origin p x) _ o).0))) o;
    low = λ c x r l e. low_of (ranks c x) (limit + 1) r (fault_if-none _ _ (at_pair (too_high_at ranks limit) four c x l (known c x r e))) e;
    lists = λ c x r l e ne.
        let m = known c x r e in
        down_of c x r (away_rank p ranks c x r e ne) (at_pair (too_short_at p ranks spare) five c x l m) (at_pair (target_unranked_at p ranks) six c x l m) (at_pair (not_lower_at p ranks) seven c x l m);
  }

  -- ---- certified: no fault

  module _ (k : IsCertified p ranks limit spare) where
    lists_by : (c x : ℕ) → c < length p.codes → (o : Option ℕ) → rank_away p ranks c x ≡ o
        → (fault_if (is_some o && nat_le (length (route_list p x c)) spare) (Short c x) ≡ []) × (target_unranked_by p ranks c x o ≡ []) × (not_lower_by p ranks c x o ≡ [])
    lists_by c x l None e = (refl, refl, refl)
    lists_by c x l (Some r) e =
        let a = rank_from_away p ranks c x r e in
        let d = k.lists c x r l a.0 a.1 in
        let gs = route_list p x c in (
          fault_if-false (nat_le (length gs) spare) (Short c x) (lt-leb (length gs) spare d.enough),
          none_each (λ g. fault_if (is_none (rank_beyond p ranks c x g)) (TargetUnranked c x g)) gs (all_from (LeadsLower p ranks c x r) _ (λ g u. fault_if-false _ _ (leads_found p ranks c x r g u)) gs d.each),
          none_each (λ g. fault_if (is_at_least (rank_beyond p ranks c x g) r) (NotLower c x g)) gs (all_from (LeadsLower p ranks c x r) _ (λ g u. fault_if-false _ _ (leads_lower p ranks c x r g u)) gs d.each),
        )

    lists_at : (c x : ℕ) → c < length p.codes → (too_short_at p ranks spare c x ≡ []) × (target_unranked_at p ranks c x ≡ []) × (not_lower_at p ranks c x ≡ [])
    lists_at c x l = lists_by c x l (rank_away p ranks c x) refl

    faultless_by : check_faults p ranks limit spare ≡ []
    unfolding check_faults
    faultless_by =
        none_append (ambiguous_faults p) _ (ap ambiguous_fault (none_of_prefix p.codes k.no_prefix))
        (none_append (home_not_zero_faults p ranks) _ (none_at (home_not_zero_at p ranks) (length p.codes) (λ c l. fault_if-false _ _ (is_rank_of (ranks c (home_of p c)) 0 (k.homes c l))))
        (none_append (origin_unranked_faults p ranks) _ (pair_none (origin_unranked_at p ranks) (λ c x l m. fault_if-false _ _ (not_none (is_origin_for p x c) (ranks c x) (k.origins c x l))))
        (none_append (too_high_faults p ranks limit) _ (pair_none (too_high_at ranks limit) (λ c x l m. fault_if-false _ _ (not_above (ranks c x) (limit + 1) (λ r e. k.low c x r l e))))
        (none_append (too_short_faults p ranks spare) _ (pair_none (too_short_at p ranks spare) (λ c x l m. (lists_at c x l).0))
        (none_append (target_unranked_faults p ranks) _ (pair_none (target_unranked_at p ranks) (λ c x l m. (lists_at c x l).1))
        (pair_none (not_lower_at p ranks) (λ c x l m. (lists_at c x l).2)))))))

pub certified_of : (p : Plan) (ranks : Ranks) (limit spare : ℕ) → IsPlan p → RanksOnly p ranks → check_faults p ranks limit spare ≡ [] → IsCertified p ranks limit spare
unfolding check_faults
certified_of p ranks limit spare h known e =
    let a = append_none (ambiguous_faults p) _ e in
    let b = append_none (home_not_zero_faults p ranks) _ a.1 in
    let c = append_none (origin_unranked_faults p ranks) _ b.1 in
    let d = append_none (too_high_faults p ranks limit) _ c.1 in
    let f = append_none (too_short_faults p ranks spare) _ d.1 in
    let g = append_none (target_unranked_faults p ranks) _ f.1 in
    certified_by p ranks limit spare h known a.0 b.0 c.0 d.0 f.0 g.0 g.1

pub faultless_of : (p : Plan) (ranks : Ranks) (limit spare : ℕ) → IsPlan p → IsCertified p ranks limit spare → check_faults p ranks limit spare ≡ []
faultless_of p ranks limit spare h k = faultless_by p ranks limit spare h k
