-- Lists by ranks lead down.
use Rattle.tx_mend.proofs.Common.{◌≡◌, ◌≢◌, ℕ, suc, ◌<◌, ◌≤◌, Bool, true, false, nat_lt, ◌==◌, eqb-true, eq-eqb, List, [], length, Option, Some, None, inl, inr, refl, sym, ap, subst, ◌∙◌, arith, filter, is_some, option_and_then, option_map_or, cases_lt, ltb-true, false≢true, Plan, home_of, IsPlan, IsRoute, route_list, may_seize, other_end, Among, among_filter, filter_among, among_flat, flat_among, all_among, among_all, indexes, RanksOfCode, outgoing, rank_across, leads_on, can_follow, ranked_in, leads_below, pairs_kept, AllDiffer, list_cases, list_seizes, list_few}
use Rattle.tx_mend.specs.Lists.{filled, leads_to, groups_below, list_of_rank, list_by}
use Rattle.tx_mend.proofs.Distinct.{fits, among_range, range_among, range_differs}
use Rattle.tx_mend.proofs.RoundRanks.{Ranked, IsRankedAfter, at_home, stays_on, within, why}
use Rattle.tx_mend.proofs.Least.{list_differs}
use Rattle.tx_mend.proofs.Filled.{filled_all, filled_differs, filled_few, filled_has}

-- a group leads from x to a rank below r
pub record Leads (p : Plan) (ranks : RanksOfCode) (x r g : ℕ) : Type 0 where
  pub to : ℕ
  pub rank : ℕ
  pub leads : other_end p g x ≡ Some to
  pub ranked : ranks to ≡ Some rank
  pub below : rank < r

across : (p : Plan) (ranks : RanksOfCode) (x g : ℕ) (o : Option ℕ) → other_end p g x ≡ o → (m : ℕ) → option_and_then ranks o ≡ Some m → (y : ℕ) × (other_end p g x ≡ Some y) × (ranks y ≡ Some m)
across p ranks x g None e m h = absurd (let bad : ⊥ = cc in bad)
across p ranks x g (Some y) e m h = (y, e, h)

module _ (p : Plan) (ranks : RanksOfCode) (x g : ℕ) where
  pub across_to : (m : ℕ) → rank_across p ranks x g ≡ Some m → (y : ℕ) × (other_end p g x ≡ Some y) × (ranks y ≡ Some m)
  across_to m h = across p ranks x g (other_end p g x) refl m h

  pub rank_over : (y m : ℕ) → other_end p g x ≡ Some y → ranks y ≡ Some m → rank_across p ranks x g ≡ Some m
  rank_over y m e h = ap (λ (o : Option ℕ). option_and_then ranks o) e ∙ h

  pub on_rank : leads_on p ranks x g ≡ true → (m : ℕ) × (rank_across p ranks x g ≡ Some m)
  on_rank h = by (rank_across p ranks x g) refl h
    where
      by : (o : Option ℕ) → rank_across p ranks x g ≡ o → is_some o ≡ true → (m : ℕ) × (rank_across p ranks x g ≡ Some m)
      by None e k = absurd (false≢true k)
      by (Some m) e k = (m, e)

  pub leads_from_below : (r : ℕ) → leads_below p ranks r x g ≡ true → Leads p ranks x r g
  leads_from_below r h = by (rank_across p ranks x g) refl h
    where
      by : (o : Option ℕ) → rank_across p ranks x g ≡ o → option_map_or (λ m. nat_lt m r) o false ≡ true → Leads p ranks x r g
      by None e k = absurd (false≢true k)
      by (Some m) e k = let a = across_to m e in record { to = a.0; rank = m; leads = a.1; ranked = a.2; below = ltb-true m r k }

  pub leads_from_to : (m r : ℕ) → m < r → leads_to p ranks m x g ≡ true → Leads p ranks x r g
  leads_from_to m r l h = by (rank_across p ranks x g) refl h
    where
      by : (o : Option ℕ) → rank_across p ranks x g ≡ o → option_map_or (λ k. k == m) o false ≡ true → Leads p ranks x r g
      by None e k = absurd (false≢true k)
      by (Some n) e k = let a = across_to n e in let same = eqb-true n m k in record { to = a.0; rank = n; leads = a.1; ranked = a.2; below = omega arith }

  pub to_this : (m : ℕ) → rank_across p ranks x g ≡ Some m → leads_to p ranks m x g ≡ true
  to_this m e = ap (λ (o : Option ℕ). option_map_or (λ k. k == m) o false) e ∙ eq-eqb m m refl

pub outgoing_seizes : (p : Plan) (g x : ℕ) → Among g (outgoing p x) → may_seize p g x ≡ true
outgoing_seizes p g x m = (filter_among (λ (g : ℕ). may_seize p g x) g (indexes (length p.groups)) m).1

-- what the list of an exchange has to be
pub record IsList (p : Plan) (x c : ℕ) (list : List ℕ) : Type 0 where
  pub differs : AllDiffer list
  pub seizes : (g : ℕ) → Among g list → may_seize p g x ≡ true
  pub few : length list ≤ 16
  pub away : list ≢ [] → home_of p c ≢ x

pub present_list : (p : Plan) → IsPlan p → (x c : ℕ) → IsList p x c (route_list p x c)
present_list p ok x c = record {
  differs = list_differs p ok x c;
  seizes = list_seizes p ok x c;
  few = list_few p ok x c;
  away = λ some. elim (list_cases p x c) [
    | inl e ↦ absurd (some e)
    | inr f ↦ λ h. (all_among (IsRoute p) p.routes f.route ok.routes f.among).away (ap (home_of p) f.code ∙ h ∙ sym f.exchange)
  ];
}

-- more than spare groups lead from x below r
pub record HasEnough (p : Plan) (ranks : RanksOfCode) (spare x r : ℕ) : Type 0 where
  pub groups : List ℕ
  pub differ : AllDiffer groups
  pub more : spare < length groups
  pub seized : (g : ℕ) → Among g groups → Among g (outgoing p x)
  pub lower : (g : ℕ) → Among g groups → Leads p ranks x r g

-- ranks by which lists can be made
pub record IsRanking (p : Plan) (c limit spare : ℕ) (ranks : RanksOfCode) : Type 0 where
  pub home : ranks (home_of p c) ≡ Some 0
  pub low : (x r : ℕ) → ranks x ≡ Some r → r ≤ suc limit
  pub enough : (x r : ℕ) → ranks x ≡ Some r → x ≢ home_of p c → HasEnough p ranks spare x r

-- RANKS OF ROUNDS

module _ (p : Plan) (c limit : ℕ) (follows : RanksOfCode → ℕ → Bool) where
  abbrev Round : RanksOfCode
  Round x = ranked_in (home_of p c) follows (suc limit) x

  abbrev before : ℕ → RanksOfCode
  before n = Ranked (home_of p c) follows n

  -- a group that led on when x was ranked leads to a smaller rank
  pub on_leads : (x r g : ℕ) → (w : IsRankedAfter (home_of p c) follows (suc limit) x r) → leads_on p (before w.round) x g ≡ true → Leads p Round x r g
  on_leads x r g w h =
      let n = on_rank p (before w.round) x g h in
      let a = across_to p (before w.round) x g n.0 n.1 in
      let lower = within (home_of p c) follows w.round a.0 n.0 a.2 in
      let b = w.before in
      let next = w.next in
      record { to = a.0; rank = n.0; leads = a.1; ranked = stays_on (home_of p c) follows (suc limit) w.round a.0 n.0 (omega arith) a.2; below = omega arith }

  pub round_ranking : (spare : ℕ) → ((ranks : RanksOfCode) (x : ℕ) → follows ranks x ≡ true → can_follow p spare ranks x ≡ true) → IsRanking p c limit spare Round
  round_ranking spare can = record {
    home = at_home (home_of p c) follows (suc limit);
    low = within (home_of p c) follows (suc limit);
    enough = λ x r e away.
        let w = why (home_of p c) follows (suc limit) x r e away in
        let t : ℕ → Bool = λ g. leads_on p (before w.round) x g in
        record {
          groups = filter t (outgoing p x);
          differ = pairs_kept (λ x y. x ≢ y) t (outgoing p x) (pairs_kept (λ x y. x ≢ y) (λ g. may_seize p g x) (indexes (length p.groups)) (range_differs 0 (length p.groups)));
          more = ltb-true spare (length (filter t (outgoing p x))) (can (before w.round) x w.admitted);
          seized = λ g m. (filter_among t g (outgoing p x) m).0;
          lower = λ g m. on_leads x r g w (filter_among t g (outgoing p x) m).1;
        };
  }

-- THE LISTS BY THEM

module _ (p : Plan) (ok : IsPlan p) (limit spare c : ℕ) (small : spare ≤ 15) (Least : RanksOfCode) (ranking : IsRanking p c limit spare Least) where
  below_seizes : (r x g : ℕ) → Among g (groups_below p Least r x) → may_seize p g x ≡ true
  below_seizes r x g m =
      let f = flat_among (λ m. filter (λ g. leads_to p Least m x g) (outgoing p x)) g (indexes r) m in
      outgoing_seizes p g x (filter_among (λ g. leads_to p Least f.0 x g) g (outgoing p x) f.2).0

  pub below_leads : (r x g : ℕ) → Among g (groups_below p Least r x) → Leads p Least x r g
  below_leads r x g m =
      let f = flat_among (λ m. filter (λ g. leads_to p Least m x g) (outgoing p x)) g (indexes r) m in
      let w = (range_among 0 r f.0 f.1).1 in
      leads_from_to p Least x g f.0 r (omega arith) (filter_among (λ g. leads_to p Least f.0 x g) g (outgoing p x) f.2).1

  -- an exchange of rank r may seize more than spare groups that lead below
  has_below : (x r : ℕ) → Least x ≡ Some r → x ≢ home_of p c → (list : List ℕ) → ((g : ℕ) → Among g (groups_below p Least r x) → Among g list) → spare < length list
  has_below x r e away list has =
      let k = ranking.enough x r e away in
      let each : (g : ℕ) → Among g k.groups → Among g list = λ g m.
      let l = k.lower g m in
      let b = l.below in
      has g (among_flat (λ m. filter (λ g. leads_to p Least m x g) (outgoing p x)) l.rank g (indexes r) (among_range 0 r l.rank (omega arith) (omega arith))
      (among_filter (λ g. leads_to p Least l.rank x g) g (outgoing p x) (k.seized g m) (to_this p Least x g l.rank (rank_over p Least x g l.to l.rank l.leads l.ranked)))) in
      let long = fits k.groups list k.differ each in
      let more = k.more in
      omega arith

  abbrev pub kept : (r x : ℕ) → List ℕ
  kept r x = filter (λ g. leads_below p Least r x g) (route_list p x c)

  pub filled_enough : (x r : ℕ) → Least x ≡ Some r → x ≢ home_of p c → spare < length (filled spare (kept r x) (groups_below p Least r x))
  filled_enough x r e away =
      elim (cases_lt spare (length (filled spare (kept r x) (groups_below p Least r x)))) [
        | inl l ↦ l
        | inr l ↦ has_below x r e away (filled spare (kept r x) (groups_below p Least r x)) (λ g m. filled_has spare (kept r x) (groups_below p Least r x) l g m)
      ]

  pub filled_leads : (x r g : ℕ) → Among g (filled spare (kept r x) (groups_below p Least r x)) → Leads p Least x r g
  filled_leads x r g m =
      all_among (Leads p Least x r) (filled spare (kept r x) (groups_below p Least r x)) g
      (filled_all spare (Leads p Least x r) (kept r x) (groups_below p Least r x)
      (among_all (Leads p Least x r) (kept r x) (λ g m. leads_from_below p Least x g r (filter_among (λ g. leads_below p Least r x g) g (route_list p x c) m).1))
      (among_all (Leads p Least x r) (groups_below p Least r x) (λ g m. below_leads r x g m))) m

  filled_seizes : (x r g : ℕ) → Among g (filled spare (kept r x) (groups_below p Least r x)) → may_seize p g x ≡ true
  filled_seizes x r g m =
      let P : ℕ → Type 0 = λ g. may_seize p g x ≡ true in
      all_among P (filled spare (kept r x) (groups_below p Least r x)) g
      (filled_all spare P (kept r x) (groups_below p Least r x)
      (among_all P (kept r x) (λ g m. list_seizes p ok x c g (filter_among (λ g. leads_below p Least r x g) g (route_list p x c) m).0))
      (among_all P (groups_below p Least r x) (λ g m. below_seizes r x g m))) m

  kept_few : (r x : ℕ) → length (kept r x) ≤ 16
  kept_few r x =
      let l = list_few p ok x c in
      let f = fits (kept r x) (route_list p x c) (pairs_kept (λ x y. x ≢ y) (λ g. leads_below p Least r x g) (route_list p x c) (list_differs p ok x c)) (λ g m. (filter_among (λ g. leads_below p Least r x g) g (route_list p x c) m).0) in
      omega arith

  -- the home has no list
  home_empty : (x : ℕ) → home_of p c ≡ x → list_by p Least c spare x ≡ []
  home_empty x h =
      let zero_rank : Least x ≡ Some 0 = subst (λ (y : ℕ). Least y ≡ Some 0) h ranking.home in
      let none : route_list p x c ≡ [] = elim (list_cases p x c) [
        | inl e ↦ e
        | inr f ↦ absurd ((all_among (IsRoute p) p.routes f.route ok.routes f.among).away (ap (home_of p) f.code ∙ h ∙ sym f.exchange))
      ] in
      ap (λ (o : Option ℕ). list_of_rank p Least c spare x o) zero_rank ∙ ap (λ (l : List ℕ). filter (λ g. leads_below p Least 0 x g) l) none

  pub is_list_by : (x : ℕ) → IsList p x c (list_by p Least c spare x)
  is_list_by x = by (Least x) refl
    where
      by : (o : Option ℕ) → Least x ≡ o → IsList p x c (list_of_rank p Least c spare x o)
      by None e = present_list p ok x c
      by (Some r) e = record {
        differs = filled_differs spare (kept r x) (groups_below p Least r x) (pairs_kept (λ x y. x ≢ y) (λ g. leads_below p Least r x g) (route_list p x c) (list_differs p ok x c));
        seizes = filled_seizes x r;
        few = filled_few spare (kept r x) (groups_below p Least r x) 16 (omega arith) (kept_few r x);
        away = λ some h. some (ap (λ (o : Option ℕ). list_of_rank p Least c spare x o) (sym e) ∙ home_empty x h);
      }
