-- What can be kept, served and mended.
use Rattle.tx_mend.proofs.Common.{◌≡◌, ◌≢◌, ℕ, suc, ◌<◌, ◌≤◌, Bool, true, false, cond, not, ◌&&◌, ◌||◌, ◌==◌, nat_lt, eqb-true, List, [], ◌∷◌, ◌++◌, length, map, Option, Some, None, is_none, inl, inr, refl, sym, ap, subst, ◌∙◌, arith, filter, slice_get, is_some, if◌then◌else◌, flat_map, list_all, option_map_or, and_parts, and_from, or_cases, false≢true, ltb-true, lt-ltb, route_list, is_origin_for, ambiguous_of, Among, among_filter, among_flat, among_map, all_among, among_all, net_of, Certifies, is_net, among_at, rerouted, IsRouting, IsFalling, CanBeServed, CanBeKept, CanBeMended, indexes, RanksOfCode, leads_on, can_follow, does_follow, least_rank, present_rank, ranks_origins, keeps_routes, kept_rank, routes_of, Unserved, cause_of, unserved_for, unserved, list_of_rank, list_by, full_list, full, list_cases}
use Rattle.tx_plan.specs.Plan.{Plan, Group, home_of}
use Rattle.tx_plan.specs.Rules.{IsPlan, IsGroup, IsRoute}
use Rattle.tx_plan.specs.Circuits.{may_seize, may_seize_row, is_both}
use Rattle.tx_plan.specs.Certified.{Ranks, IsBelow, LeadsLower, IsCertified}
use Rattle.tx_rank.proofs.Certifying.{distinct_none, below_rank}
use Rattle.tx_mend.specs.Laws.{LeastRanksAreAttained, LeastRanksServe, KeepsWhatCanBeKept}
use Rattle.tx_mend.proofs.Distinct.{some_among, among_range, range_among, all_holds, holds_all}
use Rattle.tx_mend.proofs.RoundRanks.{Ranked, at_home, within, why, no_greater}
use Rattle.tx_mend.proofs.Least.{leads, least}
use Rattle.tx_mend.proofs.LeastLists.{Leads, IsList, IsRanking, outgoing_seizes, present_list, on_leads, round_ranking, is_list_by, filled_enough, filled_leads}
use Rattle.tx_mend.proofs.Kept.{origin_ranked, origins_ranked, kept_ranking, kept_ranks_origins}
use Rattle.tx_mend.proofs.Routed.{routed_list, routes_rules, routes_differ}
use Rattle.tx_plan.proofs.Rerouted.{kept_rerouted}
use Rattle.tx_mend.proofs.Unranked.{or_of}

none_mapped : {B : Type 0} (f : ℕ → B) (t : ℕ → Bool) (xs : List ℕ) → ((x : ℕ) → Among x xs → t x ≡ true → ⊥) → map f (filter t xs) ≡ []
none_mapped f t [] h = refl
none_mapped f t (x ∷ xs) h = elim (t x) as (λ b. t x ≡ b → map f (cond b (x ∷ filter t xs) (filter t xs)) ≡ []) [
  | true ↦ λ e. absurd (h x (inl refl) e)
  | false ↦ λ e. none_mapped f t xs (λ y m. h y (inr m))
] refl

-- what is told of an exchange that cannot be served
abbrev told : Plan → (limit spare code x : ℕ) → Unserved
told p limit spare code x = record { code = code; exchange = x; cause = cause_of p code limit spare x }

-- an exchange that may seize a group is one of the plan
seizes_at : (p : Plan) → IsPlan p → (g x : ℕ) → may_seize p g x ≡ true → x < length p.exchanges
seizes_at p ok g x h = by_get (slice_get p.groups g) refl h
  where
    by_ends : (r : Group) → IsGroup p r → may_seize_row r x ≡ true → x < length p.exchanges
    by_ends r w h =
        elim (or_cases (r.a == x) (is_both r.direction && (r.b == x)) h) [
          | inl a ↦ (let e = eqb-true r.a x a in let f = w.first in omega arith)
          | inr b ↦ (let e = eqb-true r.b x (and_parts (is_both r.direction) (r.b == x) b).1 in let f = w.second in omega arith)
        ]

    by_get : (o : Option Group) → slice_get p.groups g ≡ o → option_map_or (λ (r : Group). may_seize_row r x) o false ≡ true → x < length p.exchanges
    by_get None e k = absurd (false≢true k)
    by_get (Some r) e k = by_ends r (all_among (IsGroup p) p.groups r ok.groups (among_at p.groups g r e)) k

module _ (p : Plan) (ok : IsPlan p) where
  -- WHAT IS KEPT

  module _ (c limit spare : ℕ) (known : c < length p.codes) where
    abbrev Present : RanksOfCode
    Present = present_rank p c limit spare

    abbrev before : ℕ → RanksOfCode
    before n = Ranked (home_of p c) (does_follow p c spare) n

    present_enough : (x r : ℕ) → Present x ≡ Some r → x ≢ home_of p c → spare < length (route_list p x c)
    present_enough x r e away =
        let w = why (home_of p c) (does_follow p c spare) (suc limit) x r e away in
        ltb-true spare (length (route_list p x c)) (and_parts (nat_lt spare (length (route_list p x c))) (list_all (λ g. leads_on p (before w.round) x g) (route_list p x c)) w.admitted).0

    present_within : (x r : ℕ) → Present x ≡ Some r → x ≢ home_of p c → x < length p.exchanges
    present_within x r e away =
        elim (list_cases p x c) [
          | inl empty ↦ absurd (let l = ap length empty in let m = present_enough x r e away in omega arith)
          | inr f ↦ (let w = (all_among (IsRoute p) p.routes f.route ok.routes f.among).exchange in let s = f.exchange in omega arith)
        ]

    present_leads : (x r g : ℕ) → Present x ≡ Some r → x ≢ home_of p c → Among g (route_list p x c) → Leads p Present x r g
    present_leads x r g e away m =
        let w = why (home_of p c) (does_follow p c spare) (suc limit) x r e away in
        let a = and_parts (nat_lt spare (length (route_list p x c))) (list_all (λ g. leads_on p (before w.round) x g) (route_list p x c)) w.admitted in
        on_leads p c limit (does_follow p c spare) x r g w (all_holds (λ g. leads_on p (before w.round) x g) (route_list p x c) g a.1 m)

    pub keeps : CanBeKept p c limit spare → keeps_routes p c limit spare ≡ true
    keeps k =
        origins_ranked p ok c known Present (λ x o.
        let r = k.origins x o in
        let low = k.falling.low x r.0 r.1 in
        let n = no_greater (home_of p c) (does_follow p c spare) (k.ranks c) positive fed (suc limit) x r.0 (omega arith) r.1 in
        (n.0, n.1))
      where
        positive : (x r : ℕ) → k.ranks c x ≡ Some r → x ≢ home_of p c → 0 < r
        positive x r e away =
            let d = k.falling.lists x r e away in
            let s = some_among (route_list p x c) spare d.enough in
            let l = all_among (LeadsLower p k.ranks c x r) (route_list p x c) s.0 d.each s.1 in
            let b = below_rank (k.ranks c l.to) r l.lower in
            let m = b.2 in
            omega arith

        fed : (x r : ℕ) → k.ranks c x ≡ Some r → x ≢ home_of p c → (other : RanksOfCode) → ((y m : ℕ) → k.ranks c y ≡ Some m → m < r → (n : ℕ) × (other y ≡ Some n)) → does_follow p c spare other x ≡ true
        fed x r e away other h =
            let d = k.falling.lists x r e away in
            and_from (nat_lt spare (length (route_list p x c))) (list_all (λ g. leads_on p other x g) (route_list p x c)) (lt-ltb spare (length (route_list p x c)) d.enough)
            (holds_all (λ g. leads_on p other x g) (route_list p x c) (λ g m.
            let l = all_among (LeadsLower p k.ranks c x r) (route_list p x c) g d.each m in
            let b = below_rank (k.ranks c l.to) r l.lower in
            let o = h l.to b.0 b.1 b.2 in
            leads p other x g l.to o.0 l.leads o.1))

  -- ROUTES OF LISTS THAT LEAD DOWN

  module _ (lists : ℕ → ℕ → List ℕ) (good : (x c : ℕ) → IsList p x c (lists c x)) where
    abbrev Q : Plan
    Q = rerouted p (routes_of p lists) p.bars

    pub routing : IsRouting p Q
    routing = record { plan = kept_rerouted p ok (routes_of p lists) (record { each = routes_rules p lists ok good; differ = routes_differ p lists ok good }); same = refl }

    -- what ranks need so that they fall along the lists
    record LeadDown (ranks : RanksOfCode) (c limit spare : ℕ) : Type 0 where
      home : ranks (home_of p c) ≡ Some 0
      low : (x r : ℕ) → ranks x ≡ Some r → r ≤ suc limit
      inside : (x r : ℕ) → ranks x ≡ Some r → x ≢ home_of p c → x < length p.exchanges
      enough : (x r : ℕ) → ranks x ≡ Some r → x ≢ home_of p c → spare < length (lists c x)
      leads : (x r g : ℕ) → ranks x ≡ Some r → x ≢ home_of p c → Among g (lists c x) → Leads p ranks x r g

    falling : (ranks : Ranks) (c limit spare : ℕ) → c < length p.codes → LeadDown (ranks c) c limit spare → IsFalling Q ranks c limit spare
    falling ranks c limit spare known d =
        record {
          home = d.home;
          low = λ x r e. let l = d.low x r e in omega arith;
          lists = λ x r e away.
              let same : route_list Q x c ≡ lists c x = routed_list p lists x c (d.inside x r e away) known in
              record {
                enough = subst (λ (l : List ℕ). spare < length l) (sym same) (d.enough x r e away);
                each = among_all (LeadsLower Q ranks c x r) (route_list Q x c) (λ g m.
                    let l = d.leads x r g e away (subst (λ (l : List ℕ). Among g l) same m) in
                    record { to = l.to; leads = l.leads; lower = subst (λ (o : Option ℕ). IsBelow o r) (sym l.ranked) l.below });
              };
        }

  module _ (limit spare : ℕ) (small : spare ≤ 15) where
    module _ (c : ℕ) (ranks : RanksOfCode) (k : IsRanking p c limit spare ranks) where
      by_inside : (x r : ℕ) → ranks x ≡ Some r → x ≢ home_of p c → x < length p.exchanges
      by_inside x r e away =
          let n = k.enough x r e away in
          let s = some_among n.groups spare n.more in
          seizes_at p ok s.0 x (outgoing_seizes p s.0 x (n.seized s.0 s.1))

      pub by_enough : (x r : ℕ) → ranks x ≡ Some r → x ≢ home_of p c → spare < length (list_by p ranks c spare x)
      by_enough x r e away = subst (λ (o : Option ℕ). spare < length (list_of_rank p ranks c spare x o)) (sym e) (filled_enough p ok limit spare c small ranks k x r e away)

      by_leads : (x r g : ℕ) → ranks x ≡ Some r → Among g (list_by p ranks c spare x) → Leads p ranks x r g
      by_leads x r g e m = filled_leads p ok limit spare c small ranks k x r g (subst (λ (o : Option ℕ). Among g (list_of_rank p ranks c spare x o)) e m)

    least_ranking : (c : ℕ) → IsRanking p c limit spare (least_rank p c limit spare)
    least_ranking c = round_ranking p c limit (can_follow p spare) spare (λ ranks x h. h)

    abbrev least_list : (c x : ℕ) → List ℕ
    least_list c x = list_by p (least_rank p c limit spare) c spare x

    least_good : (x c : ℕ) → IsList p x c (least_list c x)
    least_good x c = is_list_by p ok limit spare c small (least_rank p c limit spare) (least_ranking c) x

    abbrev Attaining : Plan
    Attaining = rerouted p (routes_of p least_list) p.bars

    attaining : IsRouting p Attaining
    attaining = routing least_list least_good

    -- the least ranks fall along the lists by them
    least_falls : (c : ℕ) → c < length p.codes → IsFalling Attaining (λ d. least_rank p d limit spare) c limit spare
    least_falls c known =
        let R = least_rank p c limit spare in
        let k = least_ranking c in
        falling least_list least_good (λ d. least_rank p d limit spare) c limit spare known (record {
          home = k.home;
          low = k.low;
          inside = by_inside c R k;
          enough = by_enough c R k;
          leads = λ x r g e away m. by_leads c R k x r g e m;
        })

    served : (c x : ℕ) → c < length p.codes → is_some (least_rank p c limit spare x) ≡ true → CanBeServed p c limit spare x
    served c x known h = by (least_rank p c limit spare x) refl h
      where
        by : (o : Option ℕ) → least_rank p c limit spare x ≡ o → is_some o ≡ true → CanBeServed p c limit spare x
        by None e s = absurd (false≢true s)
        by (Some r) e s = record {
          routing = Attaining;
          ranks = λ d. least_rank p d limit spare;
          rank = r;
          same = attaining;
          falling = least_falls c known;
          ranked = e;
        }

    -- THE PLAN WITH ALL FULL LISTS

    good : (x c : ℕ) → IsList p x c (full_list p limit spare c x)
    good x c = elim (keeps_routes p c limit spare) as (λ b. IsList p x c (if b then route_list p x c else list_by p (kept_rank p c limit spare) c spare x)) [ true ↦ present_list p ok x c | false ↦ is_list_by p ok limit spare c small (kept_rank p c limit spare) (kept_ranking p ok c limit spare) x ]

    pub full_rules : IsRouting p (full p limit spare)
    full_rules = routing (full_list p limit spare) good

    pub full_good : (x c : ℕ) → IsList p x c (full_list p limit spare c x)
    full_good = good

    abbrev pub full_ranks : Ranks
    full_ranks c = if keeps_routes p c limit spare then present_rank p c limit spare else kept_rank p c limit spare

    abbrev Down : ℕ → RanksOfCode → Type 0
    Down c ranks = LeadDown (full_list p limit spare) good ranks c limit spare

    kept_down : (c : ℕ) → c < length p.codes → keeps_routes p c limit spare ≡ true → Down c (present_rank p c limit spare)
    kept_down c known k =
        let same : (x : ℕ) → full_list p limit spare c x ≡ route_list p x c = λ x. ap (λ b. if b then route_list p x c else list_by p (kept_rank p c limit spare) c spare x) k in
        record {
          home = at_home (home_of p c) (does_follow p c spare) (suc limit);
          low = within (home_of p c) (does_follow p c spare) (suc limit);
          inside = present_within c limit spare known;
          enough = λ x r e away. subst (λ (l : List ℕ). spare < length l) (sym (same x)) (present_enough c limit spare known x r e away);
          leads = λ x r g e away m. present_leads c limit spare known x r g e away (subst (λ (l : List ℕ). Among g l) (same x) m);
        }

    put_back_down : (c : ℕ) → keeps_routes p c limit spare ≡ false → Down c (kept_rank p c limit spare)
    put_back_down c k =
        let R = kept_rank p c limit spare in
        let w = kept_ranking p ok c limit spare in
        let same : (x : ℕ) → full_list p limit spare c x ≡ list_by p R c spare x = λ x. ap (λ b. if b then route_list p x c else list_by p R c spare x) k in
        record {
          home = w.home;
          low = w.low;
          inside = by_inside c R w;
          enough = λ x r e away. subst (λ (l : List ℕ). spare < length l) (sym (same x)) (by_enough c R w x r e away);
          leads = λ x r g e away m. by_leads c R w x r g e (subst (λ (l : List ℕ). Among g l) (same x) m);
        }

    leads_down : (c : ℕ) → c < length p.codes → Down c (full_ranks c)
    leads_down c known =
        elim (keeps_routes p c limit spare) as (λ b. keeps_routes p c limit spare ≡ b → Down c (if b then present_rank p c limit spare else kept_rank p c limit spare)) [
          | true ↦ λ k. kept_down c known k
          | false ↦ λ k. put_back_down c k
        ] refl

    -- an origin that is not told as unserved has a least rank
    least_origins : (c : ℕ) → c < length p.codes → unserved_for p limit spare c ≡ [] → (x : ℕ) → is_origin_for p x c ≡ true → (r : ℕ) × (least_rank p c limit spare x ≡ Some r)
    least_origins c known none x o =
        by (least_rank p c limit spare x) refl
      where
        by : (k : Option ℕ) → least_rank p c limit spare x ≡ k → (r : ℕ) × (least_rank p c limit spare x ≡ Some r)
        by (Some r) e = (r, e)
        by None e =
            let w = (is_net p ok c known).origins x o in
            let f = among_filter (λ x. is_origin_for p x c && is_none (least_rank p c limit spare x)) x (indexes (length p.exchanges)) (among_range 0 (length p.exchanges) x (omega arith) (omega arith)) (and_from (is_origin_for p x c) (is_none (least_rank p c limit spare x)) o (ap is_none e)) in
            let m = among_map (told p limit spare c) x (filter (λ x. is_origin_for p x c && is_none (least_rank p c limit spare x)) (indexes (length p.exchanges))) f in
            absurd (subst (λ (l : List Unserved). Among (told p limit spare c x) l) none m)

    ranked_origins : (c : ℕ) → c < length p.codes → unserved_for p limit spare c ≡ [] → (x : ℕ) → is_origin_for p x c ≡ true → (r : ℕ) × (full_ranks c x ≡ Some r)
    ranked_origins c known none x o =
        elim (keeps_routes p c limit spare) as (λ b. keeps_routes p c limit spare ≡ b → (r : ℕ) × ((if b then present_rank p c limit spare else kept_rank p c limit spare) x ≡ Some r)) [
          | true ↦ λ k. origin_ranked p ok c known (present_rank p c limit spare) k x o
          | false ↦ λ k. origin_ranked p ok c known (kept_rank p c limit spare) (kept_ranks_origins p ok c limit spare (origins_ranked p ok c known (least_rank p c limit spare) (least_origins c known none))) x o
        ] refl

    pub none_for : (c : ℕ) → c < length p.codes → unserved p limit spare ≡ [] → unserved_for p limit spare c ≡ []
    none_for c known none = by (unserved_for p limit spare c) refl
      where
        by : (l : List Unserved) → unserved_for p limit spare c ≡ l → unserved_for p limit spare c ≡ []
        by [] e = e
        by (k ∷ ks) e =
            let m : Among k (unserved_for p limit spare c) = subst (λ (l : List Unserved). Among k l) (sym e) (inl refl) in
            absurd (subst (λ (l : List Unserved). Among k l) none (among_flat (unserved_for p limit spare) c k (indexes (length p.codes)) (among_range 0 (length p.codes) c (omega arith) (omega arith)) m))

    -- the ranks of a code of which no origin is unserved certify it
    pub full_certifies : (c : ℕ) → c < length p.codes → unserved_for p limit spare c ≡ [] → Certifies (net_of (full p limit spare) c) (full_ranks c) limit spare
    full_certifies c h none =
        let d = leads_down c h in
        let same : (x r : ℕ) → full_ranks c x ≡ Some r → x ≢ home_of p c → route_list (full p limit spare) x c ≡ full_list p limit spare c x = λ x r e away. routed_list p (full_list p limit spare) x c (d.inside x r e away) h in
        record {
          home = d.home;
          origins = ranked_origins c h none;
          low = λ x r e. let l = d.low x r e in omega arith;
          enough = λ x r e away. subst (λ (l : List ℕ). spare < length l) (sym (same x r e away)) (d.enough x r e away);
          lower = λ x r e away g m.
              let l = d.leads x r g e away (subst (λ (l : List ℕ). Among g l) (same x r e away) m) in
              record { to = l.to; rank = l.rank; leads = l.leads; ranked = l.ranked; below = l.below };
        }

    -- where any routes are certified, nothing is unserved
    pub served_all : CanBeMended p limit spare → unserved p limit spare ≡ []
    served_all k =
        let same : k.routing ≡ rerouted p k.routing.routes p.bars = k.same.same in
        let cert : IsCertified (rerouted p k.routing.routes p.bars) k.ranks limit spare = subst (λ (q : Plan). IsCertified q k.ranks limit spare) same k.certified in
        none_flat (unserved_for p limit spare) (indexes (length p.codes)) (λ c m.
        let w = (range_among 0 (length p.codes) c m).1 in
        let known : c < length p.codes = omega arith in
        let fall : IsFalling (rerouted p k.routing.routes p.bars) k.ranks c limit spare = record { home = cert.homes c known; low = λ x r e. cert.low c x r known e; lists = λ x r e away. cert.lists c x r known e away } in
        none_mapped (told p limit spare c) (λ x. is_origin_for p x c && is_none (least_rank p c limit spare x)) (indexes (length p.exchanges)) (λ x n t.
        let a = and_parts (is_origin_for p x c) (is_none (least_rank p c limit spare x)) t in
        let r = cert.origins c x known a.0 in
        let n = least p (rerouted p k.routing.routes p.bars) (record { plan = subst (λ (q : Plan). IsPlan q) same k.same.plan; same = refl }) k.ranks c limit spare fall x r.0 r.1 in
        let no : is_none (least_rank p c limit spare x) ≡ false = ap is_none n.1 in
        let t1 = a.1 in
        let bad : ⊥ = cc in bad))
      where
        none_flat : (f : ℕ → List Unserved) (cs : List ℕ) → ((c : ℕ) → Among c cs → f c ≡ []) → flat_map f cs ≡ []
        none_flat f [] h = refl
        none_flat f (c ∷ cs) h = ap (λ l. l ++ flat_map f cs) (h c (inl refl)) ∙ none_flat f cs (λ d m. h d (inr m))

    pub distinct_all : CanBeMended p limit spare → ambiguous_of p.codes ≡ None
    distinct_all k =
        let same : k.routing ≡ rerouted p k.routing.routes p.bars = k.same.same in
        distinct_none p.codes (subst (λ (q : Plan). IsCertified q k.ranks limit spare) same k.certified).no_prefix

pub attained : LeastRanksAreAttained
attained p ok limit spare small = (Attaining p ok limit spare small, attaining p ok limit spare small, least_falls p ok limit spare small)

pub serves : LeastRanksServe
serves p ok code limit spare x known small = (
  λ h. served p ok limit spare small code x known h,
  λ k. ap is_some (least p k.routing k.same k.ranks code limit spare k.falling x k.rank k.ranked).1,
)

pub keeps_exactly : KeepsWhatCanBeKept
keeps_exactly p ok code limit spare known = (
  λ h. record { ranks = λ d. present_rank p d limit spare; falling = present_falls; origins = origin_ranked p ok code known (present_rank p code limit spare) h },
  λ k. keeps p ok code limit spare known k,
)
  where
    present_falls : IsFalling p (λ d. present_rank p d limit spare) code limit spare
    present_falls = record {
      home = at_home (home_of p code) (does_follow p code spare) (suc limit);
      low = λ x r e. let w = within (home_of p code) (does_follow p code spare) (suc limit) x r e in omega arith;
      lists = λ x r e away. record {
        enough = present_enough p ok code limit spare known x r e away;
        each = among_all (LeadsLower p (λ d. present_rank p d limit spare) code x r) (route_list p x code) (λ g m.
            let l = present_leads p ok code limit spare known x r g e away m in
            record { to = l.to; leads = l.leads; lower = subst (λ (o : Option ℕ). IsBelow o r) (sym l.ranked) l.below });
      };
    }

-- where each origin has a least rank, none is told as unserved
pub ranked_served : (p : Plan) (code limit spare : ℕ) → ranks_origins p code (least_rank p code limit spare) ≡ true → unserved_for p limit spare code ≡ []
ranked_served p code limit spare h =
    none_mapped (told p limit spare code) (λ x. is_origin_for p x code && is_none (least_rank p code limit spare x)) (indexes (length p.exchanges)) (λ x m t.
    let holds = all_holds (λ x. not (is_origin_for p x code) || is_some (least_rank p code limit spare x)) (indexes (length p.exchanges)) x h m in
    let fails = or_of (is_origin_for p x code) (least_rank p code limit spare x) (is_origin_for p x code && is_none (least_rank p code limit spare x)) refl ∙ ap not t in
    let bad : ⊥ = cc in bad)

-- where a code keeps its routes, each origin has a least rank
pub kept_ranked : (p : Plan) → IsPlan p → (code limit spare : ℕ) → code < length p.codes → keeps_routes p code limit spare ≡ true → ranks_origins p code (least_rank p code limit spare) ≡ true
kept_ranked p ok code limit spare known h =
    let k = (keeps_exactly p ok code limit spare known).0 h in
    origins_ranked p ok code known (least_rank p code limit spare) (λ x o.
    let r = k.origins x o in
    let n = least p p (record { plan = ok; same = refl }) k.ranks code limit spare k.falling x r.0 r.1 in
    (n.0, n.1))
