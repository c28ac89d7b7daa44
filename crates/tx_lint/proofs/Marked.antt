-- Marking where calls come, and which groups are in a list.
use Rattle.std.proofs.Common.{◌≡◌, ℕ, zero, suc, ◌+◌, ◌<◌, Bool, true, false, List, [], ◌∷◌, ◌++◌, map, length, take, get_or, inl, inr, Option, Some, None, Vec, refl, sym, ap, subst, ◌∙◌, arith}
use Rattle.std.proofs.Math.Bool.{or_assoc}
use Rattle.std.specs.Prelude.{◌↔◌, ◌||◌, ◌==◌, slice_get}
use Rattle.tx_lint.proofs.Common.{list_any, AllByRecursion, option_map, option_map_or, map-append, list_any_more, slice_get-get_or, Plan, Route, list_found}
use Rattle.std.proofs.Math.Dec.{eqb-zero-suc, eqb-suc-zero, eqb-suc-suc}
use Rattle.std.proofs.Math.ListN.{set}
use Rattle.std.proofs.Math.Seq.{get_or-append_seam}
use Rattle.std.proofs.lemmas.Bool.{cases_lt, false_from_ne_true}
use Rattle.tx_plan.proofs.Lists.{all_map}
use Rattle.tx_plan.specs.Routes.{route_list, is_origin}
use Rattle.tx_plan.specs.Rules.{IsPlan, IsRoute}
use Rattle.tx_plan.proofs.ByIndex.{entry_at, all_at}
use Rattle.tx_plan.proofs.Growing.{seizes_within}
use Rattle.tx_rank.specs.Walks.{net_of}
use Rattle.tx_rank.specs.Heights.{IsReached}
use Rattle.tx_rank.specs.Judged.{AreOrigins}
use Rattle.tx_rank.proofs.Nets.{origin_within}
use Rattle.tx_rank.specs.Reached.{is_marked, AreReached}
use Rattle.tx_lint.specs.inner.Marks.{comes_by}

-- ---- where calls may start

-- the marks of the origins say so of each exchange, also of one that the plan does not have
pub marked_origin : (p : Plan) → IsPlan p → (origins : List Bool) → AreOrigins p origins → (x : ℕ) → is_marked origins x ≡ is_origin p x
marked_origin p ok origins are x = by (slice_get origins x) refl
  where
    by : (o : Option Bool) → slice_get origins x ≡ o → option_map_or (λ b. b) o false ≡ is_origin p x
    by (Some b) e = are.each x b e
    by None e = sym (false_from_ne_true (is_origin p x) (λ h.
        let within = origin_within p ok x h in
        let long = are.long in
        let is = (entry_at origins x (omega arith)).1 in
        cc))

-- ---- where calls come

get_front : {X : Type 0} (xs : List X) (x : X) (c : ℕ) → c < length xs → slice_get (xs ++ x ∷ []) c ≡ slice_get xs c
get_front [] x c h = absurd (omega (arith, h))
get_front (y ∷ xs) x zero h = refl
get_front (y ∷ xs) x (suc c) h = get_front xs x c (omega (arith, h))

long_push : {X : Type 0} (xs : List X) (x : X) → length (xs ++ x ∷ []) ≡ length xs + 1
long_push [] x = refl
long_push (y ∷ xs) x = let e = long_push xs x in omega arith

-- the codes before index i are marked
pub record AreComingBefore (p : Plan) (i : ℕ) (marks : List (List Bool)) : Type 0 where
  pub long : length marks ≡ i
  pub each : (c x : ℕ) → c < i → (comes_by marks c x ≡ true) ↔ IsReached (net_of p c) x

pub coming_next : (p : Plan) (i : ℕ) (marks : List (List Bool)) (m : List Bool) → AreComingBefore p i marks → AreReached (net_of p i) m → AreComingBefore p (i + 1) (marks ++ m ∷ [])
coming_next p i marks m so r = record {
  long = let n = long_push marks m in let l = so.long in omega arith;
  each = λ c x h. elim (cases_lt c i) [
    | inl l ↦
        let front = get_front marks m c (omega (arith, l, so.long)) in
        subst (λ o. (option_map_or (λ k. is_marked k x) o false ≡ true) ↔ IsReached (net_of p c) x) (sym front) (so.each c x l)
    | inr ge ↦
        let same : c ≡ length marks = omega (arith, h, ge, so.long) in
        let here : slice_get (marks ++ m ∷ []) c ≡ Some m =
        (let n = long_push marks m in ap (slice_get (marks ++ m ∷ [])) same ∙ slice_get-get_or (marks ++ m ∷ []) (length marks) m (omega arith) ∙ ap Some (get_or-append_seam marks m [] m)) in
        let own : c ≡ i = omega (arith, h, ge) in
        subst (λ o. (option_map_or (λ k. is_marked k x) o false ≡ true) ↔ IsReached (net_of p c) x) (sym here)
        (subst (λ k. (is_marked m x ≡ true) ↔ IsReached (net_of p k) x) (sym own) (r.reached x, r.all x))
  ];
}

-- the next code is marked
pub coming_push : {A : Type 0} (p : Plan) (i : ℕ) (old new : List (Vec Bool A)) (m : Vec Bool A)
    → AreComingBefore p i (map (λ (v : Vec Bool A). v.items) old) → new ≡ old ++ m ∷ []
    → (c : ℕ) → c ≡ i → AreReached (net_of p c) m.items
    → AreComingBefore p (i + 1) (map (λ (v : Vec Bool A). v.items) new)
coming_push {A} p i old new m so more c is r =
    let marks = λ (v : Vec Bool A). v.items in
    let pushed : map marks new ≡ map marks old ++ m.items ∷ [] =
    ap (map marks) more ∙ map-append marks old (m ∷ []) in
    subst (AreComingBefore p (i + 1)) (sym pushed)
    (coming_next p i (map marks old) m.items so (subst (λ (k : ℕ). AreReached (net_of p k) m.items) is r))

-- ---- which groups are in a list

or_false : (b : Bool) → b ≡ (b || false)
or_false true = refl
or_false false = refl

-- a mark is set, and the others stay
pub marked_one : (marks : List Bool) (y g : ℕ) → y < length marks → is_marked (set marks y true) g ≡ (is_marked marks g || (y == g))
marked_one [] y g h = absurd (omega (arith, h))
marked_one (true ∷ bs) zero zero h = refl
marked_one (false ∷ bs) zero zero h = refl
marked_one (b ∷ bs) zero (suc g) h = rw (eqb-zero-suc g) (or_false (is_marked bs g))
marked_one (b ∷ bs) (suc y) zero h = rw (eqb-suc-zero y) (or_false b)
marked_one (b ∷ bs) (suc y) (suc g) h = rw (eqb-suc-suc y g) (marked_one bs y g (omega (arith, h)))

-- the group at index i of a list is marked too
pub marked_more : (old marks : List Bool) (groups : List ℕ) (i y : ℕ) → i < length groups → y ≡ get_or groups i y → y < length marks
    → ((g : ℕ) → is_marked marks g ≡ (is_marked old g || list_any (λ h. h == g) (take i groups)))
    → (g : ℕ) → is_marked (set marks y true) g ≡ (is_marked old g || list_any (λ h. h == g) (take (i + 1) groups))
marked_more old marks groups i y low is within so g =
    marked_one marks y g within ∙ ap (λ b. b || (y == g)) (so g)
    ∙ or_assoc (is_marked old g) (list_any (λ h. h == g) (take i groups)) (y == g)
    ∙ ap (λ b. is_marked old g || b) (ap (λ k. list_any (λ h. h == g) (take i groups) || (k == g)) is ∙ sym (list_any_more (λ h. h == g) groups i y low))

-- the group is in one of the lists
abbrev pub stands_in : ℕ → List Route → Bool
stands_in g routes = list_any (λ r. list_any (λ h. h == g) r.groups) routes

-- the groups of the list of index i are marked too
pub listed_more : (old new : List Bool) (routes : List Route) (i : ℕ) (r : Route) → i < length routes → r ≡ get_or routes i r
    → ((g : ℕ) → is_marked old g ≡ stands_in g (take i routes))
    → ((g : ℕ) → is_marked new g ≡ (is_marked old g || list_any (λ h. h == g) r.groups))
    → (g : ℕ) → is_marked new g ≡ stands_in g (take (i + 1) routes)
listed_more old new routes i r low is so more g =
    more g ∙ ap (λ b. b || list_any (λ h. h == g) r.groups) (so g)
    ∙ ap (λ (q : Route). stands_in g (take i routes) || list_any (λ h. h == g) q.groups) is
    ∙ sym (list_any_more (λ (q : Route). list_any (λ h. h == g) q.groups) routes i r low)

-- ---- the route at an index

-- it is there, and has the list of its exchange and code
pub route_there : (p : Plan) → IsPlan p → (i : ℕ) (k : ℕ × ℕ)
    → Some k ≡ option_map (λ (r : Route). (r.exchange, r.code)) (slice_get p.routes i)
    → (r : Route) × (slice_get p.routes i ≡ Some r) × (route_list p k.0 k.1 ≡ r.groups)
route_there p ok i k got = by (slice_get p.routes i) refl got
  where
    by : (o : Option Route) → slice_get p.routes i ≡ o → Some k ≡ option_map (λ (r : Route). (r.exchange, r.code)) o
        → (r : Route) × (slice_get p.routes i ≡ Some r) × (route_list p k.0 k.1 ≡ r.groups)
    by None e h = absurd (let bad : ⊥ = cc in bad)
    by (Some r) e h =
        let same : k ≡ (r.exchange, r.code) = cc in
        (r, e, (λ j. route_list p (same j).0 (same j).1) ∙ list_found p i r ok e)

-- its groups have marks
pub within_marks : (p : Plan) → IsPlan p → (i : ℕ) (r : Route) → slice_get p.routes i ≡ Some r
    → (marks : List Bool) (list : List ℕ) → length marks ≡ length p.groups → list ≡ r.groups
    → AllByRecursion (λ g. g < length marks) list
within_marks p ok i r at marks list long is =
    let seized = (all_at (IsRoute p) p.routes i r ok.routes at).outgoing in
    subst (AllByRecursion (λ g. g < length marks)) (sym is)
    (subst (λ n. AllByRecursion (λ g. g < n) r.groups) (sym long)
    (all_map r.groups (λ g may. seizes_within p g r.exchange may) seized))

-- what is below a bound at each index
pub below_at : (n : ℕ) (groups : List ℕ) (i y : ℕ) → AllByRecursion (λ g. g < n) groups → i < length groups
    → y ≡ get_or groups i y → y < n
below_at n [] i y all low is = absurd (omega (arith, low))
below_at n (g ∷ gs) zero y all low is = subst (λ (k : ℕ). k < n) (sym is) all.0
below_at n (g ∷ gs) (suc i) y all low is = below_at n gs i y all.1 (omega (arith, low)) is
