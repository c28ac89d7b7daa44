-- The joined plans have the lines of the lists and bars of their own plan, and those that the other
-- one has alone.
use Rattle.tx_join.proofs.Common.{◌≡◌, ℕ, ◌-◌, Bool, true, false, not, ◌&&◌, cond, nat_lt, List, [], ◌∷◌, ◌++◌, length, map, append-nil, refl, sym, ap, ◌∙◌, arith, codes, filter, AllByRecursion, false_from_ne_true, ltb-true, not-true, true≢false, map-append, filter-append, slice_get_within, Pair, Plan, Route, exchange_name, figures_of, group_name, IsPlan, IsRoute, IsBar, may_seize, has_exchange, has_code, all_kept, all_pass, all_map, route_words, bar_words}
use Rattle.tx_join.specs.Joined.{code_in, group_in, route_in, bar_in, has_both, routes_alone, bars_alone, routes_over, shared_bars, bars_below, bars_from, bars_over, joined_network, joined_old, joined_new}
use Rattle.tx_join.specs.Laws.{CanBeJoined, HasNetwork, new_bars, LeadOver}
use Rattle.tx_join.proofs.Found.{filter_all, filter_none, filter-map, map_twice}
use Rattle.tx_join.proofs.JoinedNetwork.{has_old, has_new}
use Rattle.tx_join.proofs.PlansOver.{each_from}
use Rattle.tx_join.proofs.Taking.{seized}

maps_alike : {A B : Type 0} (f g : A → B) (xs : List A) → AllByRecursion (λ x. f x ≡ g x) xs → map f xs ≡ map g xs
maps_alike f g [] h = refl
maps_alike f g (x ∷ xs) h = λ i. h.0 i ∷ maps_alike f g xs h.1 i

-- members that pass one test, of those that pass another which all of them pass
module _ {A : Type 0} (t s : A → Bool) (h : (x : A) → t x ≡ true → s x ≡ true) where
  filter_among : (xs : List A) → filter t (filter s xs) ≡ filter t xs
  filter_among [] = refl
  filter_among (x ∷ xs) = by (s x) (t x) refl refl (filter_among xs)
    where
      by : (b c : Bool) → s x ≡ b → t x ≡ c → filter t (filter s xs) ≡ filter t xs → filter t (cond b (x ∷ filter s xs) (filter s xs)) ≡ cond c (x ∷ filter t xs) (filter t xs)
      by true true p e r = ap (λ d. cond d (x ∷ filter t (filter s xs)) (filter t (filter s xs))) e ∙ ap (λ l. x ∷ l) r
      by true false p e r = ap (λ d. cond d (x ∷ filter t (filter s xs)) (filter t (filter s xs))) e ∙ r
      by false true p e r = absurd (true≢false (sym (h x e) ∙ p))
      by false false p e r = r

and_none : (a : Bool) → (a && false) ≡ false
and_none true = refl
and_none false = refl

-- THE LINES OF A PLAN IN THE NETWORK

module _ (j p : Plan) (has : HasNetwork j p) where
  same_group : (g x : ℕ) → may_seize p g x ≡ true → group_name j (group_in j p g) ≡ group_name p g
  same_group g x h = let s = seized p g x h in has.groups.named g (slice_get_within p.groups g s.row s.at)

  same_route : (r : Route) → IsRoute p r → route_words j (route_in j p r) ≡ route_words p r
  same_route r h =
      let names : map (group_name j) (map (group_in j p) r.groups) ≡ map (group_name p) r.groups =
      map_twice (group_name j) (group_in j p) r.groups
      ∙ maps_alike (λ g. group_name j (group_in j p g)) (group_name p) r.groups (all_map r.groups (λ g k. same_group g r.exchange k) h.outgoing) in
      λ i. codes "ROUTE" ∷ has.exchanges.named r.exchange h.exchange i ∷ has.codes.named r.code h.code i ∷ names i

  same_bar : (b : Pair) → IsBar p b → bar_words j (bar_in j p b) ≡ bar_words p b
  same_bar b h = λ i. codes "BAR" ∷ has.exchanges.named b.exchange h.exchange i ∷ has.codes.named b.code h.code i ∷ []

  same_routes : (rs : List Route) → AllByRecursion (IsRoute p) rs → map (route_words j) (map (route_in j p) rs) ≡ map (route_words p) rs
  same_routes rs h = map_twice (route_words j) (route_in j p) rs
      ∙ maps_alike (λ r. route_words j (route_in j p r)) (route_words p) rs (all_map rs same_route h)

  same_bars : (bs : List Pair) → AllByRecursion (IsBar p) bs → map (bar_words j) (map (bar_in j p) bs) ≡ map (bar_words p) bs
  same_bars bs h = map_twice (bar_words j) (bar_in j p) bs
      ∙ maps_alike (λ b. bar_words j (bar_in j p b)) (bar_words p) bs (all_map bs same_bar h)

-- A PLAN OVER THE NETWORK

module _ (j p q : Plan) (n : ℕ) (ok : IsPlan p) (q_ok : IsPlan q) (has_p : HasNetwork j p) (has_q : HasNetwork j q) where
  pub lists : map (route_words j) (routes_over j p q) ≡ map (route_words p) p.routes ++ map (route_words q) (routes_alone q p)
  lists = map-append (route_words j) (map (route_in j p) p.routes) (map (route_in j q) (routes_alone q p))
      ∙ (λ i. same_routes j p has_p p.routes ok.routes i
      ++ same_routes j q has_q (routes_alone q p) (all_kept (IsRoute q) (λ r. not (has_both p q r.exchange r.code)) q.routes q_ok.routes) i)

  abbrev below : Pair → Bool
  below b = nat_lt b.code n

  -- of codes below n
  abbrev open_of : Plan → List Pair → List Pair
  open_of r bars = filter (λ b. nat_lt (code_in j r b.code) n) bars

  none_from : filter below (bars_from j n) ≡ []
  none_from = filter_none below (bars_from j n) (each_from j (λ b. below b ≡ false) n (length j.codes - n) (λ x c l k i away. false_from_ne_true (nat_lt c n) (λ e. let m = ltb-true c n e in omega (arith, k, m))))

  own_below : bars_below n (bars_over j p q n) ≡ bars_below n (shared_bars j p q)
  own_below = filter-append below (bars_below n (shared_bars j p q)) (bars_from j n)
      ∙ (λ i. filter_all below (bars_below n (shared_bars j p q)) (all_pass below (shared_bars j p q)) i ++ none_from i)
      ∙ append-nil (bars_below n (shared_bars j p q))

  shared_below : bars_below n (shared_bars j p q) ≡ map (bar_in j p) (open_of p p.bars) ++ map (bar_in j q) (open_of q (bars_alone q p))
  shared_below = filter-append below (map (bar_in j p) p.bars) (map (bar_in j q) (bars_alone q p))
      ∙ (λ i. filter-map below (bar_in j p) p.bars i ++ filter-map below (bar_in j q) (bars_alone q p) i)

  pub bars : map (bar_words j) (bars_below n (bars_over j p q n)) ≡ map (bar_words p) (open_of p p.bars) ++ map (bar_words q) (open_of q (bars_alone q p))
  bars = ap (map (bar_words j)) (own_below ∙ shared_below)
      ∙ map-append (bar_words j) (map (bar_in j p) (open_of p p.bars)) (map (bar_in j q) (open_of q (bars_alone q p)))
      ∙ (λ i. same_bars j p has_p (open_of p p.bars) (all_kept (IsBar p) (λ b. nat_lt (code_in j p b.code) n) p.bars ok.bars) i
      ++ same_bars j q has_q (open_of q (bars_alone q p)) (all_kept (IsBar q) (λ b. nat_lt (code_in j q b.code) n) (bars_alone q p) (all_kept (IsBar q) (λ b. not (has_both p q b.exchange b.code)) q.bars q_ok.bars)) i)

-- the bars of codes that the old plan does not have
opened : (old new : Plan) → new_bars old new (bars_alone new old) ≡ new_bars old new new.bars
opened old new = filter_among (λ (b : Pair). not (has_code old (figures_of new b.code))) (λ (b : Pair). not (has_both old new b.exchange b.code))
    (λ b e. ap not (ap (λ c. has_exchange old (exchange_name new b.exchange) && c) (not-true (has_code old (figures_of new b.code)) e) ∙ and_none (has_exchange old (exchange_name new b.exchange)))) new.bars

-- BOTH PLANS

pub lead_over : (old new : Plan) → CanBeJoined old new → LeadOver old new (joined_old old new) (joined_new old new)
lead_over old new can =
    let j = joined_network old new in
    let n = length old.codes in
    let o = has_old old new can in
    let w = has_new old new can in
    record {
      lists_put = lists j old new n can.old_rules can.new_rules o w;
      lists_left = lists j new old n can.new_rules can.old_rules w o;
      bars_put = bars j old new n can.old_rules can.new_rules o w;
      bars_left = bars j new old n can.new_rules can.old_rules w o;
      bars_opened = opened old new;
    }
