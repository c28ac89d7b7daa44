-- The next route or bar that is taken.
use Rattle.tx_join.proofs.Common.{◌≡◌, ◌≢◌, ℕ, suc, ◌+◌, Bool, true, false, cond, ◌&&◌, ◌==◌, nat_lt, List, [], ◌∷◌, ◌++◌, length, map, take, drop, Some, is_some, sym, ap, ◌∙◌, subst, append_assoc, eqb-true, filter, slice_get, list_any, and_parts, false_from_ne_true, map-append, filter-append, Pair, Plan, Route, EachPair, all_map, route_in, bar_in, takes, taken_routes, taken_bars, has_bar, RoutesDiffer, BarsDiffer}
use Rattle.tx_join.proofs.Found.{kept_next, left_next, kept_at, pairs_before, find_fails, any_find, taken_last}
use Rattle.tx_join.proofs.NextDeclared.{so_far, grown, passed, whole}

-- none before is for the pair of the next one
module _ {A : Type 0} (exchange code : A → ℕ) where
  pub none_before : (xs : List A) (y : A) (ys : List A) → EachPair (λ a b. exchange a ≡ exchange b → code a ≢ code b) (xs ++ y ∷ ys) → list_any (λ a. (exchange a == exchange y) && (code a == code y)) xs ≡ false
  none_before xs y ys h =
      let t = λ (a : A). (exchange a == exchange y) && (code a == code y) in
      any_find t xs ∙ ap is_some (find_fails t xs (all_map xs (λ a d. false_from_ne_true (t a) (λ e. let s = and_parts (exchange a == exchange y) (code a == code y) e in d (eqb-true _ _ s.0) (eqb-true _ _ s.1))) (pairs_before (λ a b. exchange a ≡ exchange b → code a ≢ code b) xs y ys h)))

-- ROUTES

module _ (j own from : Plan) (w : Bool) (front now : List Route) (i : ℕ) (r : Route) (at : slice_get from.routes i ≡ Some r) (is : now ≡ front ++ map (route_in j from) (filter (λ r. takes own from w r.exchange r.code) (take i from.routes))) where
  abbrev pub t : Route → Bool
  t r = takes own from w r.exchange r.code

  pub route_next : (new : List Route) → t r ≡ true → new ≡ now ++ route_in j from r ∷ [] → new ≡ front ++ map (route_in j from) (filter t (take (i + 1) from.routes))
  route_next new h e = e ∙ ap (λ l. l ++ route_in j from r ∷ []) is ∙ grown front t (route_in j from) from.routes i r at h

  pub route_left : (new : List Route) → t r ≡ false → new ≡ now → new ≡ front ++ map (route_in j from) (filter t (take (i + 1) from.routes))
  route_left new h e = e ∙ is ∙ passed front t (route_in j from) from.routes i r at h

  pub route_free : RoutesDiffer (front ++ taken_routes j own from w) → t r ≡ true → list_any (λ a. (a.exchange == (route_in j from r).exchange) && (a.code == (route_in j from r).code)) now ≡ false
  route_free d h = ap (list_any (λ (a : Route). (a.exchange == (route_in j from r).exchange) && (a.code == (route_in j from r).code))) is
      ∙ none_before (λ (a : Route). a.exchange) (λ (a : Route). a.code) (so_far front t (route_in j from) from.routes i) (route_in j from r) (map (route_in j from) (filter t (drop (suc i) from.routes)))
      (subst RoutesDiffer (whole front t (route_in j from) from.routes i r at h) d)

pub routes_taken : (j own from : Plan) (w : Bool) (front now : List Route) (i : ℕ) → i ≡ length from.routes → now ≡ front ++ map (route_in j from) (filter (λ r. takes own from w r.exchange r.code) (take i from.routes)) → now ≡ front ++ taken_routes j own from w
routes_taken j own from w front now i e is = is ∙ ap (λ l. front ++ map (route_in j from) (filter (λ (r : Route). takes own from w r.exchange r.code) l)) (taken_last from.routes i e)

-- BARS

module _ (j own from : Plan) (w : Bool) (n : ℕ) (front now : List Pair) (i : ℕ) (b : Pair) (at : slice_get from.bars i ≡ Some b) (is : now ≡ front ++ filter (λ b. nat_lt b.code n) (map (bar_in j from) (filter (λ b. takes own from w b.exchange b.code) (take i from.bars)))) where
  abbrev pub u : Pair → Bool
  u b = takes own from w b.exchange b.code

  abbrev pub s : Pair → Bool
  s b = nat_lt b.code n

  pub bar_next : (new : List Pair) → u b ≡ true → new ≡ now ++ filter (λ b. nat_lt b.code n) (bar_in j from b ∷ []) → new ≡ front ++ filter s (map (bar_in j from) (filter u (take (i + 1) from.bars)))
  bar_next new h e =
      let ys = map (bar_in j from) (filter u (take i from.bars)) in
      e ∙ ap (λ l. l ++ filter s (bar_in j from b ∷ [])) is ∙ append_assoc front (filter s ys) (filter s (bar_in j from b ∷ []))
      ∙ ap (λ l. front ++ l) (sym (filter-append s ys (bar_in j from b ∷ [])) ∙ ap (filter s) (sym (map-append (bar_in j from) (filter u (take i from.bars)) (b ∷ [])) ∙ ap (map (bar_in j from)) (sym (kept_next u from.bars i b at h))))

  pub bar_left : (new : List Pair) → u b ≡ false → new ≡ now → new ≡ front ++ filter s (map (bar_in j from) (filter u (take (i + 1) from.bars)))
  bar_left new h e = e ∙ is ∙ ap (λ l. front ++ filter s (map (bar_in j from) l)) (sym (left_next u from.bars i b at h))

  pub bar_free : BarsDiffer (front ++ taken_bars j own from w n) → u b ≡ true → nat_lt (bar_in j from b).code n ≡ true → has_bar now (bar_in j from b) ≡ false
  bar_free d h k =
      let ys = map (bar_in j from) (filter u (take i from.bars)) in
      let zs = map (bar_in j from) (filter u (drop (suc i) from.bars)) in
      let split : front ++ taken_bars j own from w n ≡ (front ++ filter s ys) ++ bar_in j from b ∷ filter s zs =
      ap (λ l. front ++ filter s (map (bar_in j from) l)) (kept_at u from.bars i b at h)
      ∙ ap (λ l. front ++ filter s l) (map-append (bar_in j from) (filter u (take i from.bars)) (b ∷ filter u (drop (suc i) from.bars)))
      ∙ ap (λ l. front ++ l) (filter-append s ys (bar_in j from b ∷ zs))
      ∙ ap (λ c. front ++ (filter s ys ++ cond c (bar_in j from b ∷ filter s zs) (filter s zs))) k
      ∙ sym (append_assoc front (filter s ys) (bar_in j from b ∷ filter s zs)) in
      ap (λ l. has_bar l (bar_in j from b)) is
      ∙ none_before (λ (a : Pair). a.exchange) (λ (a : Pair). a.code) (front ++ filter s ys) (bar_in j from b) (filter s zs) (subst BarsDiffer split d)

pub bars_taken : (j own from : Plan) (w : Bool) (n : ℕ) (front now : List Pair) (i : ℕ) → i ≡ length from.bars → now ≡ front ++ filter (λ b. nat_lt b.code n) (map (bar_in j from) (filter (λ b. takes own from w b.exchange b.code) (take i from.bars))) → now ≡ front ++ taken_bars j own from w n
bars_taken j own from w n front now i e is = is ∙ ap (λ l. front ++ filter (λ (b : Pair). nat_lt b.code n) (map (bar_in j from) (filter (λ (b : Pair). takes own from w b.exchange b.code) l))) (taken_last from.bars i e)
