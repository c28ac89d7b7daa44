-- What is left of a list.
use Rattle.tx_risk.proofs.Common.{◌≡◌, ◌≢◌, ℕ, suc, ◌<◌, Bool, true, false, not, ◌&&◌, ◌==◌, cond, List, [], ◌∷◌, inl, inr, length, Option, Some, None, refl, sym, ap, ◌∙◌, subst, eqb-true, slice_get, find, option_map_or, and_parts, route_list, Among, among_filter, find_mem, all_mem, Risk, left_of}
use Rattle.std.specs.List.{list_all}
use Rattle.tx_plan.specs.Plan.{Plan, Route, home_of}
use Rattle.tx_plan.specs.Rules.{IsPlan, IsRoute}

-- the index of what is in a list
pub index_among : {A : Type 0} (x : A) (xs : List A) → Among x xs
    → (i : ℕ) × (slice_get xs i ≡ Some x)
index_among x [] m = absurd m
index_among x (y ∷ xs) (inl e) = (0, ap Some e)
index_among x (y ∷ xs) (inr m) = let r = index_among x xs m in (suc r.0, r.1)

-- all of a list of which nothing is left goes
pub left_goes : (risk : Risk) (gs : List ℕ) (g : ℕ) → left_of risk gs ≡ [] → Among g gs
    → risk g ≡ true
left_goes risk gs g none m =
    elim (risk g) as (λ b. risk g ≡ b → b ≡ true) [
      | true ↦ λ e. refl
      | false ↦ λ e. absurd
          (subst (Among g) none (among_filter (λ g. not (risk g)) g gs m (ap not e)))
    ] refl

-- nothing is left of a list exactly where all of it goes
pub left_none : (risk : Risk) (gs : List ℕ) → list_all risk gs ≡ true → left_of risk gs ≡ []
left_none risk [] t = refl
left_none risk (g ∷ gs) t =
    let b = and_parts (risk g) (list_all risk gs) t in
    ap (λ b. cond (not b) (g ∷ left_of risk gs) (left_of risk gs)) b.0 ∙ left_none risk gs b.1

pub none_left : (risk : Risk) (gs : List ℕ) → left_of risk gs ≡ [] → list_all risk gs ≡ true
none_left risk [] e = refl
none_left risk (g ∷ gs) e =
    let t = left_goes risk (g ∷ gs) g e (inl refl) in
    ap (λ b. b && list_all risk gs) t
    ∙ none_left risk gs (sym (ap (λ b. cond (not b) (g ∷ left_of risk gs) (left_of risk gs)) t) ∙ e)

-- an exchange with a list is one of the plan, and not the home
pub listed_away : (p : Plan) → IsPlan p → (c x g : ℕ) → Among g (route_list p x c)
    → (x < length p.exchanges) × (x ≢ home_of p c)
listed_away p ok c x g m = at (find here p.routes) refl m
  where
    here : Route → Bool
    here r = (r.exchange == x) && (r.code == c)

    at : (o : Option Route) → find here p.routes ≡ o → Among g (option_map_or (λ (r : Route). r.groups) o [])
        → (x < length p.exchanges) × (x ≢ home_of p c)
    at None e m = absurd m
    at (Some r) e m =
        let f = find_mem here p.routes r e in
        let k = and_parts (r.exchange == x) (r.code == c) f.1 in
        let same = eqb-true r.exchange x k.0 in
        let route = all_mem (IsRoute p) p.routes r ok.routes f.0 in (
          subst (λ y. y < length p.exchanges) same route.exchange,
          λ home. route.away (ap (home_of p) (eqb-true r.code c k.1) ∙ sym home ∙ sym same),
        )
