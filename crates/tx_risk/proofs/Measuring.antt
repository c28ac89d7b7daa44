-- Where the ways from an exchange lead, by those of the exchanges to which its list leads.
use Rattle.std.proofs.Common.{◌≡◌, ◌≢◌, ◌↔◌, ℕ, Bool, zero, suc, ◌+◌, ◌<◌, ◌≤◌, true, false, nat_lt, List, [], ◌∷◌, ◌++◌, ◌⊎◌, map, fold, inl, inr, length, get_or, take, Option, Some, None, refl, sym, ap, ◌∙◌, subst, arith}
use Rattle.tx_risk.proofs.Common.{slice_get, replicate, if◌then◌else◌, cases_eq, ltb-true, ltb-false, false≢true, none-some, same_Some, set, Among, among_left, among_right, among_cases, among_map, map_among, Net, Goes, end_of, among_at, take_next, Leg, Ways, Step, IsDeadEnd, LeadsHome, IsOrder}
use Rattle.std.specs.Option.{option_and_then, option_map, option_map_or}
use Rattle.std.proofs.lemmas.List.{get_or-set_same, get_or-set_other, length-set, length-replicate}
use Rattle.tx_machine.proofs.Lists.{any_mem, mem_any}
use Rattle.tx_risk.proofs.Legs.{ways_more, way_next, leg_of, ways_after}
use Rattle.tx_risk.specs.inner.Nearest.{AreDeadEnds, LeadsToDeadEnd, IsWayBy, AreWaysFrom, AreDeadEndsKept, home_alone, dead_end_at, ways_in, distance_in, nearer, nearest_step, step_by, leads_home, has_way_home}
use Rattle.tx_risk.proofs.Ways.{is_among}
use Rattle.tx_risk.proofs.Ordering.{way_few, among_first, uncut_home}

-- THE NEAREST STEP

nearer_one : (a b : Option Step) → (nearer a b ≡ a) ⊎ (nearer a b ≡ b)
nearer_one None b = inr refl
nearer_one (Some a) None = inl refl
nearer_one (Some a) (Some b) =
    elim (nat_lt b.distance a.distance) as (λ c. ((if c then Some b else Some a) ≡ Some a)
    ⊎ ((if c then Some b else Some a) ≡ Some b)) [ true ↦ inr refl | false ↦ inl refl ]

-- neither is nearer
nearer_least : (a b : Option Step) (t : Step) → (a ≡ Some t) ⊎ (b ≡ Some t)
    → (s : Step) × (nearer a b ≡ Some s) × (s.distance ≤ t.distance)
nearer_least None b t (inl e) = absurd (none-some _ e)
nearer_least None b t (inr e) = (t, e, omega arith)
nearer_least (Some a) None t (inl e) = (t, e, omega arith)
nearer_least (Some a) None t (inr e) = absurd (none-some _ e)
nearer_least (Some a) (Some b) t e =
    let is : (t.distance ≡ a.distance) ⊎ (t.distance ≡ b.distance) = elim e [
      | inl q ↦ inl (ap (λ (s : Step). s.distance) (sym (same_Some _ _ q)))
      | inr q ↦ inr (ap (λ (s : Step). s.distance) (sym (same_Some _ _ q)))
    ] in
    elim (nat_lt b.distance a.distance) as (λ c. nat_lt b.distance a.distance ≡ c → (s : Step)
    × ((if c then Some b else Some a) ≡ Some s) × (s.distance ≤ t.distance)) [
      | true ↦ λ c. (b, refl, let l = ltb-true b.distance a.distance c in omega arith)
      | false ↦ λ c. (a, refl, let l = ltb-false b.distance a.distance c in omega arith)
    ] refl

-- one of these steps, and none of them is nearer
record IsNearestOf (steps : List (Option Step)) (nearest : Option Step) : Type 0 where
  one : (s : Step) → nearest ≡ Some s → Among (Some s) steps
  least : (t : Step) → Among (Some t) steps
      → (s : Step) × (nearest ≡ Some s) × (s.distance ≤ t.distance)

fold_nearest : (os : List (Option Step)) (o : Option Step)
    → IsNearestOf (o ∷ os) (fold nearer o os)
fold_nearest [] o = record {
  one = λ s e. inl e;
  least = λ t m. elim m [ inl e ↦ (t, e, omega arith) | inr z ↦ absurd z ];
}
fold_nearest (p ∷ os) o =
    let rest = fold_nearest os (nearer o p) in
    let first : (t : Step) → (o ≡ Some t) ⊎ (p ≡ Some t) → (s : Step)
    × (fold nearer (nearer o p) os ≡ Some s) × (s.distance ≤ t.distance) = λ t e.
    let u = nearer_least o p t e in let r = rest.least u.0 (inl u.1) in
    (r.0, r.1, let a = u.2 in let b = r.2 in omega arith) in
    record {
      one = λ s e. elim (rest.one s e) [
        | inl q ↦ elim (nearer_one o p) [
          | inl k ↦ inl (sym k ∙ q)
          | inr k ↦ inr (inl (sym k ∙ q))
        ]
        | inr m ↦ inr (inr m)
      ];
      least = λ t m. elim m [
        | inl e ↦ first t (inl e)
        | inr k ↦ elim k [ inl e ↦ first t (inr e) | inr m ↦ rest.least t (inr m) ]
      ];
    }

-- what is known of a step
pub record IsStep (n : Net) (kept : List Ways) (x : ℕ) (s : Step) : Type 0 where
  pub listed : Among s.group (n.list x)
  pub leads : n.far s.group x ≡ Some s.to
  pub at : distance_in kept s.to ≡ Some s.distance

module _ (n : Net) (kept : List Ways) (x : ℕ) where
  step_of : (g : ℕ) (s : Step) → Among g (n.list x) → step_by n kept x g ≡ Some s → IsStep n kept x s
  step_of g s m e = at (n.far g x) refl e
    where
      on : (y : ℕ) → n.far g x ≡ Some y → (o : Option ℕ) → distance_in kept y ≡ o
          → option_map (λ d. record { group = g; to = y; distance = d }) o ≡ Some s
          → IsStep n kept x s
      on y f None q e = absurd (none-some _ e)
      on y f (Some d) q e =
          subst (IsStep n kept x) (same_Some _ _ e) (record { listed = m; leads = f; at = q })

      at : (o : Option ℕ) → n.far g x ≡ o
          → option_and_then (λ y. option_map (λ d. record { group = g; to = y; distance = d })
          (distance_in kept y)) o ≡ Some s → IsStep n kept x s
      at None f e = absurd (none-some _ e)
      at (Some y) f e = on y f (distance_in kept y) refl e

  nearest : IsNearestOf (None ∷ map (step_by n kept x) (n.list x)) (nearest_step n kept x)
  nearest = fold_nearest (map (step_by n kept x) (n.list x)) None

  -- the nearest step is one
  pub nearest_is : (s : Step) → nearest_step n kept x ≡ Some s → IsStep n kept x s
  nearest_is s e = elim (nearest.one s e) [
    | inl q ↦ absurd (none-some _ q)
    | inr m ↦
        let r = map_among (step_by n kept x) (Some s) (n.list x) m in step_of r.0 s r.1 r.2
  ]

  module _ (legs : List Leg) (known : (g y : ℕ) → Among g (n.list x) → n.far g x ≡ Some y
      → AreWaysFrom n legs y (ways_in kept y)) where
    -- and no way to a dead end is shorter than by it
    pub nearest_least : (t : ℕ × ℕ) (rest : List (ℕ × ℕ)) → IsDeadEnd n x (t ∷ rest)
        → (s : Step) × (nearest_step n kept x ≡ Some s) × (s.distance ≤ length rest)
    nearest_least t rest d =
        let go = d.goes in
        let k = (known t.0 t.1 go.1 go.2).least rest
        (record { goes = go.3; away = d.away; none = d.none }) in
        let s : Step = record { group = t.0; to = t.1; distance = k.0 } in
        let is : step_by n kept x t.0 ≡ Some s = let f = go.2 in let q = k.1 in rw (f, q) refl in
        let m = subst (λ o. Among o (map (step_by n kept x) (n.list x))) is
        (among_map (step_by n kept x) t.0 (n.list x) go.1) in
        let r = nearest.least s (inr m) in
        (r.0, r.1, let a = r.2 in let b = k.2 in omega arith)

    -- a way leads home exactly where one does from an exchange to which a group leads
    pub led_home : x ≢ n.home → has_way_home n kept x ≡ true ↔ LeadsHome n x
    led_home away = (there, back)
      where
        by : (g : ℕ) → Among g (n.list x) → (o : Option ℕ) → n.far g x ≡ o
            → option_map_or (λ y. (ways_in kept y).home) o false ≡ true → LeadsHome n x
        by g m None f t = absurd (false≢true t)
        by g m (Some y) f t =
            let h = (known g y m f).home.0 t in
            record { steps = (g, y) ∷ h.steps; goes = (away, m, f, h.goes); home = h.home }

        there : has_way_home n kept x ≡ true → LeadsHome n x
        there t =
            let g = any_mem (leads_home n kept x) (n.list x) t in
            by g.0 g.1 (n.far g.0 x) refl g.2

        on : (steps : List (ℕ × ℕ)) → Goes n x steps → end_of x steps ≡ n.home
            → has_way_home n kept x ≡ true
        on [] go home = absurd (away home)
        on (t ∷ rest) go home =
            let k = (known t.0 t.1 go.1 go.2).home.1
            (record { steps = rest; goes = go.3; home = home }) in
            mem_any (leads_home n kept x) (n.list x) t.0 go.1
            (let f = go.2 in rw f k)

        back : LeadsHome n x → has_way_home n kept x ≡ true
        back h = on h.steps h.goes h.home

    -- one step more than from there
    pub ways_by : x ≢ n.home → (s : Step) → nearest_step n kept x ≡ Some s → (home : Bool)
        → home ≡ has_way_home n kept x → AreWaysFrom n (legs ++ leg_of kept s ∷ []) x (ways_after kept legs s home)
    ways_by away s is home says =
        let h = nearest_is s is in
        let led = led_home away in
        let to = ways_in kept s.to in
        record {
          way = λ d e. subst (λ c. IsWayBy n (legs ++ leg_of kept s ∷ []) x c (length legs) to.end) (same_Some _ _ e)
              (way_next n legs (leg_of kept s) x s.distance to.end away h.listed h.leads
              ((known s.group s.to h.listed h.leads).way s.distance h.at));
          least = few;
          home = (λ t. led.0 (sym says ∙ t), λ k. says ∙ led.1 k);
        }
      where
        few : (steps : List (ℕ × ℕ)) → IsDeadEnd n x steps
            → (d : ℕ) × (Some (s.distance + 1) ≡ Some d) × (d ≤ length steps)
        few [] d = absurd (subst (Among s.group) d.none (nearest_is s is).listed)
        few (t ∷ rest) d =
            let r = nearest_least t rest d in
            let same = ap (λ (s : Step). s.distance) (same_Some _ _ (sym is ∙ r.1)) in
            (s.distance + 1, refl, let l = r.2 in omega arith)

-- THE WAYS FROM ALL EXCHANGES

-- the marks of the dead ends alone
pub marks_first : (n : Net) (kept : List Ways) → kept ≡ replicate n.exchanges home_alone
    → AreDeadEndsKept n [] kept
marks_first n kept e = record {
  long = ap length e ∙ length-replicate n.exchanges home_alone;
  dead = λ x m. absurd m;
  other = λ x m. ap (λ k. ways_in k x) e ∙ none n.exchanges x;
}
  where
    none : (k x : ℕ) → get_or (replicate k home_alone) x home_alone ≡ home_alone
    none zero x = refl
    none (suc k) zero = refl
    none (suc k) (suc x) = none k x

pub marks_next : (n : Net) (ends : List ℕ) (kept : List Ways) (x : ℕ) → x < n.exchanges
    → AreDeadEndsKept n ends kept
    → AreDeadEndsKept n (ends ++ x ∷ []) (set kept x (dead_end_at x))
marks_next n ends kept x within k = record {
  long = length-set kept x (dead_end_at x) ∙ k.long;
  dead = λ y m. elim (cases_eq y x) [
    | inl q ↦ ap (ways_in (set kept x (dead_end_at x))) q ∙ here ∙ ap dead_end_at (sym q)
    | inr ne ↦ other y ne ∙ k.dead y (elim (among_cases y ends (x ∷ []) m) [
      | inl a ↦ a
      | inr l ↦ elim l [ inl e ↦ absurd (ne (sym e)) | inr z ↦ absurd z ]
    ])
  ];
  other = λ y apart. elim (cases_eq y x) [
    | inl q ↦ absurd (apart (among_right y ends (x ∷ []) (inl (sym q))))
    | inr ne ↦ other y ne ∙ k.other y (λ m. apart (among_left y ends (x ∷ []) m))
  ];
}
  where
    here : ways_in (set kept x (dead_end_at x)) x ≡ dead_end_at x
    here = get_or-set_same kept x (dead_end_at x) home_alone (let l = k.long in omega arith)

    other : (y : ℕ) → y ≢ x → ways_in (set kept x (dead_end_at x)) y ≡ ways_in kept y
    other y ne = get_or-set_other kept x y (dead_end_at x) home_alone ne

-- the ways that are kept: of the dead ends, of the first exchanges of the order, and of each that
-- leads to no dead end
pub record AreKept (n : Net) (legs : List Leg) (order ends : List ℕ) (i : ℕ) (kept : List Ways)
    : Type 0 where
  pub long : length kept ≡ n.exchanges
  pub dead : (x : ℕ) → Among x ends → AreWaysFrom n legs x (ways_in kept x)
  pub first : (x : ℕ) → Among x (take i order) → AreWaysFrom n legs x (ways_in kept x)
  pub uncut : (x : ℕ) → Among x order → (LeadsToDeadEnd n x → ⊥) → AreWaysFrom n legs x (ways_in kept x)

module _ (n : Net) (legs : List Leg) (order ends : List ℕ) (o : IsOrder n order) (dead : AreDeadEnds n order ends) where
  ways_none : (x : ℕ) → Among x ends → AreWaysFrom n legs x (dead_end_at x)
  ways_none x m =
      let d = dead.dead x m in
      record {
        way = λ k e. subst (λ c. IsWayBy n legs x c 0 x) (same_Some _ _ e) (record {
          dead = record { goes = tt; away = d.1; none = d.2 };
          long = refl;
          ends = refl;
        });
        least = λ steps w. (0, refl, omega arith);
        home = (λ t. absurd (false≢true t), λ h. absurd (on h.steps h.goes h.home d.1 d.2));
      }
    where
      on : (steps : List (ℕ × ℕ)) → Goes n x steps → end_of x steps ≡ n.home → x ≢ n.home
          → n.list x ≡ [] → ⊥
      on [] go home away none = away home
      on (t ∷ rest) go home away none = subst (Among t.0) none go.1

  module _ (leads : (x g : ℕ) → Among g (n.list x) → (y : ℕ) × (n.far g x ≡ Some y)) where
    ways_home : (x : ℕ) → Among x order → (LeadsToDeadEnd n x → ⊥) → AreWaysFrom n legs x home_alone
    ways_home x m uncut = record {
      way = λ k e. absurd (none-some _ e);
      least = λ steps d. absurd (uncut (steps, d));
      home = (λ t. uncut_home n leads order o x m uncut, λ h. refl);
    }

    -- from the marks of the dead ends
    pub kept_first : (kept : List Ways) (from : ℕ) → AreDeadEndsKept n ends kept
        → ((x : ℕ) → Among x (take from order) → LeadsToDeadEnd n x → Among x ends)
        → AreKept n legs order ends from kept
    kept_first kept from k before = record {
      long = k.long;
      dead = at_end;
      first = λ x m. elim (is_among x ends) [
        | inl a ↦ at_end x a
        | inr apart ↦
            let i = among_first order from x m in
            free x (among_at order i.0 x i.1) (λ d. apart (before x m d))
      ];
      uncut = free;
    }
      where
        at_end : (x : ℕ) → Among x ends → AreWaysFrom n legs x (ways_in kept x)
        at_end x m = subst (AreWaysFrom n legs x) (sym (k.dead x m)) (ways_none x m)

        free : (x : ℕ) → Among x order → (LeadsToDeadEnd n x → ⊥) → AreWaysFrom n legs x (ways_in kept x)
        free x m uncut = subst (AreWaysFrom n legs x) (sym (k.other x (λ a.
            let d = dead.dead x a in
            uncut ([], record { goes = tt; away = d.1; none = d.2 }))))
            (ways_home x m uncut)

  module _ (kept : List Ways) (i x : ℕ) (at : slice_get order i ≡ Some x)
      (k : AreKept n legs order ends i kept) where
    -- the exchanges to which a list leads were looked at before
    pub known : x ≢ n.home → (g y : ℕ) → Among g (n.list x) → n.far g x ≡ Some y
        → AreWaysFrom n legs y (ways_in kept y)
    known away g y m leads = k.first y (o.back i x at away g y m leads)

    -- and are nearer than exchanges come before
    pub few_steps : x ≢ n.home → (s : Step) → nearest_step n kept x ≡ Some s → s.distance < i
    few_steps away s is =
        let h = nearest_is n kept x s is in
        let before = o.back i x at away s.group s.to h.listed h.leads in
        let w = (k.first s.to before).way s.distance h.at in
        let f = way_few n order o i s.to _ before w.dead.goes in
        let c = w.long in
        omega arith

    -- one more, with its leg
    pub kept_next : x ≢ n.home → (s : Step) → nearest_step n kept x ≡ Some s → (home : Bool)
        → home ≡ has_way_home n kept x → AreKept n (legs ++ leg_of kept s ∷ []) order ends (i + 1)
        (set kept x (ways_after kept legs s home))
    kept_next away s is home says = record {
      long = length-set kept x w ∙ k.long;
      dead = λ y m. one y (λ ne. k.dead y m);
      first = λ y m. one y (λ ne. k.first y (elim (among_cases y (take i order) (x ∷ [])
          (subst (Among y) (take_next order i x at) m)) [
            | inl a ↦ a
            | inr l ↦ elim l [ inl e ↦ absurd (ne (sym e)) | inr z ↦ absurd z ]
          ]));
      uncut = λ y m u. one y (λ ne. k.uncut y m u);
    }
      where
        w : Ways
        w = ways_after kept legs s home

        more : List Leg
        more = legs ++ leg_of kept s ∷ []

        within : x < length kept
        within = let l = k.long in let h = o.within x (among_at order i x at) in omega arith

        one : (y : ℕ) → (y ≢ x → AreWaysFrom n legs y (ways_in kept y))
            → AreWaysFrom n more y (ways_in (set kept x w) y)
        one y old = elim (cases_eq y x) [
          | inl q ↦ subst (λ z. AreWaysFrom n more z (ways_in (set kept x w) z)) (sym q)
              (subst (AreWaysFrom n more x) (sym (get_or-set_same kept x w home_alone within))
              (ways_by n kept x legs (known away) away s is home says))
          | inr ne ↦ subst (AreWaysFrom n more y)
              (sym (get_or-set_other kept x y w home_alone ne))
              (ways_more n legs (leg_of kept s ∷ []) y (ways_in kept y) (old ne))
        ]

    -- without a step to a dead end it leads to none, or is one
    pub kept_same : nearest_step n kept x ≡ None → AreKept n legs order ends (i + 1) kept
    kept_same none = record {
      long = k.long;
      dead = k.dead;
      first = λ y m. elim (among_cases y (take i order) (x ∷ [])
          (subst (Among y) (take_next order i x at) m)) [
            | inl a ↦ k.first y a
            | inr l ↦ elim l [
              | inl e ↦ subst (λ z. AreWaysFrom n legs z (ways_in kept z)) e here
              | inr z ↦ absurd z
            ]
          ];
      uncut = k.uncut;
    }
      where
        m : Among x order
        m = among_at order i x at

        off : (Among x ends → ⊥) → (steps : List (ℕ × ℕ)) → IsDeadEnd n x steps → ⊥
        off apart [] d = apart (dead.all x m d.away d.none)
        off apart (t ∷ rest) d =
            let go = d.goes in
            none-some _ (sym none ∙ (nearest_least n kept x legs (known go.0) t rest d).1)

        here : AreWaysFrom n legs x (ways_in kept x)
        here = elim (is_among x ends) [
          | inl a ↦ k.dead x a
          | inr apart ↦ k.uncut x m (λ d. off apart d.0 d.1)
        ]
