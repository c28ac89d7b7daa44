-- What the tests of the machine say of calls, circuits and lines.
use Rattle.tx_machine.proofs.Common.{◌≡◌, ◌≢◌, ℕ, zero, suc, ◌≤◌, ◌==◌, Bool, true, false, not, ◌&&◌, ◌||◌, List, [], ◌∷◌, ◌++◌, ◌⊎◌, inl, inr, map, Option, Some, None, refl, sym, ap, ◌∙◌, subst, eqb-true, eq-eqb, arith, if◌then◌else◌, find, slice_get, is_some, nat_le, option_and_then, option_map_or, list_any, same_circuit, same_line, Plan, Group, far_end, other_end, is_circuit, circuits_at, order_at, upward, downward, Among, Circuit, Line, among_cases, map_among, Hop, State, circuits_carried, carries, is_calling_on, seizes, seizes_from, is_free_at, is_down, first_free, first_in, NoneTwice, Joins}
use Rattle.std.proofs.lemmas.Bool.{false≢true, or_parts, and_parts, and_from, not-true, both_ways, le-leb}
use Rattle.std.specs.FinSet as set
use Rattle.tx_plan.proofs.Named.{same_circuit-is, same_circuit-itself, same_line-itself}
use Rattle.tx_machine.specs.Call.{Phase, Standing, Calling, Connected, Call, last_exchange, exchange_of, lines_called}
use Rattle.tx_machine.specs.Lines.{is_connected_to, takes_part, lines_of}
use Rattle.tx_machine.proofs.Lists.{none_any, find_mem}

pub not_carried : (c : Call) (x : Circuit) → carries c x ≡ false → Among x (circuits_carried c) → ⊥
not_carried c x n m =
    let r = map_among (λ (h : Hop). h.circuit) x c.hops m in
    let no = none_any (λ (h : Hop). same_circuit h.circuit x) c.hops r.0 n r.1 in
    both_ways _ no (ap (λ y. same_circuit y x) r.2 ∙ same_circuit-itself x)

pub calling_on : (phase : Phase) (x : Circuit) → is_calling_on phase x ≡ true → phase ≡ Calling x
calling_on Standing x h = absurd (false≢true h)
calling_on (Calling y) x h = ap Calling (same_circuit-is y x h)
calling_on (Connected l) x h = absurd (false≢true h)

pub not_seizing : (c : Call) (x : Circuit) → seizes c x ≡ false → c.phase ≡ Calling x → ⊥
not_seizing c x n e = both_ways _ n (ap (λ phase. is_calling_on phase x) e ∙ same_circuit-itself x)

pub not_taking : (c : Call) (l : Line) → takes_part c l ≡ false → Among l (lines_of c) → ⊥
not_taking c l n (inl e) = both_ways _ (or_parts (same_line c.line l) (is_connected_to c.phase l) n).0 (ap (λ m. same_line m l) e ∙ same_line-itself l)
not_taking c l n (inr m) = connected c.phase (or_parts (same_line c.line l) (is_connected_to c.phase l) n).1 m
  where
    connected : (phase : Phase) → is_connected_to phase l ≡ false → Among l (lines_called phase) → ⊥
    connected Standing n m = m
    connected (Calling x) n m = m
    connected (Connected k) n (inl e) = both_ways _ n (ap (λ m. same_line m l) e ∙ same_line-itself l)
    connected (Connected k) n (inr m) = m

-- a circuit that an exchange sees as free
pub record IsFree (p : Plan) (s : State) (exchange : ℕ) (x : Circuit) : Type 0 where
  pub carried : (c : Call) → Among c s.calls → Among x (circuits_carried c) → ⊥
  pub releasing : set.contains s.releasing x ≡ true → ⊥
  pub seized : (c : Call) → Among c s.calls → c.phase ≡ Calling x → exchange_of p c ≡ exchange → ⊥

pub is_free : (p : Plan) (s : State) (exchange : ℕ) (x : Circuit) → is_free_at p s exchange x ≡ true → IsFree p s exchange x
is_free p s exchange x h =
    let a = and_parts (not (list_any (λ c. carries c x) s.calls)) _ h in
    let b = and_parts (not (set.contains s.releasing x)) _ a.1 in
    let d = and_parts (not (set.contains s.out x)) _ b.1 in
    record {
      carried = λ c m. not_carried c x (none_any (λ c. carries c x) s.calls c (not-true _ a.0) m);
      releasing = both_ways _ (not-true _ b.0);
      seized = λ c m e at. both_ways _ (none_any (λ c. seizes_from p c x exchange) s.calls c (not-true _ d.1) m)
          (and_from _ _ (ap (λ phase. is_calling_on phase x) e ∙ same_circuit-itself x) (eq-eqb _ _ at));
    }

pub first_in-is : (look : ℕ → Option Circuit) (gs : List ℕ) (x : Circuit) → first_in look gs ≡ Some x → (g : ℕ) × Among g gs × (look g ≡ Some x)
first_in-is look [] x h = cc
first_in-is look (g ∷ gs) x h =
    elim (is_some (look g)) as (λ b. (if b then look g else first_in look gs) ≡ Some x → (g' : ℕ) × Among g' (g ∷ gs) × (look g' ≡ Some x)) [
      | true ↦ λ e. (g, inl refl, e)
      | false ↦ λ e. let r = first_in-is look gs x e in (r.0, inr r.1, r.2)
    ] h

pub first_in-none : (look : ℕ → Option Circuit) (gs : List ℕ) (g : ℕ) → first_in look gs ≡ None → Among g gs → look g ≡ None
first_in-none look [] g h m = elim m [ ]
first_in-none look (y ∷ gs) g h m = at (look y) refl h m (first_in-none look gs g)
  where
    at : (o : Option Circuit) → look y ≡ o → (if is_some o then o else first_in look gs) ≡ None → Among g (y ∷ gs) → (first_in look gs ≡ None → Among g gs → look g ≡ None) → look g ≡ None
    at None e h (inl q) rest = ap look (sym q) ∙ e
    at None e h (inr m) rest = rest h m
    at (Some x) e h m rest = cc

in_order : (up : Bool) (count n : ℕ) → Among n (if up then upward count else downward count) → (1 ≤ n) × (n ≤ count)
in_order true zero n m = elim m [ ]
in_order true (suc k) n m = elim (among_cases n (upward k) (suc k ∷ []) m) [ inl o ↦ let r = in_order true k n o in (r.0, let q = r.1 in omega arith) | inr e ↦ elim e [ inl q ↦ (omega arith, omega arith) | inr b ↦ absurd b ] ]
in_order false zero n m = elim m [ ]
in_order false (suc k) n (inl e) = (omega arith, omega arith)
in_order false (suc k) n (inr m) = let r = in_order false k n m in (r.0, let q = r.1 in omega arith)

-- the circuits of a group are circuits of the plan
pub group_at : (p : Plan) (g exchange : ℕ) (x : Circuit) → Among x (circuits_at p g exchange) → (x.group ≡ g) × (is_circuit p x ≡ true)
group_at p g exchange x m = at (slice_get p.groups g) refl m
  where
    at : (o : Option Group) → slice_get p.groups g ≡ o → Among x (option_map_or (λ (r : Group). map (λ n. record { group = g; number = n }) (order_at r exchange)) o []) → (x.group ≡ g) × (is_circuit p x ≡ true)
    at None e m = elim m [ ]
    at (Some r) e m =
        let q = map_among (λ n. record { group = g; number = n }) x (order_at r exchange) m in
        let i = in_order (r.a == exchange) r.count q.0 q.1 in
        (ap (λ (y : Circuit). y.group) (sym q.2), subst (λ y. is_circuit p y ≡ true) q.2 (ap (λ o. option_map_or (λ (r : Group). nat_le 1 q.0 && nat_le q.0 r.count) o false) e ∙ and_from (nat_le 1 q.0) (nat_le q.0 r.count) (le-leb 1 q.0 i.0) (le-leb q.0 r.count i.1)))

-- a circuit that an exchange may choose
pub record IsChosen (p : Plan) (s : State) (exchange g : ℕ) (x : Circuit) : Type 0 where
  pub group : x.group ≡ g
  pub planned : is_circuit p x ≡ true
  pub free : IsFree p s exchange x

pub chosen : (p : Plan) (s : State) (exchange g : ℕ) (x : Circuit) → first_free p s exchange g ≡ Some x → IsChosen p s exchange g x
chosen p s exchange g x h =
    elim (is_down s g) as (λ b. (if b then None else find (is_free_at p s exchange) (circuits_at p g exchange)) ≡ Some x → IsChosen p s exchange g x) [
      | true ↦ λ e. let bad : ⊥ = cc in absurd bad
      | false ↦ λ e.
          let r = find_mem (is_free_at p s exchange) (circuits_at p g exchange) x e in
          let q = group_at p g exchange x r.0 in
          record { group = q.0; planned = q.1; free = is_free p s exchange x r.1 }
    ] h

-- ends of a group
pub an_end : (r : Group) (x y : ℕ) → far_end r x ≡ Some y → (r.a ≡ x) ⊎ (r.b ≡ x)
an_end r x y h =
    elim (r.a == x) as (λ b. (r.a == x) ≡ b → (if b then Some r.b else if r.b == x then Some r.a else None) ≡ Some y → (r.a ≡ x) ⊎ (r.b ≡ x)) [
      | true ↦ λ t e. inl (eqb-true _ _ t)
      | false ↦ λ _ e. elim (r.b == x) as (λ b. (r.b == x) ≡ b → (if b then Some r.a else None) ≡ Some y → (r.a ≡ x) ⊎ (r.b ≡ x)) [ true ↦ λ t _. inr (eqb-true _ _ t) | false ↦ λ _ e. let bad : ⊥ = cc in absurd bad ] refl e
    ] refl h

-- from one end a group leads to the other
pub two_ends : (p : Plan) (g x y a b : ℕ) → other_end p g x ≡ Some a → other_end p g y ≡ Some b → (x ≡ y → ⊥) → y ≡ a
two_ends p g x y a b hx hy ne = at (slice_get p.groups g) hx hy
  where
    at : (o : Option Group) → option_and_then (λ r. far_end r x) o ≡ Some a → option_and_then (λ r. far_end r y) o ≡ Some b → y ≡ a
    at None hx hy = let bad : ⊥ = cc in absurd bad
    at (Some r) hx hy =
        elim (r.a == x) as (λ t. (r.a == x) ≡ t → (if t then Some r.b else if r.b == x then Some r.a else None) ≡ Some a → y ≡ a) [
          | true ↦ λ t e. elim (an_end r y b hy) [ inl f ↦ absurd (ne (sym (eqb-true _ _ t) ∙ f)) | inr f ↦ let g : r.b ≡ a = cc in sym f ∙ g ]
          | false ↦ λ t e. elim (r.b == x) as (λ u. (r.b == x) ≡ u → (if u then Some r.a else None) ≡ Some a → y ≡ a) [
            | true ↦ λ u e. elim (an_end r y b hy) [ inl f ↦ let g : r.a ≡ a = cc in sym f ∙ g | inr f ↦ absurd (ne (sym (eqb-true _ _ u) ∙ f)) ]
            | false ↦ λ u e. let bad : ⊥ = cc in absurd bad
          ] refl e
        ] refl hx

-- a group has two ends
pub no_third_end : (p : Plan) (g x y z a b c : ℕ) → other_end p g x ≡ Some a → other_end p g y ≡ Some b → other_end p g z ≡ Some c → x ≢ y → x ≢ z → y ≢ z → ⊥
no_third_end p g x y z a b c hx hy hz xy xz yz = at (slice_get p.groups g) hx hy hz
  where
    two : {m n : ℕ} (r : Group) → (r.a ≡ m) ⊎ (r.b ≡ m) → (r.a ≡ n) ⊎ (r.b ≡ n) → m ≢ n → ((r.a ≡ m) × (r.b ≡ n)) ⊎ ((r.b ≡ m) × (r.a ≡ n))
    two r (inl e) (inl f) ne = absurd (ne (sym e ∙ f))
    two r (inl e) (inr f) ne = inl (e, f)
    two r (inr e) (inl f) ne = inr (e, f)
    two r (inr e) (inr f) ne = absurd (ne (sym e ∙ f))

    at : (o : Option Group) → option_and_then (λ r. far_end r x) o ≡ Some a → option_and_then (λ r. far_end r y) o ≡ Some b → option_and_then (λ r. far_end r z) o ≡ Some c → ⊥
    at None hx hy hz = cc
    at (Some r) hx hy hz =
        let ex = an_end r x a hx in let ey = an_end r y b hy in let ez = an_end r z c hz in
        elim (two r ex ey xy) [
          | inl e ↦ elim ez [ inl f ↦ xz (sym e.0 ∙ f) | inr f ↦ yz (sym e.1 ∙ f) ]
          | inr e ↦ elim ez [ inl f ↦ yz (sym e.1 ∙ f) | inr f ↦ xz (sym e.0 ∙ f) ]
        ]

-- paths
pub last_more : (x : ℕ) (hops : List Hop) (h : Hop) → last_exchange x (hops ++ h ∷ []) ≡ h.far
last_more x [] h = refl
last_more x (k ∷ hops) h = last_more k.far hops h

pub joins_more : (p : Plan) (x : ℕ) (hops : List Hop) (h : Hop) → Joins p x hops → is_circuit p h.circuit ≡ true → other_end p h.circuit.group (last_exchange x hops) ≡ Some h.far → Joins p x (hops ++ h ∷ [])
joins_more p x [] h j c e = (c, e, tt)
joins_more p x (k ∷ hops) h j c e = (j.0, j.1, joins_more p k.far hops h j.2 c e)

pub any_push : {A : Type 0} (t : A → Bool) (xs : List A) (x : A) → list_any t xs ≡ false → t x ≡ false → list_any t (xs ++ x ∷ []) ≡ false
any_push t [] x n h = ap (λ c. c || false) h
any_push t (y ∷ xs) x n h = let r = or_parts (t y) (list_any t xs) n in ap (λ b. b || list_any t (xs ++ x ∷ [])) r.0 ∙ any_push t xs x r.1 h

pub none_twice_push : {A : Type 0} (same : A → A → Bool) (xs : List A) (x : A) → NoneTwice same xs → ((y : A) → Among y xs → same y x ≡ false) → NoneTwice same (xs ++ x ∷ [])
none_twice_push same [] x n h = (refl, tt)
none_twice_push same (y ∷ xs) x n h = (any_push (same y) xs x n.0 (h y (inl refl)), none_twice_push same xs x n.1 (λ z m. h z (inr m)))
