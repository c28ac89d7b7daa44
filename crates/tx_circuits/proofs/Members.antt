-- What the groups hold is among all their circuits and ends.
use Rattle.tx_circuits.proofs.Common.{◌≡◌, ◌∙◌, ℕ, zero, suc, ◌+◌, ◌<◌, ◌⊎◌, inl, inr, Bool, true, false, ◌==◌, List, [], ◌∷◌, length, map, Option, Some, None, refl, sym, ap, subst, arith, eqb-true, slice_get, is_some, option_and_then, if◌then◌else◌, ◌&&◌, option_map_or, and_parts, slice_get_within, upward, is_both, Circuit, End, First, Other, Up, CircuitState, GroupHead, has_seized, rising, GroupState, state_at, entry_numbered, seizing_end, end_at, Seat, circuits_of, seats_of, gathered_keys, is_marked, holds, sits}
use Rattle.tx_circuits.proofs.Ordered.{In, from_left, from_right, member}
use Rattle.tx_circuits.proofs.Linked.{le_or}
use Rattle.tx_circuits.proofs.Kept.{number_in}

-- where a circuit is among the groups
pub record Known (ts : List GroupState) (c : Circuit) : Type 0 where
  pub group : GroupState
  pub at : slice_get ts c.group ≡ Some group
  pub index : ℕ
  pub number : c.number ≡ suc index
  pub within : index < length group.states

pub known : (ts : List GroupState) (c : Circuit) → is_some (state_at ts c) ≡ true → Known ts c
known ts c h = by_group (slice_get ts c.group) refl h
  where
    by_group : (o : Option GroupState) → slice_get ts c.group ≡ o → is_some (option_and_then (λ t. entry_numbered t.states c.number) o) ≡ true → Known ts c
    by_group None e k = absurd cc
    by_group (Some t) e k = (let m = number_in t.states c.number k in record { group = t; at = e; index = m.0; number = m.1; within = m.2 })

pub some_from : {A : Type 0} (test : A → Bool) (o : Option A) → option_map_or test o false ≡ true → is_some o ≡ true
some_from test None h = absurd cc
some_from test (Some x) h = refl

in_map : {A B : Type 0} (f : A → B) (xs : List A) (x : A) → In xs x → In (map f xs) (f x)
in_map f [] x i = absurd i
in_map f (y ∷ xs) x (inl e) = inl (ap f e)
in_map f (y ∷ xs) x (inr i) = inr (in_map f xs x i)

in_upward : (n k : ℕ) → k < n → In (upward n) (suc k)
in_upward zero k lt = absurd (omega arith)
in_upward (suc n) k lt = elim (le_or n k) [
  | inl y ↦ from_right (upward n) (suc n ∷ []) (suc k) (inl (omega arith))
  | inr y ↦ from_left (upward n) (suc n ∷ []) (suc k) (in_upward n k y)
]

in_gathered : {K : Type 0} (f : ℕ → GroupState → List K) (ts : List GroupState) (g k n : ℕ) (t : GroupState) (y : K) → n ≡ g + k → slice_get ts k ≡ Some t → In (f n t) y → In (gathered_keys f g ts) y
in_gathered f [] g k n t y e at i = absurd cc
in_gathered f (u ∷ ts) g zero n t y e at i =
    from_left (f g u) (gathered_keys f (suc g) ts) y (subst (λ (z : ℕ × GroupState). In (f z.0 z.1) y) (λ j. (here j, same j)) i)
  where
    here : n ≡ g
    here = omega arith

    or_u : Option GroupState → GroupState
    or_u None = u
    or_u (Some w) = w

    same : t ≡ u
    same = sym (ap or_u at)
in_gathered f (u ∷ ts) g (suc k) n t y e at i = from_right (f g u) (gathered_keys f (suc g) ts) y (in_gathered f ts (suc g) k n t y (omega arith) at i)

pub in_circuits : (ts : List GroupState) (c : Circuit) (k : Known ts c) → In (circuits_of c.group k.group) c
in_circuits ts c k =
    subst (In (circuits_of c.group k.group)) (sym (ap (λ (n : ℕ). record { group = c.group; number = n }) k.number))
    (in_map (λ n. record { group = c.group; number = n }) (upward (length k.group.states)) (suc k.index) (in_upward (length k.group.states) k.index k.within))

pub holds_in : (test : CircuitState → Bool) (ts : List GroupState) (c : Circuit) → holds test ts c ≡ true → In (gathered_keys circuits_of 0 ts) c
holds_in test ts c h = (let k = known ts c (some_from test (state_at ts c) h) in in_gathered circuits_of ts 0 c.group c.group k.group c (omega arith) k.at (in_circuits ts c k))

-- an exchange that seizes at an end is that end
pub end_is : (t : GroupHead) (x : ℕ) (end : End) → seizing_end t x ≡ Some end → ((end ≡ First) × (t.a ≡ x)) ⊎ ((end ≡ Other) × (t.b ≡ x))
end_is t x end = elim (t.a == x) as (λ b. (t.a == x) ≡ b → (if b then Some First else if is_both t.direction && (t.b == x) then Some Other else None) ≡ Some end → ((end ≡ First) × (t.a ≡ x)) ⊎ ((end ≡ Other) × (t.b ≡ x))) [
  | true ↦ λ e h. inl (sym (ap (or_end end) h), eqb-true t.a x e)
  | false ↦ λ e. elim (is_both t.direction && (t.b == x)) as (λ b. (is_both t.direction && (t.b == x)) ≡ b → (if b then Some Other else None) ≡ Some end → ((end ≡ First) × (t.a ≡ x)) ⊎ ((end ≡ Other) × (t.b ≡ x))) [
    | true ↦ λ f h. inr (sym (ap (or_end end) h), eqb-true t.b x (and_parts (is_both t.direction) (t.b == x) f).1)
    | false ↦ λ f h. absurd cc
  ] refl
] refl
  where
    or_end : End → Option End → End
    or_end d None = d
    or_end d (Some w) = w

pub sits_in : (ts : List GroupState) (s : Seat) → sits ts s ≡ true → In (gathered_keys seats_of 0 ts) s
sits_in ts s h = by_end (end_at ts s.0.group s.1) refl h
  where
    seat : (k : Known ts s.0) (t : GroupHead) (end : End) → t ≡ k.group.head → ((end ≡ First) × (t.a ≡ s.1)) ⊎ ((end ≡ Other) × (t.b ≡ s.1)) → In (seats_of s.0.group k.group) s
    seat k t end e (inl f) =
        from_left (map (λ c. (c, k.group.head.a)) (circuits_of s.0.group k.group)) (map (λ c. (c, k.group.head.b)) (circuits_of s.0.group k.group)) s
        (subst (In (map (λ c. (c, k.group.head.a)) (circuits_of s.0.group k.group))) (λ i. (s.0, (ap (λ (u : GroupHead). u.a) (sym e) ∙ f.1) i))
        (in_map (λ c. (c, k.group.head.a)) (circuits_of s.0.group k.group) s.0 (in_circuits ts s.0 k)))
    seat k t end e (inr f) =
        from_right (map (λ c. (c, k.group.head.a)) (circuits_of s.0.group k.group)) (map (λ c. (c, k.group.head.b)) (circuits_of s.0.group k.group)) s
        (subst (In (map (λ c. (c, k.group.head.b)) (circuits_of s.0.group k.group))) (λ i. (s.0, (ap (λ (u : GroupHead). u.b) (sym e) ∙ f.1) i))
        (in_map (λ c. (c, k.group.head.b)) (circuits_of s.0.group k.group) s.0 (in_circuits ts s.0 k)))

    by_end : (o : Option End) → end_at ts s.0.group s.1 ≡ o → option_map_or (λ end. holds (has_seized end) ts s.0) o false ≡ true → In (gathered_keys seats_of 0 ts) s
    by_end None e h = absurd cc
    by_end (Some end) e h =
        let k = known ts s.0 (some_from (has_seized end) (state_at ts s.0) h) in
        let seizes : seizing_end k.group.head s.1 ≡ Some end = ap (option_and_then (λ t. seizing_end t.head s.1)) (sym k.at) ∙ e in
        in_gathered seats_of ts 0 s.0.group s.0.group k.group s (omega arith) k.at (seat k k.group.head end refl (end_is k.group.head s.1 end seizes))

pub marked_within : (test : GroupHead → Bool) (ts : List GroupState) (g : ℕ) → is_marked test ts g ≡ true → g < length ts
marked_within test ts g h = inside (slice_get ts g) refl (some_from (λ t. test t.head) (slice_get ts g) h)
  where
    inside : (o : Option GroupState) → slice_get ts g ≡ o → is_some o ≡ true → g < length ts
    inside None e k = absurd cc
    inside (Some t) e k = slice_get_within ts g t e

pub marked_in : (test : GroupHead → Bool) (ts : List GroupState) (g : ℕ) → is_marked test ts g ≡ true → In (rising (length ts)) g
marked_in test ts g h = member Up (length ts) g (marked_within test ts g h)
