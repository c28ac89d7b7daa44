-- The numbers of the calls that use a group, circuit by circuit.
use Rattle.tx_engine.proofs.Common.{◌≡◌, ◌≢◌, ℕ, ◌+◌, ◌≤◌, ◌==◌, Bool, true, false, not, ◌&&◌, ◌||◌, cond, List, [], ◌∷◌, ◌++◌, ◌⊎◌, inl, inr, Option, Some, None, refl, sym, ap, ◌∙◌, subst, eqb-true, arith, eq-eqb, filter, length, find, nat_le, slice_get, option_and_then, option_map_or, list_any, circuit_cmp, same_circuit, same_circuit-itself, Plan, Group, is_circuit, other_end, far_end, count_of, ends_of, Among, Circuit, among_left, among_right, filter_among, Call, exchange_of, is_numbered, call_of, circuits_used, carries, seizes, seizes_from, uses_group, IsRising, Inv, any_none, mem_any, find_mem, find_none, calling_on, an_end, Table, uses, AreNumbersOf, uses_up_to, AreUsed}
use Rattle.std.proofs.lemmas.Bool.{false≢true, and_parts, and_from, and_left, both_ways, or_cases, or_left, or_right, cases_eq, false_from_ne_true, not-true}
use Rattle.std.proofs.lemmas.Bool.Decides.{leb_tells, eqb_tells}
use Rattle.std.specs.FinSet as set
use Rattle.tx_plan.proofs.Lists.{at_least}
use Rattle.tx_engine.proofs.Filters.{any_alike, least_first, find_nobody}
use Rattle.tx_engine.proofs.Given.{uses_is}
use Rattle.tx_engine.proofs.After.{carried_mem, seizing_from, seizes_at}
use Rattle.tx_engine.proofs.Losing.{used_known}

-- the one call that passes is found
pub find_one : (t : Call → Bool) (cs : List Call) (c : Call) → Among c cs → t c ≡ true → ((d : Call) → Among d cs → t d ≡ true → d ≡ c) → find t cs ≡ Some c
find_one t [] c m e one = elim m [ ]
find_one t (d ∷ ds) c m e one =
    elim (t d) as (λ b. t d ≡ b → cond b (Some d) (find t ds) ≡ Some c) [
      | true ↦ λ f. ap Some (one d (inl refl) f)
      | false ↦ λ f. elim m [ inl q ↦ absurd (both_ways (t d) f (ap t q ∙ e)) | inr k ↦ find_one t ds c k e (λ z i. one z (inr i)) ]
    ] refl

-- NUMBERS OF CALLS BY A TEST

mem_either : {A : Type 0} (xs ys : List A) (x : A) → Among x (xs ++ ys) → Among x xs ⊎ Among x ys
mem_either [] ys x m = inr m
mem_either (z ∷ xs) ys x (inl e) = inl (inl e)
mem_either (z ∷ xs) ys x (inr m) = elim (mem_either xs ys x m) [ inl k ↦ inl (inr k) | inr k ↦ inr k ]

pub numbers_alike : (t u : Call → Bool) (cs : List Call) (ns : List ℕ) → ((c : Call) → Among c cs → t c ≡ u c) → AreNumbersOf t cs ns → AreNumbersOf u cs ns
numbers_alike t u cs ns h a = record {
  all = λ c m e. a.all c m (h c m ∙ e);
  only = λ n m. let r = a.only n m in (r.0, r.1, sym (h r.0 r.1) ∙ r.2, r.3);
}

pub numbers_or : (t u : Call → Bool) (cs : List Call) (ns ms : List ℕ) → AreNumbersOf t cs ns → AreNumbersOf u cs ms → AreNumbersOf (λ c. t c || u c) cs (ns ++ ms)
numbers_or t u cs ns ms a b = record {
  all = λ c m e. elim (or_cases (t c) (u c) e) [ inl f ↦ among_left c.number ns ms (a.all c m f) | inr f ↦ among_right c.number ns ms (b.all c m f) ];
  only = λ n m. elim (mem_either ns ms n m) [
    | inl k ↦ (let r = a.only n k in (r.0, r.1, or_left (t r.0) (u r.0) r.2, r.3))
    | inr k ↦ (let r = b.only n k in (r.0, r.1, or_right (t r.0) (u r.0) r.2, r.3))
  ];
}

pub numbers_none : (t : Call → Bool) (cs : List Call) → ((c : Call) → Among c cs → t c ≡ false) → AreNumbersOf t cs []
numbers_none t cs h = record { all = λ c m e. absurd (both_ways (t c) (h c m) e); only = λ n m. elim m [ ] }

pub numbers_one : (t : Call → Bool) (cs : List Call) (c : Call) → Among c cs → t c ≡ true → ((d : Call) → Among d cs → t d ≡ true → d ≡ c) → AreNumbersOf t cs (c.number ∷ [])
numbers_one t cs c m e one = record {
  all = λ d k f. inl (ap (λ (z : Call). z.number) (sym (one d k f)));
  only = λ n k. elim k [ inl q ↦ (c, m, e, q) | inr bad ↦ absurd bad ];
}

-- the same numbers in another order
pub numbers_along : (t : Call → Bool) (cs : List Call) (ns ms : List ℕ) → ((n : ℕ) → Among n ns → Among n ms) → ((n : ℕ) → Among n ms → Among n ns) → AreNumbersOf t cs ns → AreNumbersOf t cs ms
numbers_along t cs ns ms to from a = record { all = λ c m e. to c.number (a.all c m e); only = λ n m. a.only n (from n m) }

-- UP TO A NUMBER

any_or : {A : Type 0} (f h : A → Bool) (xs : List A) → list_any (λ x. f x || h x) xs ≡ (list_any f xs || list_any h xs)
any_or f h [] = refl
any_or f h (x ∷ xs) = ap (λ b. (f x || h x) || b) (any_or f h xs) ∙ mixed (f x) (h x) (list_any f xs) (list_any h xs)
  where
    mixed : (a b c d : Bool) → ((a || b) || (c || d)) ≡ ((a || c) || (b || d))
    mixed true b c d = refl
    mixed false true true d = refl
    mixed false true false d = refl
    mixed false false c d = refl

-- with one circuit more
pub up_to_more : (g k : ℕ) (c : Call) → uses_up_to g (k + 1) c ≡ (uses_up_to g k c || uses c (record { group = g; number = k + 1 }))
up_to_more g k c =
    any_alike (λ x. (x.group == g) && nat_le x.number (k + 1)) (λ x. ((x.group == g) && nat_le x.number k) || same_circuit x (record { group = g; number = k + 1 })) (circuits_used c) (λ x m. split (x.group == g) x)
    ∙ any_or (λ x. (x.group == g) && nat_le x.number k) (λ x. same_circuit x (record { group = g; number = k + 1 })) (circuits_used c)
    ∙ ap (λ b. uses_up_to g k c || b) (uses_is c (record { group = g; number = k + 1 }))
  where
    split : (b : Bool) (x : Circuit) → (b && nat_le x.number (k + 1)) ≡ ((b && nat_le x.number k) || (b && (x.number == k + 1)))
    split true x = elim (leb_tells x.number (k + 1)) [
      | inl a ↦ elim (eqb_tells x.number (k + 1)) [
        | inl e ↦ a.0 ∙ sym (or_right (nat_le x.number k) (x.number == k + 1) e.0)
        | inr e ↦ elim (leb_tells x.number k) [ inl l ↦ a.0 ∙ sym (or_left (nat_le x.number k) (x.number == k + 1) l.0) | inr l ↦ (let le = a.1 in let ne = e.1 in let lt = l.1 in absurd (ne (omega arith))) ]
      ]
      | inr a ↦ elim (leb_tells x.number k) [
        | inl l ↦ (let le = l.1 in let lt = a.1 in absurd (omega arith))
        | inr l ↦ elim (eqb_tells x.number (k + 1)) [ inl e ↦ (let lt = a.1 in let q = e.1 in absurd (omega arith)) | inr e ↦ a.0 ∙ sym (λ i. l.0 i || e.0 i) ]
      ]
    ]
    split false x = refl

-- a circuit of the plan has a number from 1 to its group's count
numbered : (p : Plan) (x : Circuit) → is_circuit p x ≡ true → (1 ≤ x.number) × (x.number ≤ count_of p x.group)
numbered p x e = at (slice_get p.groups x.group) e
  where
    at : (o : Option Group) → option_map_or (λ r. nat_le 1 x.number && nat_le x.number r.count) o false ≡ true → (1 ≤ x.number) × (x.number ≤ option_map_or (λ r. r.count) o 0)
    at None e = absurd (false≢true e)
    at (Some r) e =
        let f = and_parts (nat_le 1 x.number) (nat_le x.number r.count) e in
        (at_least 1 x.number f.0, at_least x.number r.count f.1)

module _ (p : Plan) (cs : List Call) (rel : set.FinSet circuit_cmp) (numbers : ℕ) (inv : Inv p cs rel numbers) (g : ℕ) where
  used_numbered : (c : Call) → Among c cs → (x : Circuit) → Among x (circuits_used c) → (1 ≤ x.number) × (x.number ≤ count_of p x.group)
  used_numbered c m x k = numbered p x (used_known p c (inv.each c m) x (sym (uses_is c x) ∙ mem_any (λ y. same_circuit y x) (circuits_used c) x k (same_circuit-itself x)))

  -- up to 0 there is none
  pub none_up_to : AreNumbersOf (uses_up_to g 0) cs []
  none_up_to = numbers_none (uses_up_to g 0) cs (λ c m. any_none (λ x. (x.group == g) && nat_le x.number 0) (circuits_used c) (λ x k. false_from_ne_true ((x.group == g) && nat_le x.number 0) (λ e.
      let n = (used_numbered c m x k).0 in
      elim (leb_tells x.number 0) [ inl l ↦ (let le = l.1 in omega arith) | inr l ↦ both_ways (nat_le x.number 0) l.0 (and_parts (x.group == g) (nat_le x.number 0) e).1 ])))

  pub more_up_to : (k : ℕ) (ns ms : List ℕ) → AreNumbersOf (uses_up_to g k) cs ns → AreNumbersOf (λ c. uses c (record { group = g; number = k + 1 })) cs ms → AreNumbersOf (uses_up_to g (k + 1)) cs (ns ++ ms)
  more_up_to k ns ms a b =
      numbers_alike (λ c. uses_up_to g k c || uses c (record { group = g; number = k + 1 })) (uses_up_to g (k + 1)) cs (ns ++ ms) (λ c m. sym (up_to_more g k c))
      (numbers_or (uses_up_to g k) (λ c. uses c (record { group = g; number = k + 1 })) cs ns ms a b)

  -- up to the count of the group there are all
  pub all_up_to : (ns : List ℕ) → AreNumbersOf (uses_up_to g (count_of p g)) cs ns → AreNumbersOf (uses_group g) cs ns
  all_up_to ns = numbers_alike (uses_up_to g (count_of p g)) (uses_group g) cs ns (λ c m. any_alike (λ x. (x.group == g) && nat_le x.number (count_of p g)) (λ x. x.group == g) (circuits_used c) (λ x k. whole c m x k (x.group == g) refl))
    where
      whole : (c : Call) → Among c cs → (x : Circuit) → Among x (circuits_used c) → (b : Bool) → (x.group == g) ≡ b → ((x.group == g) && nat_le x.number (count_of p g)) ≡ (x.group == g)
      whole c m x k true e =
          let n = subst (λ h. x.number ≤ count_of p h) (eqb-true x.group g e) (used_numbered c m x k).1 in
          elim (leb_tells x.number (count_of p g)) [ inl l ↦ and_from (x.group == g) (nat_le x.number (count_of p g)) e l.0 ∙ sym e | inr l ↦ (let lt = l.1 in absurd (omega arith)) ]
      whole c m x k false e = and_left (x.group == g) (nat_le x.number (count_of p g)) e ∙ sym e

-- THE USERS OF ONE CIRCUIT
module _ (p : Plan) (cs : List Call) (rel : set.FinSet circuit_cmp) (numbers : ℕ) (inv : Inv p cs rel numbers) (x : Circuit) where
  -- one that carries it is the one user
  pub carrier_alone : (c : Call) → Among c cs → carries c x ≡ true → AreNumbersOf (λ d. uses d x) cs (c.number ∷ [])
  carrier_alone c m e = numbers_one (λ d. uses d x) cs c m (or_left (carries c x) (seizes c x) e) (λ d k u. elim (cases_eq d.number c.number) [
    | inl n ↦ inv.one d c k m n
    | inr ne ↦ elim (or_cases (carries d x) (seizes d x) u) [
      | inl a ↦ absurd ((inv.pairs d c k m ne).carried x (carried_mem d x a) (carried_mem c x e))
      | inr b ↦ absurd ((inv.pairs d c k m ne).right x (calling_on d.phase x b) (carried_mem c x e))
    ]
  ])

  -- one that has seized it from an end is the one that has
  pub seizer_alone : (c : Call) (e : ℕ) → Among c cs → seizes_from p c x e ≡ true → AreNumbersOf (λ d. seizes_from p d x e) cs (c.number ∷ [])
  seizer_alone c e m s =
      let f = seizing_from p c x e s in
      numbers_one (λ d. seizes_from p d x e) cs c m s (λ d k u. elim (cases_eq d.number c.number) [
        | inl n ↦ inv.one d c k m n
        | inr ne ↦ (let h = seizing_from p d x e u in absurd ((inv.pairs d c k m ne).ends x h.0 f.0 (h.1 ∙ sym f.1)))
      ])

  module _ (t : Table) (used : AreUsed p cs t) where
    pub no_seizer : (e : ℕ) → set.contains t.seized (x, e) ≡ false → AreNumbersOf (λ d. seizes_from p d x e) cs []
    no_seizer e f = numbers_none (λ d. seizes_from p d x e) cs (λ d m. false_from_ne_true (seizes_from p d x e) (λ b. both_ways _ (sym (used.seized x e) ∙ f) (mem_any (λ d. seizes_from p d x e) cs d m b)))

    -- where nobody carries it, those that have seized it from its ends
    pub by_seizures : set.contains t.carried x ≡ false → (ns ms : List ℕ) → AreNumbersOf (λ d. seizes_from p d x (ends_of p x.group).0) cs ns → AreNumbersOf (λ d. seizes_from p d x (ends_of p x.group).1) cs ms
        → AreNumbersOf (λ d. uses d x) cs (ns ++ ms)
    by_seizures f ns ms a b =
        numbers_alike (λ d. seizes_from p d x (ends_of p x.group).0 || seizes_from p d x (ends_of p x.group).1) (λ d. uses d x) cs (ns ++ ms) (λ d m. sym (by_ends d m))
        (numbers_or (λ d. seizes_from p d x (ends_of p x.group).0) (λ d. seizes_from p d x (ends_of p x.group).1) cs ns ms a b)
      where
        uncarried : (d : Call) → Among d cs → carries d x ≡ false
        uncarried d m = false_from_ne_true (carries d x) (λ b. both_ways _ (sym (used.carried x) ∙ f) (mem_any (λ d. carries d x) cs d m b))

        at_end : (y z : ℕ) → other_end p x.group y ≡ Some z → ((ends_of p x.group).0 ≡ y) ⊎ ((ends_of p x.group).1 ≡ y)
        at_end y z e = at (slice_get p.groups x.group) e
          where
            at : (o : Option Group) → option_and_then (λ r. far_end r y) o ≡ Some z → ((option_map_or {U = ℕ × ℕ} (λ (r : Group). (r.a, r.b)) o (0, 0)).0 ≡ y) ⊎ ((option_map_or {U = ℕ × ℕ} (λ (r : Group). (r.a, r.b)) o (0, 0)).1 ≡ y)
            at None e = let bad : ⊥ = cc in absurd bad
            at (Some r) e = an_end r y z e

        by_seizure : (d : Call) → Among d cs → (b : Bool) → seizes d x ≡ b → seizes d x ≡ (seizes_from p d x (ends_of p x.group).0 || seizes_from p d x (ends_of p x.group).1)
        by_seizure d m true e =
            let calls = calling_on d.phase x e in
            let to = (inv.each d m).calling x calls in
            e ∙ sym (elim (at_end (exchange_of p d) to.0 to.1) [
              | inl q ↦ or_left (seizes_from p d x (ends_of p x.group).0) (seizes_from p d x (ends_of p x.group).1) (seizes_at p d x (ends_of p x.group).0 calls (sym q))
              | inr q ↦ or_right (seizes_from p d x (ends_of p x.group).0) (seizes_from p d x (ends_of p x.group).1) (seizes_at p d x (ends_of p x.group).1 calls (sym q))
            ])
        by_seizure d m false e = e ∙ sym (λ i. (e i && (exchange_of p d == (ends_of p x.group).0)) || (e i && (exchange_of p d == (ends_of p x.group).1)))

        by_ends : (d : Call) → Among d cs → uses d x ≡ (seizes_from p d x (ends_of p x.group).0 || seizes_from p d x (ends_of p x.group).1)
        by_ends d m = ap (λ b. b || seizes d x) (uncarried d m) ∙ by_seizure d m (seizes d x) refl

-- USERS THAT END IN ORDER OF THEIR NUMBERS
-- some of the calls are left; the numbers of those of them that use the group are among these
pub record AreLeft (g : ℕ) (old now : List Call) (numbers : List ℕ) : Type 0 where
  pub among : (c : Call) → Among c now → Among c old
  pub users : (c : Call) → Among c now → uses_group g c ≡ true → Among c.number numbers

module _ (g : ℕ) (old now : List Call) (n : ℕ) (ns : List ℕ) (left : AreLeft g old now (n ∷ ns)) where
  -- the call of the first number is the first user
  pub first_user : IsRising now → ((c d : Call) → Among c old → Among d old → c.number ≡ d.number → c ≡ d) → (c₀ : Call) → Among c₀ old → uses_group g c₀ ≡ true → c₀.number ≡ n
      → ((m : ℕ) → Among m ns → n ≤ m) → (c : Call) → call_of n now ≡ Some c → find (uses_group g) now ≡ Some c
  first_user rising one c₀ in₀ uses₀ is₀ least c found =
      let f = find_mem (is_numbered n) now c found in
      let same : c ≡ c₀ = one c c₀ (left.among c f.0) in₀ (eqb-true c.number n f.1 ∙ sym is₀) in
      least_first (uses_group g) now c rising f.0 (ap (uses_group g) same ∙ uses₀) (λ d m u.
      let at = eqb-true c.number n f.1 in
      elim (left.users d m u) [ inl e ↦ (let q = at ∙ e in omega arith) | inr k ↦ (let l = least d.number k in omega arith) ])

  -- it ended
  pub left_after : (now' : List Call) → now' ≡ filter (λ c. not (is_numbered n c)) now → AreLeft g old now' ns
  left_after now' is = record {
    among = λ c m. left.among c (kept c (subst (λ l. Among c l) is m)).0;
    users = λ c m u.
        let k = kept c (subst (λ l. Among c l) is m) in
        elim (left.users c k.0 u) [ inl e ↦ absurd (k.1 (sym e)) | inr h ↦ h ];
  }
    where
      kept : (c : Call) → Among c (filter (λ c. not (is_numbered n c)) now) → Among c now × (c.number ≢ n)
      kept c m = let r = filter_among (λ c. not (is_numbered n c)) c now m in (r.0, λ e. both_ways (c.number == n) (not-true (c.number == n) r.1) (eq-eqb c.number n e))

  -- no call has the first number
  pub left_without : call_of n now ≡ None → AreLeft g old now ns
  left_without none = record {
    among = left.among;
    users = λ c m u. elim (left.users c m u) [ inl e ↦ absurd (both_ways (c.number == n) (find_none (is_numbered n) now c none m) (eq-eqb c.number n (sym e))) | inr h ↦ h ];
  }

-- at the end no user is left
pub none_left : (g : ℕ) (old now : List Call) → AreLeft g old now [] → find (uses_group g) now ≡ None
none_left g old now left = find_nobody (uses_group g) now (λ c m. false_from_ne_true (uses_group g c) (λ u. elim (left.users c m u) [ ]))

-- no more calls are open than numbers were given, and one
pub few_calls : (cs : List Call) (n : ℕ) → IsRising cs → ((c : Call) → Among c cs → c.number ≤ n) → length cs ≤ n + 1
few_calls cs n r h = let all = above 0 cs r (λ c m. omega arith) (omega arith) h in omega arith
  where
    above : (low : ℕ) (cs : List Call) → IsRising cs → ((c : Call) → Among c cs → low ≤ c.number) → low ≤ n + 1 → ((c : Call) → Among c cs → c.number ≤ n) → length cs + low ≤ n + 1
    above low [] r a l h = omega arith
    above low (c ∷ cs) r a l h =
        let here = a c (inl refl) in let most = h c (inl refl) in
        let all = above (c.number + 1) cs r.1 (λ d m. let q = r.0 d m in omega arith) (omega arith) (λ d m. h d (inr m)) in
        omega arith
