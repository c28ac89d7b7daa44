-- Members of a list that are kept, one index after another.
use Rattle.std.proofs.Common.{◌≡◌, ◌≢◌, ℕ, zero, suc, ◌+◌, ◌==◌, Bool, true, false, not, cond, ◌&&◌, ◌||◌, List, [], ◌∷◌, ◌++◌, take, Option, Some, None, Result, Ok, Err, OnOk, IfOk, inl, inr, eqb-true, refl, sym, ap, ◌∙◌, arith, append_assoc}
use mathlib.Core.Bool.{beq}
use Rattle.tx_change.proofs.Common.{filter, slice_get, option_map, list_any, Plan, Route, route_list}
use Rattle.std.proofs.lemmas.Bool.{ne_eqb, cases_eq, and_left, and_right, and_parts}
use Rattle.tx_plan.specs.Rules.{EachPair, IsPlan}
use Rattle.tx_plan.proofs.Filtered.{any_out}
use Rattle.tx_plan.proofs.ListFound.{list_found}
use Rattle.tx_machine.proofs.Lists.{at_index}
use Rattle.tx_change.specs.inner.Kept.{keeps, kept_alone}

module _ {A : Type 0} (s : A → Bool) where
  pub kept_more : (xs : List A) (i : ℕ) → filter s (take (suc i) xs) ≡ filter s (take i xs) ++ kept_alone s (slice_get xs i)
  kept_more [] zero = refl
  kept_more [] (suc i) = refl
  kept_more (x ∷ xs) zero = refl
  kept_more (x ∷ xs) (suc i) =
      let rest = kept_more xs i in
      elim (s x) as (λ b. cond b (x ∷ filter s (take (suc i) xs)) (filter s (take (suc i) xs)) ≡ cond b (x ∷ filter s (take i xs)) (filter s (take i xs)) ++ kept_alone s (slice_get xs i)) [
        | true ↦ ap (λ l. x ∷ l) rest
        | false ↦ rest
      ]

  pub kept_next : (old now new xs : List A) (i : ℕ) → now ≡ old ++ filter s (take i xs) → new ≡ now ++ kept_alone s (slice_get xs i) → new ≡ old ++ filter s (take (i + 1) xs)
  kept_next old now new xs i a b =
      let more : suc i ≡ i + 1 = omega arith in
      b ∙ (ap (λ l. l ++ kept_alone s (slice_get xs i)) a ∙ (append_assoc old (filter s (take i xs)) (kept_alone s (slice_get xs i)) ∙ (ap (λ l. old ++ l) (sym (kept_more xs i)) ∙ ap (λ n. old ++ filter s (take n xs)) more)))

any_joined : {A : Type 0} (t : A → Bool) (xs ys : List A) → list_any t xs ≡ false → list_any t ys ≡ false → list_any t (xs ++ ys) ≡ false
any_joined t [] ys h k = k
any_joined t (x ∷ xs) ys h k =
    elim (t x) as (λ b. (b || list_any t xs) ≡ false → (b || list_any t (xs ++ ys)) ≡ false) [
      | true ↦ λ e. let bad : ⊥ = cc in absurd bad
      | false ↦ λ e. any_joined t xs ys e k
    ] h

-- entries that have an exchange and a code each
module _ {A : Type 0} (exchange code : A → ℕ) where
  abbrev like : A → A → Bool
  like r q = (exchange q == exchange r) && (code q == code r)

  abbrev differ : A → A → Type 0
  differ q r = exchange q ≡ exchange r → code q ≢ code r

  module _ (s : A → Bool) where
    fresh : (rs : List A) (i : ℕ) (r : A) → EachPair differ rs → slice_get rs i ≡ Some r → list_any (like r) (filter s (take i rs)) ≡ false
    fresh [] zero r d at = refl
    fresh [] (suc i) r d at = refl
    fresh (q ∷ rs) zero r d at = refl
    fresh (q ∷ rs) (suc i) r d at =
        let rest = fresh rs i r d.1 at in
        let apart = at_index (differ q) rs d.0 i r at in
        let t : like r q ≡ false = elim (cases_eq (exchange q) (exchange r)) [
          | inr n ↦ and_left (exchange q == exchange r) (code q == code r) (ne_eqb (exchange q) (exchange r) n)
          | inl m ↦ and_right (exchange q == exchange r) (code q == code r) (ne_eqb (code q) (code r) (apart m))
        ] in
        elim (s q) as (λ b. list_any (like r) (cond b (q ∷ filter s (take i rs)) (filter s (take i rs))) ≡ false) [
          | true ↦ ap (λ b. b || list_any (like r) (filter s (take i rs))) t ∙ rest
          | false ↦ rest
        ]

    -- the next one is not there yet
    pub next_new : (old now rs : List A) (i : ℕ) (r : A) → EachPair differ rs → slice_get rs i ≡ Some r → now ≡ old ++ filter s (take i rs) → list_any (like r) old ≡ false → list_any (like r) now ≡ false
    next_new old now rs i r d at e h = ap (list_any (like r)) e ∙ any_joined (like r) old (filter s (take i rs)) h (fresh rs i r d at)

  -- what stands in the new plan is not kept of the old one
  pub not_before : (taken : ℕ → ℕ → Bool) (r : A) → taken (exchange r) (code r) ≡ true → (rs : List A) → list_any (like r) (filter (λ q. not (taken (exchange q) (code q))) rs) ≡ false
  not_before taken r h rs =
      any_out (like r) (λ q. not (taken (exchange q) (code q)))
      (λ z q.
      let a = and_parts (exchange z == exchange r) (code z == code r) q in
      let e = eqb-true (exchange z) (exchange r) a.0 in
      let f = eqb-true (code z) (code r) a.1 in
      let alike : taken (exchange z) (code z) ≡ taken (exchange r) (code r) = λ i. taken (e i) (f i) in
      ap not (alike ∙ h))
      rs

-- THE ENTRY AT AN INDEX

pub keeps_test : (w t : Bool) → not (beq t w) ≡ false → keeps w t ≡ true
keeps_test true true h = refl
keeps_test true false h = let z : ⊥ = cc in absurd z
keeps_test false true h = let z : ⊥ = cc in absurd z
keeps_test false false h = refl

pub groups_alike : (x c : ℕ) (gs hs : List ℕ) → gs ≡ hs → ◌≡◌ {A = Route} (record { exchange = x; code = c; groups = gs }) (record { exchange = x; code = c; groups = hs })
groups_alike x c gs hs e = λ i. record { exchange = x; code = c; groups = e i }

-- the route at an index, of which the exchange and the code are told
pub route_is : (p : Plan) → IsPlan p → (i : ℕ) (at : ℕ × ℕ) → ◌≡◌ {A = Option (ℕ × ℕ)} (Some at) (option_map (λ (r : Route). (r.exchange, r.code)) (slice_get p.routes i))
    → slice_get p.routes i ≡ Some (record { exchange = at.0; code = at.1; groups = route_list p at.0 at.1 })
route_is p ok i at e = by_get (slice_get p.routes i) refl e
  where
    by_get : (o : Option Route) → slice_get p.routes i ≡ o → ◌≡◌ {A = Option (ℕ × ℕ)} (Some at) (option_map (λ (r : Route). (r.exchange, r.code)) o) → o ≡ Some (record { exchange = at.0; code = at.1; groups = route_list p at.0 at.1 })
    by_get None g e = absurd (let z : ⊥ = cc in z)
    by_get (Some r) g e =
        let same : ◌≡◌ {A = ℕ × ℕ} at (r.exchange, r.code) = cc in
        let listed : route_list p r.exchange r.code ≡ r.groups = list_found p i r ok g in
        let from : route_list p at.0 at.1 ≡ r.groups = (λ k. route_list p (same k).0 (same k).1) ∙ listed in
        ap (λ k. Some k) (λ k. record { exchange = (sym same k).0; code = (sym same k).1; groups = sym from k })

-- an entry was added, and it is the one that is kept
pub entry_added : {A E : Type 0} (s : A → Bool) (o : Option A) (x y : A) (old new : List A) (result : Result (Unit {0}) E) → OnOk result (new ≡ old ++ y ∷ []) → y ≡ x → o ≡ Some x → s x ≡ true → IfOk result (λ _. new ≡ old ++ kept_alone s o)
entry_added s o x y old new (Err f) ok same at k = tt
entry_added s o x y old new (Ok u) ok same at k = ok ∙ ap (λ z. old ++ z ∷ []) same ∙ ap (λ l. old ++ l) (sym (ap (kept_alone s) at ∙ ap (λ b. cond b (x ∷ []) []) k))
