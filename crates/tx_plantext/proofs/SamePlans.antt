-- Two plans of which each has the lists, or the bars, of the other.
use Rattle.std.proofs.Common.{◌≡◌, ◌∙◌, ℕ, ◌+◌, ◌≤◌, Bool, true, false, ◌==◌, ◌&&◌, ◌||◌, eqb-true, List, [], ◌∷◌, length, take, Option, Some, None, refl, sym, subst, inl, inr}
use Rattle.tx_plantext.proofs.Common.{slice_get, option_map, AllByRecursion, list_any, and_parts, take_all, Pair, Plan, Route, route_list, is_barred}
use Rattle.tx_plan.proofs.Among.{all_among}
use Rattle.tx_plan.proofs.ByIndex.{take_next}
use Rattle.tx_plan.proofs.Lists.{all_put, same_tests}
use Rattle.tx_plan.proofs.Copied.{bar_got}
use Rattle.tx_plan.proofs.ListFound.{IsFoundRoute, list_cases}

-- what holds of all entries before an index, and of the one there, holds of all before the next
module _ {A : Type 0} (P : A → Type 0) (xs : List A) (i : ℕ) where
  next_too : (x : A) → slice_get xs i ≡ Some x → AllByRecursion P (take i xs) → P x → AllByRecursion P (take (i + 1) xs)
  next_too x at all here = subst (AllByRecursion P) (sym (take_next xs i x at)) (all_put P (take i xs) x all here)

  pub of_all : length xs ≤ i → AllByRecursion P (take i xs) → AllByRecursion P xs
  of_all le all = subst (AllByRecursion P) (take_all i xs le) all

-- one plan has a list of another one
abbrev pub SameList : (p q : Plan) → ℕ → ℕ → Type 0
SameList p q x c = route_list p x c ≡ route_list q x c

abbrev pub HasLists : (p q : Plan) → Type 0
HasLists p q = AllByRecursion (λ (r : Route). SameList p q r.exchange r.code) q.routes

pub list_too : (p q : Plan) (i : ℕ) (k : ℕ × ℕ) → Some k ≡ option_map (λ (r : Route). (r.exchange, r.code)) (slice_get q.routes i) → SameList p q k.0 k.1
    → AllByRecursion (λ (r : Route). SameList p q r.exchange r.code) (take i q.routes) → AllByRecursion (λ (r : Route). SameList p q r.exchange r.code) (take (i + 1) q.routes)
list_too p q i k got here all = by (slice_get q.routes i) refl got
  where
    by : (o : Option Route) → slice_get q.routes i ≡ o → Some k ≡ option_map (λ (r : Route). (r.exchange, r.code)) o → AllByRecursion (λ (r : Route). SameList p q r.exchange r.code) (take (i + 1) q.routes)
    by None e h = absurd (let bad : ⊥ = cc in bad)
    by (Some r) e h =
        let is : k ≡ (r.exchange, r.code) = cc in
        next_too (λ (s : Route). SameList p q s.exchange s.code) q.routes i r e all (subst (λ (j : ℕ × ℕ). SameList p q j.0 j.1) is here)

at_pair : (p q : Plan) (x c : ℕ) → HasLists p q → IsFoundRoute q x c → SameList p q x c
at_pair p q x c all f =
    subst (λ y. SameList p q y c) f.exchange (subst (λ d. SameList p q f.route.exchange d) f.code
    (all_among (λ (r : Route). SameList p q r.exchange r.code) q.routes f.route all f.among))

pub same_lists : (p q : Plan) → HasLists p q → HasLists q p → (x c : ℕ) → route_list q x c ≡ route_list p x c
same_lists p q there back x c = elim (list_cases q x c) [
  | inr f ↦ sym (at_pair p q x c there f)
  | inl none ↦ elim (list_cases p x c) [
    | inr f ↦ at_pair q p x c back f
    | inl e ↦ none ∙ sym e
  ]
]

abbrev pub HasBars : (p q : Plan) → Type 0
HasBars p q = AllByRecursion (λ (b : Pair). is_barred p b.exchange b.code ≡ true) q.bars

pub bar_too : (p : Plan) (bars : List Pair) (i : ℕ) (k : ℕ × ℕ) → Some k ≡ option_map (λ (b : Pair). (b.exchange, b.code)) (slice_get bars i) → is_barred p k.0 k.1 ≡ true
    → AllByRecursion (λ (b : Pair). is_barred p b.exchange b.code ≡ true) (take i bars) → AllByRecursion (λ (b : Pair). is_barred p b.exchange b.code ≡ true) (take (i + 1) bars)
bar_too p bars i k got here all =
    next_too (λ (b : Pair). is_barred p b.exchange b.code ≡ true) bars i (record { exchange = k.0; code = k.1 }) (bar_got bars i k got) all here

barred_too : (p : Plan) (x c : ℕ) (bars : List Pair) → AllByRecursion (λ (b : Pair). is_barred p b.exchange b.code ≡ true) bars → list_any (λ (b : Pair). (b.exchange == x) && (b.code == c)) bars ≡ true → is_barred p x c ≡ true
barred_too p x c [] all h = let bad : ⊥ = cc in absurd bad
barred_too p x c (b ∷ bars) all h = by ((b.exchange == x) && (b.code == c)) refl h (barred_too p x c bars all.1)
  where
    by : (t : Bool) → ((b.exchange == x) && (b.code == c)) ≡ t → (t || list_any (λ (b : Pair). (b.exchange == x) && (b.code == c)) bars) ≡ true
        → (list_any (λ (b : Pair). (b.exchange == x) && (b.code == c)) bars ≡ true → is_barred p x c ≡ true) → is_barred p x c ≡ true
    by true e k later =
        let is = and_parts (b.exchange == x) (b.code == c) e in
        subst (λ y. is_barred p y c ≡ true) (eqb-true b.exchange x is.0) (subst (λ d. is_barred p b.exchange d ≡ true) (eqb-true b.code c is.1) all.0)
    by false e k later = later k

pub same_bars : (p q : Plan) → HasBars p q → HasBars q p → (x c : ℕ) → is_barred q x c ≡ is_barred p x c
same_bars p q there back x c = same_tests (is_barred q x c) (is_barred p x c) (barred_too p x c q.bars there) (barred_too q x c p.bars back)
