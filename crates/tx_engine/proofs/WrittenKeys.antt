-- Keys by circuit, after those of one circuit were written.
use Rattle.std.proofs.Common.{◌≡◌, ◌≢◌, inl, inr, ℕ, zero, suc, ◌==◌, true, false, ◌&&◌, List, [], ◌∷◌, ◌++◌, ◌⊎◌, ◌+◌, ◌≤◌, map, length, Option, Some, None, is_some, refl, sym, ap, ◌∙◌, arith, set, get_or}
use Rattle.tx_engine.proofs.Common.{eqb_tells, nat_tests, slice_get, option_and_then, if◌then◌else◌, nat_le, and_parts, Plan, Group, is_circuit, count_of, option_map, option_map_or, same_circuit, Circuit, keys_at, HasKeys, EndKeys}
use Rattle.std.proofs.lemmas.List.{map-set}
use Rattle.std.proofs.lemmas.Option.{slice_get_within}
use Rattle.tx_plan.proofs.ByIndex.{entry_at}

get_set_same : {A : Type 0} (xs : List A) (i : ℕ) (y x : A) → slice_get xs i ≡ Some x → slice_get (set xs i y) i ≡ Some y
get_set_same [] i y x e = absurd (let bad : ⊥ = cc in bad)
get_set_same (z ∷ xs) zero y x e = refl
get_set_same (z ∷ xs) (suc i) y x e = get_set_same xs i y x e

get_set_other : {A : Type 0} (xs : List A) (i j : ℕ) (y : A) → j ≢ i → slice_get (set xs i y) j ≡ slice_get xs j
get_set_other [] i j y ne = refl
get_set_other (z ∷ xs) zero zero y ne = absurd (ne refl)
get_set_other (z ∷ xs) zero (suc j) y ne = refl
get_set_other (z ∷ xs) (suc i) zero y ne = refl
get_set_other (z ∷ xs) (suc i) (suc j) y ne = get_set_other xs i j y (λ e. ne (ap suc e))

pub keys_written : (rows : List (List EndKeys)) (x : Circuit) (row : List EndKeys) (k old : EndKeys) → slice_get rows x.group ≡ Some row → slice_get row x.number ≡ Some old → (y : Circuit)
    → keys_at (set rows x.group (set row x.number k)) y ≡ (if same_circuit y x then option_map (λ _. k) (keys_at rows y) else keys_at rows y)
keys_written rows x row k old at here y =
    elim (eqb_tells y.group x.group) [
      | inl g ↦ (
          let new : slice_get (set rows x.group (set row x.number k)) y.group ≡ Some (set row x.number k) = ap (slice_get (set rows x.group (set row x.number k))) g.1 ∙ get_set_same rows x.group (set row x.number k) row at in
          let was : slice_get rows y.group ≡ Some row = ap (slice_get rows) g.1 ∙ at in
          elim (eqb_tells y.number x.number) [
            | inl n ↦ ap (option_and_then (λ r. slice_get r y.number)) new ∙ ap (slice_get (set row x.number k)) n.1 ∙ get_set_same row x.number k old here
                ∙ ap (option_map (λ _. k)) (sym (ap (option_and_then (λ r. slice_get r y.number)) was ∙ ap (slice_get row) n.1 ∙ here))
                ∙ ap (λ b. if b then option_map (λ _. k) (keys_at rows y) else keys_at rows y) (sym (ap (λ b. b && (y.number == x.number)) g.0 ∙ n.0))
            | inr n ↦ ap (option_and_then (λ r. slice_get r y.number)) new ∙ get_set_other row x.number y.number k n.1
                ∙ sym (ap (option_and_then (λ r. slice_get r y.number)) was)
                ∙ ap (λ b. if b then option_map (λ _. k) (keys_at rows y) else keys_at rows y) (sym (ap (λ b. b && (y.number == x.number)) g.0 ∙ n.0))
          ])
      | inr g ↦ ap (option_and_then (λ r. slice_get r y.number)) (get_set_other rows x.group y.group (set row x.number k) g.1)
          ∙ ap (λ b. if b then option_map (λ _. k) (keys_at rows y) else keys_at rows y) (sym (ap (λ b. b && (y.number == x.number)) g.0))
    ]

at_index : {A : Type 0} (xs : List A) (i : ℕ) (x : A) → x ≡ get_or xs i x → is_some (slice_get xs i) ≡ true → slice_get xs i ≡ Some x
at_index [] i x e h = absurd (let bad : ⊥ = cc in bad)
at_index (y ∷ xs) zero x e h = ap Some (sym e)
at_index (y ∷ xs) (suc i) x e h = at_index xs i x e h

get_map : {A B : Type 0} (f : A → B) (xs : List A) (i : ℕ) → slice_get (map f xs) i ≡ option_map f (slice_get xs i)
get_map f [] i = refl
get_map f (x ∷ xs) zero = refl
get_map f (x ∷ xs) (suc i) = get_map f xs i

-- a row and an index in it
both_there : {A : Type 0} (o : Option A) (f : A → Option EndKeys) → is_some (option_and_then f o) ≡ true → (is_some o ≡ true) × ((a : A) → o ≡ Some a → (k : EndKeys) × (f a ≡ Some k))
both_there None f h = absurd (let bad : ⊥ = cc in bad)
both_there (Some b) f h = (refl, λ a e. at (f a) refl (let same : b ≡ a = cc in ap (λ z. is_some (f z)) (sym same) ∙ h))
  where
    at : {a : _} → (o : Option EndKeys) → f a ≡ o → is_some o ≡ true → (k : EndKeys) × (f a ≡ Some k)
    at None q h = absurd (let bad : ⊥ = cc in bad)
    at (Some k) q h = (k, q)

some_map : {A B : Type 0} (f : A → B) (o : Option A) → is_some (option_map f o) ≡ true → is_some o ≡ true
some_map f None h = h
some_map f (Some a) h = refl

pub written : {R : Type 0} (items : R → List EndKeys) (rows : List R) (x : Circuit) (g : ℕ) (row row' : R) (k : EndKeys) → g ≡ x.group → row ≡ get_or rows g row → is_some (keys_at (map items rows) x) ≡ true
    → items row' ≡ set (items row) x.number k → (y : Circuit)
    → keys_at (map items (set rows g row')) y ≡ (if same_circuit y x then option_map (λ _. k) (keys_at (map items rows) y) else keys_at (map items rows) y)
written items rows x g row row' k this got there is y =
    let b = both_there (slice_get (map items rows) x.group) (λ r. slice_get r x.number) there in
    let here : slice_get rows x.group ≡ Some row = at_index rows x.group row (got ∙ ap (λ j. get_or rows j row) this) (some_map items (slice_get rows x.group) (ap is_some (sym (get_map items rows x.group)) ∙ b.0)) in
    let at : slice_get (map items rows) x.group ≡ Some (items row) = get_map items rows x.group ∙ ap (option_map items) here in
    let old = b.1 (items row) at in
    ap (λ l. keys_at l y) (ap (λ j. map items (set rows j row')) this ∙ map-set items rows x.group row' ∙ ap (set (map items rows) x.group) is)
    ∙ keys_written (map items rows) x (items row) k old.0 at old.1 y

-- each row has an entry for each circuit of its group
abbrev pub AreLong : {R : Type 0} → (R → List EndKeys) → Plan → List R → Type 0
AreLong {R} items p rows = (j : ℕ) (row : R) → slice_get rows j ≡ Some row → length (items row) ≡ count_of p j + 1

get_push : {A : Type 0} (xs : List A) (x y : A) (j : ℕ) → slice_get (xs ++ x ∷ []) j ≡ Some y → (slice_get xs j ≡ Some y) ⊎ ((j ≡ length xs) × (x ≡ y))
get_push [] x y zero e = inr (refl, (let q : x ≡ y = cc in q))
get_push [] x y (suc j) e = absurd (let bad : ⊥ = cc in bad)
get_push (z ∷ xs) x y zero e = inl e
get_push (z ∷ xs) x y (suc j) e = elim (get_push xs x y j e) [ inl o ↦ inl o | inr o ↦ inr (ap suc o.0, o.1) ]

pub long_push : {R : Type 0} (items : R → List EndKeys) (p : Plan) (rows : List R) (row : R) (n : ℕ) → AreLong items p rows → n ≡ length rows → length (items row) ≡ count_of p n + 1 → AreLong items p (rows ++ row ∷ [])
long_push items p rows row n long at is j r e = elim (get_push rows row r j e) [
  | inl o ↦ long j r o
  | inr o ↦ ap (λ z. length (items z)) (sym o.1) ∙ is ∙ ap (λ i. count_of p i + 1) (at ∙ sym o.0)
]

pub long_has : {R : Type 0} (items : R → List EndKeys) (p : Plan) (rows : List R) → AreLong items p rows → length rows ≡ length p.groups → (x : Circuit) → is_circuit p x ≡ true → HasKeys (map items rows) x
long_has items p rows long all x h = at (slice_get p.groups x.group) refl h
  where
    at : (o : Option Group) → slice_get p.groups x.group ≡ o → option_map_or (λ r. nat_le 1 x.number && nat_le x.number r.count) o false ≡ true → HasKeys (map items rows) x
    at None q h = absurd (let bad : ⊥ = cc in bad)
    at (Some r) q h =
        let within = slice_get_within p.groups x.group r q in
        let row = entry_at rows x.group (omega arith) in
        let t = (and_parts (nat_le 1 x.number) (nat_le x.number r.count) h).1 in
        let few : x.number ≤ r.count = grind (arith, nat_tests) in
        let count : count_of p x.group ≡ r.count = ap (λ o. option_map_or (λ (r : Group). r.count) o 0) q in
        let len = long x.group row.0 row.1 in
        let k = entry_at (items row.0) x.number (omega arith) in
        ap is_some (ap (option_and_then (λ r. slice_get r x.number)) (get_map items rows x.group ∙ ap (option_map items) row.1) ∙ k.1)
